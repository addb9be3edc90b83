-- Laws of the set of masters and of the search, stated over the set. Assumes nothing.
use Prim.Native.Nat.{ℕ, zero, suc, ◌+◌, ◌-◌, ◌*◌, ◌%◌, ◌≤◌, ◌<◌}
use mathlib.Core.Bool.{Bool, true, false, true≢false}
use mathlib.Core.List.{List, [], ◌∷◌}
use mathlib.Core.Logic.{◌⊎◌, inl, inr}
use mathlib.Core.Path.{◌≡◌, refl, sym, ap, ◌∙◌}
use native.Mathlib.Decide.{ℕ_discrete}
use native.Mathlib.Omega.{arith}
use lib.ListN.{length, get_or, set}
use lib.Seq.{get_or-set_same, get_or-set_other}
use Rattle.choice.specs.Choice.{pick, less, same}
use Rattle.choice.proofs.Rules.{same_true, same_false, true-less, false-less, pick_true, pick-false}
use Rattle.ring.specs.Ring.{member, on, seek, next_of, previous_of, enter, remove}

-- ---- entering and removing change one place
pub member-enter : (l : List ℕ) (a : ℕ) → a < length l → member (enter l a) a ≡ true
unfolding member enter
member-enter l a h = same_true (get_or-set_same l a 1 0 h)

-- whatever stands at a place and however long the list is, 0 laid there is read there
zeroed : (l : List ℕ) (a : ℕ) → get_or (set l a 0) a 0 ≡ 0
zeroed [] a = refl
zeroed (x ∷ l) zero = refl
zeroed (x ∷ l) (suc a) = zeroed l a

pub member-remove : (l : List ℕ) (a : ℕ) → member (remove l a) a ≡ false
unfolding member remove
member-remove l a = same_false (λ e. zero_one (sym (zeroed l a) ∙ e))
  where
    zero_one : ◌≡◌ {A = ℕ} 0 1 → ⊥
    zero_one q = omega arith

-- whatever is laid at a place, the others are in the set as they were
member-set-other : (l : List ℕ) (a b m : ℕ) → (b ≡ a → ⊥) → member (set l a m) b ≡ member l b
unfolding member
member-set-other l a b m n = ap (λ (k : ℕ). same k 1) (get_or-set_other l a b m 0 n)

pub member-enter-other : (l : List ℕ) (a b : ℕ) → (b ≡ a → ⊥) → member (enter l a) b ≡ member l b
unfolding enter
member-enter-other l a b n = member-set-other l a b _ n

pub member-remove-other : (l : List ℕ) (a b : ℕ) → (b ≡ a → ⊥) → member (remove l a) b ≡ member l b
unfolding remove
member-remove-other l a b n = member-set-other l a b _ n

-- ---- the addresses of a search, in turn
unfoldable pub steps : ℕ → ℕ → ℕ → ℕ
steps step zero a = a
steps step (suc k) a = steps step k (on step a)

-- what a search of n untried addresses found: the kth in turn, none before it in the set, and it is in the set unless
-- it was the last
pub record Found (l : List ℕ) (step n a : ℕ) : Type 0 where
  pub turn : ℕ
  pub moved : 0 < n → 0 < turn
  pub within : turn ≤ n
  pub is : seek l step n a ≡ steps step turn a
  pub between : (j : ℕ) → 0 < j → j < turn → member l (steps step j a) ≡ false
  pub there : (member l (steps step turn a) ≡ true) ⊎ (turn ≡ n)

found-next : (l : List ℕ) (step n a : ℕ) → member l (on step a) ≡ false → Found l step n (on step a)
    → Found l step (suc n) a
unfolding seek steps
found-next l step n a e f =
    record {
      turn = suc f.turn;
      moved = λ p. omega arith;
      within = omega (arith, f.within);
      is = pick-false _ _ e ∙ f.is;
      between = behind;
      there = last f.there;
    }
  where
    behind : (j : ℕ) → 0 < j → j < suc f.turn → member l (steps step j a) ≡ false
    behind zero p h = absurd (omega arith)
    behind (suc zero) p h = e
    behind (suc (suc j)) p h = f.between (suc j) (omega arith) (omega arith)

    last : (member l (steps step f.turn (on step a)) ≡ true) ⊎ (f.turn ≡ n)
        → (member l (steps step f.turn (on step a)) ≡ true) ⊎ (suc f.turn ≡ suc n)
    last (inl m) = inl m
    last (inr q) = inr (ap suc q)

pub seek_found : (l : List ℕ) (step n a : ℕ) → Found l step n a
unfolding seek steps
seek_found l step zero a =
    record {
      turn = zero;
      moved = λ p. p;
      within = omega arith;
      is = refl;
      between = λ j p h. absurd (omega arith);
      there =
          inr refl;
    }
seek_found l step (suc n) a = by (member l (on step a)) refl (seek_found l step n (on step a))
  where
    by : (b : Bool) → member l (on step a) ≡ b → Found l step n (on step a) → Found l step (suc n) a
    by true e f =
        record {
          turn = 1;
          moved = λ p. omega arith;
          within = omega arith;
          is = pick_true _ _ e;
          between = λ j p h. absurd (omega arith);
          there = inl e;
        }
    by false e f = found-next l step n a e f

-- ---- NS
on-mod : (step a : ℕ) → a < 127 → step < 127 → on step a ≡ (a + step) % 127
unfolding on
on-mod step a h g = by (less (a + step) 127) refl
  where
    by : (b : Bool) → less (a + step) 127 ≡ b → pick b (a + step) (a + step - 127) ≡ (a + step) % 127
    by true e = pick_true _ _ refl ∙ below (true-less (a + step) 127 e)
      where
        below : a + step < 127 → a + step ≡ (a + step) % 127
        below q = omega arith
    by false e = pick-false _ _ refl ∙ above (false-less (a + step) 127 e)
      where
        above : 127 ≤ a + step → a + step - 127 ≡ (a + step) % 127
        above q = omega arith

pub on_below : (step a : ℕ) → a < 127 → step < 127 → on step a < 127
on_below step a h g = omega (arith, on-mod step a h g)

-- the kth address upward
steps_up : (k a : ℕ) → a < 127 → steps 1 k a ≡ (a + k) % 127
unfolding steps
steps_up zero a h = omega arith
steps_up (suc k) a h =
    let e : on 1 a ≡ (a + 1) % 127 = on-mod 1 a h (omega arith) in
    steps_up k (on 1 a) (omega arith) ∙ omega arith

-- the kth address downward
steps-down : (k a : ℕ) → a < 127 → steps 126 k a ≡ (a + 126 * k) % 127
unfolding steps
steps-down zero a h = omega arith
steps-down (suc k) a h =
    let e : on 126 a ≡ (a + 126) % 127 = on-mod 126 a h (omega arith) in
    steps-down k (on 126 a) (omega arith) ∙ omega arith

whole : (ts : ℕ) → ts < 127 → (ts + 126 * 127) % 127 ≡ ts
whole ts h = omega arith

module _ (l : List ℕ) (ts : ℕ) (h : ts < 127) where
  -- what NS is: so many steps upward, and nothing between is in the set
  pub up : Found l 1 127 ts
  up = seek_found l 1 127 ts

  pub next-is : next_of l ts ≡ (ts + up.turn) % 127
  unfolding next_of
  next-is = up.is ∙ steps_up up.turn ts h

  pub next-between : (j : ℕ) → 0 < j → j < up.turn → member l ((ts + j) % 127) ≡ false
  next-between j p q = rw (← steps_up j ts h) (up.between j p q)

  -- NS is in the set, if TS is
  pub next-member : member l ts ≡ true → member l (next_of l ts) ≡ true
  next-member m = by up.there
    where
      by : (member l (steps 1 up.turn ts) ≡ true) ⊎ (up.turn ≡ 127) → member l (next_of l ts) ≡ true
      by (inl q) = rw (next-is, ← steps_up up.turn ts h) q
      by (inr q) = ap (member l) (next-is ∙ round q) ∙ m
        where
          round : up.turn ≡ 127 → (ts + up.turn) % 127 ≡ ts
          round e = omega arith

  -- NS is TS exactly if the set is TS alone
  pub next-alone : next_of l ts ≡ ts → (b : ℕ) → b < 127 → (b ≡ ts → ⊥) → member l b ≡ false
  next-alone e b g n =
      let t : 0 < up.turn = up.moved (omega arith) in
      let w : up.turn ≤ 127 = up.within in
      let q : (ts + up.turn) % 127 ≡ ts = sym next-is ∙ e in
      let j : ℕ = (b + 127 - ts) % 127 in
      ap (member l) (there n) ∙ next-between j (far n) (omega arith)
    where
      there : (b ≡ ts → ⊥) → b ≡ (ts + (b + 127 - ts) % 127) % 127
      there n = omega arith

      far : (b ≡ ts → ⊥) → 0 < (b + 127 - ts) % 127
      far n = omega arith

  pub alone-next : member l ts ≡ true → ((b : ℕ) → b < 127 → (b ≡ ts → ⊥) → member l b ≡ false) → next_of l ts ≡ ts
  alone-next m none = by (ℕ_discrete (next_of l ts) ts)
    where
      by : Dec (next_of l ts ≡ ts) → next_of l ts ≡ ts
      by (yes e) = e
      by (no n) = absurd (true≢false (sym (next-member m) ∙ none (next_of l ts) (omega (arith, next-is)) n))

  -- PS at the start is in the set, if TS is, and nothing between is
  pub down : Found l 126 127 ts
  down = seek_found l 126 127 ts

  pub previous-is : previous_of l ts ≡ (ts + 126 * down.turn) % 127
  unfolding previous_of
  previous-is = down.is ∙ steps-down down.turn ts h

  pub previous-between : (j : ℕ) → 0 < j → j < down.turn → member l ((ts + 126 * j) % 127) ≡ false
  previous-between j p q = rw (← steps-down j ts h) (down.between j p q)

  pub previous-member : member l ts ≡ true → member l (previous_of l ts) ≡ true
  previous-member m = by down.there
    where
      by : (member l (steps 126 down.turn ts) ≡ true) ⊎ (down.turn ≡ 127) → member l (previous_of l ts) ≡ true
      by (inl q) = rw (previous-is, ← steps-down down.turn ts h) q
      by (inr q) = ap (member l) (previous-is ∙ round q) ∙ m
        where
          round : down.turn ≡ 127 → (ts + 126 * down.turn) % 127 ≡ ts
          round e = rw e (whole ts h)
