-- Document 02, order 11, "Laws of the ring list", where they are about the set that a list stands for: a station that was
-- absent, NS, and changes in a row, of which only the last that names a station counts for it. Assumes nothing.
use Prim.Native.Nat.{ℕ, zero, suc, ◌<◌, ◌≤◌}
use mathlib.Core.Bool.{Bool, true, false}
use mathlib.Core.List.{List, [], ◌∷◌}
use mathlib.Core.Path.{◌≡◌, refl, sym, ap, ◌∙◌}
use native.Mathlib.Decide.{ℕ_discrete}
use native.Mathlib.Omega.{arith}
use lib.ListN.{length, length-set}
use Rattle.choice.specs.Choice.{pick, same}
use Rattle.choice.proofs.Rules.{true_same, false_same, pick_true, pick-false}
use Rattle.ring.specs.Ring.{member, on, seek, next_of, previous_of, enter, remove}
use Rattle.ring.specs.Changes.{SameSet, Change, entering, removing, changed, lastly}
use Rattle.ring.proofs.Laws.{member-enter, member-enter-other, member-remove, member-remove-other, on_below}

-- "removing a station just entered gives the old list if it was absent": the old set, whatever its place held
pub absent-back : (l : List ℕ) (a : ℕ) → member l a ≡ false → SameSet (remove (enter l a) a) l
absent-back l a m = record { each = λ b h. by b (ℕ_discrete b a) }
  where
    by : (b : ℕ) → Dec (b ≡ a) → member (remove (enter l a) a) b ≡ member l b
    by b (yes e) = rw e (member-remove (enter l a) a ∙ sym m)
    by b (no n) = member-remove-other (enter l a) a b n ∙ member-enter-other l a b n

-- ---- "NS depends on the set and TS alone"
seek-same : (l m : List ℕ) → SameSet l m → (step n a : ℕ) → step < 127 → a < 127 → seek l step n a ≡ seek m step n a
unfolding seek
seek-same l m s step zero a h g = refl
seek-same l m s step (suc n) a h g =
    let b : on step a < 127 = on_below step a g h in
    rw (s.each (on step a) b, seek-same l m s step n (on step a) h b) refl

pub next-same : (l m : List ℕ) (ts : ℕ) → ts < 127 → SameSet l m → next_of l ts ≡ next_of m ts
unfolding next_of
next-same l m ts h s = seek-same l m s 1 127 ts (omega arith) h

-- and so does PS where it is found downward
pub previous-same : (l m : List ℕ) (ts : ℕ) → ts < 127 → SameSet l m → previous_of l ts ≡ previous_of m ts
unfolding previous_of
previous-same l m ts h s = seek-same l m s 126 127 ts (omega arith) h

-- ---- changes in a row
-- what a station sees of a change of c that says v of c and leaves the others
seen : (f : List ℕ → ℕ → List ℕ) (v : Bool) (l : List ℕ) (c a : ℕ) → member (f l a) a ≡ v
    → ((a ≡ c → ⊥) → member (f l c) a ≡ member l a) → member (f l c) a ≡ pick (same a c) v (member l a)
seen f v l c a own other = by (same a c) refl
  where
    by : (b : Bool) → same a c ≡ b → member (f l c) a ≡ pick b v (member l a)
    by true e = rw (← true_same a c e) own ∙ sym (pick_true _ _ refl)
    by false e = other (false_same a c e) ∙ sym (pick-false _ _ refl)

-- whether a station is in the set after any changes is said by the last of them that names it, and without one by the set
-- before
pub last-counts : (r : List Change) (l : List ℕ) (a : ℕ) → a < length l
    → member (changed r l) a ≡ lastly r a (member l a)
unfolding changed lastly enter remove
last-counts [] l a h = refl
last-counts (entering c ∷ r) l a h =
    last-counts r (enter l c) a (omega (arith, h, length-set l c 1))
    ∙ ap (lastly r a) (seen enter true l c a (member-enter l a h) (member-enter-other l c a))
last-counts (removing c ∷ r) l a h =
    last-counts r (remove l c) a (omega (arith, h, length-set l c 0))
    ∙ ap (lastly r a) (seen remove false l c a (member-remove l a) (member-remove-other l c a))

-- so changes in two orders make the same set, and with it the same NS, if for each station they end alike
pub same-changes : (r q : List Change) (l : List ℕ) → 127 ≤ length l
    → ((a : ℕ) → a < 127 → lastly r a (member l a) ≡ lastly q a (member l a)) → SameSet (changed r l) (changed q l)
same-changes r q l h e =
    record {
      each = λ a g. last-counts r l a (omega (arith, h, g)) ∙ e a g ∙ sym (last-counts q l a (omega (arith, h, g)));
    }
