-- One bit turned over: the octet moves by less than 256, so a start is no start, LE differs from its repeat, FCS
-- differs, or the end is none. Assumes nothing.
use Prim.Native.Nat.{ℕ, zero, suc, ◌+◌, ◌-◌, ◌/◌, ◌%◌, ◌^◌, ◌<◌, ◌≤◌}
use mathlib.Core.Bool.{Bool, true, false}
use mathlib.Core.List.{List, [], ◌∷◌, ◌++◌}
use mathlib.Core.Path.{◌≡◌, refl, sym, ◌∙◌, ap}
use native.Mathlib.Decide.{ℕ_discrete, dec_le, dec_lt}
use native.Mathlib.Nat.{zero-add, suc-add, pow-le-pow_right, div-eq_of_lt}
use native.Mathlib.Omega.{arith}
use lib.ListN.{length, set, length-append, length-set, get_or-append}
use lib.Seq.{set-append_left, get_or-append-add}
use Rattle.choice.specs.Choice.{pick, same}
use Rattle.choice.proofs.Rules.{same_true, same_false, false_same, pick_true, pick-false}
use Rattle.frame.specs.declared.Fields.{Fields}
use Rattle.frame.specs.Reading.{Answer}
use Rattle.frame.specs.Reading.{Refused}
use Rattle.frame.specs.Format.{SD1, SD2, SD3, SD4, SC, ED, sum, fcs, closing, sd1, sd2, sd3}
use Rattle.frame.specs.Reading.{octet, read_body, mismeasured, read, refusal}
use Rattle.frame.proofs.Sum.{sum-set}
use Rattle.frame_laws.specs.Terms.{flipped, flip, Summed}
use Rattle.frame_laws.specs.Terms.Summed.{of-SD1, of-SD2, of-SD3}
use Rattle.frame_laws.proofs.Cases.{taken, left, both_ways, false-is-true}
use Rattle.frame_laws.proofs.Framed.{read-parts, read-sd1, read-measured, read-mismeasured, read-sd3}
use Rattle.frame_laws.proofs.Accepted.{Accepted}
use Rattle.frame_laws.proofs.Accepted.Accepted.{token, short, in-SD1, in-SD2, in-SD3}

-- ---- an octet
-- y is x moved up or down by less than 256
data Moved (x y : ℕ) : Type 0 where
  up : (d : ℕ) → 0 < d → d < 256 → y ≡ x + d → Moved x y
  down : (d : ℕ) → 0 < d → d < 256 → x ≡ y + d → Moved x y

flipped-moved : (k x : ℕ) → k < 8 → Moved x (flipped k x)
unfolding flipped pick
flipped-moved k x h = by (same (x / 2 ^ k % 2) 0) refl
  where
    some : 0 < 2 ^ k
    some = pow-le-pow_right {n = 2} (omega arith) {i = 0} {j = k} (omega arith)

    most : 2 ^ k < 256
    most = omega (arith, pow-le-pow_right {n = 2} (omega arith) {i = k} {j = 7} (omega arith))

    least : Dec (2 ^ k ≤ x) → (x / 2 ^ k % 2 ≡ 0 → ⊥) → 2 ^ k ≤ x
    least (yes l) n = l
    least (no l) n = absurd (n (rw (div-eq_of_lt {n = x} {m = 2 ^ k} (omega arith))))

    by : (t : Bool) → same (x / 2 ^ k % 2) 0 ≡ t → Moved x (pick t (x + 2 ^ k) (x - 2 ^ k))
    by true e = up (2 ^ k) some most refl
    by false e =
        let l = least (dec_le (2 ^ k) x) (false_same _ _ e) in
        down (2 ^ k) some most (omega arith)

moved-differs : {x y : ℕ} → Moved x y → y ≡ x → ⊥
moved-differs (up d some most e) p = omega arith
moved-differs (down d some most e) p = omega arith

flipped-differs : (k x : ℕ) → k < 8 → flipped k x ≡ x → ⊥
flipped-differs k x h = moved-differs (flipped-moved k x h)

-- two sums that differ by as much differ modulo 256
moved-clashes : {x y : ℕ} (s t : ℕ) → Moved x y → t + x ≡ s + y → s % 256 ≡ t % 256 → ⊥
moved-clashes s t (up d some most e) p q = omega arith
moved-clashes s t (down d some most e) p q = omega arith

-- ---- a start octet
-- no form starts with y
strange : ℕ → Bool
strange y =
    pick (same y SD1) false
    (pick (same y SD2) false
    (pick (same y SD3) false
    (pick (same y SD4) false
    (pick (same y SC) false
    true))))

read-strange : (y : ℕ) (l : List ℕ) → strange y ≡ true → read (y ∷ l) ≡ Refused 2
unfolding strange read
read-strange y l e =
    let e1 = left _ _ _ false-is-true e in
    let e2 = left _ _ _ false-is-true e1.1 in
    let e3 = left _ _ _ false-is-true e2.1 in
    let e4 = left _ _ _ false-is-true e3.1 in
    let e5 = left _ _ _ false-is-true e4.1 in
    pick-false _ _ (same_false (omega arith))
    ∙ (pick-false _ _ e1.0
    ∙ (pick-false _ _ e2.0
    ∙ (pick-false _ _ e3.0
    ∙ (pick-false _ _ e4.0
    ∙ pick-false _ _ e5.0))))

-- the test holds of each number below n
all : (ℕ → Bool) → ℕ → Bool
all f zero = true
all f (suc n) = pick (f n) (all f n) false

every : (f : ℕ → Bool) (n : ℕ) → all f n ≡ true → (k : ℕ) → k < n → f k ≡ true
unfolding all
every f zero e k h = absurd (omega arith)
every f (suc n) e k h = by (ℕ_discrete k n) (every f n (taken _ _ _ false-is-true e).1 k)
  where
    by : Dec (k ≡ n) → (k < n → f k ≡ true) → f k ≡ true
    by (yes p) ih = rw p (taken _ _ _ false-is-true e).0
    by (no p) ih = ih (omega arith)

-- eight computations for each start octet
SD1-flipped : (k : ℕ) → k < 8 → strange (flipped k SD1) ≡ true
unfolding all strange flipped pick same
SD1-flipped = every (λ k. strange (flipped k SD1)) 8 refl

SD2-flipped : (k : ℕ) → k < 8 → strange (flipped k SD2) ≡ true
unfolding all strange flipped pick same
SD2-flipped = every (λ k. strange (flipped k SD2)) 8 refl

SD3-flipped : (k : ℕ) → k < 8 → strange (flipped k SD3) ≡ true
unfolding all strange flipped pick same
SD3-flipped = every (λ k. strange (flipped k SD3)) 8 refl

-- ---- a body and its closing
set-append-add : (xs ys : List ℕ) (n a : ℕ) → set (xs ++ ys) (length xs + n) a ≡ xs ++ set ys n a
set-append-add [] ys n a = rw zero-add
set-append-add (x ∷ xs) ys n a = rw (suc-add (length xs) n) (ap (◌∷◌ x) (set-append-add xs ys n a))

flip-left : (a e : List ℕ) (i k : ℕ) → i < length a → flip (a ++ e) i k ≡ flip a i k ++ e
unfolding flip
flip-left a e i k h = rw (get_or-append a e 0 i h) (set-append_left a e i _ h)

flip-right : (a e : List ℕ) (i k : ℕ) → flip (a ++ e) (length a + i) k ≡ a ++ flip e i k
unfolding flip
flip-right a e i k = rw (get_or-append-add a e i 0) (set-append-add a e i _)

length-flip : (a : List ℕ) (i k : ℕ) → length (flip a i k) ≡ length a
unfolding flip
length-flip a i k = length-set a i _

fcs-flip : (b : List ℕ) (i k : ℕ) → i < length b → k < 8 → fcs b ≡ fcs (flip b i k) → ⊥
unfolding fcs flip
fcs-flip b i k hi hk =
    moved-clashes (sum b) _ (flipped-moved k (octet b i) hk) (sum-set b i (flipped k (octet b i)) hi)

refused-more : {a : Answer} (n : ℕ) → a ≡ Refused n → 0 < n → 0 < refusal a
unfolding refusal
refused-more n e h = rw e h

read-clash : (pre b : List ℕ) (c : ℕ) → (c ≡ fcs b → ⊥)
    → read_body (pre ++ (b ++ c ∷ (ED ∷ []))) (length pre) (length b) ≡ Refused 7
read-clash pre b c h = read-parts pre b c ED ∙ (pick_true _ _ (same_true refl) ∙ pick-false _ _ (same_false h))

read-endless : (pre b : List ℕ) (c e : ℕ) → (e ≡ ED → ⊥)
    → read_body (pre ++ (b ++ c ∷ (e ∷ []))) (length pre) (length b) ≡ Refused 6
read-endless pre b c e h = read-parts pre b c e ∙ pick-false _ _ (same_false h)

flip_body : (pre b : List ℕ) (i k : ℕ) → i < length b + 2 → k < 8
    → 0 < refusal (read_body (pre ++ flip (b ++ closing b) i k) (length pre) (length b))
unfolding closing flip
flip_body pre b i k hi hk = by (dec_lt i (length b))
  where
    after : (j : ℕ) → i ≡ length b + j
        → 0 < refusal (read_body (pre ++ flip (b ++ closing b) i k) (length pre) (length b))
    after zero e =
        rw
        (e, flip-right b (closing b) 0 k)
        (refused-more 7 (read-clash pre b _ (flipped-differs k (fcs b) hk)) (omega arith))
    after (suc zero) e =
        rw
        (e, flip-right b (closing b) 1 k)
        (refused-more 6 (read-endless pre b (fcs b) _ (flipped-differs k ED hk)) (omega arith))
    after (suc (suc j)) e = absurd (omega arith)

    by : Dec (i < length b) → 0 < refusal (read_body (pre ++ flip (b ++ closing b) i k) (length pre) (length b))
    by (yes h) =
        let clash = read-clash pre (flip b i k) (fcs b) (fcs-flip b i k h hk) in
        rw (flip-left b (closing b) i k h) (refused-more 7 (rw (length-flip b i k) at clash) (omega arith))
    by (no h) = after (i - length b) (omega arith)

length-closed : (b : List ℕ) → length (b ++ closing b) ≡ length b + 2
unfolding closing
length-closed b = simp length-append

-- ---- a string
-- SD2: repeats that differ, and a fourth octet that is not 68
read-unequal : (le repeat fourth : ℕ) (l : List ℕ) → (le ≡ repeat → ⊥)
    → read (SD2 ∷ (le ∷ (repeat ∷ (fourth ∷ l)))) ≡ Refused 4
unfolding mismeasured
read-unequal le repeat fourth l h =
    read-mismeasured _ _ _ _
    (both_ways _ (λ _. refl) (λ _. both_ways _ (λ _. refl) (λ _. pick-false _ _ (same_false h))))

read-fourth : (le repeat fourth : ℕ) (l : List ℕ) → (fourth ≡ SD2 → ⊥)
    → read (SD2 ∷ (le ∷ (repeat ∷ (fourth ∷ l)))) ≡ Refused 4
unfolding mismeasured
read-fourth le repeat fourth l h =
    read-mismeasured _ _ _ _
    (both_ways _ (λ _. refl) (λ _. both_ways _ (λ _. refl)
    (λ _. both_ways _ (λ _. pick-false _ _ (same_false h)) (λ _. refl))))

-- SD1 and SD3: one octet x before a body of n octets
module _ (x n : ℕ) (starts : (l : List ℕ) → read (x ∷ l) ≡ read_body (x ∷ l) 1 n)
    (turned : (k : ℕ) → k < 8 → strange (flipped k x) ≡ true) where
  flip-fixed : (b : List ℕ) → length b ≡ n → (i k : ℕ) → i < length (x ∷ (b ++ closing b)) → k < 8
      → 0 < refusal (read (flip (x ∷ (b ++ closing b)) i k))
  unfolding flip
  flip-fixed b h zero k hi hk = refused-more 2 (read-strange _ _ (turned k hk)) (omega arith)
  flip-fixed b h (suc i) k hi hk =
      rw (starts (flip (b ++ closing b) i k), ← h) (flip_body (x ∷ []) b i k (omega (arith, length-closed b)) hk)

flip-sd2 : (b : List ℕ) → 4 ≤ length b → length b ≤ 249 → (i k : ℕ) → i < length (sd2 b) → k < 8
    → 0 < refusal (read (flip (sd2 b) i k))
unfolding flip sd2
flip-sd2 b least most zero k hi hk = refused-more 2 (read-strange _ _ (SD2-flipped k hk)) (omega arith)
flip-sd2 b least most (suc zero) k hi hk =
    refused-more 4 (read-unequal _ _ _ _ (flipped-differs k (length b) hk)) (omega arith)
flip-sd2 b least most (suc (suc zero)) k hi hk =
    refused-more 4 (read-unequal _ _ _ _ (λ q. flipped-differs k (length b) hk (sym q))) (omega arith)
flip-sd2 b least most (suc (suc (suc zero))) k hi hk =
    refused-more 4 (read-fourth _ _ _ _ (flipped-differs k SD2 hk)) (omega arith)
flip-sd2 b least most (suc (suc (suc (suc i)))) k hi hk =
    rw
    (read-measured (length b) (flip (b ++ closing b) i k) least most)
    (flip_body (SD2 ∷ (length b ∷ (length b ∷ (SD2 ∷ [])))) b i k (omega (arith, length-closed b)) hk)

summed-most : {n : ℕ} → Summed n → n ≤ SD3
summed-most of-SD1 = omega arith
summed-most of-SD2 = omega arith
summed-most of-SD3 = omega arith

pub accepted-flip : {s : List ℕ} {f : Fields} {x : List ℕ} → Accepted s f x → Summed (octet s 0)
    → (i k : ℕ) → i < length s → k < 8 → 0 < refusal (read (flip s i k))
unfolding sd1 sd3
accepted-flip (token d a hd ha) m i k hi hk = absurd (omega (arith, summed-most m))
accepted-flip short m i k hi hk = absurd (omega (arith, summed-most m))
accepted-flip (in-SD1 b w h) m i k hi hk = flip-fixed SD1 3 read-sd1 SD1-flipped b h i k hi hk
accepted-flip (in-SD2 b w h) m i k hi hk = flip-sd2 b h w.most i k hi hk
accepted-flip (in-SD3 b w h) m i k hi hk = flip-fixed SD3 11 read-sd3 SD3-flipped b h i k hi hk
