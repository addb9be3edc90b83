-- A printed number reads back as itself. Assumes nothing.
use Prim.Native.Nat.{ℕ, zero, suc, ◌+◌, ◌-◌, ◌*◌, ◌/◌, ◌%◌, ◌<◌, ◌≤◌}
use mathlib.Core.Bool.{Bool, true, false}
use mathlib.Core.List.{List, [], ◌∷◌, ◌++◌}
use mathlib.Core.Path.{◌≡◌, refl, ◌∙◌}
use native.Mathlib.Omega.{arith}
use lib.ListN.{length, length-append}
use Rattle.choice.specs.Choice.{less, said}
use Rattle.choice.proofs.Rules.{pick_true, pick-false, less-false, true-less, false-less, same_false, said-true}
use Rattle.choice.proofs.Rules.{both_true}
use Rattle.typed.specs.Digits.{digit, all_digits, value_on, number, read_on, decimal}
use Rattle.printed.specs.Numeral.{numeral, numeral_in}
use Rattle.printed.proofs.numeral.Steps.{numeral-one, numeral-more, power}

-- ---- one digit more behind digits
digit_char : (d : ℕ) → d < 10 → digit (48 + d) ≡ true
unfolding digit
digit_char d h =
    pick-false _ _ (less-false (omega arith)) ∙ pick-false _ _ (less-false (omega arith))

all-behind : (l : List ℕ) (d : ℕ) → all_digits l ≡ true → d < 10 → all_digits (l ++ ((48 + d) ∷ [])) ≡ true
unfolding all_digits
all-behind [] d e h = pick_true _ _ (said-true refl (digit_char d h))
all-behind (c ∷ l) d e h =
    let b = both_true (said (digit c)) (all_digits l) e in
    pick_true _ false b.0 ∙ all-behind l d b.1 h

value-behind : (v : ℕ) (l : List ℕ) (d : ℕ) → value_on v (l ++ ((48 + d) ∷ [])) ≡ 10 * value_on v l + d
unfolding value_on
value-behind v [] d = omega arith
value-behind v (c ∷ l) d = value-behind (10 * v + (c - 48)) l d

-- ---- what is printed: digits, at least one, of the number's value
-- what holds of a number in one digit, and of one with a digit more than another, holds of every number
each : (P : List ℕ → Type 0) (k n : ℕ) → (n < 10 → P ([] ++ ((48 + n) ∷ [])))
    → (10 ≤ n → P (numeral_in k (n / 10) ++ ((48 + n % 10) ∷ []))) → P (numeral_in (suc k) n)
each P k n f g = from (less n 10) refl
  where
    from : (b : Bool) → less n 10 ≡ b → P (numeral_in (suc k) n)
    from true e = rw (numeral-one k n (true-less n 10 e)) (f (true-less n 10 e))
    from false e = rw (numeral-more k n (false-less n 10 e)) (g (false-less n 10 e))

all-printed : (k n : ℕ) → all_digits (numeral_in k n) ≡ true
unfolding numeral_in all_digits
all-printed zero n = refl
all-printed (suc k) n =
    each (λ l. all_digits l ≡ true) k n (all-behind [] n refl)
    (λ h. all-behind (numeral_in k (n / 10)) (n % 10) (all-printed k (n / 10)) (omega arith))

value-printed : (k n : ℕ) → n < power k → value_on 0 (numeral_in k n) ≡ n
unfolding power numeral_in value_on
value-printed zero n h = omega arith
value-printed (suc k) n h =
    each (λ l. value_on 0 l ≡ n) k n (λ g. value-behind 0 [] n ∙ omega arith)
    (λ g. value-behind 0 (numeral_in k (n / 10)) (n % 10) ∙ rw (value-printed k (n / 10) (omega arith))
    (omega arith))

some-printed : (k n : ℕ) → length (numeral_in (suc k) n) ≡ 0 → ⊥
some-printed k n =
    each (λ l. length l ≡ 0 → ⊥) k n (λ h. behind [] (48 + n)) (λ h. behind (numeral_in k (n / 10)) (48 + n % 10))
  where
    behind : (l : List ℕ) (d : ℕ) → length (l ++ (d ∷ [])) ≡ 0 → ⊥
    behind l d e = omega (arith, length-append l (d ∷ []))

-- ---- the law
pub reads-back : (n most : ℕ) → n < 4294967296 → n ≤ most → decimal (numeral n) most ≡ number n
unfolding numeral decimal read_on power
reads-back n most h m =
    let v : value_on 0 (numeral_in 10 n) ≡ n = value-printed 10 n (omega arith) in
    pick-false _ _ (same_false (some-printed 9 n))
    ∙ pick_true _ _ (all-printed 10 n)
    ∙ rw v (pick-false _ _ (less-false m))
