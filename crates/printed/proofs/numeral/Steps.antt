-- The steps of laying a number: none of no digits, a digit of its own, and a last digit behind the others.
-- Assumes nothing.
use Prim.Native.Nat.{ℕ, zero, suc, ◌+◌, ◌-◌, ◌*◌, ◌/◌, ◌%◌, ◌<◌, ◌≤◌}
use mathlib.Core.Bool.{Bool, true, false}
use mathlib.Core.List.{List, [], ◌∷◌, ◌++◌}
use mathlib.Core.Path.{◌≡◌, refl, sym, ◌∙◌}
use native.Mathlib.Omega.{arith}
use lib.ListN.{length, set}
use Rattle.choice.specs.Choice.{less}
use Rattle.choice.proofs.Rules.{pick_true, pick-false, less-true, less-false, true-less, false-less}
use Rattle.laid.specs.Laid.{laid}
use Rattle.laid.proofs.Laws.{laid-sets}
use Rattle.printed.specs.Numeral.{digit, numeral, numeral_in}
use Rattle.printed.proofs.phrases.Steps.{laying}

-- ---- one digit more allowed
pub numeral-one : (k n : ℕ) → n < 10 → numeral_in (suc k) n ≡ (48 + n) ∷ []
unfolding numeral_in digit
numeral-one k n h = pick_true _ _ (less-true h)

pub numeral-more : (k n : ℕ) → 10 ≤ n → numeral_in (suc k) n ≡ numeral_in k (n / 10) ++ ((48 + n % 10) ∷ [])
unfolding numeral_in digit
numeral-more k n h = pick-false _ _ (less-false h)

-- ---- more digits allowed than there are
-- 10 to the power k
unfoldable pub power : ℕ → ℕ
power zero = 1
power (suc k) = 10 * power k

pub numeral-within : (j k n : ℕ) → n < power (suc j) → j ≤ k → numeral_in (suc j) n ≡ numeral_in (suc k) n
unfolding power
numeral-within zero k n h m = numeral-one zero n (omega arith) ∙ sym (numeral-one k n (omega arith))
numeral-within (suc j) zero n h m = absurd (omega arith)
numeral-within (suc j) (suc k) n h m =
    from (less n 10) refl (λ g. numeral-within j k (n / 10) (omega arith) (omega arith))
  where
    from : (b : Bool) → less n 10 ≡ b → (10 ≤ n → numeral_in (suc j) (n / 10) ≡ numeral_in (suc k) (n / 10))
        → numeral_in (suc (suc j)) n ≡ numeral_in (suc (suc k)) n
    from true e f = numeral-one (suc j) n (true-less n 10 e) ∙ sym (numeral-one (suc k) n (true-less n 10 e))
    from false e f =
        numeral-more (suc j) n (false-less n 10 e) ∙ rw (f (false-less n 10 e))
        (sym (numeral-more (suc k) n (false-less n 10 e)))

-- an octet's number has at most three digits
pub numeral-octet : (n : ℕ) → n < 256 → numeral_in 3 n ≡ numeral n
unfolding numeral power
numeral-octet n h = numeral-within 2 9 n (omega arith) (omega arith)

-- ---- the steps
pub numeral_none : (k n : ℕ) → k ≡ 0 → numeral_in k n ≡ []
unfolding numeral_in
numeral_none k n e = rw e refl

pub numeral_only : (k n : ℕ) → (k ≡ 0 → ⊥) → n < 10 → numeral_in k n ≡ (48 + n) ∷ []
numeral_only zero n m h = absurd (m refl)
numeral_only (suc k) n m h = numeral-one k n h

pub numeral_last : (k n : ℕ) → (k ≡ 0 → ⊥) → 10 ≤ n
    → numeral_in k n ≡ numeral_in (k - 1) (n / 10) ++ ((48 + n % 10) ∷ [])
numeral_last zero n m h = absurd (m refl)
numeral_last (suc k) n m h = let e : suc k - 1 ≡ k = omega arith in rw e (numeral-more k n h)

-- a store lays one octet
pub set_laid : (l : List ℕ) (i v : ℕ) → i < length l → set l i v ≡ laid l i (v ∷ [])
set_laid l i v h = laid-sets l i (v ∷ []) (omega arith)

-- what follows of the steps of laying a number
pub ruleset digits = (numeral_none, numeral_only, numeral_last, numeral-octet, set_laid, laying)
