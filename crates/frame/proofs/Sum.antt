-- Laws of the sum of octets and of FCS. Assumes nothing.
use Rattle.std.proofs.Common.{◌≡◌, ℕ, zero, suc, ◌+◌, ◌%◌, ◌<◌, List, [], ◌∷◌, ◌++◌, length, get_or, take, set, add-one, arith, take-suc}
use Rattle.frame.specs.Format.{sum, fcs}

pub sum-append : (a b : List ℕ) → sum (a ++ b) ≡ sum a + sum b
unfolding sum
sum-append [] b = omega arith
sum-append (x ∷ a) b = omega (arith, sum-append a b)

-- FCS one octet further on: the wrapping sum
pub fcs-step : (b : List ℕ) (i : ℕ) → i < length b → fcs (take (i + 1) b) ≡ (fcs (take i b) + get_or b i 0) % 256
unfolding fcs sum
fcs-step b i h = rw (add-one i, take-suc b i 0 h, sum-append (take i b) (get_or b i 0 ∷ [])) (omega arith)

-- one octet changed: the sum moves by the difference
pub sum-set : (b : List ℕ) (i y : ℕ) → i < length b → sum (set b i y) + get_or b i 0 ≡ sum b + y
unfolding sum
sum-set [] i y h = omega arith
sum-set (x ∷ b) zero y h = omega arith
sum-set (x ∷ b) (suc i) y h = omega (arith, sum-set b i y (omega arith))

pub ruleset fcs_steps = (fcs-step)
