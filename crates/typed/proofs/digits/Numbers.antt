-- The walk over a decimal word, one digit on or at an end, and what a digit is. Assumes nothing.
use Rattle.std.proofs.Common.{◌≡◌, ℕ, ◌+◌, ◌-◌, ◌*◌, ◌<◌, ◌≤◌, Bool, true, false, List, [], ◌∷◌, length, get_or, drop, Some, None, refl, arith, drop_of_length-le}
use Rattle.std.specs.Char.{is_ascii_digit}
use Rattle.choice.specs.Choice.{pick, less, same, said}
use Rattle.choice.proofs.Rules.{less-true}
use Rattle.typed.proofs.words.Walk.{left-cons}
use Rattle.typed.specs.Digits.{digit, all_digits, value_on, no_number, read_on, decimal}

-- a digit is one of ten characters
pub digit_is : (c : ℕ) → digit c ≡ is_ascii_digit c
unfolding digit pick less
digit_is c = grind arith

-- the value does not fall
pub value_grows : (v : ℕ) (l : List ℕ) → v ≤ value_on v l
unfolding value_on
value_grows v [] = omega arith
value_grows v (c ∷ l) = omega (arith, value_grows (10 * v + (c - 48)) l)

-- over the greatest there is no number
pub read_over : (most v : ℕ) (l : List ℕ) → most < v → read_on most v l ≡ None
unfolding read_on pick
read_over most v l h =
    let e : less most (value_on v l) ≡ true = less-true (omega (arith, value_grows v l)) in rw e (either (all_digits l))
  where
    either : (b : Bool) → pick b no_number no_number ≡ None
    either true = refl
    either false = refl

-- ---- one character on
pub read_more : (s : List ℕ) (i most v : ℕ) → i < length s → digit (get_or s i 0) ≡ true
    → read_on most v (drop i s) ≡ read_on most (10 * v + (get_or s i 0 - 48)) (drop (i + 1) s)
unfolding read_on all_digits value_on pick said
read_more s i most v h e = rw (left-cons s i h, e)

pub read_not : (s : List ℕ) (i most v : ℕ) → i < length s → digit (get_or s i 0) ≡ false
    → read_on most v (drop i s) ≡ None
unfolding read_on all_digits value_on pick said
read_not s i most v h e = rw (left-cons s i h, e)

pub read_last : (s : List ℕ) (i most v : ℕ) → length s ≤ i → v ≤ most → read_on most v (drop i s) ≡ Some v
unfolding read_on all_digits value_on pick less
read_last s i most v h g = rw (drop_of_length-le s h) (grind arith)

-- ---- a number is at most the greatest
read-most : (most v n : ℕ) (l : List ℕ) → read_on most v l ≡ Some n → n ≤ most
unfolding read_on pick less
read-most most v n l e = grind arith

pub decimal_most : (l : List ℕ) (most n : ℕ) → decimal l most ≡ Some n → n ≤ most
unfolding decimal pick same
decimal_most l most n e = grind (arith, read-most)

-- what a loop over the digits of a word does
pub ruleset reading = (digit_is, read_over, read_more, read_not, read_last)
