-- The replay script, "Numbers are decimal": a number as it is printed, with no zeros in front. Assumes nothing.
use Rattle.std.specs.Prelude.{ℕ, zero, suc, ◌+◌, ◌/◌, ◌%◌, List, [], ◌∷◌, ◌++◌}
use Rattle.choice.specs.Choice.{pick, less}

-- a digit's character
unfoldable pub digit : ℕ → ℕ
digit d = 48 + d

-- a number in at most k digits
unfoldable pub numeral_in : ℕ → ℕ → List ℕ
numeral_in zero n = []
numeral_in (suc k) n =
    pick (less n 10) (digit n ∷ []) (numeral_in k (n / 10) ++ (digit (n % 10) ∷ []))

-- a number below 2^32, which has at most ten digits
unfoldable pub numeral : ℕ → List ℕ
numeral n = numeral_in 10 n
