-- What the theorems about frames say beside the frame table's own words. Assumes nothing.
use Rattle.std.specs.Prelude.{ℕ, ◌+◌, ◌-◌, ◌/◌, ◌%◌, ◌^◌, ◌<◌, List, [], ◌≡◌, get_or, set}
use Rattle.choice.specs.Choice.{pick, same}
use Rattle.frame.specs.declared.Fields.{Fields}
use Rattle.frame.specs.declared.Fields.TheVariants.{Token, Short, Frame}
use Rattle.frame.specs.Format.{SD1, SD2, SD3, sd2, sd3}
use Rattle.frame.specs.Reading.{octet}

-- each element of the string is an octet
pub record Octets (s : List ℕ) : Type 0 where
  pub below : (i : ℕ) → get_or s i 0 < 256

-- the data that a frame of these fields carries: none in a token or a short acknowledgement
abbrev pub carried : Fields → List ℕ → List ℕ
carried (Token d s) x = []
carried Short x = []
carried (Frame h) x = x

-- the octet x with bit k turned over
unfoldable pub flipped : ℕ → ℕ → ℕ
flipped k x = pick (same (x / 2 ^ k % 2) 0) (x + 2 ^ k) (x - 2 ^ k)

-- the string s with bit k of the octet at place i turned over
unfoldable pub flip : List ℕ → ℕ → ℕ → List ℕ
flip s i k = set s i (flipped k (octet s i))

-- a start octet of a form that has a checksum
pub data Summed : ℕ → Type 0 where
  of-SD1 : Summed SD1
  of-SD2 : Summed SD2
  of-SD3 : Summed SD3

-- an SD3 and the SD2 with the same DA SA FC unit
pub record Twins (s t : List ℕ) : Type 0 where
  pub body : List ℕ
  pub third : s ≡ sd3 body
  pub second : t ≡ sd2 body
