-- An access point as a number, where one number stands for a point or for none: in a record, at the C boundary and in
-- what replay reads and prints. Assumes nothing.
use Rattle.std.specs.Prelude.{ℕ}
use Rattle.choice.specs.Choice.{pick, same}
use Rattle.std.specs.Prelude.{Option, None, Some}
use Rattle.frame.specs.declared.Point.{Point}

-- the number that stands for "no access point": no access point is over 63
abbrev pub NONE : ℕ
NONE = 255

-- the access point of a number, and the number of an access point
unfoldable pub access_of : ℕ → Option Point
access_of n = pick (same n NONE) None (Some (record { 0 = n }))

unfoldable pub point_of : Option Point → ℕ
point_of None = NONE
point_of (Some p) = p.0
