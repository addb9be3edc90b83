-- Octets laid over a list and added up on the way: what every step of a body leaves. Assumes nothing.
use Rattle.std.specs.Prelude.{◌≡◌, ℕ, ◌+◌, ◌%◌, List, length}
use Rattle.frame.specs.Format.{sum}
use Rattle.laid.specs.Laid.{Lays}
use Rattle.write.specs.declared.Tally.{Tally}

-- what a step leaves that lays the piece u behind what is laid, and adds its octets to the sum, modulo 256
pub record Adds (l : List ℕ) (t : Tally) (u : List ℕ) (r : Tally) (m : List ℕ) : Type 0 where
  pub lays : Lays l t.at u (length u) r.at m
  pub sum : r.sum ≡ (t.sum + sum u) % 256
