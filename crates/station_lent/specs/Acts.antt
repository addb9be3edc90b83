-- How sent and slot expired keep to their definitions, but for the active access points and the remembered reply's
-- octets, which they leave alone. Assumes nothing.
use Rattle.std.specs.Prelude.{ℕ, ◌≡◌, List}
use Rattle.state.specs.declared.Core.{Core}
use Rattle.state.specs.declared.Kept.{Kept}
use Rattle.state.specs.Told.{Heard}
use Rattle.state.specs.World.{Rows, World, Called}
use Rattle.state.specs.Told.{stands, standing, world_in}

pub record Acts (f : World → Called) (c : Core) (k : Kept) (masters started marks : List ℕ) (high low : Rows)
    (out : List ℕ) (r : Heard) (masters' marks' : List ℕ) (high' low' : Rows) (out' : List ℕ) : Type 0 where
  pub told : (points octets : List ℕ)
      → stands r masters' started marks' points octets high' low' out'
      ≡ standing (f (world_in c k masters started marks points octets high low)) out
