-- How a frame keeps to its definition, but for the set of masters as started, which it leaves alone; and what is known
-- where it is not refused. Assumes nothing.
use Rattle.std.specs.Prelude.{ℕ, ◌≤◌, ◌≡◌, List, length}
use Rattle.frame.specs.declared.Fields.{Fields}
use Rattle.frame.specs.declared.Fields.TheVariants.{Frame}
use Rattle.frame.specs.declared.Head.{Head}
use Rattle.state.specs.declared.Core.{Core}
use Rattle.state.specs.declared.Kept.{Kept}
use Rattle.state.specs.Told.{Heard}
use Rattle.state.specs.World.{Rows, World, Called}
use Rattle.state.specs.Answering.{UPDATE, Readable}
use Rattle.state.specs.Refusals.{Sited}
use Rattle.state.specs.Told.{stands, standing, world_in}

pub record Hears (f : World → Called) (c : Core) (k : Kept) (masters marks points octets : List ℕ) (high low : Rows)
    (out : List ℕ) (r : Heard) (masters' marks' octets' : List ℕ) (high' low' : Rows) (out' : List ℕ) : Type 0 where
  pub told : (t : List ℕ)
      → stands r masters' t marks' points octets' high' low' out'
      ≡ standing (f (world_in c k masters t marks points octets high low)) out

-- the core, the rows, the memory and the buffers are in order
pub record Listening (c : Core) (k : Kept) (high low : Rows) (first second out : List ℕ) : Type 0 where
  pub sited : Sited c high low
  pub kept : k.length ≤ 255
  pub upper : length first ≤ UPDATE
  pub lower : length second ≤ UPDATE
  pub room : 255 ≤ length out

-- a frame's fields were read
pub record Sound (f : Fields) : Type 0 where
  pub head : (h : Head) → f ≡ Frame h → Readable h
