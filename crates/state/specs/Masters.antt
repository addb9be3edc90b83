-- Document 02, order 11: what a call may make of the set of masters. Assumes nothing.
use Rattle.std.specs.Prelude.{ℕ, ◌≤◌, Bool, ◌≡◌, List}
use Rattle.frame.specs.declared.Address.{Address}
use Rattle.frame.specs.declared.Part.{Part}
use Rattle.frame.specs.declared.Fields.TheVariants.{Token}
use Rattle.frame.specs.Reading.{Read}
use Rattle.frame.specs.Reading.{read}
use Rattle.ring.specs.Ring.{next_of, enter, remove}
use Rattle.state.specs.declared.Phase.TheVariants.{Check}
use Rattle.state.specs.declared.Core.{Core}
use Rattle.state.specs.Runs.{Call}
use Rattle.state.specs.Runs.Call.{frame, slot, reset}

-- the set l of a station with the core x is left as it is, or: "a second token to TS from that same station" (the stranger,
-- neither TS nor PS) "enters it in the ring"; slot expiry while the pass is checked, after "three sendings in all; then NS
-- leaves the ring"; a reset "restores .. the set of masters as started"
pub data Changed (x : Core) (started l : List ℕ) : Call → List ℕ → Type 0 where
  unchanged : (c : Call) → Changed x started l c l
  entered : (clock : ℕ) (room : Bool) (high low octets : List ℕ) (out : ℕ) (d a : Address) (p : Part)
      → read octets ≡ Read (Token d a) p → d.0 ≡ x.ts.0 → (a.0 ≡ x.ts.0 → ⊥) → (a.0 ≡ x.ps.0 → ⊥)
      → a.0 ≡ x.stranger.0 → Changed x started l (frame clock room high low octets out) (enter l a.0)
  removed : (clock out : ℕ) → x.doing.phase ≡ Check → 3 ≤ x.doing.sendings
      → Changed x started l (slot clock out) (remove l (next_of l x.ts.0))
  restored : Changed x started l reset started
