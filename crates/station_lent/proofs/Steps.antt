-- A frame, step by step: what is left where the call is refused, what `hear` asks where it is not, and what is left
-- then. Each is told by what the steps promise, whatever they are named. Assumes nothing.
use Prim.Native.Nat.{ℕ}
use mathlib.Core.Bool.{Bool, true, true≢false}
use mathlib.Core.Path.{◌≡◌, refl, sym}
use mathlib.Core.List.{List}
use lib.ListN.{length}
use Rattle.std.specs.Prelude.{Result, Ok, Err}
use Rattle.std.specs.Result.{is_ok}
use Rattle.refusal.specs.declared.Refusal.{Refusal}
use Rattle.refusal.specs.Refusal.{number, refused}
use Rattle.state.specs.declared.Core.{Core}
use Rattle.state.specs.declared.Kept.{Kept}
use Rattle.state.specs.declared.Heard.{Heard as GivenHeard}
use Rattle.state.specs.World.{Rows}
use Rattle.state.specs.Refusals.{refusal_in}
use Rattle.state.specs.Calls.{heard, frame}
use Rattle.state.specs.Told.{Heard, heard_by, stands, standing, world_in}
use Rattle.phases.specs.Underway.{Underway}
use Rattle.hearing.specs.Hears.{Hears, Listening}
use Rattle.hearing.proofs.idle.Standing.{stands-refused, heard-refused}
use Rattle.station_lent.proofs.Granted.{frame-granted, frame-denied, underway, listening, numbered}

-- an answer that is no refusal has the number 0
pub unrefused : {A : Type 0} (a : Result A Refusal) → is_ok a ≡ true → refused a ≡ 0
unfolding refused
unrefused (Ok a) e = refl
unrefused (Err r) e = absurd (true≢false (sym e))

module _ (c : Core) (k : Kept) (masters started : List ℕ) (high low : Rows) (out first second : List ℕ)
    (e : 0 ≡ refusal_in (length out) (length first) (length second) c masters started k high low) where
  pub frame_listens : Listening c k high low first second out
  frame_listens = listening out first second c masters started k high low (sym e)

  pub frame_underway : Underway c
  frame_underway = underway _ _ _ c masters started k high low (sym e)

module _ (c : Core) (k : Kept) (masters started marks points octets : List ℕ) (high low : Rows) (clock : ℕ)
    (out : List ℕ) (room : Bool) (first second s : List ℕ) where
  pub frame_refused : (r : Refusal) (a : Result GivenHeard Refusal)
      → number r ≡ refusal_in (length out) (length first) (length second) c masters started k high low → a ≡ Err r
      → stands (heard_by c k a) masters started marks points octets high low out
      ≡ standing
      (frame clock room first second s (length out) (world_in c k masters started marks points octets high low)) out
  frame_refused r a e f =
      rw (frame-denied _ _ _ _ _ _ _ _ _ _ out room first second s e (numbered r))
      (stands-refused _ (heard-refused _ _ _ f))

  pub frame_heard : (a : Heard) (masters' marks' octets' : List ℕ) (high' low' : Rows) (out' : List ℕ)
      → 0 ≡ refusal_in (length out) (length first) (length second) c masters started k high low
      → Hears (heard c.doing.phase clock room first second s) c k masters marks points octets high low out a masters'
      marks' octets' high' low' out'
      → stands a masters' started marks' points octets' high' low' out'
      ≡ standing
      (frame clock room first second s (length out) (world_in c k masters started marks points octets high low)) out
  frame_heard a masters' marks' octets' high' low' out' e h =
      rw (frame-granted _ _ _ _ _ _ _ _ _ _ out room first second s e refl) (h.told _)

pub ruleset frame_steps = (unrefused, frame_listens, frame_underway, frame_refused, frame_heard)
