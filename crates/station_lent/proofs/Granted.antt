-- A call that is refused, and one that is not: what it then is, and what is then known. Assumes nothing.
use Prim.Native.Nat.{ℕ}
use mathlib.Core.Bool.{Bool}
use mathlib.Core.Path.{◌≡◌, sym, ◌∙◌}
use mathlib.Core.List.{List}
use lib.ListN.{length}
use native.Mathlib.Omega.{arith}
use Rattle.refusal.specs.declared.Refusal.{Refusal}
use Rattle.refusal.specs.Refusal.{number}
use Rattle.refusal.proofs.Numbers.{above_zero}
use Rattle.choice.proofs.Rules.{pick_true, pick-false, same_true, same_false}
use Rattle.state.specs.declared.Core.{Core}
use Rattle.state.specs.declared.Kept.{Kept}
use Rattle.state.specs.World.{Rows, World, Called}
use Rattle.state.specs.Refusals.{refusal_in, refusal}
use Rattle.state.specs.Calls.{called, refuse, unless, heard, sent_in, slot_in, frame, sent, slot}
use Rattle.state.specs.Told.{world_in}
use Rattle.state.proofs.Facts.{sited, output-long, first_short, second_short, reply-short, awaited-queued}
use Rattle.state.proofs.Facts.{sdn-queued}
use Rattle.phases.specs.Underway.{Underway}
use Rattle.hearing.specs.Hears.{Listening}

-- a refusal has a number, which is not 0
pub numbered : (r : Refusal) → number r ≡ 0 → ⊥
numbered r e = omega (arith, above_zero r, e)

granted : {n : ℕ} (w : World) (d : Called) → n ≡ 0 → unless n w d ≡ d
granted w d e = pick_true _ _ (same_true e)

denied : {n m : ℕ} (w : World) (d : Called) → n ≡ m → (n ≡ 0 → ⊥) → unless m w d ≡ refuse n w
denied w d e h = rw (← e) (pick-false _ _ (same_false h))

module _ (c : Core) (k : Kept) (masters started marks points octets : List ℕ) (high low : Rows) (clock : ℕ)
    (out : List ℕ) where
  module _ (room : Bool) (first second s : List ℕ) {n : ℕ}
      (e : n ≡ refusal_in (length out) (length first) (length second) c masters started k high low) where
    pub frame-granted : n ≡ 0
        → frame clock room first second s (length out) (world_in c k masters started marks points octets high low)
        ≡ heard c.doing.phase clock room first second s (world_in c k masters started marks points octets high low)
    unfolding frame refusal
    frame-granted h = granted _ _ (sym e ∙ h)

    pub frame-denied : (n ≡ 0 → ⊥)
        → frame clock room first second s (length out) (world_in c k masters started marks points octets high low)
        ≡ refuse n (world_in c k masters started marks points octets high low)
    unfolding frame refusal
    frame-denied h = denied _ _ e h

  module _ {n : ℕ} (e : n ≡ refusal_in (length out) 0 0 c masters started k high low) where
    pub sent-granted : n ≡ 0
        → sent clock (length out) (world_in c k masters started marks points octets high low)
        ≡ called (sent_in c.doing.phase clock (world_in c k masters started marks points octets high low).site)
        (world_in c k masters started marks points octets high low)
    unfolding sent refusal
    sent-granted h = granted _ _ (sym e ∙ h)

    pub sent-denied : (n ≡ 0 → ⊥)
        → sent clock (length out) (world_in c k masters started marks points octets high low)
        ≡ refuse n (world_in c k masters started marks points octets high low)
    unfolding sent refusal
    sent-denied h = denied _ _ e h

    pub slot-granted : n ≡ 0
        → slot clock (length out) (world_in c k masters started marks points octets high low)
        ≡ called (slot_in c.doing.phase clock (world_in c k masters started marks points octets high low).site)
        (world_in c k masters started marks points octets high low)
    unfolding slot refusal
    slot-granted h = granted _ _ (sym e ∙ h)

    pub slot-denied : (n ≡ 0 → ⊥)
        → slot clock (length out) (world_in c k masters started marks points octets high low)
        ≡ refuse n (world_in c k masters started marks points octets high low)
    unfolding slot refusal
    slot-denied h = denied _ _ e h

-- what is known where nothing is refused
module _ (out first second : ℕ) (c : Core) (masters started : List ℕ) (k : Kept) (high low : Rows)
    (e : refusal_in out first second c masters started k high low ≡ 0) where
  pub underway : Underway c
  underway =
      record {
        awaited = awaited-queued out first second c masters started k high low e;
        sdn = sdn-queued out first second c masters started k high low e;
      }

pub listening : (out first second : List ℕ) (c : Core) (masters started : List ℕ) (k : Kept) (high low : Rows)
    → refusal_in (length out) (length first) (length second) c masters started k high low ≡ 0
    → Listening c k high low first second out
listening out first second c masters started k high low e =
    record {
      sited = sited (length out) (length first) (length second) c masters started k high low e;
      kept = reply-short (length out) (length first) (length second) c masters started k high low e;
      upper = first_short (length out) (length first) (length second) c masters started k high low e;
      lower = second_short (length out) (length first) (length second) c masters started k high low e;
      room = output-long (length out) (length first) (length second) c masters started k high low e;
    }
