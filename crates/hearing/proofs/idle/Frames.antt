-- A frame in Idle, by what it was read as. Assumes nothing.
use Prim.Native.Nat.{ℕ}
use mathlib.Core.Bool.{Bool}
use mathlib.Core.Path.{◌≡◌}
use mathlib.Core.List.{List}
use native.Mathlib.Omega.{arith}
use Rattle.frame.specs.declared.Address.{Address}
use Rattle.frame.specs.Reading.{Read}
use Rattle.frame.specs.declared.Fields.{Fields}
use Rattle.frame.specs.declared.Fields.TheVariants.{Token, Frame}
use Rattle.frame.specs.declared.Head.{Head}
use Rattle.frame.specs.declared.Part.{Part}
use Rattle.frame.specs.Reading.{read}
use Rattle.state.specs.declared.Core.{Core}
use Rattle.state.specs.declared.Kept.{Kept}
use Rattle.state.specs.declared.Responder.{Responder}
use Rattle.state.specs.World.{Rows, World}
use Rattle.state.specs.Answering.{Asked, answer}
use Rattle.state.specs.Hold.{token}
use Rattle.state.specs.Calls.{called, replying, responder, idle}
use Rattle.phases.proofs.Read.{readable}
use Rattle.hearing.specs.Hears.{Listening, Sound}

module _ (clock : ℕ) (room : Bool) (first second : List ℕ) (p : Part) (w : World) {f : Fields} where
  pub idle-token : {d a : Address} → f ≡ Token d a
      → idle clock room first second f p w ≡ called (token clock d.0 a.0 w.site) w
  unfolding idle
  idle-token e = rw e

  pub idle-frame : {h : Head} → f ≡ Frame h
      → idle clock room first second f p w
      ≡ replying (answer (responder w.site.core) w.points w.memory room first second h p) w
  unfolding idle
  idle-frame e = rw e

-- what a read frame is known for
pub sound-read : (s : List ℕ) {f : Fields} {p : Part} → read s ≡ Read f p → Sound f
sound-read s {p = p} e = record { head = λ h i. readable s h p (rw i at e) }

pub asked : {c : Core} {k : Kept} {high low : Rows} {first second out : List ℕ} {f : Fields} {h : Head}
    {r : Responder} → Sound f → f ≡ Frame h → r ≡ responder c → Listening c k high low first second out
    → Asked r k h first second out
unfolding responder
asked {h = h} s e i l =
    record {
      ts = rw i (omega (arith, l.sited.core.ts));
      reply = l.kept;
      head = s.head h e;
      upper = l.upper;
      lower = l.lower;
      room = l.room;
    }
