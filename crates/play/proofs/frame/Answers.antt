-- `play::frame` meets its contract: frame with what the words of the line give it.
use Prim.Native.Nat.{ℕ}
use native.Mathlib.Omega.{arith}
use lib.ListN.{length-replicate}
use Rattle.state.specs.Runs.{call}
use Rattle.play.specs.Play.{frame_by}
use Rattle.play.proofs.Lines.{take-near}
use Rattle.play.proofs.frame.Goals as goal

pub frame-requires : goal.frame-requires
frame-requires c = (
  take-near
      c.octets-k.result
      2048
      c.octets-k.new.out
      (omega (
        arith,
        c.octets-k.auto.out,
        length-replicate {A = ℕ} 2048 0,
      )),
  c.requires.1,
)

pub returns-clause-played : goal.returns-clause-played
unfolding frame_by call
returns-clause-played c =
    rw (
      ← c.room.ensures,
      ← c.clock.ensures,
      ← c.octets-k.ensures.0,
      ← c.octets-m.ensures.0,
      ← c.octets-n.ensures.0,
    ) c.frame.ensures.played
