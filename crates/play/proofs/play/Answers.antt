-- `play::play` meets its contract: each call is one case.
use mathlib.Core.Logic.{inl, inr}
use Rattle.state.specs.World.{world_of}
use Rattle.state.specs.Runs.{call, run}
use Rattle.play.specs.Play.{played_by, named_by, printed_by}
use Rattle.play.proofs.Lines.{stays-told, run-one}
use Rattle.play.proofs.play.Goals as goal

pub returns-in-Unknown-clause-played : goal.returns-in-Unknown-clause-played
unfolding played_by named_by printed_by
returns-in-Unknown-clause-played c =
    elim c.in-Unknown.is [
      | inl e ↦ rw e (stays-told _ _ _ _ _ c.unknown.ensures)
      | inr e ↦ rw e (stays-told _ _ _ _ _ c.unknown.ensures)
    ]

pub returns-in-Submit-clause-played : goal.returns-in-Submit-clause-played
unfolding played_by named_by printed_by call
returns-in-Submit-clause-played c =
    rw (c.in-Submit.is, run-one)
    c.submit.ensures.played

pub returns-in-Frame-clause-played : goal.returns-in-Frame-clause-played
unfolding played_by named_by printed_by call
returns-in-Frame-clause-played c =
    rw (c.in-Frame.is, run-one)
    c.frame.ensures.played

pub returns-in-Sent-clause-played : goal.returns-in-Sent-clause-played
unfolding played_by named_by printed_by call
returns-in-Sent-clause-played c =
    rw (
      c.in-Sent.is,
      run-one,
      ← c.clock.ensures,
    ) c.sent.ensures.played

pub returns-in-Slot-clause-played : goal.returns-in-Slot-clause-played
unfolding played_by named_by printed_by call
returns-in-Slot-clause-played c =
    rw (
      c.in-Slot.is,
      run-one,
      ← c.clock-in-Slot.ensures,
    ) c.slot.ensures.played

pub returns-in-Reset-clause-played : goal.returns-in-Reset-clause-played
unfolding played_by named_by printed_by call
returns-in-Reset-clause-played c =
    rw (c.in-Reset.is, run-one)
    c.reset.ensures.played

pub returns-in-Collect-clause-played : goal.returns-in-Collect-clause-played
unfolding played_by named_by printed_by call
returns-in-Collect-clause-played c =
    let s = c.shared.ensures in
    rw (c.in-Collect.is, run-one)
    (rw (c.queue.ensures, s.0, s.1.0, s.1.1.0, s.1.1.1) at c.collect.ensures)

pub returns-in-Show-clause-played : goal.returns-in-Show-clause-played
unfolding played_by named_by printed_by run world_of
returns-in-Show-clause-played c =
    rw c.in-Show.is
    (stays-told _ _ _ _ _ c.show.ensures)
