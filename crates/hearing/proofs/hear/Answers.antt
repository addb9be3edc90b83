-- `hearing::hear` meets its contract.
use mathlib.Core.Path.{◌∙◌}
use Rattle.state.specs.Told.{heard_by}
use Rattle.state.proofs.Refused.{calm-awaited}
use Rattle.hearing.proofs.idle.Standing.{stands-does, heard-moved}
use Rattle.hearing.proofs.Phased.{heard-idle, heard-awaited, heard-check, listening-resting}
use Rattle.hearing.proofs.hear.Goals as goal
use Rattle.hearing.proofs.hear.Goals.{in-Idle, in-Check}

pub returns-in-Awaited-clause-hears : goal.returns-in-Awaited-clause-hears
returns-in-Awaited-clause-hears c =
    record {
      told = λ t.
          rw (heard-awaited _ _ _ _ _ _ c.in-Awaited.is)
          (stands-does _ _ _ _ _ _ (calm-awaited _ _ _ _) c.awaited-m.ensures.does (heard-moved _ _ _ _ c.moved.ensures));
    }

pub idle_read-requires : goal.idle_read-requires
idle_read-requires c =
    let p = c.requires.0 in
    let s = c.shared.ensures in
    rw (s.0, s.1.0, s.1.1.0, s.1.1.1)
    elim c.match-c.branch [
      | in-Idle w ↦ rw w.core-is p
      | in-Check w ↦ rw (w.core-is, w.with_doing-core.ensures, w.resting.ensures) (listening-resting p)
    ]

pub returns-clause-hears : goal.returns-clause-hears
unfolding heard_by
returns-clause-hears c =
    let s = c.shared.ensures in
    record {
      told = λ t.
          let i = rw (s.0, s.1.0, s.1.1.0, s.1.1.1) at (c.idle_read.ensures.told t) in
          elim c.match-c.branch [
            | in-Idle w ↦ rw (heard-idle _ _ _ _ _ _ w.in-Idle.is) (rw w.core-is at i)
            | in-Check w ↦
                rw (heard-check _ _ _ _ _ _ _ _ _ _ _ _ _ _ w.in-Check.is (w.core-is ∙ (rw w.resting.ensures at w.with_doing-core.ensures)))
                i
          ];
    }
