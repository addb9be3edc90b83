-- `c_calls::queues::reset` meets its contract: the call on the state that the numbers mean, handed over. Assumes
-- nothing.
use Rattle.c_core.specs.Handover.{state_in}
use Rattle.c_core.proofs.handover.Renewing.{reset-done, reset-declined}
use Rattle.c_calls.proofs.queues.reset.Goals as goal
use Rattle.c_calls.proofs.queues.reset.Goals.{in-Ok, in_default}

pub returns-clause-held : goal.returns-clause-held
unfolding state_in
returns-clause-held c =
    elim c.match-a.branch [
      | in-Ok w ↦ rw (w.masters-is, w.marks-is)
          (rw (w.copy_from_slice.ensures.after, w.copy_from_slice-in-Ok.ensures.after)
          (reset-done _ _ _ _ w.in-Ok.s (rw c.state_in-s.ensures at w.in-Ok.ensures.told)
          (rw w.a-is at c.renewed.ensures)))
      | in_default w ↦ rw (w.masters-is, w.marks-is)
          (reset-declined _ _ _ _ w.in_default.field-0 (rw c.state_in-s.ensures at w.in_default.ensures.told)
          (rw (w.a-is, w.in_default.is) at c.renewed.ensures))
    ]
