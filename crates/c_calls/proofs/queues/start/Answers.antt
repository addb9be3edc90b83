-- `c_calls::queues::start` meets its contract: a refused start leaves the arrays, else they are filled as the state has
-- them.
use Rattle.c_core.proofs.handover.Renewing.{start-done, start-declined}
use Rattle.c_calls.proofs.queues.start.Goals as goal
use Rattle.c_calls.proofs.queues.start.Goals.{in-Ok, in_default}

pub returns : goal.returns
returns c =
    elim c.match-a.branch [
      | in-Ok w ↦ rw (w.started-is, w.marks-is, w.memory-is)
          (rw (w.copy_from_slice.ensures.after, w.copy_from_slice-in-Ok.ensures.after, w.copy_from_slice-in-Ok-2.ensures.after)
          (start-done _ _ _ _ _ _ w.in-Ok.s _ _ _ (rw (← c.from.ensures) w.in-Ok.ensures) (rw w.a-is at c.started.ensures)))
      | in_default w ↦ rw (w.started-is, w.marks-is, w.memory-is)
          (start-declined _ _ _ _ _ _ w.in_default.field-0 _ _ _ (rw (← c.from.ensures) w.in_default.ensures)
          (rw (w.a-is, w.in_default.is) at c.started.ensures))
    ]
