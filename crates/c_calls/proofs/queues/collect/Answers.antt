-- `c_calls::queues::collect` meets its contract: the call on the state that the numbers mean, handed over. Assumes
-- nothing.
use Rattle.c_core.specs.Handover.{state_in}
use Rattle.c_core.proofs.handover.Arrays.{collect-lodged}
use Rattle.c_calls.proofs.queues.collect.Goals as goal

pub returns : goal.returns
unfolding state_in
returns c =
    rw (c.collected.ensures c.state_in-s.result)
    (collect-lodged _ _ _ _ _ (rw (← c.state_in-s.ensures) c.collect.ensures))
