-- `c_calls::queues::submit` meets its contract: the call on the state that the numbers mean, handed over. Assumes
-- nothing.
use Rattle.c_core.specs.Handover.{state_in}
use Rattle.c_core.proofs.handover.Arrays.{submit-lodged}
use Rattle.c_calls.proofs.queues.submit.Goals as goal

pub returns : goal.returns
unfolding state_in
returns c =
    rw (c.accepted.ensures c.state_in-s.result)
    (submit-lodged _ _ _ _ _ _ _ (rw (← c.state_in-s.ensures) c.submit.ensures))
