-- `c_calls::turns::sent` meets its contract: the call on the core that the numbers mean, handed over.
use Rattle.c_core.proofs.handover.Standing.{stands-held}
use Rattle.c_calls.proofs.turns.sent.Goals as goal

pub returns-clause-held : goal.returns-clause-held
returns-clause-held c =
    stands-held _ (rw (← c.from.ensures, ← c.from-2.ensures) (c.sent-a.ensures.acts.told _ _)) (c.answer.ensures c.from.result c.from-2.result)
