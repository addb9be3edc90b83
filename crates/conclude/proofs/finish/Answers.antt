-- `conclude::finish` meets its contract: the rows are in order after the confirmation.
use Rattle.conclude.proofs.Closing.{sited-closed}
use Rattle.conclude.proofs.Ending.{does-ended}
use Rattle.conclude.proofs.finish.Goals as goal

pub choose-requires : goal.choose-requires
choose-requires c =
    let p = c.requires in
    let s = c.shared.ensures in
    rw (s.0, s.1.0, s.1.1.0, s.1.1.1)
    (sited-closed _ _ _ _ _ _ p.0 p.1.1.0 p.1.0 c.close-core.ensures.closes, p.1.1.1)

pub returns-clause-does : goal.returns-clause-does
returns-clause-does c =
    let s = c.shared.ensures in
    does-ended c.close-core.ensures.closes _ (rw (s.0, s.1.0, s.1.1.0, s.1.1.1) at c.choose.ensures)
