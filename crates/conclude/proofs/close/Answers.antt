-- `conclude::close` meets its contract.
use Rattle.serve.proofs.Sited.{ready-high, ready-low, served-waits}
use Rattle.conclude.proofs.close.Goals as goal

pub close_in-requires : goal.close_in-requires
close_in-requires c =
    let p = c.requires in
    let y = ready-high p.0 (served-waits _ _ c.in-High.is p.1.0) in
    (y.core, (y.lent, (y.some, p.1.1)))

pub close_in-requires-in-Low : goal.close_in-requires-in-Low
close_in-requires-in-Low c =
    let p = c.requires in
    let y = ready-low p.0 (served-waits _ _ c.in-Low.is p.1.0) in
    (y.core, (y.lent, (y.some, p.1.1)))
