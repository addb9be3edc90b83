-- `serve::again` meets its contract.
use Rattle.serve.proofs.Sited.{ready-high, ready-low, served-waits}
use Rattle.serve.proofs.again.Goals as goal

pub send_again-requires : goal.send_again-requires
send_again-requires c =
    let p = c.requires in
    (ready-high p.0 (served-waits _ _ c.in-High.is p.1.0), p.1.1)

pub send_again-requires-in-Low : goal.send_again-requires-in-Low
send_again-requires-in-Low c =
    let p = c.requires in
    (ready-low p.0 (served-waits _ _ c.in-Low.is p.1.0), p.1.1)
