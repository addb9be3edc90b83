-- `serve::serve` meets its contract.
use Rattle.serve.proofs.Sited.{ready-high, ready-low}
use Rattle.serve.proofs.serve.Goals as goal

pub send-requires : goal.send-requires
send-requires c =
    let p = c.requires in
    (ready-high p.0 (rw c.in-High.is at p.1.0), p.1.1)

pub send-requires-in-Low : goal.send-requires-in-Low
send-requires-in-Low c =
    let p = c.requires in
    (ready-low p.0 (rw c.in-Low.is at p.1.0), p.1.1)
