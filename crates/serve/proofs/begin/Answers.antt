-- `serve::begin` meets its contract.
use Rattle.serve.proofs.Sited.{sited-beginning}
use Rattle.serve.proofs.begin.Goals as goal

pub choose-requires : goal.choose-requires
choose-requires c =
    let p = c.requires in
    (rw c.beginning.ensures (sited-beginning _ p.0), p.1)
