-- `conclude::close_in` meets its contract.
use Rattle.serve.proofs.Ready.{ruled-of}
use Rattle.conclude.proofs.close_in.Goals as goal

pub current-requires : goal.current-requires
current-requires c =
    rw c.queue_of-q.ensures (ruled-of _ _ c.requires.0)

pub confirm-confirmed-requires : goal.confirm-confirmed-requires
confirm-confirmed-requires c =
    let p = c.requires in
    rw c.queue_of-q.ensures (ruled-of _ _ p.0, (p.1.1.0, (p.1.0, p.1.1.1)))
