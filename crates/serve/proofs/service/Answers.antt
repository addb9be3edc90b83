-- `serve::service` meets its contract.
use Rattle.serve.proofs.Ready.{ruled-of}
use Rattle.serve.proofs.service.Goals as goal

pub current-requires : goal.current-requires
current-requires c =
    rw c.queue_of.ensures (ruled-of _ _ c.requires.core)
