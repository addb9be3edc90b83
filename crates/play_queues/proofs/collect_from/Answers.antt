-- `play_queues::collect_from` meets its contract: what the call told, and its line.
use Rattle.play_queues.proofs.Told.{collect-told}
use Rattle.play_queues.proofs.collect_from.Goals as goal

pub returns : goal.returns
returns c =
    collect-told _ _ _ _ c.collect-a.ensures c.handed.ensures.state_value c.handed.ensures.lays
