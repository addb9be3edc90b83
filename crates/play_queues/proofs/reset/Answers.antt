-- `play_queues::reset` meets its contract: what the call told, and its line.
use Rattle.play_queues.proofs.Told.{reset-told}
use Rattle.play_queues.proofs.reset.Goals as goal

pub returns-clause-played : goal.returns-clause-played
returns-clause-played c =
    reset-told _ _ c.reset-a.ensures.told c.plain.ensures.state_value c.plain.ensures.lays
