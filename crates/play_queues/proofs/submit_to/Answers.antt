-- `play_queues::submit_to` meets its contract: what the call told, and its line.
use Rattle.play_queues.proofs.Told.{submit-told}
use Rattle.play_queues.proofs.submit_to.Goals as goal

pub returns : goal.returns
returns c =
    submit-told _ _ _ c.submit-a.ensures c.submitted.ensures.state_value c.submitted.ensures.lays
