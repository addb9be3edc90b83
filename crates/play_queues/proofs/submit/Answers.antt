-- `play_queues::submit` meets its contract: the row of the one queue is lent, and the other stays.
use Rattle.state.specs.Told.{high_in, low_in}
use Rattle.state.specs.declared.Priority.TheVariants.{High, Low}
use Rattle.play_queues.proofs.Beside.{submitted-beside}
use Rattle.play_queues.proofs.submit.Goals as goal

pub returns-in-High-clause-played : goal.returns-in-High-clause-played
returns-in-High-clause-played c =
    let a = c.args in rw c.in-High.is
    (submitted-beside High a.s a.r a.x.now _ (low_in a.rows.now) _ c.submit_to.ensures)

pub returns-in-Low-clause-played : goal.returns-in-Low-clause-played
returns-in-Low-clause-played c =
    let a = c.args in rw c.in-Low.is
    (submitted-beside Low a.s a.r a.x.now _ (high_in a.rows.now) _ c.submit_to-in-Low.ensures)
