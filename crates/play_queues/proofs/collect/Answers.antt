-- `play_queues::collect` meets its contract: the row of the one queue is lent, and the other stays.
use Rattle.state.specs.Told.{high_of, low_of}
use Rattle.state.specs.declared.Priority.TheVariants.{High, Low}
use Rattle.play_queues.proofs.Beside.{collected-beside}
use Rattle.play_queues.proofs.collect.Goals as goal

pub returns-in-High : goal.returns-in-High
returns-in-High c =
    let a = c.args in rw c.in-High.is
    (collected-beside High a.s _ (low_of a.rows) _ c.collect_from.ensures)

pub returns-in-Low : goal.returns-in-Low
returns-in-Low c =
    let a = c.args in rw c.in-Low.is
    (collected-beside Low a.s _ (high_of a.rows) _ c.collect_from-in-Low.ensures)
