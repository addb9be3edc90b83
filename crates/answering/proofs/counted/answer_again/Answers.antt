-- `answering::counted::answer_again` meets its contract.
use Rattle.state.specs.Answering.{recalled}
use Rattle.answering.proofs.answers.Says.{says-reply}
use Rattle.answering.proofs.counted.answer_again.Goals as goal

pub returns : goal.returns
unfolding recalled
returns c = says-reply c.args.responder (rw c.from.ensures at c.recall.ensures)
