-- `desk::answer_by` meets its contract: a start, or another call.
use Rattle.choice.specs.Choice.{pick}
use Rattle.choice.proofs.Rules.{said-true, said-false}
use Rattle.desk.specs.Desk.{answer_by}
use Rattle.desk.proofs.answer_by.Goals as goal

pub returns-then-starts-clause-answers : goal.returns-then-starts-clause-answers
unfolding answer_by pick
returns-then-starts-clause-answers c =
    rw (said-true c.starts.ensures c.if-starts.true) c.begin.ensures.answers

pub returns-else-starts-clause-answers : goal.returns-else-starts-clause-answers
unfolding answer_by pick
returns-else-starts-clause-answers c =
    rw (said-false c.starts.ensures c.if-starts.false) c.go_on.ensures.answers
