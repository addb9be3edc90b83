-- `answering::answers::answer_status` meets its contract.
use mathlib.Core.Path.{sym, ◌∙◌}
use native.Mathlib.Omega.{arith}
use Rattle.state.specs.Answering.{status_events}
use Rattle.choice.proofs.Rules.{pick_true, pick-false, said-true, said-false}
use Rattle.answering.proofs.answers.Says.{answerable, says_nothing, says-reply}
use Rattle.answering.proofs.answers.answer_status.Goals as goal

pub lay_reply-requires : goal.lay_reply-requires
lay_reply-requires c =
    let a = answerable c.requires.1.0 (sym c.reserved.ensures ∙ c.if-reserved.false) in
    (c.requires.0, (a, (omega arith, c.requires.1.1)))

pub returns-then-reserved : goal.returns-then-reserved
unfolding status_events
returns-then-reserved c =
    rw (pick_true _ _ (said-true c.reserved.ensures c.if-reserved.true), c.silent.ensures)
    (says_nothing _ _)

pub returns : goal.returns
unfolding status_events
returns c =
    rw (pick-false _ _ (said-false c.reserved.ensures c.if-reserved.false))
    (says-reply c.args.responder c.lay_reply.ensures)
