-- `answering::counted::answer_counted` meets its contract.
use mathlib.Core.Path.{sym, ◌∙◌}
use Rattle.choice.proofs.Rules.{pick_true, pick-false, said-true, said-false}
use Rattle.state.specs.Answering.{answered, answer_new, answer_counted}
use Rattle.state.proofs.Hearing.{shown-short}
use Rattle.answering.proofs.answers.Says.{answerable, says_nothing, says-new}
use Rattle.answering.proofs.memory.Laws.{kept_new, octets-new}
use Rattle.answering.proofs.counted.answer_counted.Goals as goal

pub returns-then-reserved-clause-says : goal.returns-then-reserved-clause-says
unfolding answered answer_counted
returns-then-reserved-clause-says c =
    rw (pick_true _ _ (said-true c.reserved.ensures c.if-reserved.true), c.silent.ensures) (says_nothing _ _)

pub lay_reply-length-requires : goal.lay_reply-length-requires
lay_reply-length-requires c =
    let q = c.requires in
    let a = answerable q.head (sym c.reserved.ensures ∙ c.if-reserved.false) in
    let x = shown-short c.args.caller.high.now c.args.caller.low.now q.upper q.lower in
    (q.ts, (a, (rw c.shown-x.ensures x, q.room)))

pub returns : goal.returns
unfolding answered answer_new answer_counted
returns c =
    let a = c.args in
    let h = a.request.head in
    let y = c.lay_reply-length.ensures in
    let e = c.remember.ensures in
    let l = a.octets.now in
    rw (
      pick-false _ _ (said-false c.reserved.ensures c.if-reserved.false),
      pick-false _ _ (said-false c.repeated.ensures c.if-repeated.false),
    )
    (rw (← c.active.ensures, ← c.new_answer-new.ensures, ← c.shown-x.ensures)
    (record {
      says = says-new a.responder c.new_answer-new.result.indicated h a.request.part
          (kept_new y a.k l h.source a.bits.fcb a.bits.fcv e.kept)
          c.then_some.ensures y;
      octets_after = octets-new y a.k l h.source a.bits.fcb a.bits.fcv e.octets_after;
    }))
