-- `desk::answer` meets its contract: each return is one case.
use mathlib.Core.Path.{◌≡◌}
use native.Mathlib.Omega.{arith}
use lib.ListN.{length}
use Rattle.choice.specs.Choice.{pick}
use Rattle.choice.proofs.Rules.{same_true, same_false, less-true, less-false}
use Rattle.printed_lines.specs.Saying.{unknown_line}
use Rattle.desk.specs.Desk.{answer}
use Rattle.desk.proofs.Holding.{silent, keeps}
use Rattle.desk.proofs.answer.Goals as goal
use Rattle.desk.proofs.answer.Goals.{then-is_empty-via-then-is_empty, then-is_empty-via-else-is_empty+then-line-eq-COMMENT}

pub returns-then-is_empty-clause-answers : goal.returns-then-is_empty-clause-answers
unfolding answer pick
returns-then-is_empty-clause-answers c =
    let a = c.args in
    let s = silent a.h a.rows.now.high.now a.rows.now.high_area.now a.rows.now.low.now a.rows.now.low_area.now
    a.text.now c.requires.0 c.requires.1 in
    elim c.then-is_empty.branch [
      | then-is_empty-via-then-is_empty w ↦
          let e : length a.line.now ≡ 0 = grind (arith, w.if-is_empty.true) in rw (same_true e) s
      | then-is_empty-via-else-is_empty+then-line-eq-COMMENT w ↦
          let e : length a.line.now ≡ 0 → ⊥ = grind (arith, w.if-is_empty.false) in
          rw (same_false e, same_true w.if-line-eq-COMMENT.true) s
    ]

pub returns-then-line-gt-LONGEST-clause-answers : goal.returns-then-line-gt-LONGEST-clause-answers
unfolding answer pick
returns-then-line-gt-LONGEST-clause-answers c =
    let a = c.args in
    let e : length a.line.now ≡ 0 → ⊥ = grind (arith, c.if-is_empty.false) in
    rw (same_false e, same_false c.if-line-eq-COMMENT.false, less-true c.if-line-gt-LONGEST.true)
    (keeps unknown_line a.h a.rows.now.high.now a.rows.now.high_area.now a.rows.now.low.now a.rows.now.low_area.now
    a.text.now c.requires.0 c.requires.1 c.unknown.ensures)

pub returns-clause-answers : goal.returns-clause-answers
unfolding answer pick
returns-clause-answers c =
    let e : length c.args.line.now ≡ 0 → ⊥ = grind (arith, c.if-is_empty.false) in
    rw (
      same_false e,
      same_false c.if-line-eq-COMMENT.false,
      less-false c.if-line-gt-LONGEST.false,
      ← c.call_of.ensures,
    ) c.answer_by.ensures.answers
