-- `desk::begin` meets its contract: a refused start leaves the desk, an accepted one begins it anew.
use Rattle.desk.proofs.Holding.{begun-refused, begun-given}
use Rattle.desk.proofs.begin.Goals as goal

pub returns-in_default-clause-answers : goal.returns-in_default-clause-answers
returns-in_default-clause-answers c =
    let a = c.args in
    begun-refused a.line.now a.h a.rows.now.high.now a.rows.now.high_area.now a.rows.now.low.now a.rows.now.low_area.now
    a.text.now _ c.requires.0 c.requires.1 c.in_default.ensures (rw c.in_default.is at c.outcome-length.ensures)

pub returns-clause-answers : goal.returns-clause-answers
returns-clause-answers c =
    let a = c.args in rw (
      c.clear.ensures,
      c.clear-2.ensures,
      c.clear-3.ensures,
      c.clear-4.ensures,
      c.low-lower.ensures,
      c.high-upper.ensures,
    )
    (begun-given a.line.now a.h a.rows.now.high.now a.rows.now.high_area.now a.rows.now.low.now a.rows.now.low_area.now
    a.text.now _ c.in-Ok.ensures (rw c.in-Ok.is at c.outcome-length.ensures))
