-- `desk::go_on` meets its contract: nothing before the first start, else the call on the rows in their arrays.
use Prim.Native.Nat.{◌*◌}
use mathlib.Core.Path.{◌∙◌}
use native.Mathlib.Omega.{arith}
use lib.Seq.{length-take-le}
use Rattle.request.specs.Record.{SIZE}
use Rattle.desk.proofs.Holding.{unbegun, goes_on}
use Rattle.desk.proofs.go_on.Goals as goal

pub returns-in_default-clause-answers : goal.returns-in_default-clause-answers
returns-in_default-clause-answers c =
    let a = c.args in
    unbegun a.call a.line.now a.h a.rows.now.high.now a.rows.now.high_area.now a.rows.now.low.now a.rows.now.low_area.now
    a.text.now c.in_default.is c.requires.0 c.requires.1 c.unknown.ensures

pub returns-clause-answers : goal.returns-clause-answers
returns-clause-answers c =
    let a = c.args in
    let w = c.requires.0 in
    let f = c.requires.1 in
    let k = c.play_on-p.auto in
    goes_on a.call a.line.now a.h c.in-Some.state a.rows.now.high.now a.rows.now.high_area.now a.rows.now.low.now a.rows.now.low_area.now
    a.text.now w f c.in-Some.is c.play_on-p.ensures
    (k.high ∙ length-take-le (SIZE * a.h.high) a.rows.now.high.now (omega (arith, w.high, f.high)))
    (k.high_area ∙ length-take-le (246 * a.h.high) a.rows.now.high_area.now (omega (arith, w.harea, f.high)))
    (k.low ∙ length-take-le (SIZE * a.h.low) a.rows.now.low.now (omega (arith, w.low, f.low)))
    (k.low_area ∙ length-take-le (246 * a.h.low) a.rows.now.low_area.now (omega (arith, w.larea, f.low)))
    k.text
