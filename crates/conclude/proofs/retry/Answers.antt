-- `conclude::retry` meets its contract: a repeat is counted to the record's limit and one.
use native.Mathlib.Omega.{arith}
use Rattle.state.specs.Told.{high_in, low_in}
use Rattle.conclude.proofs.Ending.{limit-small}
use Rattle.conclude.proofs.retry.Goals as goal

pub again-requires : goal.again-requires
again-requires c =
    let a = c.args in
    let p = c.requires in
    let s = c.shared.ensures in
    let small = limit-small a.c (high_in a.rows.now) (low_in a.rows.now) (rw (s.0, s.1.1.0) at c.served-r.ensures) p.0 p.1.0 in
    let t = c.shared-else-r-c.ensures in
    (rw (t.0, t.1.0, t.1.1.0, t.1.1.1) p.0, (p.1.0, (omega (arith, small), p.1.1)))
