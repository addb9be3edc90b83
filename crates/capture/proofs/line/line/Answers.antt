-- `capture::line::line` meets its contract: two steps in a row.
use Rattle.capture.specs.Line.{line}
use Prim.Native.Nat.{◌+◌, ◌≤◌}
use native.Mathlib.Omega.{arith}
use lib.ListN.{length}
use Rattle.laid.proofs.Laws.{lays-then}
use Rattle.capture.proofs.line.line.Goals as goal

pub returns : goal.returns
unfolding line
returns c =
    let x1 = c.number-second.ensures in
    let x2 = c.answered.ensures in
    let h1 : c.args.at + (4 + 30) ≤ length c.args.out.now = omega (arith, c.requires) in
    lays-then h1 x1 x2
