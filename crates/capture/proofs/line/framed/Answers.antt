-- `capture::line::framed` meets its contract: seven steps in a row.
use Rattle.capture.specs.Line.{told}
use Prim.Native.Nat.{◌+◌, ◌≤◌}
use native.Mathlib.Omega.{arith}
use lib.ListN.{length}
use Rattle.laid.proofs.Laws.{lays-room, lays-then, lays-within}
use Rattle.capture.proofs.line.framed.Goals as goal

pub returns : goal.returns
unfolding told
returns c =
    let x1 = c.kind-second.ensures in
    let x2 = c.addresses-third.ensures in
    let x3 = c.lay-fourth.ensures in
    let x4 = rw (c.from.ensures, c.fc-code.ensures.value) at c.number-fifth.ensures in
    let x5 = c.lay-sixth.ensures in
    let x6 = c.number-seventh.ensures in
    let x7 = c.lay.ensures in
    let h1 : c.args.at + (9 + 20) ≤ length c.args.out.now = omega (arith, c.requires) in
    let h2 = lays-room 20 h1 x1 in
    let h3 = lays-room 11 h2 x2 in
    let h4 = lays-room 10 h3 x3 in
    let h5 = lays-room 6 h4 x4 in
    let h6 = lays-room 5 h5 x5 in
    lays-within 30 (omega arith)
    (lays-then h1 x1 (lays-then h2 x2 (lays-then h3 x3 (lays-then h4 x4 (lays-then h5 x5 (lays-then h6 x6 x7))))))
