-- `capture::line::addresses` meets its contract: three steps in a row.
use Rattle.std.proofs.Common.{arith}
use Rattle.capture.specs.Line.{addresses}
use Rattle.laid.proofs.Laws.{lays-three}
use Rattle.capture.proofs.line.addresses.Goals as goal

pub returns : goal.returns
unfolding addresses
returns c =
    let first = rw c.from.ensures at c.number-second.ensures in
    let last = rw c.from-2.ensures at c.number.ensures in
    lays-three (omega (arith, c.requires)) first c.lay-third.ensures last
