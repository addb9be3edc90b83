-- `capture::line::refused` meets its contract: three steps in a row.
use Rattle.std.proofs.Common.{◌∙◌, arith}
use Rattle.capture.specs.Line.{told}
use Rattle.laid.proofs.Laws.{lays-three, lays-within}
use Rattle.capture.proofs.line.refused.Goals as goal

pub returns : goal.returns
unfolding told
returns c =
    let number = rw (c.from.ensures ∙ c.number.ensures.value) at c.number-third.ensures in
    lays-within 30 (omega arith) (lays-three (omega (arith, c.requires)) c.lay-second.ensures number c.lay.ensures)
