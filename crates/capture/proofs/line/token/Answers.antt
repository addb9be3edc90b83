-- `capture::line::token` meets its contract: three steps in a row.
use Rattle.capture.specs.Line.{told}
use native.Mathlib.Omega.{arith}
use Rattle.laid.proofs.Laws.{lays-three, lays-within}
use Rattle.capture.proofs.line.token.Goals as goal

pub returns : goal.returns
unfolding told
returns c =
    lays-within 30 (omega arith)
    (lays-three (omega (arith, c.requires)) c.lay-second.ensures c.addresses-third.ensures c.lay.ensures)
