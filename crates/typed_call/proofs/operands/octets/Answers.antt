-- `typed_call::operands::octets` meets its contract: no word of a line is longer than the output.
use Rattle.typed_call.specs.Operands.{octets_at}
use Rattle.typed_call.proofs.operands.Words.{octets_read}
use Rattle.typed_call.proofs.operands.octets.Goals as goal

pub returns : goal.returns
unfolding octets_at
returns c =
    let a = c.args in
    rw (c.unwrap_or.ensures, c.hex.ensures.value, c.hex.ensures.out_after, c.word.ensures)
    (octets_read a.line.now a.k a.out.now c.requires.0 c.requires.1)
