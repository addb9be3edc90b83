-- `typed::digits::put_octets` meets its contract: `-` for none, else the hex digits.
use Rattle.std.proofs.Common.{arith}
use Rattle.choice.specs.Choice.{pick, same}
use Rattle.laid.proofs.Laws.{lays-within}
use Rattle.typed.specs.Digits.{shown}
use Rattle.typed.proofs.digits.put_octets.Goals as goal

pub returns-then-is_empty : goal.returns-then-is_empty
unfolding shown pick same
returns-then-is_empty c = rw (← c.is_empty.ensures, c.if-is_empty.true) (lays-within _ (omega arith) c.lay.ensures)

pub returns : goal.returns
unfolding shown pick same
returns c = rw (← c.is_empty.ensures, c.if-is_empty.false) (lays-within _ (omega arith) c.put_hex.ensures)
