-- `tokens::token` meets its contract: the sender of a second token becomes PS and enters the ring.
use Rattle.serve.proofs.Telling.{does-as}
use Rattle.tokens.proofs.Taking.{second-time, does-admitted}
use Rattle.tokens.proofs.token.Goals as goal

pub returns-then-a-c-3 : goal.returns-then-a-c-3
returns-then-a-c-3 c =
    does-as (second-time _ _ _ _ c.if-a-c.false.0 c.if-a-c.false.1 c.if-a-c-2.false c.if-a-c-3.true)
    (does-admitted _ _ _ _ _ _ _ c.with_ps-core.ensures c.enter.ensures c.begin-then-a-c-3.ensures)
