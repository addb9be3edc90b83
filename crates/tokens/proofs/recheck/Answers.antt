-- `tokens::recheck` meets its contract: after three sendings NS leaves the ring and the next is tried.
use native.Mathlib.Omega.{arith}
use Rattle.tokens.proofs.Taking.{rechecks-next}
use Rattle.tokens.proofs.recheck.Goals as goal

pub returns : goal.returns
returns c =
    rechecks-next _ _ _ c.next-ns.ensures.0 _ _ (omega arith) c.remove.ensures c.ps_without.ensures
    c.with_ps-core.ensures c.next.ensures.0 c.pass_to.ensures
