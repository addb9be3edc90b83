-- `serve::exchange::lay_request` meets its contract: the writer does not refuse a fit request.
use Rattle.serve.proofs.exchange.Writable.{laying-request, lays-counted}
use Rattle.serve.proofs.exchange.lay_request.Goals as goal

pub returns : goal.returns
returns c =
    let a = c.args in
    let w = laying-request a.ts a.p a.r a.m a.«data».now c.requires.1.0 a.out.now c.requires.0 c.requires.1.1 in
    rw c.unwrap_or.ensures
    (lays-counted w _ (rw c.head_for-h.ensures at c.write_frame.ensures.value) (rw c.head_for-h.ensures at c.write_frame.ensures.out_after))
