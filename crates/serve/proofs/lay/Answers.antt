-- `serve::lay` meets its contract: the first record of a queue is fit, so its octets are laid.
use native.Mathlib.Omega.{arith}
use Rattle.serve.proofs.Ready.{ruled-of, fit-laid, lays-first}
use Rattle.serve.proofs.lay.Goals as goal

pub current-place-requires : goal.current-place-requires
current-place-requires c =
    rw c.queue_of.ensures (ruled-of _ _ c.requires.0.core)

pub lay_request-requires : goal.lay_request-requires
lay_request-requires c =
    let p = c.requires in (
      omega (arith, p.0.core.ts),
      (
        fit-laid _ _ _ c.queue_of.ensures c.current-place.ensures.0
            c.at-r.ensures c.from.ensures c.from-2.ensures c.part-data.ensures p.0,
        p.1,
      ),
    )

pub returns : goal.returns
returns c =
    lays-first _ _ _ c.queue_of.ensures c.current-place.ensures.0 c.at-r.ensures
    c.from.ensures c.from-2.ensures c.part-data.ensures _ c.mark_of-m.ensures
    c.lay_request.ensures
