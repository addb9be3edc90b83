-- `records::submit` meets its contract: refused, or the record and its data put at the place taken.
use Rattle.queue.specs.Queue.{taken_of}
use Rattle.rows.specs.Rows.{submitted}
use Rattle.records.specs.Records.{row_of}
use Rattle.records.proofs.Laws.{taken-within, is-stored}
use Rattle.records.proofs.submit.Goals as goal

pub store-requires : goal.store-requires
store-requires c =
    taken-within _ _ _ _ c.args.x.now c.args.row.now c.args.area.now c.requires.0 c.requires.1 c.take.ensures.0

pub returns : goal.returns
unfolding submitted
returns c =
    rw (c.store.ensures.0, c.store.ensures.1 c.args.q c.args.r, c.take.ensures.1, ← c.take.ensures.0)
    (is-stored (taken_of c.args.q c.args.r c.take.result) c.args.x.now (row_of c.args.row.now) c.args.area.now)
