-- `rows::submit` meets its contract: refused, or the record and its data put at the place taken.
use Rattle.std.proofs.lemmas.Result.{err_from_is_err_and}
use Rattle.rows.specs.Rows.{submitted}
use Rattle.rows.proofs.Submitted.{stored-err, stored-ok, room_of}
use Rattle.rows.proofs.submit.Goals as goal

pub returns-in_err-t : goal.returns-in_err-t
unfolding submitted
returns-in_err-t c =
    let p = err_from_is_err_and c.from_residual.result c.from_residual.ensures.1 in
    rw (p.1, p.2, ← c.in_err-t.ensures) (stored-err _ _ _ _ _ _)

pub put-requires : goal.put-requires
put-requires c =
    (room_of _ _ _ _ c.args.x.now _ c.args.area.now c.requires.0 c.requires.1 c.in_ok-t.ensures).record-fits

pub fill-requires : goal.fill-requires
fill-requires c =
    let h = room_of _ _ _ _ c.args.x.now c.args.row.now _ c.requires.0 c.requires.1 c.in_ok-t.ensures in
    (h.data-fit, h.short)

pub returns : goal.returns
unfolding submitted
returns c = rw (← c.in_ok-t.ensures) (stored-ok _ _ _ _ _ _ c.put.ensures c.fill.ensures)
