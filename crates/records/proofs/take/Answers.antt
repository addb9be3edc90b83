-- `records::take` meets its contract: refused, or the data put at the place taken.
use mathlib.Core.Path.{sym, ◌∙◌}
use Rattle.std.proofs.lemmas.Result.{err_from_is_err_and}
use Rattle.records.proofs.Laws.{room_for, filled-err, filled-ok}
use Rattle.records.proofs.take.Goals as goal

pub returns-in_err-t : goal.returns-in_err-t
returns-in_err-t c =
    let p = err_from_is_err_and c.from_residual.result c.from_residual.ensures.1 in
    rw (p.1, p.2) (c.in_err-t.ensures, sym (filled-err _ _ _ _ _))

pub fill-requires : goal.fill-requires
fill-requires c = room_for _ _ _ _ c.args.x.now c.args.area.now c.requires.0 c.requires.1 c.in_ok-t.ensures

pub returns : goal.returns
returns c = (c.in_ok-t.ensures, c.fill.ensures ∙ sym (filled-ok _ _ _ _ _))
