-- `records::store` meets its contract: the record at its place, or the row as it was.
use mathlib.Core.Path.{refl, sym}
use Rattle.records.proofs.Laws.{put-row, placed-err, placed-ok}
use Rattle.records.proofs.store.Goals as goal

pub returns-in-Ok : goal.returns-in-Ok
returns-in-Ok c =
    let within = rw c.in-Ok.is at c.requires in (
      sym c.in-Ok.is,
      λ q r. rw (c.in-Ok.is, placed-ok q r c.in-Ok.t, c.from.ensures) (put-row c.args.row.now _ _ within),
    )

pub returns-in_default : goal.returns-in_default
returns-in_default c = (refl, λ q r. rw c.in_default.is (sym (placed-err q r _ _)))
