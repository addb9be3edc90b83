-- `station_start::resetting::reset` meets its contract.
use Rattle.std.proofs.lemmas.Result.{err_from_is_err_and}
use Rattle.refusal.specs.Refusal.{refused}
use Rattle.state.proofs.Facts.{lawful, lent_rows}
use Rattle.station_start.proofs.resetting.Renewal.{ready, reset-refused, reset-renewed}
use Rattle.station_start.proofs.resetting.reset.Goals as goal

pub returns-in_err-refusal-clause-told : goal.returns-in_err-refusal-clause-told
unfolding refused
returns-in_err-refusal-clause-told c =
    let p = err_from_is_err_and c.from_residual.result c.from_residual.ensures.1 in
    reset-refused _ _ _ c.in_err-refusal.field-0.0 _ (rw p.2 at p.1) c.in_err-refusal.ensures

pub drain-high-requires : goal.drain-high-requires
unfolding refused
drain-high-requires c =
    let k = ready _ _ _ _ _ _ c.in_ok-refusal.ensures in
    ((lawful _ _ _ _ k.lawful).high, lent_rows _ _ k.lent-high)

pub drain-low-requires : goal.drain-low-requires
unfolding refused
drain-low-requires c =
    let k = ready _ _ _ _ _ _ c.in_ok-refusal.ensures in
    ((lawful _ _ _ _ k.lawful).low, lent_rows _ _ k.lent-low)

pub fresh-requires : goal.fresh-requires
unfolding refused
fresh-requires c = (lawful _ _ _ _ (ready _ _ _ _ _ _ c.in_ok-refusal.ensures).lawful).ts

pub returns-clause-told : goal.returns-clause-told
unfolding refused
returns-clause-told c =
    reset-renewed _ _ _ c.in_ok-refusal.ensures c.count_of-first.ensures c.drain-high.ensures c.count_of-second.ensures
    c.drain-low.ensures c.fresh.ensures
