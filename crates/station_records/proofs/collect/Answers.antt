-- `station_records::collect` meets its contract.
use mathlib.Core.Path.{refl}
use Rattle.std.proofs.Common.{rules}
use Rattle.std.proofs.lemmas.Result.{err_from_is_err_and}
use Rattle.refusal.specs.Refusal.{refused}
use Rattle.rows.specs.Rows.{handed}
use Rattle.records.specs.Records.{row_of}
use Rattle.station_queues.proofs.Lent.{ready, collect-declined, collect-done}
use Rattle.station_records.proofs.Places.{by_octets}
use Rattle.station_records.proofs.collect.Goals as goal

pub returns-in_err-refusal : goal.returns-in_err-refusal
unfolding refused
returns-in_err-refusal c =
    let f = by_octets _ c.args.s c.args.row.now c.args.area.now c.in_err-refusal.ensures in
    let e = err_from_is_err_and c.from_residual.result c.from_residual.ensures.1 in
    collect-declined _ _ _ _ c.queue_of-asked.ensures f c.in_err-refusal.field-0.0 (rw e.2 at e.1) refl

pub collect-c-requires : goal.collect-c-requires
unfolding refused
collect-c-requires c =
    let f = by_octets _ c.args.s c.args.row.now c.args.area.now c.in_ok-refusal.ensures in
    let k = ready c.args.s c.args.p (row_of c.args.row.now) c.args.area.now c.queue_of-asked.ensures f refl in
    rw c.queue_of-asked.ensures (search (rules, k.ruled, k.lent.places))

pub returns : goal.returns
unfolding refused handed
returns c =
    let f = by_octets _ c.args.s c.args.row.now c.args.area.now c.in_ok-refusal.ensures in
    collect-done _ _ _ _ c.queue_of-asked.ensures f refl c.collect-c.result _ c.returning.ensures (cc)
