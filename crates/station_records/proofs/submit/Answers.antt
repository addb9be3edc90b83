-- `station_records::submit` meets its contract.
use mathlib.Core.Path.{refl}
use Rattle.std.proofs.lemmas.Result.{err_from_is_err_and}
use Rattle.refusal.specs.Refusal.{refused}
use Rattle.records.specs.Records.{row_of}
use Rattle.station_queues.proofs.Lent.{ready, submit-declined, submit-done}
use Rattle.station_records.proofs.Places.{by_octets}
use Rattle.station_records.proofs.submit.Goals as goal

pub returns-in_err-refusal : goal.returns-in_err-refusal
unfolding refused
returns-in_err-refusal c =
    let f = by_octets _ c.args.s c.args.row.now c.args.area.now c.in_err-refusal.ensures in
    let e = err_from_is_err_and c.from_residual.result c.from_residual.ensures.1 in
    submit-declined _ _ _ _ _ _ c.queue_of-q.ensures f c.in_err-refusal.field-0.0 (rw e.2 at e.1) refl

pub limited-own-requires : goal.limited-own-requires
unfolding refused
limited-own-requires c =
    let f = by_octets _ c.args.s c.args.row.now c.args.area.now c.in_ok-refusal.ensures in
    (ready c.args.s c.args.p (row_of c.args.row.now) c.args.area.now c.queue_of-q.ensures f refl).limit

pub submit-t-requires : goal.submit-t-requires
unfolding refused
submit-t-requires c =
    let f = by_octets _ c.args.s c.args.row.now c.args.area.now c.in_ok-refusal.ensures in
    let k = ready c.args.s c.args.p (row_of c.args.row.now) c.args.area.now c.queue_of-q.ensures f refl in
    rw c.queue_of-q.ensures (k.ruled, k.lent)

pub returns : goal.returns
unfolding refused
returns c =
    let f = by_octets _ c.args.s c.args.row.now c.args.area.now c.in_ok-refusal.ensures in
    submit-done _ _ _ _ _ _ c.queue_of-q.ensures f refl c.submit-t.result _ (c.accepting.ensures _ _)
    (rw c.limited-own.ensures at c.submit-t.ensures)
