-- `station_queues::collect` meets its contract.
use mathlib.Core.Path.{refl}
use Rattle.std.proofs.lemmas.Result.{err_from_is_err_and}
use Rattle.refusal.specs.Refusal.{refused}
use Rattle.station_queues.proofs.Lent.{ready, collect-declined, collect-done}
use Rattle.station_queues.proofs.collect.Goals as goal

pub returns-in_err-refused_in : goal.returns-in_err-refused_in
unfolding refused
returns-in_err-refused_in c =
    let e = err_from_is_err_and c.from_residual.result c.from_residual.ensures.1 in
    collect-declined _ _ _ _ c.queue_of-asked.ensures c.in_err-refused_in.ensures c.in_err-refused_in.field-0.0
    (rw e.2 at e.1) refl

pub collect-c-requires : goal.collect-c-requires
unfolding refused
collect-c-requires c =
    let k = ready c.args.s c.args.p c.args.row.now c.args.area.now c.queue_of-asked.ensures c.in_ok-refused_in.ensures refl in
    rw c.queue_of-asked.ensures (k.ruled, k.lent.places)

pub returns : goal.returns
unfolding refused
returns c =
    collect-done _ _ _ _ c.queue_of-asked.ensures c.in_ok-refused_in.ensures refl c.collect-c.result _
    c.returning.ensures c.collect-c.ensures
