-- `station_queues::submit` meets its contract.
use mathlib.Core.Path.{refl}
use Rattle.std.proofs.lemmas.Result.{err_from_is_err_and}
use Rattle.refusal.specs.Refusal.{refused}
use Rattle.station_queues.proofs.Lent.{ready, submit-declined, submit-done}
use Rattle.station_queues.proofs.submit.Goals as goal

pub returns-in_err-refused_in : goal.returns-in_err-refused_in
unfolding refused
returns-in_err-refused_in c =
    let e = err_from_is_err_and c.from_residual.result c.from_residual.ensures.1 in
    submit-declined _ _ _ _ _ _ c.queue_of-q.ensures c.in_err-refused_in.ensures c.in_err-refused_in.field-0.0
    (rw e.2 at e.1) refl

pub limited-requires : goal.limited-requires
unfolding refused
limited-requires c = (ready c.args.s c.args.p c.args.row.now c.args.area.now c.queue_of-q.ensures c.in_ok-refused_in.ensures refl).limit

pub submit-t-requires : goal.submit-t-requires
unfolding refused
submit-t-requires c =
    let k = ready c.args.s c.args.p c.args.row.now c.args.area.now c.queue_of-q.ensures c.in_ok-refused_in.ensures refl in
    rw c.queue_of-q.ensures (k.ruled, k.lent)

pub returns : goal.returns
unfolding refused
returns c =
    submit-done _ _ _ _ _ _ c.queue_of-q.ensures c.in_ok-refused_in.ensures refl c.submit-t.result _
    (c.accepting.ensures _ _) (rw c.limited.ensures at c.submit-t.ensures)
