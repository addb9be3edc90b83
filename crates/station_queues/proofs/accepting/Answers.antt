-- `station_queues::accepting` meets its contract where the request was refused.
use Rattle.std.proofs.lemmas.Result.{err_from_is_err_and}
use Rattle.station_queues.proofs.Lent.{refused-for}
use Rattle.station_queues.proofs.accepting.Goals as goal

pub returns-in_err-t : goal.returns-in_err-t
returns-in_err-t c = λ q r.
    let e = err_from_is_err_and c.from_residual.result c.from_residual.ensures.1 in
    rw (e.1, e.2, c.in_err-t.was) (refused-for c.args.p c.args.s q r c.in_err-t.field-0.0)
