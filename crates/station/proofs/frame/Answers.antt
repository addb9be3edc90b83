-- `station::frame` meets its contract.
use Rattle.std.proofs.lemmas.Result.{err_from_is_err_and}
use Rattle.state.specs.Told.{answered_by, heard_by}
use Rattle.state.specs.World.{world_of}
use Rattle.state.specs.Runs.{call, frame}
use Rattle.station.proofs.Answered.{answered, unanswered}
use Rattle.station.proofs.frame.Goals as goal

pub returns-in_err-h-clause-told : goal.returns-in_err-h-clause-told
unfolding call world_of
returns-in_err-h-clause-told c =
    let e = err_from_is_err_and c.from_residual.result c.from_residual.ensures.1 in
    rw (rw e.2 at e.1) (unanswered (frame c.args.clock.0 c.args.caller.room c.args.caller.high.now c.args.caller.low.now c.args.octets.now _) _ _ _ _ _ c.in_err-h.ensures.stands)

pub returns-clause-told : goal.returns-clause-told
unfolding answered_by heard_by world_of
returns-clause-told c = rw c.answer.ensures (answered _ _ c.in_ok-h.ensures.stands)
