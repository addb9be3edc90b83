-- `play::submit` meets its contract: submit with what the words of the line give it.
use mathlib.Core.Path.{sym}
use lib.Seq.{length-take-le}
use Rattle.state.specs.Runs.{call}
use Rattle.play.specs.Play.{submit_by}
use Rattle.play.proofs.submit.Goals as goal

pub slice_bounds-submit-end : goal.slice_bounds-submit-end
slice_bounds-submit-end c =
    sym
    (length-take-le c.octets-n.result
    c.octets-n.new.out
    c.octets-n.ensures.1)

pub returns-clause-played : goal.returns-clause-played
unfolding submit_by call
returns-clause-played c =
    rw (
      ← c.queue-p.ensures,
      ← c.request-r.ensures,
      ← c.octets-n.ensures.0,
    ) c.submit.ensures.played
