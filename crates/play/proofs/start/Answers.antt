-- `play::start` meets its contract: start with what the words of the line give it.
use Rattle.play.specs.Play.{start_by}
use Rattle.play.proofs.start.Goals as goal

pub returns : goal.returns
unfolding start_by
returns c =
    rw (
      c.settings.ensures,
      c.ts.ensures,
      c.masters.ensures,
      c.points.ensures,
      c.high.ensures,
      c.low.ensures,
    )
    at c.start.ensures
