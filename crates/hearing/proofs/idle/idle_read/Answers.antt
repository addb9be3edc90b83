-- `hearing::idle::idle_read` meets its contract.
use mathlib.Core.Path.{sym}
use Rattle.frame.specs.Reading.{answered}
use Rattle.hearing.proofs.idle.Frames.{sound-read}
use Rattle.hearing.proofs.idle.idle_read.Goals as goal

pub idle-requires : goal.idle-requires
unfolding answered
idle-requires c =
    (rw c.in-Ok.f-is (sound-read _ (sym c.in-Ok.ensures)), c.requires)
