-- `phases::awaited` meets its contract: the data of a frame that was read are at most 246 octets.
use mathlib.Core.Path.{sym}
use Rattle.frame.specs.Reading.{answered}
use Rattle.phases.proofs.Read.{data-most}
use Rattle.phases.proofs.awaited.Goals as goal

pub conclude-requires : goal.conclude-requires
unfolding answered
conclude-requires c =
    let p = c.requires in
    (p.0, (p.1.0, (rw (c.data_of-x.ensures, c.in-Ok.p-is) (data-most _ _ _ (sym c.in-Ok.ensures)), p.1.1)))
