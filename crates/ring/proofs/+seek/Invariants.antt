-- The untried addresses grow fewer.
use Rattle.ring.proofs.+seek.Given as goal

abbrev pub decreases-seek : goal.decreases-seek
decreases-seek l = l.untried
