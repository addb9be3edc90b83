-- `lister::longest` meets its contract: so many zeros are so many.
use Prim.Native.Nat.{ℕ}
use lib.ListN.{length-replicate}
use Rattle.lister.proofs.longest.Goals as goal

pub returns : goal.returns
returns c = length-replicate {A = ℕ} 1064963 0
