-- `write::lay_extension` meets its contract: nothing is laid, or the point.
use Rattle.std.proofs.Common.{refl, arith}
use Rattle.frame.specs.Format.{extension}
use Rattle.write.proofs.Adding.{adds-nil}
use Rattle.write.proofs.lay_extension.Goals as goal

pub returns-in-None : goal.returns-in-None
unfolding extension
returns-in-None c = rw c.in-None.is (adds-nil _ _ _ (omega arith) refl refl)
