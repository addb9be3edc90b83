-- `write::lay_octet` meets its contract: one octet is stored, and added.
use Rattle.std.proofs.Common.{refl, arith}
use Rattle.write.proofs.Adding.{adds_one}
use Rattle.write.proofs.lay_octet.Goals as goal

pub returns : goal.returns
returns c = adds_one c.args.out.now c.args.t _ c.args.x (omega arith) refl refl
