-- `write::lay_data` meets its contract. The loop's invariant: the octets passed are laid and added up.
use Rattle.std.proofs.Common.{refl, ◌∙◌, arith, length-set}
use Rattle.write.proofs.Adding.{adds-nil, adds-more}
use Rattle.write.proofs.lay_data.Goals as goal

pub loop-i-init : goal.loop-i-init
loop-i-init c = (refl, adds-nil _ _ _ (omega arith) (omega arith) refl)

pub loop-i-preserved : goal.loop-i-preserved
loop-i-preserved c =
    let l = c.loop-i in (
      length-set l.out _ _ ∙ l.invariant.0,
      adds-more c.args.«data».now l.i l.sum _ (omega arith) (omega arith) l.invariant.1 refl,
    )
