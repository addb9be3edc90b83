use Rattle.std.proofs.Common.{refl, arith}
use Rattle.laid.proofs.Laws.{laid-copied}
use Rattle.laid.proofs.lay.Goals as goal

-- what is copied is the piece, laid from the place on
pub returns : goal.returns
returns c =
    let a = c.args in
    record { place = refl; left = rw c.copy_from_slice.ensures.after (laid-copied a.out.now a.at a.piece.now); near = omega arith }
