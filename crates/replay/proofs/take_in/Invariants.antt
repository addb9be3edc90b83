-- `replay::take_in`'s loop: the arrays are as long as they were, and the line fits; what was written, and what the rest
-- of the block leaves and prints, is what the block does. Each turn takes more of the block.
use Rattle.std.proofs.Common.{length, drop, ◌-◌}
use Rattle.state.specs.Told.{SameRows}
use Rattle.replay.specs.Lent.{ReadyIn, stand_in}
use Rattle.replay.proofs.Taken.{Taken}
use Rattle.replay.proofs.take_in.Given as goal

abbrev pub invariant-loop-at : goal.invariant-loop-at
invariant-loop-at g l =
    record {
      ready : ReadyIn (record { held = l.held; count = l.count }) l.line l.rows l.text;
      taken : Taken (g.W.Write.contents l.initial.output) (g.W.Write.contents l.output) l.block (drop l.at l.block)
          (stand_in l.fn.p l.fn.line l.fn.rows)
          (stand_in (record { held = l.held; count = l.count }) l.line l.rows);
      same : SameRows l.fn.rows l.rows;
    }

abbrev pub decreases-loop-at : goal.decreases-loop-at
decreases-loop-at g l = length l.block - l.at
