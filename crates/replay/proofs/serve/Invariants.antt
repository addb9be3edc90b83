-- `replay::serve`'s loop: the arrays are as long as they were, and the line fits; what was read was taken in, and what
-- it prints was written.
use Rattle.std.proofs.Common.{◌-◌}
use Rattle.replay.specs.Lent.{ReadyIn, stand_in}
use Rattle.replay.specs.Script.{READS}
use Rattle.replay.proofs.Whole.{Served}
use Rattle.replay.proofs.serve.Given as goal

abbrev pub invariant-loop-turn : goal.invariant-loop-turn
invariant-loop-turn g l =
    record {
      ready : ReadyIn (record { held = l.held; count = l.count }) l.line l.rows l.text;
      served : Served (g.R.Read.remaining l.initial.input) (g.R.Read.remaining l.input)
          (g.W.Write.contents l.initial.output) (g.W.Write.contents l.output) (READS - l._turn)
          (stand_in (record { held = l.initial.held; count = l.initial.count }) l.initial.line l.initial.rows)
          (stand_in (record { held = l.held; count = l.count }) l.line l.rows);
    }
