-- `replay::heed` meets its contract: a line that is whole is answered, and what it prints is written.
use Rattle.std.proofs.Common.{[], ap, subst, arith}
use Rattle.std.specs.Io.KnownBytes.{Appends}
use Rattle.std.proofs.KnownBytes.{Appends-nil}
use Rattle.choice.specs.Choice.{pick}
use Rattle.desk.specs.Desk.{Desk}
use Rattle.replay.specs.Script.{stand, heeded, heeded_line}
use Rattle.replay.proofs.Taken.{at, printed}
use Rattle.replay.proofs.heed.Goals as goal

pub returns-then-not-whole-clause-stand : goal.returns-then-not-whole-clause-stand
unfolding heeded pick
returns-then-not-whole-clause-stand g c = rw c.if-not-whole.true

pub returns-then-not-whole-clause-bytes : goal.returns-then-not-whole-clause-bytes
unfolding heeded_line pick
returns-then-not-whole-clause-bytes g c = rw c.if-not-whole.true (Appends-nil (g.W.Write.contents c.args.output.now))

pub returns-clause-stand : goal.returns-clause-stand
unfolding heeded pick stand
returns-clause-stand g c = rw c.if-not-whole.false (ap (λ (d : Desk). at d []) c.answer-s.ensures.answers.desk)

pub returns-clause-bytes : goal.returns-clause-bytes
unfolding heeded_line pick stand
returns-clause-bytes g c =
    rw c.if-not-whole.false
    (subst (Appends (g.W.Write.contents c.args.output.now) (g.W.Write.contents c.write_all.new.self))
    (printed c.answer-s.ensures.answers.line) c.in_ok-write_all.ensures.bytes)

pub returns-clause-ready : goal.returns-clause-ready
returns-clause-ready g c =
    record {
      few = c.answer-s.ensures.answers.few;
      kept = omega arith;
      line = c.requires.line;
      arrays = c.answer-s.ensures.arrays;
    }
