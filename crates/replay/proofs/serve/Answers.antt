-- `replay::serve` meets its contract: at the end of the input all that was read is the script, and the line at hand is
-- its last.
use Rattle.std.proofs.Common.{◌<◌, ap, arith, length, take, length-take-le}
use Rattle.std.specs.Io.KnownBytes.{Appends}
use Rattle.desk.specs.Desk.{begun_of, desk_of}
use Rattle.replay.specs.Script.{stand, answers}
use Rattle.replay.proofs.Whole.{served-none, served-on, served-all, served-many}
use Rattle.replay.proofs.serve.Goals as goal

pub loop-turn-init : goal.loop-turn-init
loop-turn-init g c =
    record {
      ready =
          record {
            few = c.unbegun-held.ensures.0;
            kept = omega arith;
            line = c.requires.0;
            arrays = c.requires.1;
          };
      served = served-none _ _ _;
    }

pub returns-then-n-eq0 : goal.returns-then-n-eq0
unfolding stand begun_of desk_of
returns-then-n-eq0 g c = λ h.
    let some : 0 < length c.read.new.buf = omega (arith, h) in
    served-all (g.R.Read.remaining c.read.new.self) (g.W.Write.contents c.heed.new.output)
    c.loop-turn.invariant.served (ap begun_of c.unbegun-held.ensures.1) (rw c.if-n-eq0.true at c.in_ok-n.ensures.bytes.0)
    (c.in_ok-n.ensures.bytes.1 c.if-n-eq0.true some) c.in_ok-heed.ensures.bytes

pub loop-turn-preserved : goal.loop-turn-preserved
loop-turn-preserved g c =
    let n = length-take-le c.in_ok-n.n c.read.new.buf c.in_ok-n.ensures.bound.0 in
    record {
      ready = c.in_ok-p.ensures.ready;
      served =
          served-on (take c.in_ok-n.n c.read.new.buf) c.loop-turn.invariant.served c.in_ok-n.ensures.bytes.0
          (omega (arith, n)) c.in_ok-p.ensures.stand c.in_ok-p.ensures.bytes (omega arith);
    }

pub returns : goal.returns
returns g c = λ h.
    served-many c.loop-turn.invariant.served (omega arith)
    (λ script. Appends (g.W.Write.contents c.args.output.now) (g.W.Write.contents c.loop-turn.output) (answers script))
