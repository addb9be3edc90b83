-- `replay::take_in` meets its contract: what was gathered fits the line, and lies behind the place where it began.
use Rattle.std.proofs.Common.{arith, refl, ◌∙◌}
use lib.ListN.{drop_of_length-le}
use Rattle.replay.specs.Script.{stand}
use Rattle.replay.proofs.Taken.{gather-few, gather-on, turned, taken-none, taken-on, taken_all}
use Rattle.replay.proofs.take_in.Goals as goal

pub loop-at-init : goal.loop-at-init
loop-at-init g c =
    record {
      ready = c.requires;
      taken = taken-none _ c.args.block.now _;
      same = (refl, (refl, (refl, refl)));
    }

pub heed-requires : goal.heed-requires
heed-requires g c =
    let l = c.loop-at in
    let i = l.invariant.ready in
    record {
      few = i.few;
      kept = gather-few c.gather-g.ensures;
      line = c.gather-g.auto.line ∙ i.line;
      arrays = i.arrays;
    }

pub loop-at-preserved : goal.loop-at-preserved
unfolding stand
loop-at-preserved g c =
    let l = c.loop-at in
    let i = l.invariant.ready in
    record {
      ready = c.in_ok-p.ensures.ready;
      taken =
          taken-on l.invariant.taken
          (turned c.args.block.now l.at l.count l.line c.gather-g.new.line _ c.gather-g.result i.kept
          (omega (arith, i.kept, i.line)) c.loop-at-test.true c.gather-g.ensures) c.in_ok-p.ensures.stand
          c.in_ok-p.ensures.bytes;
      same = grind (arith, l.invariant.same, c.heed.ensures.same);
    }

pub loop-at-smaller : goal.loop-at-smaller
loop-at-smaller g c = omega (arith, gather-on c.loop-at-test.true c.gather-g.ensures)

pub returns : goal.returns
returns g c =
    let l = c.loop-at in
    let e = drop_of_length-le c.args.block.now c.loop-at-test.false in
    let k = taken_all (rw e at l.invariant.taken) in
    record { ready = l.invariant.ready; stand = k.0; bytes = k.1; same = l.invariant.same }
