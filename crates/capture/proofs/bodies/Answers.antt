-- `capture::bodies` meets its contract: the loop keeps `Walked`, and each way out lays all that was to come.
use Rattle.capture.specs.Listing.{bodies_at}
use native.Mathlib.Omega.{arith}
use Rattle.capture.proofs.Walk.{walked_none, walked-room, walked_more, walked-cut}
use Rattle.capture.proofs.Walk.{walked-last}
use Rattle.capture.proofs.bodies.Goals as goal

pub loop-i-init : goal.loop-i-init
unfolding bodies_at
loop-i-init c =
    walked_none c.args.s.now c.args.count c.args.out.now c.requires.1

pub length_of-n-requires : goal.length_of-n-requires
unfolding bodies_at
length_of-n-requires c = omega arith

pub cut-requires : goal.cut-requires
cut-requires c =
    let a = c.args in
    let l = c.loop-i in
    walked-room a.s.now a.count a.out.now l.out l.at l.i l.w c.requires.2 l.invariant 10
    (omega arith)

pub returns-then-s-at : goal.returns-then-s-at
returns-then-s-at c =
    let a = c.args in
    let l = c.loop-i in
    walked-cut a.s.now a.count a.out.now l.out l.at l.i l.w c.requires.2 l.invariant _ _
    c.loop-i-test.true (rw (← c.length_of-n.ensures.value) c.if-s-at.true)
    c.cut.ensures

pub line-w-requires : goal.line-w-requires
line-w-requires c =
    let a = c.args in
    let l = c.loop-i in
    walked-room a.s.now a.count a.out.now l.out l.at l.i l.w c.requires.2 l.invariant 34
    (omega arith)

pub loop-i-preserved : goal.loop-i-preserved
loop-i-preserved c =
    let a = c.args in
    let l = c.loop-i in
    let n = c.length_of-n.ensures.value in
    rw n
    (walked_more a.s.now a.count a.out.now l.out l.at l.i l.w c.requires.2 l.invariant _ _
    c.loop-i-test.true (rw (← n) c.if-s-at.false)
    (rw (← n, ← c.part.ensures) c.line-w.ensures))

pub last-requires : goal.last-requires
last-requires c =
    let a = c.args in
    let l = c.loop-i in
    walked-room a.s.now a.count a.out.now l.out l.at l.i l.w c.requires.2 l.invariant 10
    (omega arith)

pub returns : goal.returns
returns c =
    let a = c.args in
    let l = c.loop-i in
    walked-last a.s.now a.count a.out.now l.out l.at l.i l.w c.requires.2 l.invariant _ _
    c.loop-i-test.false c.last.ensures
