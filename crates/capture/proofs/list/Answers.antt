-- `capture::list` meets its contract: each return lays the listing of its case at the start.
use Rattle.std.proofs.Common.{refl, arith}
use Rattle.choice.proofs.Rules.{if-less, unless-less}
use Rattle.frame_laws.proofs.Held.{octets-held}
use Rattle.capture.specs.Listing.{end_short, end_count, bodies_at, listing, listed, left, lines}
use Rattle.capture.proofs.Walk.{listed-laid}
use Rattle.capture.proofs.list.Goals as goal

pub returns-then-out-lt-ROOM : goal.returns-then-out-lt-ROOM
unfolding listed left
returns-then-out-lt-ROOM c =
    record {
      octets = octets-held c.args.s.now c.type_inv.s;
      value = if-less _ c.if-out-lt-ROOM.true refl;
      out_after = if-less _ c.if-out-lt-ROOM.true refl;
      upper_bound = omega arith;
    }

pub returns-then-s-lt2 : goal.returns-then-s-lt2
unfolding listing
returns-then-s-lt2 c =
    let a = c.args in
    let k =
    listed-laid a.s.now a.out.now end_short 10 _ _ c.if-out-lt-ROOM.false (omega arith)
    (if-less _ c.if-s-lt2.true refl) c.cut.ensures in
    record { octets = octets-held a.s.now c.type_inv.s; value = k.0; out_after = k.1.0; upper_bound = k.1.1 }

pub returns-then-count-gt4096 : goal.returns-then-count-gt4096
unfolding listing
returns-then-count-gt4096 c =
    let a = c.args in
    let n = c.count_of-count.ensures in
    let k =
    listed-laid a.s.now a.out.now end_count 10 _ _ c.if-out-lt-ROOM.false (omega arith)
    (unless-less _ c.if-s-lt2.false (if-less _ (rw (← n) c.if-count-gt4096.true) refl)) c.lay.ensures in
    record { octets = octets-held a.s.now c.type_inv.s; value = k.0; out_after = k.1.0; upper_bound = k.1.1 }

pub returns-then-s-count : goal.returns-then-s-count
unfolding listing bodies_at
returns-then-s-count c =
    let a = c.args in
    let n = c.count_of-count.ensures in
    let k =
    listed-laid a.s.now a.out.now end_short 10 _ _ c.if-out-lt-ROOM.false (omega arith)
    (unless-less _ c.if-s-lt2.false
    (unless-less _ (rw (← n) c.if-count-gt4096.false) (if-less _ (rw (← n) c.if-s-count.true) refl)))
    c.cut-then-s-count.ensures in
    record { octets = octets-held a.s.now c.type_inv.s; value = k.0; out_after = k.1.0; upper_bound = k.1.1 }

pub bodies-requires : goal.bodies-requires
unfolding bodies_at
bodies-requires c = omega arith

pub returns : goal.returns
unfolding listing bodies_at
returns c =
    let a = c.args in
    let n = c.count_of-count.ensures in
    let k =
    listed-laid a.s.now a.out.now (lines a.s.now 0 c.count_of-count.result (bodies_at c.count_of-count.result)) _ _ _
    c.if-out-lt-ROOM.false (omega arith)
    (unless-less _ c.if-s-lt2.false
    (unless-less _ (rw (← n) c.if-count-gt4096.false) (unless-less _ (rw (← n) c.if-s-count.false) (cc))))
    c.bodies.ensures in
    record { octets = octets-held a.s.now c.type_inv.s; value = k.0; out_after = k.1.0; upper_bound = k.1.1 }
