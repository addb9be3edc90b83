-- `lister::list` meets its contract: what is kept of the input has the listing of the whole, and that is written.
use Rattle.std.proofs.Common.{◌≡◌, ◌≤◌, arith, length, take, length-take-le}
use Rattle.capture.specs.Listing.{LONGEST, ROOM, listing}
use Rattle.capture.proofs.Past.{listing-kept}
use Rattle.capture.proofs.Walk.{listing-front}
use Rattle.lister.proofs.Whole.{whole, handed}
use Rattle.lister.proofs.list.Goals as goal

pub returns : goal.returns
returns g c =
    let n = c.in_ok-n.n in
    let octets = c.read_full.new.octets in
    let s = take n octets in
    let all : length octets ≡ LONGEST = omega arith in
    let many : length s ≡ n = length-take-le n octets c.in_ok-n.ensures.within in
    let same =
    whole _ _ s (λ t e. listing-kept s t c.list-count.ensures.octets e)
    (λ h. c.in_ok-n.ensures.end (omega (arith, all, many))) c.in_ok-n.ensures.bytes in
    let room : ROOM ≤ length c.room-out.result = omega arith in
    let text : take c.list-count.result c.list-count.new.out ≡ listing s =
    rw (c.list-count.ensures.value, c.list-count.ensures.out_after) (listing-front s c.room-out.result room) in
    handed c.write_all.result (g.R.Read.remaining c.args.input.now) (g.W.Write.contents c.args.output.now)
    (g.W.Write.contents c.write_all.new.self) s (take c.list-count.result c.list-count.new.out) text same
    c.write_all.ensures.bytes
