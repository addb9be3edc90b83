-- `request::write` meets its contract: the octets laid are the record's; the highest of a reference is below 256.
use Rattle.std.proofs.Common.{arith, ◌≡◌, ◌/◌, ◌%◌}
use Rattle.request.specs.Record.{octets, reference_octets}
use Rattle.request.proofs.write.Goals as goal

pub returns : goal.returns
unfolding octets reference_octets
returns c =
    let top : c.args.r.reference / 16777216 % 256 ≡ c.args.r.reference / 16777216 = omega arith in
    rw (c.to_le_bytes.ensures, top, c.flag.ensures) at c.lay.ensures.left
