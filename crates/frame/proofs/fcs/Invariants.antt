-- `frame::fcs`: the sum so far is the FCS of the octets passed. Assumes nothing.
use Rattle.std.proofs.Common.{◌≡◌, take}
use Rattle.frame.specs.Format.{fcs}
use Rattle.frame.proofs.fcs.Given as goal

abbrev pub invariant-loop-octet : goal.invariant-loop-octet
invariant-loop-octet l = l.sum ≡ fcs (take l.octet-index l.body)
