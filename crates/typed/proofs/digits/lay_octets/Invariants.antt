-- `typed::digits::lay_octets` meets its contract. The loop's invariant: with the octets still to come laid, all are.
use Rattle.std.proofs.Common.{◌≡◌, ◌*◌, length, drop}
use Rattle.laid.specs.Laid.{laid}
use Rattle.typed.specs.Digits.{octets}
use Rattle.typed.proofs.digits.lay_octets.Given as goal

abbrev pub invariant-loop-k : goal.invariant-loop-k
invariant-loop-k l =
    (length l.out ≡ length l.initial.out) × (laid l.out l.k (octets (drop (2 * l.k) l.s)) ≡ laid l.initial.out 0 (octets l.s))
