-- `typed::digits::put_hex` meets its contract. The loop's invariant: with the digits still to come laid, all are.
use Rattle.std.proofs.Common.{◌≡◌, ◌+◌, ◌*◌, length, drop}
use Rattle.laid.specs.Laid.{laid}
use Rattle.typed.specs.Digits.{hex_of}
use Rattle.typed.proofs.digits.put_hex.Given as goal

abbrev pub invariant-loop-i : goal.invariant-loop-i
invariant-loop-i l =
    (length l.out ≡ length l.initial.out)
    × (laid l.out (l.at + 2 * l.i) (hex_of (drop l.i l.x)) ≡ laid l.initial.out l.at (hex_of l.x))
