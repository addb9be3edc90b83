-- `printed_lines::shown::joined` meets its contract. The loop's invariant: with the masters still to come laid, all
-- are.
use Prim.Native.Nat.{◌+◌, ◌-◌, ◌*◌, ◌≤◌}
use mathlib.Core.Bool.{true}
use Rattle.printed.specs.Printed.{joined}
use Rattle.printed_lines.proofs.shown.Masters.{Comes}
use Rattle.printed_lines.proofs.shown.joined.Given as goal

abbrev pub invariant-loop-a : goal.invariant-loop-a
invariant-loop-a l =
    (l.w ≤ l.at + 4 * l.a)
    × Comes l.initial.out l.at (joined true 127 0 l.masters) l.w (joined l.first (127 - l.a) l.a l.masters) l.out
