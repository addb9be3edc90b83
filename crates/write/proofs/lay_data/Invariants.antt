-- `write::lay_data` meets its contract. The loop's invariant: the octets passed are laid and added up.
use Rattle.std.proofs.Common.{◌≡◌, ◌+◌, length, take}
use Rattle.write.specs.Adding.{Adds}
use Rattle.write.proofs.lay_data.Given as goal

abbrev pub invariant-loop-i : goal.invariant-loop-i
invariant-loop-i l =
    (length l.out ≡ length l.initial.out)
    × Adds l.initial.out l.t (take l.i l.«data») (record { at = l.t.at + l.i; sum = l.sum }) l.out
