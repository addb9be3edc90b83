-- `typed::places::numbers` meets its contract. The loop's invariant: the words still to come fit if all do.
use Rattle.std.proofs.Common.{◌≡◌, ◌+◌, ◌-◌}
use Rattle.typed.specs.Places.{numbers}
use Rattle.typed.proofs.places.numbers.Given as goal

abbrev pub invariant-loop-at : goal.invariant-loop-at
invariant-loop-at l = numbers l.s l.at (l.k + l.n - l.at) l.most ≡ numbers l.s l.k l.n l.most
