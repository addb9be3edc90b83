-- `rows::drain` meets its contract: the loop keeps `Draining`, and each turn confirms one.
use Prim.Native.Nat.{◌+◌}
use mathlib.Core.Path.{◌≡◌}
use Rattle.rows.proofs.Draining.{Draining}
use Rattle.rows.proofs.drain.Given as goal

abbrev pub invariant-loop : goal.invariant-loop
invariant-loop l =
    (Draining l.initial.rest l.count l.initial.row l.initial.area l.rest l.sendings l.row l.area)
    × (l.rest.unconfirmed + l.counter ≡ l.initial.rest.unconfirmed)
