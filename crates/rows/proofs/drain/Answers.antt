-- `rows::drain` meets its contract: the loop keeps `Draining`, and each turn confirms one.
use mathlib.Core.Path.{refl}
use native.Mathlib.Omega.{arith}
use Rattle.rows.proofs.Draining.{draining-one, draining-fewer, draining-none}
use Rattle.rows.proofs.drain.Goals as goal

pub loop-init : goal.loop-init
loop-init c = (record { ruled = c.requires.0; lent = c.requires.1; places = refl; ends = refl }, omega arith)

pub confirm-rest-requires : goal.confirm-rest-requires
confirm-rest-requires c =
    let d = c.loop.invariant.0 in
    (d.ruled, (omega arith, (d.lent, omega arith)))

pub loop-preserved : goal.loop-preserved
loop-preserved c =
    let d = c.loop.invariant.0 in (
      draining-one d (omega arith) c.confirm-rest.ensures,
      omega (arith, draining-fewer d (omega arith) c.confirm-rest.ensures),
    )

pub returns : goal.returns
returns c = draining-none c.loop.invariant.0 (omega arith)
