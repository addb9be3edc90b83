-- `write::lay_body` meets its contract: three octets and the unit, each laid behind the last and added up.
use Rattle.std.proofs.Common.{arith}
use Rattle.frame.specs.Format.{body}
use Rattle.frame.proofs.Lengths.{length-body}
use Rattle.write.proofs.Adding.{adds_then}
use Rattle.write.proofs.lay_body.Goals as goal

pub lay_octet-first-requires : goal.lay_octet-first-requires
lay_octet-first-requires c = omega (arith, length-body c.args.h c.args.«data».now)

pub lay_octet-second-requires : goal.lay_octet-second-requires
lay_octet-second-requires c =
    omega (arith, length-body c.args.h c.args.«data».now, c.lay_octet-first.ensures.lays.place)

pub lay_octet-third-requires : goal.lay_octet-third-requires
lay_octet-third-requires c =
    let first = c.lay_octet-first.ensures in
    omega (arith, length-body c.args.h c.args.«data».now, first.lays.place, c.lay_octet-second.ensures.lays.place)

pub lay_unit-requires : goal.lay_unit-requires
lay_unit-requires c =
    let n = length-body c.args.h c.args.«data».now in
    let first = c.lay_octet-first.ensures in
    let second = c.lay_octet-second.ensures in
    omega (arith, n, first.lays.place, second.lays.place, c.lay_octet-third.ensures.lays.place)

pub returns : goal.returns
unfolding body
returns c =
    let n = length-body c.args.h c.args.«data».now in
    let first = c.lay_octet-first.ensures in
    let second = c.lay_octet-second.ensures in
    let third = c.lay_octet-third.ensures in
    rw (← c.addressed.ensures, ← c.addressed-2.ensures, ← c.requires.control_value)
    (adds_then (omega (arith, n)) first
    (adds_then (omega (arith, n, first.lays.place)) second
    (adds_then (omega (arith, n, first.lays.place, second.lays.place)) third c.lay_unit.ensures)))
