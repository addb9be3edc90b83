-- `write::lay_unit` meets its contract: three pieces, each laid behind the last and added up.
use Rattle.std.proofs.Common.{arith, length-append}
use Rattle.frame.specs.Format.{unit}
use Rattle.frame.proofs.Lengths.{length-unit}
use Rattle.write.proofs.Adding.{adds_then}
use Rattle.write.proofs.lay_unit.Goals as goal

pub lay_extension-second-requires : goal.lay_extension-second-requires
lay_extension-second-requires c = omega (arith, length-unit c.args.h c.args.«data».now)

pub lay_extension-third-requires : goal.lay_extension-third-requires
lay_extension-third-requires c =
    omega (arith, length-unit c.args.h c.args.«data».now, c.lay_extension-second.ensures.lays.place)

pub lay_data-requires : goal.lay_data-requires
lay_data-requires c =
    let first = c.lay_extension-second.ensures in
    omega (arith, length-unit c.args.h c.args.«data».now, first.lays.place, c.lay_extension-third.ensures.lays.place)

pub returns : goal.returns
unfolding unit
returns c =
    let n = length-unit c.args.h c.args.«data».now in
    let first = c.lay_extension-second.ensures in
    let second = c.lay_extension-third.ensures in
    adds_then (simp length-append (omega (arith, n))) first
    (adds_then (omega (arith, n, first.lays.place)) second c.lay_data.ensures)
