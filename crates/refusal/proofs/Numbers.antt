-- No refusal has the number 0, and no two have the same, so a number tells its refusal. Assumes nothing.
use Rattle.std.specs.Prelude.{ℕ, ◌<◌, List, [], ◌∷◌}
use mathlib.Core.Path.{◌≡◌, refl, sym, ap, ◌∙◌}
use native.Mathlib.Omega.{arith}
use lib.ListN.{get_or}
use Rattle.refusal.specs.declared.Refusal.{Refusal}
use Rattle.refusal.specs.declared.Refusal.TheVariants.{Empty, NoStart, Short, Length, Count, End, Checksum, Address}
use Rattle.refusal.specs.declared.Refusal.TheVariants.{Control, Point, ToAll, Unit, Output, Setting, Row, Room}
use Rattle.refusal.specs.declared.Refusal.TheVariants.{Destination, AccessPoint, Service, Data, Full, NoneConfirmed}
use Rattle.refusal.specs.declared.Refusal.TheVariants.{State, Limit}
use Rattle.refusal.specs.Refusal.{number}

pub above_zero : (r : Refusal) → 0 < number r
unfolding number
above_zero Empty = omega arith
above_zero NoStart = omega arith
above_zero Short = omega arith
above_zero Length = omega arith
above_zero Count = omega arith
above_zero End = omega arith
above_zero Checksum = omega arith
above_zero Address = omega arith
above_zero Control = omega arith
above_zero Point = omega arith
above_zero ToAll = omega arith
above_zero Unit = omega arith
above_zero Output = omega arith
above_zero Setting = omega arith
above_zero Row = omega arith
above_zero Room = omega arith
above_zero Destination = omega arith
above_zero AccessPoint = omega arith
above_zero Service = omega arith
above_zero Data = omega arith
above_zero Full = omega arith
above_zero NoneConfirmed = omega arith
above_zero State = omega arith
above_zero Limit = omega arith

-- the refusals in the order of their numbers, with Limit at 0 and at 14 to 19, which are no refusal's
abbrev in-order : List Refusal
in-order =
    Limit ∷ Empty ∷ NoStart ∷ Short ∷ Length ∷ Count ∷ End ∷ Checksum ∷ Address ∷ Control ∷ Point ∷ ToAll ∷ Unit
    ∷ Output ∷ Limit ∷ Limit ∷ Limit ∷ Limit ∷ Limit ∷ Limit ∷ Setting ∷ Row ∷ Room ∷ Destination ∷ AccessPoint
    ∷ Service ∷ Data ∷ Full ∷ NoneConfirmed ∷ State ∷ Limit ∷ []

-- the refusal of a number
abbrev pub named : ℕ → Refusal
named n = get_or in-order n Limit

pub named-number : (r : Refusal) → named (number r) ≡ r
unfolding number
named-number Empty = refl
named-number NoStart = refl
named-number Short = refl
named-number Length = refl
named-number Count = refl
named-number End = refl
named-number Checksum = refl
named-number Address = refl
named-number Control = refl
named-number Point = refl
named-number ToAll = refl
named-number Unit = refl
named-number Output = refl
named-number Setting = refl
named-number Row = refl
named-number Room = refl
named-number Destination = refl
named-number AccessPoint = refl
named-number Service = refl
named-number Data = refl
named-number Full = refl
named-number NoneConfirmed = refl
named-number State = refl
named-number Limit = refl

pub number-same : (r q : Refusal) → number r ≡ number q → r ≡ q
number-same r q e = sym (named-number r) ∙ ap named e ∙ named-number q
