-- Document 01: the numbers of the refusals, and what a call answers by number. Assumes nothing.
use Rattle.std.specs.Prelude.{ℕ, Result, Ok, Err}
use Rattle.refusal.specs.declared.Refusal.{Refusal}
use Rattle.refusal.specs.declared.Refusal.TheVariants.{Empty, NoStart, Short, Length, Count, End, Checksum, Address}
use Rattle.refusal.specs.declared.Refusal.TheVariants.{Control, Point, ToAll, Unit, Output, Setting, Row, Room}
use Rattle.refusal.specs.declared.Refusal.TheVariants.{Destination, AccessPoint, Service, Data, Full, NoneConfirmed}
use Rattle.refusal.specs.declared.Refusal.TheVariants.{State, Limit}

-- "Frame refusals": 1 to 11 of a string of octets, 8 to 13 of what is to be written; "Station refusals": 20 to 29, and
-- 30 of a retry limit over 15
unfoldable pub number : Refusal → ℕ
number Empty = 1
number NoStart = 2
number Short = 3
number Length = 4
number Count = 5
number End = 6
number Checksum = 7
number Address = 8
number Control = 9
number Point = 10
number ToAll = 11
number Unit = 12
number Output = 13
number Setting = 20
number Row = 21
number Room = 22
number Destination = 23
number AccessPoint = 24
number Service = 25
number Data = 26
number Full = 27
number NoneConfirmed = 28
number State = 29
number Limit = 30

-- the number by which a call is refused, 0 if it is not
unfoldable pub refused : {A : Type 0} → Result A Refusal → ℕ
refused (Ok a) = 0
refused (Err r) = number r
