-- What the program's functions hand each other: the arrays as they are to be, and how much of the line is kept.
use Rattle.std.specs.Prelude.{ℕ, ◌≤◌, List, ◌≡◌, length}
use Rattle.typed_lines.specs.Intake.{ROOM}
use Rattle.desk.specs.declared.Held.{Held}
use Rattle.desk.specs.Desk.{Arrays, Few}

pub record Ready (h : Held) (count : ℕ) (l high harea low larea text : List ℕ) : Type 0 where
  pub few : Few h
  pub kept : count ≤ ROOM
  pub line : length l ≡ ROOM
  pub arrays : Arrays high harea low larea text
