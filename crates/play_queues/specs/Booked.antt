-- What submit and collect leave where one queue's row is lent: the answer, that row with its data, and the text.
-- Assumes nothing.
use Rattle.std.specs.Prelude.{ℕ, List, length}
use Rattle.laid.specs.Laid.{laid}
use Rattle.state.specs.declared.Priority.{Priority}
use Rattle.state.specs.World.{Rows, Called, state_of, rows_of}
use Rattle.printed_lines.specs.declared.saying.Played.{Played}

pub record Booked : Type 0 where
  pub answer : Played
  pub rows : Rows
  pub text : List ℕ

abbrev pub booked : Played → Rows → List ℕ → Booked
booked a r text = record { answer = a; rows = r; text = text }

unfoldable pub booked_of : Priority → (Called → List ℕ) → Called → List ℕ → Booked
booked_of p line d text =
    booked (record { state = state_of d.world; length = length (line d) }) (rows_of p d.world.site)
    (laid text 0 (line d))
