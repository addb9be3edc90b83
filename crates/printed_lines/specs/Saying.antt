-- The replay script: the line of a call by what its caller is told, and all that a call leaves. Assumes nothing.
use Rattle.std.specs.Prelude.{ℕ, Option, List, ◌∷◌, ◌++◌, length}
use Rattle.choice.specs.Choice.{pick, same}
use Rattle.laid.specs.Laid.{laid}
use Rattle.request.specs.declared.Record.{Record}
use Rattle.state.specs.declared.Priority.{Priority}
use Rattle.state.specs.declared.State.{State}
use Rattle.state.specs.declared.Indication.{Indication}
use Rattle.state.specs.World.{Rows, Called, state_of, rows_of}
use Rattle.state.specs.Told.{telling, Leaves, leaves}
use Rattle.printed.specs.Printed.{w-ok, newline, refused_line, done_line, collected_line}
use Rattle.printed_lines.specs.declared.saying.Played.{Played}

-- "A line that is no call of this page .. prints `?`"
abbrev pub unknown_line : List ℕ
unknown_line = 0x3F ∷ newline

-- the line of start, submit and reset
unfoldable pub plain_line : ℕ → List ℕ
plain_line refused = pick (same refused 0) (w-ok ++ newline) (refused_line refused)

-- the line of frame, sent and slot
unfoldable pub answer_line : ℕ → ℕ → List ℕ → Option Indication → List ℕ → List ℕ
answer_line refused wait x i octets = pick (same refused 0) (done_line wait x i octets) (refused_line refused)

-- the line of collect, whose data are those of the place in the queue's area
unfoldable pub handed_line : ℕ → ℕ → Record → List ℕ → List ℕ
handed_line refused place r area = pick (same refused 0) (collected_line place r area) (refused_line refused)

-- by the events of a call
unfoldable pub plain_of : Called → List ℕ
plain_of d = plain_line (telling d.events).refused

unfoldable pub answer_of : List ℕ → Called → List ℕ
answer_of octets d =
    answer_line (telling d.events).refused (telling d.events).wait (telling d.events).octets
    (telling d.events).indication octets

unfoldable pub handed_of : Priority → Called → List ℕ
handed_of p d =
    handed_line (telling d.events).refused (telling d.events).place (telling d.events).entry
    (rows_of p d.world.site).area

-- what a line of the script does: the state and the rows with their data that it leaves, and the line that it prints
pub record Plays : Type 0 where
  pub state : State
  pub high : Rows
  pub low : Rows
  pub line : List ℕ

-- by a call, and the line that its events give
unfoldable pub playing : (Called → List ℕ) → Called → Plays
playing line d =
    record { state = state_of d.world; high = d.world.site.high; low = d.world.site.low; line = line d }

-- how a function does it: it answers the state, leaves the rows, and lays the line at the start of the text
unfoldable pub printing : Plays → List ℕ → Leaves Played
printing x text =
    leaves (record { state = x.state; length = length x.line }) x.high x.low (laid text 0 x.line)

abbrev pub played : (Called → List ℕ) → Called → List ℕ → Leaves Played
played line d text = printing (playing line d) text
