-- The replay script: what the program holds, "one station, its two rows with their data", and what each line does to
-- it. Assumes nothing.
use Rattle.std.specs.Prelude.{ℕ, ◌*◌, ◌≤◌, ◌≡◌, Bool, true, false, List, [], length, take, get_or, replicate}
use Rattle.std.specs.Prelude.{Option, None, Some}
use Rattle.choice.specs.Choice.{pick, less, same, said}
use Rattle.laid.specs.Laid.{laid, Lays}
use Rattle.request.specs.Record.{SIZE}
use Rattle.queue.specs.Queue.{AREA}
use Rattle.typed.specs.Places.{LONGEST}
use Rattle.typed_call.specs.declared.script.Call.{Call}
use Rattle.typed_call.specs.declared.script.Call.TheVariants.{Unknown, Start, Submit, Frame, Sent, Slot, Reset}
use Rattle.typed_call.specs.declared.script.Call.TheVariants.{Collect, Show}
use Rattle.typed_call.specs.Script.{call_of}
use Rattle.typed_call.specs.Operands.{high_of, low_of}
use Rattle.state.specs.declared.State.{State}
use Rattle.state.specs.World.{Rows, rows}
use Rattle.state.specs.Told.{blank}
use Rattle.state.specs.Calls.{Started, Unstarted, Station}
use Rattle.printed_lines.specs.Saying.{unknown_line, plain_line, Plays}
use Rattle.play.specs.Play.{start_by, played_by}
use Rattle.desk.specs.declared.Held.{Held}
use Rattle.desk.specs.declared.Said.{Said}

-- whether a start was accepted, and the station with its rows since then
pub record Desk : Type 0 where
  pub begun : Bool
  pub state : State
  pub high : Rows
  pub low : Rows

-- what a line does: the desk that it leaves, and what it prints
pub record Answered : Type 0 where
  pub desk : Desk
  pub line : List ℕ

abbrev pub says : List ℕ → Desk → Answered
says line d = record { desk = d; line = line }

-- a cleared row of so many places, "lends rows of just these lengths"
unfoldable pub cleared : ℕ → Rows
cleared n = rows (replicate (SIZE * n) 0) (replicate (AREA * n) 0)

-- "An accepted `start` replaces the station and clears the rows; a refused one leaves the old station."
unfoldable pub starting : Started → ℕ → ℕ → Desk → Answered
starting (Unstarted n) high low d = says (plain_line n) d
starting (Station s) high low d =
    says (plain_line 0) (record { begun = true; state = s; high = cleared high; low = cleared low })

unfoldable pub started : Plays → Answered
started x = says x.line (record { begun = true; state = x.state; high = x.high; low = x.low })

-- "Before the first accepted `start` every other call prints `?`."
unfoldable pub answer_other : Call → List ℕ → Desk → Answered
answer_other c l d =
    pick d.begun (started (played_by c l d.state d.high d.low)) (says unknown_line d)

unfoldable pub starts : Call → Bool
starts Unknown = false
starts Start = true
starts Submit = false
starts Frame = false
starts Sent = false
starts Slot = false
starts Reset = false
starts Collect = false
starts Show = false

unfoldable pub answer_by : Call → List ℕ → Desk → Answered
answer_by c l d =
    pick (said (starts c)) (starting (start_by l) (high_of l) (low_of l) d) (answer_other c l d)

-- "Empty lines and lines whose first character is `#` print nothing, however long they are. Any other line is at most
-- 4096 characters without its line end": a longer one "prints `?` and changes nothing"
unfoldable pub answer : List ℕ → Desk → Answered
answer l d =
    pick (same (length l) 0) (says [] d)
    (pick (same (get_or l 0 0) 0x23) (says [] d)
    (pick (less LONGEST (length l)) (says unknown_line d) (answer_by (call_of l) l d)))

-- what is held of the station: whether a start was accepted, and the state; a blank one, which no line reads, before
unfoldable pub begun_of : Option State → Bool
begun_of None = false
begun_of (Some s) = true

unfoldable pub state_of : Option State → State
state_of None = blank
state_of (Some s) = s

-- the desk that is held, where each row is the first places of an array
unfoldable pub desk_of : Held → List ℕ → List ℕ → List ℕ → List ℕ → Desk
desk_of h high harea low larea =
    record {
      begun = begun_of h.state;
      state = state_of h.state;
      high = rows (take (SIZE * h.high) high) (take (AREA * h.high) harea);
      low = rows (take (SIZE * h.low) low) (take (AREA * h.low) larea);
    }

-- the arrays: 64 places for each row, and room for any line
pub record Arrays (h ha l la t : List ℕ) : Type 0 where
  pub high : length h ≡ SIZE * 64
  pub harea : length ha ≡ AREA * 64
  pub low : length l ≡ SIZE * 64
  pub larea : length la ≡ AREA * 64
  pub text : length t ≡ 8192

pub record Few (h : Held) : Type 0 where
  pub high : h.high ≤ 64
  pub low : h.low ≤ 64

-- how a function does what a line does: it leaves the desk, each row at the start of its array and all behind it as it
-- was, and lays what is printed at the start of the text
pub record Answers (a : Answered) (high harea low larea text : List ℕ) (r : Said)
    (high' harea' low' larea' text' : List ℕ) : Type 0 where
  pub desk : desk_of r.held high' harea' low' larea' ≡ a.desk
  pub upper : high' ≡ laid high 0 a.desk.high.row
  pub upper_area : harea' ≡ laid harea 0 a.desk.high.area
  pub lower : low' ≡ laid low 0 a.desk.low.row
  pub lower_area : larea' ≡ laid larea 0 a.desk.low.area
  pub line : Lays text 0 a.line 8192 r.length text'
  pub few : Few r.held
