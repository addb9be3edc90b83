-- Runs: a start, then any list of calls, each given the state and the rows with their data as the call before left
-- them. The events of a run are what happened in its calls. Assumes nothing.
use Rattle.std.specs.Prelude.{ℕ, ◌+◌, ◌*◌, Bool, ◌≡◌, List, [], ◌∷◌, ◌++◌, length}
use Rattle.request.specs.declared.Record.{Record}
use Rattle.request.specs.Record.{SIZE}
use Rattle.queue.specs.Queue.{AREA}
use Rattle.times.specs.declared.Settings.{Settings}
use Rattle.state.specs.declared.Priority.{Priority}
use Rattle.state.specs.declared.State.{State}
use Rattle.state.specs.Calls.{Station}
use Rattle.state.specs.World.{Rows, World, Event, Called, accepted, begins, ends, sends, confirmed, collected}
use Rattle.state.specs.World.{indicated, resets, refused, world_of}
use Rattle.state.specs.Calls as Calls

-- a call after start, with what it is given: submit a request with its data to a queue; a frame with its clock, the
-- room for an indication, the two updates, the octets and the output's length; sent and slot expired with clock and
-- output
pub data Call : Type 0 where
  submit : Priority → Record → List ℕ → Call
  frame : ℕ → Bool → List ℕ → List ℕ → List ℕ → ℕ → Call
  sent : ℕ → ℕ → Call
  slot : ℕ → ℕ → Call
  reset : Call
  collect : Priority → Call

unfoldable pub call : Call → World → Called
call (submit p r x) w = Calls.submit p r x w
call (frame clock room high low octets out) w = Calls.frame clock room high low octets out w
call (sent clock out) w = Calls.sent clock out w
call (slot clock out) w = Calls.slot clock out w
call reset w = Calls.reset w
call (collect p) w = Calls.collect p w

-- calls in a row
unfoldable pub run : List Call → World → Called
run [] w = record { world = w; events = [] }
run (c ∷ l) w =
    let d : Called = call c w in
    let e : Called = run l d.world in
    record { world = e.world; events = d.events ++ e.events }

-- how many sendings are among events
unfoldable pub sending_of : Event → ℕ
sending_of (accepted p n) = 0
sending_of begins = 0
sending_of ends = 0
sending_of (sends x o t) = 1
sending_of (confirmed p n status k) = 0
sending_of (collected p n r) = 0
sending_of (indicated h d) = 0
sending_of resets = 0
sending_of (refused n) = 0

unfoldable pub sendings_in : List Event → ℕ
sendings_in [] = 0
sendings_in (e ∷ l) = sending_of e + sendings_in l

-- a world after a start: the state that start gave, and rows as long as it was told
pub record Begun (w : World) : Type 0 where
  pub settings : Settings
  pub ts : ℕ
  pub masters : List ℕ
  pub points : List ℕ
  pub high : ℕ
  pub low : ℕ
  pub state : State
  pub started : Calls.start settings ts masters points high low ≡ Station state
  pub upper : Rows
  pub lower : Rows
  pub upper_row : length upper.row ≡ SIZE * high
  pub upper_area : length upper.area ≡ AREA * high
  pub lower_row : length lower.row ≡ SIZE * low
  pub lower_area : length lower.area ≡ AREA * low
  pub world : w ≡ world_of state upper lower
