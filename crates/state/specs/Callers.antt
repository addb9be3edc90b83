-- A caller of the station's functions: what it keeps between calls, and each call by its promise. "If each call is given
-- the state and each row, data included, as the call before left them" is here a chain of calls. Assumes nothing.
use Rattle.std.specs.Prelude.{ℕ, ◌*◌, Bool, ◌≡◌, List, [], ◌∷◌, length}
use Rattle.laid.specs.Laid.{laid}
use Rattle.request.specs.declared.Record.{Record}
use Rattle.request.specs.Record.{SIZE}
use Rattle.queue.specs.Queue.{AREA}
use Rattle.rows.specs.Rows.{left}
use Rattle.times.specs.declared.Settings.{Settings}
use Rattle.state.specs.declared.Priority.{Priority}
use Rattle.state.specs.declared.Priority.TheVariants.{High, Low}
use Rattle.state.specs.declared.State.{State}
use Rattle.state.specs.Told.{Accepted}
use Rattle.state.specs.Told.{Answer}
use Rattle.state.specs.Told.{Renewed}
use Rattle.state.specs.Told.{HandedBack}
use Rattle.state.specs.World.{Rows, World, Called, rows, world_of, state_of}
use Rattle.state.specs.Told.{leaves, told, reset_of, started_of, lent, accepted_of, answer_of, handed_back_of}
use Rattle.state.specs.Told.{submitted_of, telling}
use Rattle.state.specs.Runs.{Call, submit, frame, sent, slot, reset, collect}
use Rattle.state.specs.Calls as Calls

-- ---- calls in a row, of whatever a caller keeps: each is given what the last one left
pub data Chain {K R : Type 0} (Makes : K → Call → List ℕ → R → K → Type 0) : K → List Call → K → Type 0 where
  none : {k : K} → Chain Makes k [] k
  more : {k m n : K} {c : Call} {out : List ℕ} {a : R} {l : List Call}
      → Makes k c out a m → Chain Makes m l n → Chain Makes k (c ∷ l) n

-- ---- what a caller of the Rattle functions keeps: the state, and both rows with their data
pub record Keeps : Type 0 where
  pub state : State
  pub high : Rows
  pub low : Rows

unfoldable pub world_for : Keeps → World
world_for k = world_of k.state k.high k.low

unfoldable pub keeps_in : World → Keeps
keeps_in w = record { state = state_of w; high = w.site.high; low = w.site.low }

-- a queue's row, and what is kept with another state and another row of a queue
unfoldable pub row_for : Priority → Keeps → Rows
row_for High k = k.high
row_for Low k = k.low

unfoldable pub keeping : Priority → State → Rows → Keeps → Keeps
keeping High s r k = record { state = s; high = r; low = k.low }
keeping Low s r k = record { state = s; high = k.high; low = r }

-- what a call answers, as the definitions have it; frame, sent and slot with what they leave in the output
pub data Reply : Type 0 where
  takes : Accepted → Reply
  turns : Answer → List ℕ → Reply
  renews : Renewed → Reply
  hands : HandedBack → Reply

-- one call: what is kept, the call, the output lent for it (none is empty), the answer, and what is kept then. The
-- premise of each is the promise of the function of its name, its `Result` read as the definitions' answer, of what it
-- was given and what it left (Returned.antt has the contracts word for word); submit and collect are lent one queue's row
pub data Makes (k : Keeps) : Call → List ℕ → Reply → Keeps → Type 0 where
  by-submit : (p : Priority) (r : Record) (x : List ℕ) {a : Accepted} {row area : List ℕ}
      → left a row area ≡ submitted_of p (Calls.submit p r x (lent p k.state (row_for p k)))
      → Makes k (submit p r x) [] (takes a) (keeping p a.state (rows row area) k)
  by-frame : (clock : ℕ) (room : Bool) (first second octets out : List ℕ) {a : Answer} {high low : Rows} {out' : List ℕ}
      → leaves a high low out' ≡ told (Calls.frame clock room first second octets (length out) (world_for k)) out
      → Makes k (frame clock room first second octets (length out)) out (turns a out')
      (record { state = a.state; high = high; low = low })
  by-sent : (clock : ℕ) (out : List ℕ) {a : Answer} {high low : Rows} {out' : List ℕ}
      → leaves a high low out' ≡ told (Calls.sent clock (length out) (world_for k)) out
      → Makes k (sent clock (length out)) out (turns a out') (record { state = a.state; high = high; low = low })
  by-slot : (clock : ℕ) (out : List ℕ) {a : Answer} {high low : Rows} {out' : List ℕ}
      → leaves a high low out' ≡ told (Calls.slot clock (length out) (world_for k)) out
      → Makes k (slot clock (length out)) out (turns a out') (record { state = a.state; high = high; low = low })
  by-reset : {a : Renewed} {high low : Rows} → leaves a high low [] ≡ reset_of (Calls.reset (world_for k))
      → Makes k reset [] (renews a) (record { state = a.state; high = high; low = low })
  by-collect : (p : Priority) {a : HandedBack} → a ≡ handed_back_of (Calls.collect p (lent p k.state (row_for p k)))
      → Makes k (collect p) [] (hands a) (keeping p a.state (row_for p k) k)

-- a start that was accepted: its promise, and what is kept then, with rows as long as it was told
pub record Starts (k : Keeps) : Type 0 where
  pub settings : Settings
  pub ts : ℕ
  pub masters : List ℕ
  pub points : List ℕ
  pub high : ℕ
  pub low : ℕ
  pub answer : Renewed
  pub promise : answer ≡ started_of (Calls.start settings ts masters points high low)
  pub accepted : answer.refused ≡ 0
  pub state : k.state ≡ answer.state
  pub upper_row : length k.high.row ≡ SIZE * high
  pub upper_area : length k.high.area ≡ AREA * high
  pub lower_row : length k.low.row ≡ SIZE * low
  pub lower_area : length k.low.area ≡ AREA * low

-- what a call answers, by what it does to both rows: the answer is made from its events and the world that it leaves
unfoldable pub reply_of : Call → List ℕ → Called → Reply
reply_of (submit p r x) out d = takes (accepted_of d)
reply_of (frame clock room first second octets n) out d = turns (answer_of d) (laid out 0 (telling d.events).octets)
reply_of (sent clock n) out d = turns (answer_of d) (laid out 0 (telling d.events).octets)
reply_of (slot clock n) out d = turns (answer_of d) (laid out 0 (telling d.events).octets)
reply_of reset out d = renews (record { refused = (telling d.events).refused; state = state_of d.world })
reply_of (collect p) out d = hands (handed_back_of d)

-- the number that an answer refuses with
unfoldable pub refused_by : Reply → ℕ
refused_by (takes a) = a.refused
refused_by (turns a out) = a.refused
refused_by (renews a) = a.refused
refused_by (hands a) = a.refused
