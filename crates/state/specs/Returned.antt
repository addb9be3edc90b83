-- A caller of the station's functions as the code has them, which answer a `Result`: each call by its contract, and an
-- accepted start by its own. What is kept after a call is the state of its `Ok`, or, where it is refused, the state
-- that was given to it. Assumes nothing.
use Rattle.std.specs.Prelude.{ℕ, ◌*◌, Bool, ◌≡◌, List, [], length, Result, Ok}
use Rattle.refusal.specs.declared.Refusal.{Refusal}
use Rattle.refusal.specs.Refusal.{refused}
use Rattle.request.specs.declared.Record.{Record}
use Rattle.request.specs.Record.{SIZE}
use Rattle.queue.specs.Queue.{AREA}
use Rattle.rows.specs.Rows.{left}
use Rattle.times.specs.declared.Settings.{Settings}
use Rattle.state.specs.declared.Priority.{Priority}
use Rattle.state.specs.declared.State.{State}
use Rattle.state.specs.declared.Accepted.{Accepted}
use Rattle.state.specs.declared.Answer.{Answer}
use Rattle.state.specs.declared.HandedBack.{HandedBack}
use Rattle.state.specs.World.{Rows, rows}
use Rattle.state.specs.Told.{leaves, told, reset_of, started_of, lent, handed_back_of, submitted_of, blank}
use Rattle.state.specs.Told.{answered_by, accepted_by, renewed_by, handed_back_by}
use Rattle.state.specs.Runs.{Call, submit, frame, sent, slot, reset, collect}
use Rattle.state.specs.Calls as Calls
use Rattle.state.specs.Callers.{Keeps, world_for, row_for, keeping, Reply, takes, turns, renews, hands}

-- what a function answers; frame, sent and slot with what they leave in the output
pub data Returned : Type 0 where
  place : Result Accepted Refusal → Returned
  turn : Result Answer Refusal → List ℕ → Returned
  renewal : Result State Refusal → Returned
  hand : Result HandedBack Refusal → Returned

-- one call: what is kept, the call, the output lent for it (none is empty), the answer, and what is kept then. The
-- premise of each is the contract of the function of its name, word for word, of what it was given and what it left;
-- submit and collect are lent one queue's row
pub data Gives (k : Keeps) : Call → List ℕ → Returned → Keeps → Type 0 where
  from-submit : (p : Priority) (r : Record) (x : List ℕ) {a : Result Accepted Refusal} {row area : List ℕ}
      → left (accepted_by k.state a) row area ≡ submitted_of p (Calls.submit p r x (lent p k.state (row_for p k)))
      → Gives k (submit p r x) [] (place a) (keeping p (accepted_by k.state a).state (rows row area) k)
  from-frame : (clock : ℕ) (room : Bool) (first second octets out : List ℕ) {a : Result Answer Refusal}
      {high low : Rows} {out' : List ℕ}
      → leaves (answered_by k.state a) high low out'
      ≡ told (Calls.frame clock room first second octets (length out) (world_for k)) out
      → Gives k (frame clock room first second octets (length out)) out (turn a out')
      (record { state = (answered_by k.state a).state; high = high; low = low })
  from-sent : (clock : ℕ) (out : List ℕ) {a : Result Answer Refusal} {high low : Rows} {out' : List ℕ}
      → leaves (answered_by k.state a) high low out' ≡ told (Calls.sent clock (length out) (world_for k)) out
      → Gives k (sent clock (length out)) out (turn a out')
      (record { state = (answered_by k.state a).state; high = high; low = low })
  from-slot : (clock : ℕ) (out : List ℕ) {a : Result Answer Refusal} {high low : Rows} {out' : List ℕ}
      → leaves (answered_by k.state a) high low out' ≡ told (Calls.slot clock (length out) (world_for k)) out
      → Gives k (slot clock (length out)) out (turn a out')
      (record { state = (answered_by k.state a).state; high = high; low = low })
  from-reset : {a : Result State Refusal} {high low : Rows}
      → leaves (renewed_by k.state a) high low [] ≡ reset_of (Calls.reset (world_for k))
      → Gives k reset [] (renewal a) (record { state = (renewed_by k.state a).state; high = high; low = low })
  from-collect : (p : Priority) {a : Result HandedBack Refusal}
      → handed_back_by k.state a ≡ handed_back_of (Calls.collect p (lent p k.state (row_for p k)))
      → Gives k (collect p) [] (hand a) (keeping p (handed_back_by k.state a).state (row_for p k) k)

-- a start that was accepted: its contract, and what is kept then, with rows as long as it was told
pub record GivesStart (k : Keeps) : Type 0 where
  pub settings : Settings
  pub ts : ℕ
  pub masters : List ℕ
  pub points : List ℕ
  pub high : ℕ
  pub low : ℕ
  pub answer : Result State Refusal
  pub promise : renewed_by blank answer ≡ started_of (Calls.start settings ts masters points high low)
  pub accepted : answer ≡ Ok k.state
  pub upper_row : length k.high.row ≡ SIZE * high
  pub upper_area : length k.high.area ≡ AREA * high
  pub lower_row : length k.low.row ≡ SIZE * low
  pub lower_area : length k.low.area ≡ AREA * low

-- the same as the definitions answer it, to a caller who gave this state
unfoldable pub reply_by : State → Returned → Reply
reply_by s (place a) = takes (accepted_by s a)
reply_by s (turn a out) = turns (answered_by s a) out
reply_by s (renewal a) = renews (renewed_by s a)
reply_by s (hand a) = hands (handed_back_by s a)

-- the number that an answer refuses with, 0 if it is accepted
unfoldable pub refused_with : Returned → ℕ
refused_with (place a) = refused a
refused_with (turn a out) = refused a
refused_with (renewal a) = refused a
refused_with (hand a) = refused a
