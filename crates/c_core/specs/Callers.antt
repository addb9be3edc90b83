-- A caller in C: the numbers and arrays that it keeps between calls, and each call by its promise, as Callers.antt of
-- state has them for the Rattle functions. Assumes nothing.
use Rattle.std.specs.Prelude.{ℕ, ◌*◌, ◌≡◌, List, [], length}
use Rattle.laid.specs.Laid.{laid}
use Rattle.request.specs.Record.{SIZE}
use Rattle.queue.specs.Queue.{AREA}
use Rattle.state.specs.declared.Priority.{Priority}
use Rattle.state.specs.declared.Priority.TheVariants.{High, Low}
use Rattle.state.specs.declared.State.{State}
use Rattle.state.specs.World.{Rows, World, Called, rows, world_of, state_of}
use Rattle.state.specs.Told.{telling, standing, world_in, lent, started_of, accepted_of, handed_back_of, heard_of, reset_of}
use Rattle.state.specs.Runs.{Call, submit, frame, sent, slot, reset, collect}
use Rattle.state.specs.Calls as Calls
use Rattle.c_core.specs.declared.numbers.Numbers.{Numbers}
use Rattle.c_core.specs.declared.numbers.FlatSettings.{FlatSettings}
use Rattle.c_core.specs.declared.handover.FlatAccepted.{FlatAccepted}
use Rattle.c_core.specs.declared.handover.FlatCollected.{FlatCollected}
use Rattle.c_core.specs.declared.handover.FlatRenewed.{FlatRenewed}
use Rattle.c_core.specs.declared.handover.FlatAnswer.{FlatAnswer}
use Rattle.c_core.specs.Numbers.{settings_in, core_in, kept_in}
use Rattle.c_core.specs.Handover.{state_in, request_from, room_of, numbers_after, flat_accepted, flat_collected}
use Rattle.c_core.specs.Handover.{flat_renewed, flat_answer, lodged, submitting, collecting, held, holding, resetting}
use Rattle.c_core.specs.Handover.{filled, starting}

-- ---- what a caller in C keeps: the core as numbers, the station's five arrays, and both rows with their data
pub record Keeps : Type 0 where
  pub core : Numbers
  pub masters : List ℕ
  pub started : List ℕ
  pub marks : List ℕ
  pub points : List ℕ
  pub memory : List ℕ
  pub high : Rows
  pub low : Rows

-- the state that it stands for, and the world
unfoldable pub state_for : Keeps → State
state_for k = state_in k.core k.masters k.started k.marks k.points k.memory

unfoldable pub world_for : Keeps → World
world_for k = world_of (state_for k) k.high k.low

-- a queue's row, and what is kept with another core and another row of a queue
unfoldable pub row_for : Priority → Keeps → Rows
row_for High k = k.high
row_for Low k = k.low

-- what is kept with all that a call may change
abbrev pub keeps_with : Keeps → Numbers → List ℕ → List ℕ → List ℕ → Rows → Rows → Keeps
keeps_with k core masters marks memory high low =
    record {
      core = core;
      masters = masters;
      started = k.started;
      marks = marks;
      points = k.points;
      memory = memory;
      high = high;
      low = low;
    }

unfoldable pub keeping : Priority → Numbers → Rows → Keeps → Keeps
keeping High n r k = keeps_with k n k.masters k.marks k.memory r k.low
keeping Low n r k = keeps_with k n k.masters k.marks k.memory k.high r

-- what a function answers; hear, sent and slot with what they leave in the output
pub data Reply : Type 0 where
  takes : FlatAccepted → Reply
  turns : FlatAnswer → List ℕ → Reply
  renews : FlatRenewed → Reply
  hands : FlatCollected → Reply

-- one call: what is kept, the call, the output lent for it (none is empty), the answer, and what is kept then. The
-- premise of each is the promise of the function of its name, word for word; submit and collect stand for those of the
-- high queue and those of the low one, and the call frame is `cihlomet_hear`
pub data Makes (k : Keeps) : Call → List ℕ → Reply → Keeps → Type 0 where
  by-submit : (p : Priority) (service destination to from reference limit asks : ℕ) (x : List ℕ) {a : FlatAccepted}
      {row area : List ℕ}
      → lodged a k.masters k.started k.marks k.points k.memory row area
      ≡ submitting k.core p
      (Calls.submit p (request_from service destination to from reference limit asks) x
      (lent p (state_in k.core k.masters k.started k.marks k.points k.memory) (row_for p k)))
      → Makes k (submit p (request_from service destination to from reference limit asks) x) [] (takes a)
      (keeping p a.core (rows row area) k)
  by-frame : (clock room : ℕ) (first second octets out : List ℕ) {a : FlatAnswer} {masters marks memory : List ℕ}
      {high low : Rows} {out' : List ℕ}
      → held a masters k.started marks k.points memory high low out'
      ≡ holding k.core
      (standing
      (Calls.frame clock (room_of room) first second octets (length out)
      (world_in (core_in k.core) (kept_in k.core) k.masters k.started k.marks k.points k.memory
      k.high k.low)) out)
      → Makes k (frame clock (room_of room) first second octets (length out)) out (turns a out')
      (keeps_with k a.core masters marks memory high low)
  by-sent : (clock : ℕ) (out : List ℕ) {a : FlatAnswer} {marks : List ℕ} {high low : Rows} {out' : List ℕ}
      → held a k.masters k.started marks k.points k.memory high low out'
      ≡ holding k.core
      (standing
      (Calls.sent clock (length out)
      (world_in (core_in k.core) (kept_in k.core) k.masters k.started k.marks k.points k.memory
      k.high k.low)) out)
      → Makes k (sent clock (length out)) out (turns a out')
      (keeps_with k a.core k.masters marks k.memory high low)
  by-slot : (clock : ℕ) (out : List ℕ) {a : FlatAnswer} {masters marks : List ℕ} {high low : Rows} {out' : List ℕ}
      → held a masters k.started marks k.points k.memory high low out'
      ≡ holding k.core
      (standing
      (Calls.slot clock (length out)
      (world_in (core_in k.core) (kept_in k.core) k.masters k.started k.marks k.points k.memory
      k.high k.low)) out)
      → Makes k (slot clock (length out)) out (turns a out')
      (keeps_with k a.core masters marks k.memory high low)
  by-reset : {a : FlatRenewed} {masters marks : List ℕ} {high low : Rows}
      → held a masters k.started marks k.points k.memory high low []
      ≡ resetting k.core
      (reset_of
      (Calls.reset
      (world_of (state_in k.core k.masters k.started k.marks k.points k.memory) k.high k.low)))
      → Makes k reset [] (renews a) (keeps_with k a.core masters marks k.memory high low)
  by-collect : (p : Priority) {a : FlatCollected}
      → lodged a k.masters k.started k.marks k.points k.memory (row_for p k).row (row_for p k).area
      ≡ collecting k.core p
      (Calls.collect p
      (lent p (state_in k.core k.masters k.started k.marks k.points k.memory) (row_for p k)))
      → Makes k (collect p) [] (hands a) (keeping p a.core (row_for p k) k)

-- a start that was accepted: its promise, of arrays with any content, and what is kept then, with rows as long as it was
-- told
pub record Starts (k : Keeps) : Type 0 where
  pub settings : FlatSettings
  pub ts : ℕ
  pub started : List ℕ
  pub marks : List ℕ
  pub memory : List ℕ
  pub high : ℕ
  pub low : ℕ
  pub answer : FlatRenewed
  pub promise : filled answer k.masters k.started k.marks k.points k.memory
      ≡ starting (started_of (Calls.start (settings_in settings) ts k.masters k.points high low)) k.masters started
      marks k.points memory
  pub accepted : answer.refused ≡ 0
  pub core : k.core ≡ answer.core
  pub upper_row : length k.high.row ≡ SIZE * high
  pub upper_area : length k.high.area ≡ AREA * high
  pub lower_row : length k.low.row ≡ SIZE * low
  pub lower_area : length k.low.area ≡ AREA * low

-- what a call answers, and what is kept then, by the rules' call on the world that is meant
unfoldable pub reply_of : Numbers → Call → List ℕ → Called → Reply
reply_of n (submit p r x) out d = takes (flat_accepted n (accepted_of d))
reply_of n (frame clock room first second octets m) out d =
    turns (flat_answer n (heard_of d)) (laid out 0 (telling d.events).octets)
reply_of n (sent clock m) out d = turns (flat_answer n (heard_of d)) (laid out 0 (telling d.events).octets)
reply_of n (slot clock m) out d = turns (flat_answer n (heard_of d)) (laid out 0 (telling d.events).octets)
reply_of n reset out d =
    renews (flat_renewed n (record { refused = (telling d.events).refused; state = state_of d.world }))
reply_of n (collect p) out d = hands (flat_collected n (handed_back_of d))

abbrev pub keeps_of : Numbers → ℕ → State → Rows → Rows → Keeps
keeps_of n refused s high low =
    record {
      core = numbers_after n refused s.core s.memory.kept;
      masters = s.masters.0;
      started = s.started.0;
      marks = s.marks.0;
      points = s.points.0;
      memory = s.memory.octets;
      high = high;
      low = low;
    }

unfoldable pub keeps_after : Numbers → Called → Keeps
keeps_after n d =
    keeps_of n (telling d.events).refused (state_of d.world) d.world.site.high d.world.site.low

-- the number that an answer refuses with
unfoldable pub refused_by : Reply → ℕ
refused_by (takes a) = a.refused
refused_by (turns a out) = a.refused
refused_by (renews a) = a.refused
refused_by (hands a) = a.refused
