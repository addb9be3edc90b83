-- What the caller of frame, sent and slot is told, by the events of its call: the refusal, the octets to send and their
-- wait, and what is indicated. Assumes nothing.
use Rattle.std.specs.Prelude.{ℕ, false, ◌≡◌, List, [], ◌∷◌, length, replicate}
use Rattle.laid.specs.Laid.{laid, Lays}
use Rattle.request.specs.declared.Record.{Record}
use Rattle.request.specs.Record.{WAITING}
use Rattle.frame.specs.Access.{NONE}
use Rattle.state.specs.declared.Indication.{Indication}
use Rattle.state.specs.declared.Rows.{Rows as LentRows}
use Rattle.state.specs.declared.SharedRows.{SharedRows}
use Rattle.std.specs.Prelude.{Option, None, Some, Result, Ok, Err}
use Rattle.clock.specs.declared.BitTime.{BitTime}
use Rattle.refusal.specs.declared.Refusal.{Refusal}
use Rattle.refusal.specs.Refusal.{number}
use Rattle.queue.specs.Queue.{Collected}
use Rattle.queue.specs.Queue.{Refused, Handed}
use Rattle.rows.specs.Rows.{Left, left}
use Rattle.state.specs.declared.Priority.{Priority}
use Rattle.state.specs.declared.Priority.TheVariants.{High, Low}
use Rattle.state.specs.declared.State.{State}
use Rattle.state.specs.declared.Core.{Core}
use Rattle.state.specs.declared.Kept.{Kept}
use Rattle.state.specs.declared.Outcome.{Outcome}
use Rattle.state.specs.declared.Moved.{Moved}
use Rattle.state.specs.declared.Spoken.{Spoken}
use Rattle.state.specs.declared.Heard.{Heard as GivenHeard}
use Rattle.state.specs.declared.Accepted.{Accepted as GivenAccepted}
use Rattle.state.specs.declared.HandedBack.{HandedBack as GivenHandedBack}
use Rattle.state.specs.declared.Answer.{Answer as GivenAnswer}
use Rattle.state.specs.Request.{close}
use Rattle.state.specs.Pass.{recheck}
use Rattle.times.specs.declared.Settings.{Settings}
use Rattle.state.specs.Calls.{Started, Unstarted, Station, no_rows, empty_queue, fresh_core, fresh_world}
use Rattle.state.specs.World.{Rows, Site, World, Event, Done, Called, rows, site_of, rows_of, world_of, state_of}
use Rattle.state.specs.World.{state_with}
use Rattle.state.specs.World.{with_queue, accepted, begins, ends, sends, confirmed, collected, indicated, resets}
use Rattle.state.specs.World.{refused}

pub record Telling : Type 0 where
  pub refused : ℕ
  pub octets : List ℕ
  pub wait : ℕ
  pub indication : Option Indication
  pub place : ℕ
  pub entry : Record

-- nothing yet; the record stands for none
unfoldable pub untold : Telling
untold =
    record {
      refused = 0;
      octets = [];
      wait = 0;
      indication = None;
      place = 0;
      entry =
          record {
            service = 0;
            destination = record { 0 = 0 };
            to = record { 0 = NONE };
            from = record { 0 = NONE };
            length = 0;
            status = WAITING;
            count = 0;
            reference = 0;
            limit = 0;
            asks = false;
          };
    }

-- an event adds to what is told
unfoldable pub adds : Event → Telling → Telling
adds (accepted p n) t =
    record {
      refused = t.refused;
      octets = t.octets;
      wait = t.wait;
      indication = t.indication;
      place = n;
      entry = t.entry;
    }
adds begins t = t
adds ends t = t
adds (sends x o n) t =
    record
    { refused = t.refused; octets = o; wait = n; indication = t.indication; place = t.place; entry = t.entry }
adds (confirmed p n s k) t = t
adds (collected p n r) t =
    record
    { refused = t.refused; octets = t.octets; wait = t.wait; indication = t.indication; place = n; entry = r }
adds (indicated h p) t =
    record {
      refused = t.refused;
      octets = t.octets;
      wait = t.wait;
      indication = Some (record { head = h; part = p });
      place = t.place;
      entry = t.entry;
    }
adds resets t = t
adds (refused n) t =
    record {
      refused = n;
      octets = t.octets;
      wait = t.wait;
      indication = t.indication;
      place = t.place;
      entry = t.entry;
    }

unfoldable pub telling : List Event → Telling
telling [] = untold
telling (e ∷ l) = adds e (telling l)

-- ---- what a call is lent: a queue's row and data area, and the site that they make with the rest of it
abbrev pub high_in : LentRows → Rows
high_in l = rows l.high.now l.high_area.now

abbrev pub low_in : LentRows → Rows
low_in l = rows l.low.now l.low_area.now

abbrev pub site_in : Core → List ℕ → List ℕ → LentRows → Site
site_in c masters marks l = site_of c masters marks (high_in l) (low_in l)

-- the same of what is lent to be read alone
abbrev pub high_of : SharedRows → Rows
high_of l = rows l.high.now l.high_area.now

abbrev pub low_of : SharedRows → Rows
low_of l = rows l.low.now l.low_area.now

abbrev pub site_of_shared : Core → List ℕ → List ℕ → SharedRows → Site
site_of_shared c masters marks l = site_of c masters marks (high_of l) (low_of l)

-- the same memory is lent after a call as before it
abbrev pub SameRows : LentRows → LentRows → Type 0
SameRows a b =
    (b.high.ghost_name ≡ a.high.ghost_name)
    × ((b.high_area.ghost_name ≡ a.high_area.ghost_name)
    × ((b.low.ghost_name ≡ a.low.ghost_name) × (b.low_area.ghost_name ≡ a.low_area.ghost_name)))

-- ---- how an inner function keeps to a definition: it lays the octets that the events tell at the start of the output,
-- and answers the rest of what they tell
-- of events that leave a core
pub record Sends (c : Core) (e : List Event) (out : List ℕ) (r : Moved) (out' : List ℕ) : Type 0 where
  pub core : r.core ≡ c
  pub wait : r.wait.0 ≡ (telling e).wait
  pub laid : Lays out 0 (telling e).octets 255 r.length out'

-- of an act, with the masters, the marks and the rows that it leaves
pub record Does (d : Done) (out : List ℕ) (r : Moved) (masters marks : List ℕ) (high low : Rows) (out' : List ℕ) :
    Type 0 where
  pub site : site_of r.core masters marks high low ≡ d.site
  pub wait : r.wait.0 ≡ (telling d.events).wait
  pub laid : Lays out 0 (telling d.events).octets 255 r.length out'

-- of a confirmation, which leaves the masters alone
pub record Closes (o : Outcome) (x : List ℕ) (c : Core) (marks : List ℕ) (high low : Rows) (c' : Core)
    (marks' : List ℕ) (high' low' : Rows) : Type 0 where
  pub site : (m : List ℕ) → site_of c' m marks' high' low' ≡ (close o x (site_of c m marks high low)).site

-- of slot expiry while the pass is checked, which leaves the marks and the rows alone
pub record Rechecks (c : Core) (masters out : List ℕ) (r : Moved) (masters' out' : List ℕ) : Type 0 where
  pub does : (k : List ℕ) (h l : Rows) → Does (recheck (site_of c masters k h l)) out r masters' k h l out'

-- of an answer that leaves what is kept in the memory
pub record Says (k : Kept) (e : List Event) (out : List ℕ) (r : Spoken) (out' : List ℕ) : Type 0 where
  pub kept : r.kept ≡ k
  pub wait : r.wait.0 ≡ (telling e).wait
  pub indication : r.indication ≡ (telling e).indication
  pub laid : Lays out 0 (telling e).octets 255 r.length out'

-- ---- what a call answers: the number of its refusal or 0, and what it leaves and tells
-- frame, sent and slot, where the arrays of the state are lent
pub record Heard : Type 0 where
  pub refused : ℕ
  pub core : Core
  pub kept : Kept
  pub length : ℕ
  pub wait : BitTime
  pub indication : Option Indication

-- frame, sent and slot
pub record Answer : Type 0 where
  pub refused : ℕ
  pub state : State
  pub length : ℕ
  pub wait : BitTime
  pub indication : Option Indication

-- submit
pub record Accepted : Type 0 where
  pub refused : ℕ
  pub state : State
  pub place : ℕ

-- start and reset
pub record Renewed : Type 0 where
  pub refused : ℕ
  pub state : State

-- collect
pub record HandedBack : Type 0 where
  pub refused : ℕ
  pub state : State
  pub place : ℕ
  pub entry : Record

-- the same as each call gives it to its caller, who keeps the core or the state that he gave where the call is refused
unfoldable pub heard_by : Core → Kept → Result GivenHeard Refusal → Heard
heard_by c k (Ok a) =
    record
    { refused = 0; core = a.core; kept = a.kept; length = a.length; wait = a.wait; indication = a.indication }
heard_by c k (Err r) =
    record
    { refused = number r; core = c; kept = k; length = 0; wait = record { 0 = 0 }; indication = None }

unfoldable pub answered_by : State → Result GivenAnswer Refusal → Answer
answered_by s (Ok a) =
    record { refused = 0; state = a.state; length = a.length; wait = a.wait; indication = a.indication }
answered_by s (Err r) =
    record { refused = number r; state = s; length = 0; wait = record { 0 = 0 }; indication = None }

unfoldable pub accepted_by : State → Result GivenAccepted Refusal → Accepted
accepted_by s (Ok a) = record { refused = 0; state = a.state; place = a.place }
accepted_by s (Err r) = record { refused = number r; state = s; place = 0 }

unfoldable pub renewed_by : State → Result State Refusal → Renewed
renewed_by s (Ok a) = record { refused = 0; state = a }
renewed_by s (Err r) = record { refused = number r; state = s }

unfoldable pub handed_back_by : State → Result GivenHandedBack Refusal → HandedBack
handed_back_by s (Ok a) = record { refused = 0; state = a.state; place = a.place; entry = a.entry }
handed_back_by s (Err r) = record { refused = number r; state = s; place = 0; entry = untold.entry }

-- ---- what a call answers, and all that it leaves in what was lent: the rows with their data, and the output
pub record Leaves (A : Type 0) : Type 0 where
  pub answer : A
  pub high : Rows
  pub low : Rows
  pub out : List ℕ

abbrev pub leaves : {A : Type 0} → A → Rows → Rows → List ℕ → Leaves A
leaves a high low out = record { answer = a; high = high; low = low; out = out }

-- of frame, sent and slot where the arrays of the state are lent
pub record Stands : Type 0 where
  pub answer : Heard
  pub masters : List ℕ
  pub started : List ℕ
  pub marks : List ℕ
  pub points : List ℕ
  pub octets : List ℕ
  pub high : Rows
  pub low : Rows
  pub out : List ℕ

abbrev pub stands : Heard → List ℕ → List ℕ → List ℕ → List ℕ → List ℕ → Rows → Rows → List ℕ → Stands
stands a masters started marks points octets high low out =
    record {
      answer = a;
      masters = masters;
      started = started;
      marks = marks;
      points = points;
      octets = octets;
      high = high;
      low = low;
      out = out;
    }

abbrev pub world_in : Core → Kept → List ℕ → List ℕ → List ℕ → List ℕ → List ℕ → Rows → Rows → World
world_in c k masters started marks points octets high low =
    record {
      site = site_of c masters marks high low;
      started = started;
      points = points;
      memory = record
          { kept = k; octets = octets };
    }

unfoldable pub heard_of : Called → Heard
heard_of d =
    record {
      refused = (telling d.events).refused;
      core = d.world.site.core;
      kept = d.world.memory.kept;
      length = length (telling d.events).octets;
      wait = record { 0 = (telling d.events).wait };
      indication = (telling d.events).indication;
    }

unfoldable pub standing : Called → List ℕ → Stands
standing d out =
    stands (heard_of d) d.world.site.masters d.world.started d.world.site.marks d.world.points
    d.world.memory.octets d.world.site.high d.world.site.low
    (laid out 0 (telling d.events).octets)

-- of frame, sent and slot
unfoldable pub answer_of : Called → Answer
answer_of d =
    record {
      refused = (telling d.events).refused;
      state = state_of d.world;
      length = length (telling d.events).octets;
      wait = record { 0 = (telling d.events).wait };
      indication = (telling d.events).indication;
    }

unfoldable pub told : Called → List ℕ → Leaves Answer
told d out =
    leaves (answer_of d) d.world.site.high d.world.site.low (laid out 0 (telling d.events).octets)

-- of reset, which has no output
unfoldable pub reset_of : Called → Leaves Renewed
reset_of d =
    leaves (record { refused = (telling d.events).refused; state = state_of d.world }) d.world.site.high
    d.world.site.low []

-- of start; a refused one leaves a blank state, whose settings are out of rule
unfoldable pub blank_settings : Settings
blank_settings =
    record {
      tset = record { 0 = 0 };
      tqui = record { 0 = 0 };
      mintsdr = record { 0 = 0 };
      maxtsdr = record { 0 = 0 };
      ttd = record { 0 = 0 };
      ttr = record { 0 = 0 };
      retries = record { 0 = 0 };
      tsdi = record { 0 = 0 };
    }

unfoldable pub blank : State
blank =
    state_of
    (fresh_world (fresh_core blank_settings 0 (replicate 127 0) (empty_queue 0) (empty_queue 0)) (replicate 127 0)
    (replicate 64 0) (replicate 255 0) no_rows no_rows)

unfoldable pub started_of : Started → Renewed
started_of (Unstarted n) = record { refused = n; state = blank }
started_of (Station s) = record { refused = 0; state = s }

-- of submit and collect, which are lent one queue's row and data
unfoldable pub lent : Priority → State → Rows → World
lent High s r = world_of s r no_rows
lent Low s r = world_of s no_rows r

unfoldable pub accepted_of : Called → Accepted
accepted_of d =
    record { refused = (telling d.events).refused; state = state_of d.world; place = (telling d.events).place }

unfoldable pub handed_back_of : Called → HandedBack
handed_back_of d =
    record {
      refused = (telling d.events).refused;
      state = state_of d.world;
      place = (telling d.events).place;
      entry = (telling d.events).entry;
    }

unfoldable pub submitted_of : Priority → Called → Left Accepted
submitted_of p d = left (accepted_of d) (rows_of p d.world.site).row (rows_of p d.world.site).area

-- what collect decided, as its answer
unfoldable pub hand_of : Priority → Collected → State → HandedBack
hand_of p (Refused n) s = record { refused = n; state = s; place = 0; entry = untold.entry }
hand_of p (Handed place r q) s =
    record { refused = 0; state = state_with (with_queue p q s.core) s; place = place; entry = r }
