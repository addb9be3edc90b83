-- What a call finds and leaves: the station's state and both rows with their data; and the events that happen in it. An
-- act on the site goes from a site to a site and its events; acts in a row are one. Assumes nothing.
use Rattle.std.specs.Prelude.{ℕ, List, [], ◌++◌}
use Rattle.frame.specs.declared.Address.{Address}
use Rattle.frame.specs.declared.Head.{Head}
use Rattle.frame.specs.declared.Part.{Part}
use Rattle.request.specs.declared.Record.{Record}
use Rattle.queue.specs.declared.Queue.{Queue}
use Rattle.state.specs.declared.Priority.{Priority}
use Rattle.state.specs.declared.Priority.TheVariants.{High, Low}
use Rattle.state.specs.declared.Doing.{Doing}
use Rattle.state.specs.declared.Hold.{Hold}
use Rattle.state.specs.declared.Core.{Core}
use Rattle.state.specs.declared.Memory.{Memory}
use Rattle.state.specs.declared.State.{State}

-- a queue's row and its data area
pub record Rows : Type 0 where
  pub row : List ℕ
  pub area : List ℕ

-- what holds, requests and passes read and change: the core, the set of masters, the marks, and both rows
pub record Site : Type 0 where
  pub core : Core
  pub masters : List ℕ
  pub marks : List ℕ
  pub high : Rows
  pub low : Rows

-- the site, and what stands beside it: the set of masters as started, the active access points, the answering memory
pub record World : Type 0 where
  pub site : Site
  pub started : List ℕ
  pub points : List ℕ
  pub memory : Memory

-- what is sent: the request at a place of a queue, the token, or a reply
pub data What : Type 0 where
  a_request : Priority → ℕ → What
  a_token : What
  a_reply : What

-- what happens in a call: a request is accepted at a place of a queue; a hold begins, a hold ends; octets are to be sent
-- after a wait; the request at a place is confirmed with its status and its count; its record is collected; a request is
-- indicated; the station is reset; the call is refused. A caller is answered the place, the octets and the wait, the
-- record, the indication and the refusal (`telling` in Told.antt); holds, confirmations and resets are seen by the phase,
-- by what collect hands back, and by the call
pub data Event : Type 0 where
  accepted : Priority → ℕ → Event
  begins : Event
  ends : Event
  sends : What → List ℕ → ℕ → Event
  confirmed : Priority → ℕ → ℕ → ℕ → Event
  collected : Priority → ℕ → Record → Event
  indicated : Head → Part → Event
  resets : Event
  refused : ℕ → Event

-- what an act leaves and tells, and what a call does
pub record Done : Type 0 where
  pub site : Site
  pub events : List Event

pub record Called : Type 0 where
  pub world : World
  pub events : List Event

-- an act that does nothing, an act with its events, and acts in a row
unfoldable pub still : Site → Done
still s = record { site = s; events = [] }

unfoldable pub done : Site → List Event → Done
done s e = record { site = s; events = e }

unfoldable pub and_then : Done → (Site → Done) → Done
and_then d f = record { site = (f d.site).site; events = d.events ++ (f d.site).events }

-- ---- a part changed, and the others as they were
unfoldable pub with_doing : Doing → Core → Core
with_doing d c =
    record {
      settings = c.settings;
      ts = c.ts;
      ps = c.ps;
      stranger = c.stranger;
      doing = d;
      hold = c.hold;
      high = c.high;
      low = c.low;
    }

unfoldable pub with_hold : Hold → Core → Core
with_hold h c =
    record {
      settings = c.settings;
      ts = c.ts;
      ps = c.ps;
      stranger = c.stranger;
      doing = c.doing;
      hold = h;
      high = c.high;
      low = c.low;
    }

unfoldable pub with_stranger : Address → Core → Core
with_stranger a c =
    record {
      settings = c.settings;
      ts = c.ts;
      ps = c.ps;
      stranger = a;
      doing = c.doing;
      hold = c.hold;
      high = c.high;
      low = c.low;
    }

unfoldable pub with_ps : Address → Core → Core
with_ps a c =
    record {
      settings = c.settings;
      ts = c.ts;
      ps = a;
      stranger = c.stranger;
      doing = c.doing;
      hold = c.hold;
      high = c.high;
      low = c.low;
    }

unfoldable pub with_queue : Priority → Queue → Core → Core
with_queue High q c =
    record {
      settings = c.settings;
      ts = c.ts;
      ps = c.ps;
      stranger = c.stranger;
      doing = c.doing;
      hold = c.hold;
      high = q;
      low = c.low;
    }
with_queue Low q c =
    record {
      settings = c.settings;
      ts = c.ts;
      ps = c.ps;
      stranger = c.stranger;
      doing = c.doing;
      hold = c.hold;
      high = c.high;
      low = q;
    }

unfoldable pub queue_of : Priority → Core → Queue
queue_of High c = c.high
queue_of Low c = c.low

unfoldable pub with_core : Core → Site → Site
with_core c s = record { core = c; masters = s.masters; marks = s.marks; high = s.high; low = s.low }

unfoldable pub with_masters : List ℕ → Site → Site
with_masters l s = record { core = s.core; masters = l; marks = s.marks; high = s.high; low = s.low }

unfoldable pub with_marks : List ℕ → Site → Site
with_marks l s = record { core = s.core; masters = s.masters; marks = l; high = s.high; low = s.low }

unfoldable pub rows_of : Priority → Site → Rows
rows_of High s = s.high
rows_of Low s = s.low

unfoldable pub with_rows : Priority → Rows → Site → Site
with_rows High r s = record { core = s.core; masters = s.masters; marks = s.marks; high = r; low = s.low }
with_rows Low r s = record { core = s.core; masters = s.masters; marks = s.marks; high = s.high; low = r }

unfoldable pub with_site : Site → World → World
with_site s w = record { site = s; started = w.started; points = w.points; memory = w.memory }

unfoldable pub with_memory : Memory → World → World
with_memory m w = record { site = w.site; started = w.started; points = w.points; memory = m }

-- a site by its parts
abbrev pub site_of : Core → List ℕ → List ℕ → Rows → Rows → Site
site_of c masters marks high low = record { core = c; masters = masters; marks = marks; high = high; low = low }

abbrev pub rows : List ℕ → List ℕ → Rows
rows row area = record { row = row; area = area }

-- ---- the world of a state with the rows that were lent, and the state of a world
unfoldable pub world_of : State → Rows → Rows → World
world_of s high low =
    record {
      site = record { core = s.core; masters = s.masters.0; marks = s.marks.0; high = high; low = low };
      started = s.started.0;
      points = s.points.0;
      memory = s.memory;
    }

unfoldable pub state_of : World → State
state_of w =
    record {
      core = w.site.core;
      masters = record { 0 = w.site.masters };
      started = record { 0 = w.started };
      marks = record { 0 = w.site.marks };
      points = record { 0 = w.points };
      memory = w.memory;
    }

unfoldable pub state_with : Core → State → State
state_with c s =
    record {
      core = c;
      masters = s.masters;
      started = s.started;
      marks = s.marks;
      points = s.points;
      memory = s.memory;
    }
