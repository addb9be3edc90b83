-- Document 01, "Station": the calls. Each goes from a world to a world and its events; a refused call leaves the world.
-- Assumes nothing.
use Rattle.std.specs.Prelude.{ℕ, zero, suc, Bool, false, List, [], ◌∷◌, ◌++◌, length, replicate}
use Rattle.choice.specs.Choice.{pick, less, same, said}
use Rattle.control.specs.declared.Kind.TheVariants.{InRing}
use Rattle.frame.specs.declared.Fields.{Fields}
use Rattle.frame.specs.declared.Fields.TheVariants.{Token, Short, Frame}
use Rattle.frame.specs.declared.Part.{Part}
use Rattle.frame.specs.Reading.{Answer as Reading}
use Rattle.frame.specs.Reading.{Refused as Unread, Read}
use Rattle.frame.specs.Reading.{read, shown}
use Rattle.ring.specs.Ring.{previous_of}
use Rattle.times.specs.declared.Settings.{Settings}
use Rattle.times.specs.declared.Sending.TheVariants.{Reply as ReplySending}
use Rattle.request.specs.declared.Record.{Record}
use Rattle.request.specs.Record.{DS, limited}
use Rattle.queue.specs.declared.Queue.{Queue}
use Rattle.queue.specs.Queue.{Taken}
use Rattle.queue.specs.Queue.{Collected}
use Rattle.queue.specs.Queue.{Refused as Uncollected, Handed}
use Rattle.queue.specs.Queue.{PLACES, current}
use Rattle.rows.specs.Rows.{Left, left, submitted, handed, drain}
use Rattle.state.specs.declared.Phase.{Phase}
use Rattle.state.specs.declared.Phase.TheVariants.{Idle, Awaited, Sdn, Check, ToSelf}
use Rattle.state.specs.declared.Priority.{Priority}
use Rattle.state.specs.declared.Priority.TheVariants.{High, Low}
use Rattle.state.specs.declared.Hold.{Hold}
use Rattle.state.specs.declared.Core.{Core}
use Rattle.state.specs.declared.Memory.{Memory}
use Rattle.state.specs.declared.State.{State}
use Rattle.state.specs.declared.Responder.{Responder}
use Rattle.state.specs.declared.Outcome.TheVariants.{Gone}
use Rattle.state.specs.World.{Rows, Site, World, Event, Done, Called, accepted, ends, confirmed, collected}
use Rattle.state.specs.World.{resets, refused, still, done, with_queue, queue_of, with_core, rows_of}
use Rattle.state.specs.World.{with_rows, with_site, with_memory, state_of}
use Rattle.state.specs.Request.{UNKNOWN, record_of, wait_for, judged}
use Rattle.state.specs.Pass.{recheck}
use Rattle.state.specs.Hold.{NOBODY, ended, rest, begin, token, retry, concluded}
use Rattle.state.specs.Answering.{Answered, answer}
use Rattle.state.specs.Refusals.{unstartable, unlent, lawless, refusal}

-- a call on the site, one on the answering side, and a refused one
unfoldable pub called : Done → World → Called
called d w = record { world = with_site d.site w; events = d.events }

unfoldable pub replying : Answered → World → Called
replying a w = record { world = with_memory a.memory w; events = a.events }

unfoldable pub refuse : ℕ → World → Called
refuse n w = record { world = w; events = refused n ∷ [] }

unfoldable pub nothing : World → Called
nothing w = record { world = w; events = [] }

-- ---- start
-- an empty queue of so many places; a hold before any; an answering memory of nothing
unfoldable pub empty_queue : ℕ → Queue
empty_queue n = record { places = n; first = 0; confirmed = 0; unconfirmed = 0 }

unfoldable pub first_hold : Hold
first_hold = record { acceptance = record { 0 = 0 }; before = record { 0 = 0 }; begun = 0 }

unfoldable pub forgotten : List ℕ → Memory
forgotten l = record { kept = record { source = record { 0 = NOBODY }; bit = false; length = 0 }; octets = l }

unfoldable pub no_rows : Rows
no_rows = record { row = []; area = [] }

-- the core of a station that nothing has happened to: Idle, PS "found downward likewise"
unfoldable pub fresh_core : Settings → ℕ → List ℕ → Queue → Queue → Core
fresh_core s ts masters high low =
    record {
      settings = s;
      ts = record { 0 = ts };
      ps = record { 0 = previous_of masters ts };
      stranger = record { 0 = NOBODY };
      doing = record { phase = Idle; served = High; sendings = 0; sdn = false };
      hold = first_hold;
      high = high;
      low = low;
    }

-- the world of a core that starts afresh: the set as started, marks unknown, nothing remembered
unfoldable pub fresh_world : Core → List ℕ → List ℕ → List ℕ → Rows → Rows → World
fresh_world c masters points octets high low =
    record {
      site = record { core = c; masters = masters; marks = replicate 127 UNKNOWN; high = high; low = low };
      started = masters;
      points = points;
      memory = forgotten octets;
    }

-- "start: the number alone", or the state
pub data Started : Type 0 where
  Unstarted : ℕ → Started
  Station : State → Started

unfoldable pub start : Settings → ℕ → List ℕ → List ℕ → ℕ → ℕ → Started
start s ts masters points high low =
    pick (said (unstartable s ts masters)) (Unstarted 20)
    (pick (same high 0) (Unstarted 21)
    (pick (less PLACES high) (Unstarted 21)
    (pick (same low 0) (Unstarted 21)
    (pick (less PLACES low) (Unstarted 21)
    (Station
    (state_of
    (fresh_world (fresh_core s ts masters (empty_queue high) (empty_queue low)) masters points (replicate 255 0) no_rows
    no_rows)))))))

-- ---- submit
-- the record as it is looked at: "the station's limit only fills records that ask for it"
abbrev pub limited_in : World → Record → Record
limited_in w r = limited w.site.core.settings.retries.0 r

unfoldable pub submitting : Priority → Left Taken → Site → Done
submitting p l s =
    pick (same l.answer.refused 0)
    (done (with_rows p (record { row = l.row; area = l.area }) (with_core (with_queue p l.answer.queue s.core) s))
    (accepted p l.answer.place ∷ []))
    (done s (refused l.answer.refused ∷ []))

unfoldable pub submit : Priority → Record → List ℕ → World → Called
submit p r x w =
    pick (said (unlent (queue_of p w.site.core) (rows_of p w.site))) (refuse 21 w)
    (pick (said (lawless w.site.core w.site.masters w.started w.memory.kept)) (refuse 29 w)
    (called
    (submitting p
    (submitted w.site.core.ts.0 (queue_of p w.site.core) (limited_in w r) x (rows_of p w.site).row
    (rows_of p w.site).area) w.site)
    w))

-- ---- collect
unfoldable pub collecting : Priority → Collected → Site → Done
collecting p (Uncollected n) s = done s (refused n ∷ [])
collecting p (Handed place r q) s = done (with_core (with_queue p q s.core) s) (collected p place r ∷ [])

unfoldable pub collect : Priority → World → Called
collect p w =
    pick (said (unlent (queue_of p w.site.core) (rows_of p w.site))) (refuse 21 w)
    (pick (said (lawless w.site.core w.site.masters w.started w.memory.kept)) (refuse 29 w)
    (called (collecting p (handed (queue_of p w.site.core) (rows_of p w.site).row) w.site) w))

-- ---- frame
-- what this master answers as: TS, "type 3" in ring, "min TSDR before a reply"
unfoldable pub responder : Core → Responder
responder c = record { ts = c.ts; kind = InRing; wait = record { 0 = wait_for c ReplySending } }

-- a good frame in Idle: a token, a request to answer, or nothing to this station
unfoldable pub idle : ℕ → Bool → List ℕ → List ℕ → Fields → Part → World → Called
idle clock room high low (Token d s) p w = called (token clock d.0 s.0 w.site) w
idle clock room high low Short p w = nothing w
idle clock room high low (Frame h) p w =
    replying (answer (responder w.site.core) w.points w.memory room high low h p) w

unfoldable pub idle_read : ℕ → Bool → List ℕ → List ℕ → Reading → World → Called
idle_read clock room high low (Unread n) w = nothing w
idle_read clock room high low (Read f p) w = idle clock room high low f p w

-- a frame while a reply is awaited
unfoldable pub awaited_read : ℕ → List ℕ → Reading → Site → Done
awaited_read clock octets (Unread n) s = retry clock s
awaited_read clock octets (Read f p) s =
    concluded clock (shown octets p) (judged s.core.ts.0 (record_of s.core.doing.served s) f p.count) s

-- "Any frame, good or bad, ends the check (a good one is then handled as in Idle)"; "What a phase does not name is
-- ignored"
unfoldable pub heard : Phase → ℕ → Bool → List ℕ → List ℕ → List ℕ → World → Called
heard Idle clock room high low octets w = idle_read clock room high low (read octets) w
heard Awaited clock room high low octets w = called (awaited_read clock octets (read octets) w.site) w
heard Sdn clock room high low octets w = nothing w
heard Check clock room high low octets w = idle_read clock room high low (read octets) (with_site (rest w.site) w)
heard ToSelf clock room high low octets w = nothing w

-- a call that is carried out unless it is refused
abbrev pub unless : ℕ → World → Called → Called
unless n w d = pick (same n 0) d (refuse n w)

unfoldable pub frame : ℕ → Bool → List ℕ → List ℕ → List ℕ → ℕ → World → Called
frame clock room high low octets out w =
    unless (refusal out (length high) (length low) w) w
    (heard w.site.core.doing.phase clock room high low octets w)

-- ---- sent
-- "SDN .. is confirmed OK at "sent""; "token to itself, and "sent" begins a hold"
unfoldable pub sent_in : Phase → ℕ → Site → Done
sent_in Idle clock s = still s
sent_in Awaited clock s = still s
sent_in Sdn clock s = ended Gone [] clock s
sent_in Check clock s = still s
sent_in ToSelf clock s = begin clock s

unfoldable pub sent : ℕ → ℕ → World → Called
sent clock out w =
    unless (refusal out 0 0 w) w (called (sent_in w.site.core.doing.phase clock w.site) w)

-- ---- slot expired
unfoldable pub slot_in : Phase → ℕ → Site → Done
slot_in Idle clock s = still s
slot_in Awaited clock s = retry clock s
slot_in Sdn clock s = still s
slot_in Check clock s = recheck s
slot_in ToSelf clock s = still s

unfoldable pub slot : ℕ → ℕ → World → Called
slot clock out w =
    unless (refusal out 0 0 w) w (called (slot_in w.site.core.doing.phase clock w.site) w)

-- ---- reset
-- the sendings of a queue's first unconfirmed request: 0 if it is not being sent
unfoldable pub begun : Phase → ℕ → ℕ
begun Idle n = 0
begun Awaited n = n
begun Sdn n = n
begun Check n = 0
begun ToSelf n = 0

unfoldable pub sendings_of : Priority → Priority → ℕ → ℕ
sendings_of High High n = n
sendings_of High Low n = 0
sendings_of Low High n = 0
sendings_of Low Low n = n

-- the confirmations DS of n requests, the first with its count of sendings
unfoldable pub dismissed : Priority → ℕ → ℕ → Queue → List Event
dismissed p zero count q = []
dismissed p (suc n) count q = confirmed p (current q) DS count ∷ dismissed p n 0 (Rattle.queue.specs.Queue.confirmed q)

-- a hold that is on is over
unfoldable pub broken : Phase → List Event
broken Idle = []
broken Awaited = ends ∷ []
broken Sdn = ends ∷ []
broken Check = []
broken ToSelf = []

unfoldable pub count_of : Priority → Core → ℕ
count_of p c = sendings_of c.doing.served p (begun c.doing.phase c.doing.sendings)

unfoldable pub drained : Priority → Site → Left Queue
drained p s =
    drain (queue_of p s.core).unconfirmed (count_of p s.core)
    (left (queue_of p s.core) (rows_of p s).row (rows_of p s).area)

unfoldable pub dismissal : Priority → Core → List Event
dismissal p c = dismissed p (queue_of p c).unconfirmed (count_of p c) (queue_of p c)

-- "Reset confirms all unconfirmed requests DS, forgets marks, a first token and the answering memory, restores PS and
-- the set of masters as started, and goes Idle"
unfoldable pub resetting : World → Called
resetting w =
    let c : Core = w.site.core in
    let h : Left Queue = drained High w.site in
    let l : Left Queue = drained Low w.site in
    record {
      world =
          fresh_world (fresh_core c.settings c.ts.0 w.started h.answer l.answer) w.started
          w.points w.memory.octets (record { row = h.row; area = h.area })
          (record { row = l.row; area = l.area });
      events = resets ∷ (broken c.doing.phase ++ (dismissal High c ++ dismissal Low c));
    }

unfoldable pub reset : World → Called
reset w =
    pick (said (unlent w.site.core.high w.site.high)) (refuse 21 w)
    (pick (said (unlent w.site.core.low w.site.low)) (refuse 21 w)
    (pick (said (lawless w.site.core w.site.masters w.started w.memory.kept)) (refuse 29 w)
    (resetting w)))
