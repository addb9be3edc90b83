-- A request as it was submitted: the octets that carry it and the records that are of it; the events that accept it,
-- confirm it and collect its record, by its place in its queue; and the ledger of what was submitted last at each
-- place. Assumes nothing.
use Rattle.std.specs.Prelude.{ℕ, Bool, true, false, ◌≡◌, List, [], ◌∷◌, length}
use Rattle.choice.specs.Choice.{pick, same, both}
use Rattle.control.specs.declared.Control.TheVariants.{Request}
use Rattle.frame.specs.declared.Head.{Head}
use Rattle.frame.specs.declared.Part.{Part}
use Rattle.frame.specs.declared.Fields.TheVariants.{Frame}
use Rattle.frame.specs.Reading.{Read}
use Rattle.frame.specs.Access.{point_of}
use Rattle.frame.specs.Format.{octets}
use Rattle.frame.specs.Reading.{read, shown}
use Rattle.request.specs.declared.Record.{Record}
use Rattle.request.specs.Record.{unfit, limited}
use Rattle.rows.specs.Rows.{at, content}
use Rattle.state.specs.declared.Priority.{Priority}
use Rattle.state.specs.World.{Rows, World, Event, accepted, begins, ends, sends, confirmed, collected}
use Rattle.state.specs.World.{indicated, resets, refused}
use Rattle.state.specs.Request.{service_of, head_for}
use Rattle.state.specs.Counts.{alike}
use Rattle.state.specs.Runs.{Call, call}
use Rattle.state.specs.Runs.Call.{submit, frame, sent, slot, reset, collect}

-- the octets of the frame that a fit request with the record r and the data x makes in the queue p of station TS with
-- that retry limit: from TS to r's destination, with r's access points and service, and with x; FCB and FCV are those
-- of some mark (Counts.antt says of which)
pub record Carries (ts limit : ℕ) (p : Priority) (r : Record) (x o : List ℕ) : Type 0 where
  pub mark : ℕ
  pub fit : unfit ts (limited limit r) (length x) ≡ 0
  pub is : o ≡ octets (Frame (head_for (record { 0 = ts }) p r mark)) x

-- octets that a reader takes for that frame
pub record Reads (ts : ℕ) (p : Priority) (r : Record) (x o : List ℕ) : Type 0 where
  pub head : Head
  pub part : Part
  pub fcb : Bool
  pub fcv : Bool
  pub taken : read o ≡ Read (Frame head) part
  pub destination : head.destination ≡ r.destination
  pub to : point_of head.to ≡ r.to.0
  pub source : head.source.0 ≡ ts
  pub from : point_of head.from ≡ r.from.0
  pub control : head.control ≡ Request (service_of p r.service) fcb fcv
  pub octets : shown o part ≡ x

-- a record e of the request that was submitted with the record r to a station with that retry limit: its service, its
-- destination, its access points, and its reference, "handed back untouched"; its limit is its own, or the station's if
-- it asked for that
pub record Of (limit : ℕ) (r e : Record) : Type 0 where
  pub service : e.service ≡ r.service
  pub destination : e.destination ≡ r.destination
  pub to : e.to ≡ r.to
  pub from : e.from ≡ r.from
  pub reference : e.reference ≡ r.reference
  pub limits : e.limit ≡ pick r.asks limit r.limit
  pub asks : e.asks ≡ r.asks

-- at place n of a row and its data area lie the record e and, in as many octets of data, d
pub record Lies (n : ℕ) (e : Record) (many : ℕ) (d : List ℕ) (u : Rows) : Type 0 where
  pub entry : at u.row n ≡ e
  pub octets : content u.area n many ≡ d

-- whether an event accepts a request at place n of the queue p, confirms it, and collects its record
unfoldable pub accepts : Priority → ℕ → Event → Bool
accepts p n (accepted q m) = both (alike p q) (same n m)
accepts p n begins = false
accepts p n ends = false
accepts p n (sends x o t) = false
accepts p n (confirmed q m status k) = false
accepts p n (collected q m r) = false
accepts p n (indicated h d) = false
accepts p n resets = false
accepts p n (refused m) = false

unfoldable pub confirms : Priority → ℕ → Event → Bool
confirms p n (accepted q m) = false
confirms p n begins = false
confirms p n ends = false
confirms p n (sends x o t) = false
confirms p n (confirmed q m status k) = both (alike p q) (same n m)
confirms p n (collected q m r) = false
confirms p n (indicated h d) = false
confirms p n resets = false
confirms p n (refused m) = false

unfoldable pub collects : Priority → ℕ → Event → Bool
collects p n (accepted q m) = false
collects p n begins = false
collects p n ends = false
collects p n (sends x o t) = false
collects p n (confirmed q m status k) = false
collects p n (collected q m r) = both (alike p q) (same n m)
collects p n (indicated h d) = false
collects p n resets = false
collects p n (refused m) = false

-- none of the events does so
unfoldable pub never : (Event → Bool) → List Event → Bool
never f [] = true
never f (e ∷ l) = pick (f e) false (never f l)

-- ---- the ledger: for a place of a queue, the record and the data that were last submitted and accepted there
pub data Entry : Type 0 where
  blank : Entry
  entry : Record → List ℕ → Entry

-- what a call makes of it with what it tells: an accepted submit enters what it was given, and nothing else does
unfoldable pub enters : Priority → ℕ → Call → List Event → Entry → Entry
enters p n (submit q r x) l e = pick (never (accepts p n) l) e (entry r x)
enters p n (frame clock room high low octets out) l e = e
enters p n (sent clock out) l e = e
enters p n (slot clock out) l e = e
enters p n reset l e = e
enters p n (collect q) l e = e

-- calls in a row, each with the world that the call before left
unfoldable pub ledger : Priority → ℕ → List Call → World → Entry → Entry
ledger p n [] w e = e
ledger p n (c ∷ l) w e = ledger p n l (call c w).world (enters p n c (call c w).events e)

-- octets that carry the request of an entry, octets that a reader takes for it, and records of it
unfoldable pub CarriesEntry : ℕ → ℕ → Priority → Entry → List ℕ → Type 0
CarriesEntry ts limit p blank o = ⊥
CarriesEntry ts limit p (entry r x) o = Carries ts limit p r x o

unfoldable pub ReadsEntry : ℕ → Priority → Entry → List ℕ → Type 0
ReadsEntry ts p blank o = ⊥
ReadsEntry ts p (entry r x) o = Reads ts p r x o

unfoldable pub OfEntry : ℕ → Entry → Record → Type 0
OfEntry limit blank e = ⊥
OfEntry limit (entry r x) e = Of limit r e
