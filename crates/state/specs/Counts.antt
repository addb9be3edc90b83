-- Document 01, "Requests": frame counts, by the history alone. A fold over the events of a run keeps the mark of each
-- address and the request that was sent and is not confirmed; and what each sending of a request must be after that.
-- Assumes nothing.
use Rattle.std.specs.Prelude.{ℕ, ◌+◌, ◌%◌, Bool, true, false, ◌≡◌, List, [], ◌∷◌, ◌++◌}
use Rattle.choice.specs.Choice.{pick, same}
use Rattle.control.specs.declared.Service.{Service}
use Rattle.control.specs.declared.Control.{Control}
use Rattle.control.specs.declared.Control.TheVariants.{Request, Reply}
use Rattle.control.specs.Control.{control_of, counted}
use Rattle.frame.specs.Format.{SD1}
use Rattle.frame.specs.Reading.{octet}
use Rattle.request.specs.Record.{NA}
use Rattle.state.specs.declared.Priority.{Priority}
use Rattle.state.specs.declared.Priority.TheVariants.{High, Low}
use Rattle.state.specs.World.{What, a_request, a_token, a_reply, Event, accepted, begins, ends, sends, confirmed}
use Rattle.state.specs.World.{collected, indicated, resets, refused}

-- "a frame count mark for each of the 127 addresses: unknown, or the next bit"
pub data Mark : Type 0 where
  unknown : Mark
  next : Bool → Mark

-- FCB and FCV
pub record Bits : Type 0 where
  pub fcb : Bool
  pub fcv : Bool

-- "SDA and SRD to an unknown address go with FCB 1, FCV 0 .. Otherwise FCV 1 with the next bit"
unfoldable pub bits_for : Mark → Bits
bits_for unknown = record { fcb = true; fcv = false }
bits_for (next b) = record { fcb = b; fcv = true }

-- "SDN goes with 0, 0"
unfoldable pub due : Service → Mark → Bits
due s m = pick (counted s) (bits_for m) (record { fcb = false; fcv = false })

-- "a plausible reply makes the next bit 0", and one that is known it "turns over"; "then confirmation NA and the mark
-- unknown"
unfoldable pub answered : Mark → Mark
answered unknown = next false
answered (next b) = next (pick b false true)

unfoldable pub settled : ℕ → Mark → Mark
settled status m = pick (same status NA) unknown (answered m)

-- ---- the octets of a request: DA, SA and FC stand behind the start octet of an SD1, and behind 68 LE LE 68 of an SD2
unfoldable pub field : List ℕ → ℕ → ℕ
field o k = pick (same (octet o 0) SD1) (octet o (1 + k)) (octet o (4 + k))

-- "DA and SA hold an address in seven bits"
unfoldable pub destination_in : List ℕ → ℕ
destination_in o = field o 0 % 128

unfoldable pub control_in : List ℕ → Control
control_in o = control_of (field o 2)

-- an SDA or an SRD, whose sendings are counted
unfoldable pub counts : Control → Bool
counts (Request s b v) = counted s
counts (Reply k c) = false

-- ---- the history: the mark of each address, and the request that was sent and not confirmed since, with its octets
pub data Pending : Type 0 where
  none : Pending
  sent : Priority → ℕ → List ℕ → Pending

pub record History : Type 0 where
  pub marks : ℕ → Mark
  pub pending : Pending

-- after a start or a reset: every mark unknown, nothing sent
unfoldable pub unheard : History
unheard = record { marks = λ a. unknown; pending = none }

-- a confirmation with that status of a request last sent as those octets: of an SDA or SRD it changes its
-- destination's mark
unfoldable pub marks_by : ℕ → List ℕ → (ℕ → Mark) → ℕ → Mark
marks_by status o m a =
    pick (counts (control_in o)) (pick (same a (destination_in o)) (settled status (m a)) (m a)) (m a)

unfoldable pub alike : Priority → Priority → Bool
alike High High = true
alike High Low = false
alike Low High = false
alike Low Low = true

-- the request at a place of a queue is confirmed: one that was never sent changes nothing
unfoldable pub closes : Priority → ℕ → ℕ → Pending → History → History
closes p n status none h = h
closes p n status (sent q m o) h =
    pick (alike p q) (pick (same n m) (record { marks = marks_by status o h.marks; pending = none }) h) h

unfoldable pub goes : What → List ℕ → History → History
goes (a_request p n) o h = record { marks = h.marks; pending = sent p n o }
goes a_token o h = h
goes a_reply o h = h

-- what an event makes of it, and events in a row
unfoldable pub heeds : Event → History → History
heeds (accepted p n) h = h
heeds begins h = h
heeds ends h = h
heeds (sends x o t) h = goes x o h
heeds (confirmed p n status k) h = closes p n status h.pending h
heeds (collected p n r) h = h
heeds (indicated f d) h = h
heeds resets h = unheard
heeds (refused n) h = h

unfoldable pub history : List Event → History → History
history [] h = h
history (e ∷ l) h = history l (heeds e h)

-- ---- what a sending of the request at place n of the queue p must be
-- either nothing sent waits for its confirmation, or this same request does, and it went with "the same octets"
pub data Turn (p : Priority) (n : ℕ) (o : List ℕ) : Pending → Type 0 where
  first : Turn p n o none
  again : Turn p n o (sent p n o)

-- a request with the FCB and FCV that its destination's mark gives its service
pub record Rightly (h : History) (p : Priority) (n : ℕ) (o : List ℕ) : Type 0 where
  pub service : Service
  pub control : control_in o
      ≡ Request service (due service (h.marks (destination_in o))).fcb (due service (h.marks (destination_in o))).fcv
  pub turn : Turn p n o h.pending

-- ---- what follows of it, in words for lists of events
-- FCB and FCV in the octets of a request, and those that follow a plausible reply: FCV 1 with the other bit, or with
-- 0 if FCV was 0
unfoldable pub bits_of : Control → Bits
bits_of (Request s b v) = record { fcb = b; fcv = v }
bits_of (Reply k c) = record { fcb = false; fcv = false }

unfoldable pub bits_in : List ℕ → Bits
bits_in o = bits_of (control_in o)

unfoldable pub following : Bits → Bits
following b = record { fcb = pick b.fcv (pick b.fcb false true) false; fcv = true }

-- none of the events confirms the request at place n of the queue p, and none is a reset
unfoldable pub unclosed : Priority → ℕ → List Event → Bool
unclosed p n [] = true
unclosed p n (accepted q m ∷ l) = unclosed p n l
unclosed p n (begins ∷ l) = unclosed p n l
unclosed p n (ends ∷ l) = unclosed p n l
unclosed p n (sends x o t ∷ l) = unclosed p n l
unclosed p n (confirmed q m status k ∷ l) = pick (alike q p) (pick (same m n) false (unclosed p n l)) (unclosed p n l)
unclosed p n (collected q m r ∷ l) = unclosed p n l
unclosed p n (indicated f d ∷ l) = unclosed p n l
unclosed p n (resets ∷ l) = false
unclosed p n (refused m ∷ l) = unclosed p n l

-- none of the events sends an SDA or SRD to the address a, and none is a reset
unfoldable pub aims : ℕ → What → List ℕ → Bool
aims a (a_request p n) o = pick (counts (control_in o)) (same a (destination_in o)) false
aims a a_token o = false
aims a a_reply o = false

unfoldable pub unaimed : ℕ → List Event → Bool
unaimed a [] = true
unaimed a (accepted q m ∷ l) = unaimed a l
unaimed a (begins ∷ l) = unaimed a l
unaimed a (ends ∷ l) = unaimed a l
unaimed a (sends x o t ∷ l) = pick (aims a x o) false (unaimed a l)
unaimed a (confirmed q m status k ∷ l) = unaimed a l
unaimed a (collected q m r ∷ l) = unaimed a l
unaimed a (indicated f d ∷ l) = unaimed a l
unaimed a (resets ∷ l) = false
unaimed a (refused m ∷ l) = unaimed a l

-- among the events: an SDA or SRD is sent, it is confirmed with that status, and then comes the next SDA or SRD to
-- the same address
pub record Succession (e : List Event) : Type 0 where
  pub before : List Event
  pub queue : Priority
  pub place : ℕ
  pub earlier : List ℕ
  pub earlier_wait : ℕ
  pub until : List Event
  pub status : ℕ
  pub count : ℕ
  pub since : List Event
  pub next_queue : Priority
  pub next_place : ℕ
  pub later : List ℕ
  pub later_wait : ℕ
  pub after : List Event
  pub told : e
      ≡ before ++
      (sends (a_request queue place) earlier earlier_wait ∷
      (until ++
      (confirmed queue place status count ∷
      (since ++ (sends (a_request next_queue next_place) later later_wait ∷ after)))))
  pub unanswered : unclosed queue place until ≡ true
  pub earlier_counts : counts (control_in earlier) ≡ true
  pub later_counts : counts (control_in later) ≡ true
  pub address : destination_in later ≡ destination_in earlier
  pub next : unaimed (destination_in later) since ≡ true
