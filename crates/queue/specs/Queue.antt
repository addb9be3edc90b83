-- Document 01, "Station": a queue as a row of places used in turn, "confirmed ones come first, then the one being sent,
-- then the waiting", and what submit, a confirmation and collect make of it. Numbers and records only; the row's memory
-- is the business of the crates above. Assumes nothing.
use Rattle.std.specs.Prelude.{ℕ, ◌+◌, ◌-◌, ◌*◌, ◌<◌, ◌≤◌, Bool, true, false, Result, Ok, Err}
use Rattle.choice.specs.Choice.{pick, less, same, said}
use Rattle.refusal.specs.declared.Refusal.{Refusal}
use Rattle.refusal.specs.Refusal.{number}
use Rattle.request.specs.declared.Record.{Record}
use Rattle.request.specs.Record.{WAITING, unfit, named}
use Rattle.queue.specs.declared.Queue.{Queue}
use Rattle.queue.specs.declared.Taken.{Taken as Takes}
use Rattle.queue.specs.declared.Handed.{Handed as Hands}

-- a row has "1..64 places, with 246 data octets a place"
abbrev pub PLACES : ℕ
PLACES = 64

abbrev pub AREA : ℕ
AREA = 246

-- "Places are used in turn": the place some places behind the first in use, round the row
unfoldable pub place : Queue → ℕ → ℕ
place q k = pick (less (q.first + k) q.places) (q.first + k) (q.first + k - q.places)

-- 21: "row length 0, over 64 or not as started; data not 246 a place", of a row that counts so many for each place
unfoldable pub unlike : ℕ → ℕ → ℕ → ℕ → Bool
unlike places each row area =
    pick (same places 0) true
    (pick (less PLACES places) true
    (pick (same row (each * places)) (pick (same area (AREA * places)) false true) true))

unfoldable pub misfit : Queue → ℕ → ℕ → ℕ → Bool
misfit q each row area = unlike q.places each row area

-- 29: "counts above its rows"
unfoldable pub above : ℕ → ℕ → ℕ → Bool
above places first used =
    pick (less PLACES places) true (pick (less first places) (pick (less places used) true false) true)

unfoldable pub overfull : Queue → Bool
overfull q = above q.places q.first (q.confirmed + q.unconfirmed)

-- a queue that is not overfull, in numbers
pub record Ruled (q : Queue) : Type 0 where
  pub few : q.places ≤ PLACES
  pub turn : q.first < q.places
  pub used : q.confirmed + q.unconfirmed ≤ q.places

-- a record with a status, a count of sendings and n octets of data; the rest of it stays, the reference "untouched"
unfoldable pub closed : Record → ℕ → ℕ → ℕ → Record
closed r status count n =
    record {
      service = r.service;
      destination = r.destination;
      to = r.to;
      from = r.from;
      length = n;
      status = status;
      count = count;
      reference = r.reference;
      limit = r.limit;
      asks = r.asks;
    }

-- ---- submit
-- what submit decides: the number of the refusal or 0, the place taken, the record to stand there, and the queue; refused,
-- the record and the queue are those offered
pub record Taken : Type 0 where
  pub refused : ℕ
  pub place : ℕ
  pub entry : Record
  pub queue : Queue

-- the record of an accepted request with n octets of data
abbrev pub waiting : Record → ℕ → Record
waiting r n = closed r WAITING 0 n

unfoldable pub grown : Queue → Queue
grown q =
    record { places = q.places; first = q.first; confirmed = q.confirmed; unconfirmed = q.unconfirmed + 1 }

unfoldable pub refuse : ℕ → Queue → Record → Taken
refuse n q r = record { refused = n; place = 0; entry = r; queue = q }

unfoldable pub take : Queue → Record → ℕ → Taken
take q r n =
    record { refused = 0; place = place q (q.confirmed + q.unconfirmed); entry = waiting r n; queue = grown q }

-- the same as it is answered, of the queue and the record offered
unfoldable pub accepted : Takes → Taken
accepted t = record { refused = 0; place = t.place; entry = t.entry; queue = t.queue }

unfoldable pub taken_of : Queue → Record → Result Takes Refusal → Taken
taken_of q r (Ok t) = accepted t
taken_of q r (Err e) = refuse (number e) q r

-- 23 to 26 and 30, then 27, "every place in use"; or the place that the request takes, its record, and the queue with it
unfoldable pub taken : ℕ → Queue → Record → ℕ → Taken
taken ts q r n =
    pick (same (unfit ts r n) 0)
    (pick (less (q.confirmed + q.unconfirmed) q.places) (take q r n) (refuse 27 q r))
    (refuse (unfit ts r n) q r)

-- ---- a confirmation
-- the place of the first unconfirmed request: the one being sent, or else the next to be sent
unfoldable pub current : Queue → ℕ
current q = place q q.confirmed

-- the queue with that request confirmed
unfoldable pub confirmed : Queue → Queue
confirmed q =
    record { places = q.places; first = q.first; confirmed = q.confirmed + 1; unconfirmed = q.unconfirmed - 1 }

-- ---- collect
-- what collect hands back: the number of the refusal, or the place's number, its record, and the queue with the place free
pub data Collected : Type 0 where
  Refused : ℕ → Collected
  Handed : ℕ → Record → Queue → Collected

-- the same as it is answered
unfoldable pub collected_of : Result Hands Refusal → Collected
collected_of (Ok h) = Handed h.place h.entry h.queue
collected_of (Err e) = Refused (number e)

-- the queue with its first place free
unfoldable pub freed : Queue → Queue
freed q =
    record { places = q.places; first = place q 1; confirmed = q.confirmed - 1; unconfirmed = q.unconfirmed }

-- 28, "none confirmed", 29, "a status not named here"; or the oldest confirmed record and its place's number
unfoldable pub collected : Queue → Record → Collected
collected q r =
    pick (same q.confirmed 0) (Refused 28)
    (pick (said (named r.status)) (Handed q.first r (freed q)) (Refused 29))
