-- Document 01, "Station": a row of request records as octets at fixed places, with its data area of 246 octets a place,
-- and what each call on one leaves in both, all of it. Assumes nothing.
use Rattle.std.specs.Prelude.{ℕ, zero, suc, ◌+◌, ◌*◌, Bool, true, false, ◌≡◌, List, [], length}
use Rattle.choice.specs.Choice.{pick, same}
use Rattle.frame.specs.Reading.{part}
use Rattle.laid.specs.Laid.{laid}
use Rattle.request.specs.declared.Record.{Record}
use Rattle.request.specs.Record.{SIZE, DS, octets, record_at, unfit}
use Rattle.queue.specs.declared.Queue.{Queue}
use Rattle.queue.specs.Queue.{Taken}
use Rattle.queue.specs.Queue.{Collected}
use Rattle.queue.specs.Queue.{AREA, place, current, closed, taken, confirmed, collected}

-- the record at a place, and the octets of a place's data
unfoldable pub at : List ℕ → ℕ → Record
at row p = record_at row (SIZE * p)

unfoldable pub content : List ℕ → ℕ → ℕ → List ℕ
content area p n = part area (AREA * p) n

-- a row with a record put at a place, and a data area with octets put there
unfoldable pub put : List ℕ → ℕ → Record → List ℕ
put row p r = laid row (SIZE * p) (octets r)

unfoldable pub fill : List ℕ → ℕ → List ℕ → List ℕ
fill area p x = laid area (AREA * p) x

-- a row and its data area are the queue's: not refused 21
pub record Lent (q : Queue) (row area : List ℕ) : Type 0 where
  pub places : length row ≡ SIZE * q.places
  pub areas : length area ≡ AREA * q.places

-- what a call on a row leaves: its answer, the row and the data area
pub record Left (A : Type 0) : Type 0 where
  pub answer : A
  pub row : List ℕ
  pub area : List ℕ

abbrev pub left : {A : Type 0} → A → List ℕ → List ℕ → Left A
left a row area = record { answer = a; row = row; area = area }

-- ---- submit
-- what is left when submit decided: as it was, or the record and its data at the place taken
unfoldable pub stored : Taken → List ℕ → List ℕ → List ℕ → Left Taken
stored t x row area =
    pick (same t.refused 0)
    (left t (put row t.place t.entry) (fill area t.place x))
    (left t row area)

-- 23 to 26, 30 and 27, or the request taken: of a row that was not refused 21, and counts not refused 29
unfoldable pub submitted : ℕ → Queue → Record → List ℕ → List ℕ → List ℕ → Left Taken
submitted ts q r x row area = stored (taken ts q r (length x)) x row area

-- ---- a confirmation
-- the first unconfirmed record gets its status, count and length, and "reply data replace the request's in its place; a
-- confirmation without data sets the record's length to 0 and leaves the octets"
unfoldable pub confirm : Queue → ℕ → ℕ → List ℕ → List ℕ → List ℕ → Left Queue
confirm q status count x row area =
    left (confirmed q) (put row (current q) (closed (at row (current q)) status count (length x)))
    (fill area (current q) x)

-- "Reset confirms all unconfirmed requests DS": n of them, the first with its count of sendings and the others, never
-- sent, with 0
unfoldable pub drain : ℕ → ℕ → Left Queue → Left Queue
drain zero count w = w
drain (suc n) count w = drain n 0 (confirm w.answer DS count [] w.row w.area)

-- ---- collect
-- 28 and 29, or the oldest confirmed record, of a row and counts likewise; the row and its data are left as they are
unfoldable pub handed : Queue → List ℕ → Collected
handed q row = collected q (at row q.first)

-- ---- the record part of 29
-- the record k places behind the first unconfirmed one
abbrev pub pending : List ℕ → Queue → ℕ → Record
pending row q k = at row (place q (q.confirmed + k))

-- none of the first n unconfirmed records is one that "submit would refuse for itself (23 to 26)", and of order 6 30:
-- "29 reads it too"
unfoldable pub sound : ℕ → Queue → List ℕ → ℕ → Bool
sound ts q row zero = true
sound ts q row (suc n) =
    pick (same (unfit ts (pending row q n) (pending row q n).length) 0) (sound ts q row n) false
