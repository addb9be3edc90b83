-- What submit leaves: how its decision is stored, that a request taken has room, and the two outcomes of the whole
-- call. Assumes nothing.
use Prim.Native.Nat.{ℕ, ◌+◌, ◌*◌, ◌≤◌}
use mathlib.Core.Path.{◌≡◌, refl, ◌∙◌}
use mathlib.Core.List.{List}
use native.Mathlib.Omega.{arith}
use lib.ListN.{length}
use Rattle.std.proofs.Common.{Ok, Err}
use Rattle.choice.proofs.Rules.{if-same, unless-same}
use Rattle.refusal.specs.declared.Refusal.{Refusal}
use Rattle.refusal.specs.Refusal.{number}
use Rattle.refusal.proofs.Numbers.{above_zero}
use Rattle.request.specs.declared.Record.{Record}
use Rattle.request.specs.Record.{SIZE}
use Rattle.request.proofs.Laws.{fit-short}
use Rattle.queue.specs.declared.Queue.{Queue}
use Rattle.queue.specs.declared.Taken.{Taken as Takes}
use Rattle.queue.specs.Queue.{AREA, Ruled, Taken, accepted, refuse, take, taken, taken_of, grown}
use Rattle.queue.proofs.Laws.{ruled-grown, place-below, Accepted, Decided, decided, not-refused}
use Rattle.queue.proofs.Laws.Decided.{refused, accepted as agreed}
use Rattle.rows.specs.Rows.{put, fill, Lent, Left, left, stored, submitted}
use Rattle.rows.proofs.Laws.{length-put, length-fill}

-- ---- the decision stored
pub stored_refused : (t : Taken) (x row area : List ℕ) → (t.refused ≡ 0 → ⊥) → left t row area ≡ stored t x row area
unfolding stored
stored_refused t x row area h = unless-same _ h refl

pub stored-taken : (t : Taken) (x row area : List ℕ) {row' area' : List ℕ} → t.refused ≡ 0
    → row' ≡ put row t.place t.entry → area' ≡ fill area t.place x
    → left t row' area' ≡ stored t x row area
unfolding stored
stored-taken t x row area h e f = rw (e, f) (if-same _ h refl)

-- as the code decides it
pub stored-err : (q : Queue) (r : Record) (e : Refusal) (x row area : List ℕ)
    → left (taken_of q r (Err e)) row area ≡ stored (taken_of q r (Err e)) x row area
unfolding taken_of refuse
stored-err q r e x row area = stored_refused (refuse (number e) q r) x row area (λ z. omega (arith, above_zero e))

pub stored-ok : (q : Queue) (r : Record) (t : Takes) (x row area : List ℕ) {row' area' : List ℕ}
    → row' ≡ put row t.place t.entry → area' ≡ fill area t.place x
    → left (taken_of q r (Ok t)) row' area' ≡ stored (taken_of q r (Ok t)) x row area
unfolding taken_of accepted
stored-ok q r t x row area e f = stored-taken (accepted t) x row area refl e f

-- ---- a request taken has room for its record and its data
pub record Room (p : ℕ) (x row area : List ℕ) : Type 0 where
  pub record-fits : SIZE * p + SIZE ≤ length row
  pub data-fit : AREA * p + AREA ≤ length area
  pub short : length x ≤ AREA

room_at : (ts : ℕ) (q : Queue) (r : Record) (x row area : List ℕ) → Ruled q → Lent q row area
    → Accepted ts q r (length x) → Room (take q r (length x)).place x row area
unfolding take
room_at ts q r x row area u l a =
    let p = place-below q (q.confirmed + q.unconfirmed) u u.used in
    record {
      record-fits = omega (arith, l.places);
      data-fit = omega (arith, l.areas);
      short = omega (arith, fit-short ts r (length x) a.fit);
    }

pub room : (ts : ℕ) (q : Queue) (r : Record) (x row area : List ℕ) {t : Taken} → Ruled q → Lent q row area
    → t ≡ taken ts q r (length x) → t.refused ≡ 0 → Room t.place x row area
room ts q r x row area u l d z =
    let a = not-refused ts q r (length x) (rw d at z) in
    rw (d, ← a.is) (room_at ts q r x row area u l a)

pub room_of : (ts : ℕ) (q : Queue) (r : Record) (t : Takes) (x row area : List ℕ) → Ruled q → Lent q row area
    → taken_of q r (Ok t) ≡ taken ts q r (length x) → Room t.place x row area
unfolding taken_of accepted
room_of ts q r t x row area u l d = room ts q r x row area {t = accepted t} u l d refl

-- ---- the whole call
-- the request taken, with its record and its data at its place
abbrev pub took : Queue → Record → List ℕ → List ℕ → List ℕ → Left Taken
took q r x row area =
    left (take q r (length x)) (put row (take q r (length x)).place (take q r (length x)).entry)
    (fill area (take q r (length x)).place x)

-- all is left as it was, with a refusal, or the request is taken
pub data Outcome (ts : ℕ) (q : Queue) (r : Record) (x row area : List ℕ) (w : Left Taken) : Type 0 where
  as_it_was : (n : ℕ) → (n ≡ 0 → ⊥) → left (refuse n q r) row area ≡ w → Outcome ts q r x row area w
  with_it : Accepted ts q r (length x) → took q r x row area ≡ w → Outcome ts q r x row area w

refused-so : (n : ℕ) (q : Queue) (r : Record) (x row area : List ℕ) → (n ≡ 0 → ⊥)
    → left (refuse n q r) row area ≡ stored (refuse n q r) x row area
unfolding refuse
refused-so n q r x row area z = stored_refused (refuse n q r) x row area z

taken-so : (q : Queue) (r : Record) (x row area : List ℕ)
    → took q r x row area ≡ stored (take q r (length x)) x row area
unfolding take
taken-so q r x row area = stored-taken (take q r (length x)) x row area refl refl refl

module _ (ts : ℕ) (q : Queue) (r : Record) (x row area : List ℕ) where
  outcome-by : Decided ts q r (length x) → Outcome ts q r x row area (submitted ts q r x row area)
  unfolding submitted
  outcome-by (refused m z e) = as_it_was m z (rw (← e) (refused-so m q r x row area z))
  outcome-by (agreed a) = with_it a (rw (← a.is) (taken-so q r x row area))

  pub outcome : Outcome ts q r x row area (submitted ts q r x row area)
  outcome = outcome-by (decided ts q r (length x))

  -- it keeps the queue's counts in order, and the row and the data area the queue's
  lent-taken : Ruled q → Lent q row area → Accepted ts q r (length x)
      → Lent (grown q) (took q r x row area).row (took q r x row area).area
  unfolding grown
  lent-taken u l a =
      let h = room_at ts q r x row area u l a in
      record {
        places = length-put row _ _ h.record-fits ∙ l.places;
        areas = length-fill area _ x (omega (arith, h.data-fit, h.short)) ∙ l.areas;
      }

  keeps : {w : Left Taken} → Outcome ts q r x row area w → Ruled q → Lent q row area
      → Ruled w.answer.queue × Lent w.answer.queue w.row w.area
  unfolding refuse take
  keeps (as_it_was n z e) u l = rw (← e) (u, l)
  keeps (with_it a e) u l = rw (← e) (ruled-grown q a.room u, lent-taken u l a)

  pub ruled-submitted : Ruled q → Lent q row area → Ruled (submitted ts q r x row area).answer.queue
  ruled-submitted u l = (keeps outcome u l).0

  pub lent-submitted : Ruled q → Lent q row area
      → Lent (submitted ts q r x row area).answer.queue (submitted ts q r x row area).row
      (submitted ts q r x row area).area
  lent-submitted u l = (keeps outcome u l).1
