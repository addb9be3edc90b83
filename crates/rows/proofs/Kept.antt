-- Submit, a confirmation, a reset and collect keep what the check of the unconfirmed records says: a row that submit
-- filled is never refused for its records. Assumes nothing.
use Prim.Native.Nat.{ℕ, ◌+◌, ◌-◌, ◌*◌, ◌<◌}
use mathlib.Core.Bool.{true}
use mathlib.Core.Path.{◌≡◌, refl, ap, ◌∙◌}
use mathlib.Core.List.{List}
use native.Mathlib.Omega.{arith}
use lib.ListN.{length}
use Rattle.request.specs.declared.Record.{Record}
use Rattle.request.specs.Record.{SIZE, unfit}
use Rattle.queue.specs.declared.Queue.{Queue}
use Rattle.queue.specs.Queue.{Taken}
use Rattle.queue.specs.Queue.{Ruled, place, current, closed, waiting, refuse, take, grown, confirmed, freed}
use Rattle.queue.proofs.Laws.{place-below, place-apart, place-grown, place-confirmed, place-freed, Accepted}
use Rattle.rows.specs.Rows.{at, put, Lent, Left, left, submitted, confirm, drain, pending, sound}
use Rattle.rows.proofs.Laws.{by_order, at-put, at_other}
use Rattle.rows.proofs.Submitted.{Outcome, outcome}
use Rattle.rows.proofs.Submitted.Outcome.{as_it_was, with_it}
use Rattle.rows.proofs.Check.{fault, Sound, is-sound, sound-is, sound_empty}
use Rattle.rows.proofs.Draining.{drained}

-- the refusal of a record that is known
known : (ts : ℕ) (q : Queue) (row : List ℕ) (k : ℕ) {r : Record} → pending row q k ≡ r
    → fault ts q row k ≡ unfit ts r r.length
known ts q row k e = rw e

-- a record put at another place in use leaves the k-th unconfirmed one
untouched : (q : Queue) (row : List ℕ) (i k : ℕ) (r : Record) → Ruled q → length row ≡ SIZE * q.places
    → i < q.places → k < q.unconfirmed → (i ≡ q.confirmed + k → ⊥)
    → pending (put row (place q i) r) q k ≡ pending row q k
untouched q row i k r u l h n d =
    at_other row (place q i) (place q (q.confirmed + k)) r (omega (arith, place-below q i u (omega arith)))
    (λ e. d (place-apart q i (q.confirmed + k) h (omega (arith, u.used)) e))

-- ---- submit
fit-waiting : (ts : ℕ) (r : Record) (n : ℕ) → unfit ts (waiting r n) (waiting r n).length ≡ unfit ts r n
unfolding unfit closed
fit-waiting ts r n = refl

-- the unconfirmed records of the grown queue are those of the queue, and one more
pending-grown : (q : Queue) (row : List ℕ) (k : ℕ) → pending row (grown q) k ≡ pending row q k
unfolding grown
pending-grown q row k = ap (at row) (place-grown q (q.confirmed + k))

-- the row with a request's record at the place behind those in use
abbrev filled : Queue → Record → ℕ → List ℕ → List ℕ
filled q r n row = put row (place q (q.confirmed + q.unconfirmed)) (waiting r n)

module _ (ts : ℕ) (q : Queue) (r : Record) (n : ℕ) (row : List ℕ) (u : Ruled q) (l : length row ≡ SIZE * q.places)
    (a : Accepted ts q r n) where
  earlier : (k : ℕ) → k < q.unconfirmed → fault ts (grown q) (filled q r n row) k ≡ fault ts q row k
  earlier k h =
      known ts (grown q) (filled q r n row) k
      (pending-grown q (filled q r n row) k ∙ untouched q row (q.confirmed + q.unconfirmed) k (waiting r n) u l
      a.room h (λ e. omega arith))

  last : fault ts (grown q) (filled q r n row) q.unconfirmed ≡ 0
  last =
      let p = place-below q (q.confirmed + q.unconfirmed) u u.used in
      known ts (grown q) (filled q r n row) q.unconfirmed
      (pending-grown q (filled q r n row) q.unconfirmed ∙ at-put row (place q (q.confirmed + q.unconfirmed))
      (waiting r n) (omega arith))
      ∙ fit-waiting ts r n
      ∙ a.fit

  sound-filled : Sound ts q row → Sound ts (grown q) (filled q r n row)
  unfolding grown
  sound-filled s =
      record {
        fit =
            λ k h. by_order k q.unconfirmed (λ m. earlier k m ∙ s.fit k m)
            (λ m. let i : k ≡ q.unconfirmed = omega arith in rw i last);
      }

module _ (ts : ℕ) (q : Queue) (r : Record) (x row area : List ℕ) where
  after : {w : Left Taken} → Ruled q → Lent q row area → Sound ts q row → Outcome ts q r x row area w
      → Sound ts w.answer.queue w.row
  unfolding refuse take
  after u l s (as_it_was n z e) = rw (← e) s
  after u l s (with_it a e) = rw (← e) (sound-filled ts q r (length x) row u l.places a s)

  pub sound-submitted : Ruled q → Lent q row area → Sound ts q row
      → Sound ts (submitted ts q r x row area).answer.queue (submitted ts q r x row area).row
  sound-submitted u l s = after u l s (outcome ts q r x row area)

  -- as the check itself says it
  pub checked-submitted : Ruled q → Lent q row area → sound ts q row q.unconfirmed ≡ true
      → sound ts (submitted ts q r x row area).answer.queue (submitted ts q r x row area).row
      (submitted ts q r x row area).answer.queue.unconfirmed ≡ true
  checked-submitted u l e = sound-is ts _ _ (sound-submitted u l (is-sound ts q row e))

-- ---- a confirmation, and a reset
pending-confirmed : (q : Queue) (row : List ℕ) (k : ℕ) → pending row (confirmed q) k ≡ pending row q (k + 1)
unfolding confirmed
pending-confirmed q row k =
    let e : q.confirmed + 1 + k ≡ q.confirmed + (k + 1) = omega arith in
    rw e (ap (at row) (place-confirmed q (q.confirmed + (k + 1))))

pub sound-confirmed : (ts : ℕ) (q : Queue) (status count : ℕ) (x row area : List ℕ) → Ruled q → 0 < q.unconfirmed
    → length row ≡ SIZE * q.places → Sound ts q row
    → Sound ts (confirmed q) (confirm q status count x row area).row
unfolding confirm confirmed current
sound-confirmed ts q status count x row area u h l s =
    record {
      fit =
          λ k m. known ts (confirmed q) _ k
          (pending-confirmed q _ k ∙ untouched q row q.confirmed (k + 1) _ u l (omega (arith, u.used))
          (omega arith) (λ e. omega arith)) ∙ s.fit (k + 1) (omega arith);
    }

pub sound-drained : (ts : ℕ) (q : Queue) (count : ℕ) (row area : List ℕ) → Ruled q → Lent q row area
    → Sound ts (drain q.unconfirmed count (left q row area)).answer
    (drain q.unconfirmed count (left q row area)).row
sound-drained ts q count row area u l =
    sound_empty ts _ _ (drained q.unconfirmed count (left q row area) refl u l).none

-- ---- collect
pending-freed : (q : Queue) (row : List ℕ) (k : ℕ) → Ruled q → 0 < q.confirmed → k < q.unconfirmed
    → pending row (freed q) k ≡ pending row q k
unfolding freed
pending-freed q row k u h m =
    let e : q.confirmed - 1 + k + 1 ≡ q.confirmed + k = omega arith in
    ap (at row) (rw e at (place-freed q (q.confirmed - 1 + k) u (omega (arith, u.used))))

pub sound-freed : (ts : ℕ) (q : Queue) (row : List ℕ) → Ruled q → 0 < q.confirmed → Sound ts q row
    → Sound ts (freed q) row
unfolding freed
sound-freed ts q row u h s = record { fit = λ k m. known ts (freed q) row k (pending-freed q row k u h m) ∙ s.fit k m }
