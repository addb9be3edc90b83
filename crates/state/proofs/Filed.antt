-- A queue in order with its row and its data: the counts, the lengths, every unconfirmed record one that submit would
-- take, every confirmed one with a named status. Submit, a confirmation, a reset and collect keep it. Assumes nothing.
use Prim.Native.Nat.{ℕ, ◌+◌, ◌*◌, ◌<◌, ◌≤◌}
use mathlib.Core.Bool.{true}
use mathlib.Core.Path.{◌≡◌, refl}
use mathlib.Core.List.{List}
use native.Mathlib.Omega.{arith}
use lib.ListN.{length}
use Rattle.choice.specs.Choice.{pick, less, same}
use Rattle.request.specs.declared.Record.{Record}
use Rattle.request.specs.Record.{SIZE, DS, NA, OK, named}
use Rattle.queue.specs.declared.Queue.{Queue}
use Rattle.queue.specs.Queue.{Taken}
use Rattle.queue.specs.Queue.{AREA, Ruled, place, current, closed, grown, confirmed, freed, take, refuse}
use Rattle.queue.proofs.Laws.{ruled-confirmed, ruled-freed, place-below, place-apart, place-grown, place-confirmed}
use Rattle.queue.proofs.Laws.{place-freed}
use Rattle.rows.specs.Rows.{Lent, Left, at, put, confirm, submitted}
use Rattle.rows.proofs.Laws.{by_order, at-put, at_other}
use Rattle.rows.proofs.Check.{Sound}
use Rattle.rows.proofs.Draining.{lent-confirmed}
use Rattle.rows.proofs.Kept.{sound-submitted, sound-confirmed, sound-freed}
use Rattle.rows.proofs.Submitted.{Outcome, outcome, ruled-submitted, lent-submitted}
use Rattle.rows.proofs.Submitted.Outcome.{as_it_was, with_it}
use Rattle.state.specs.World.{Rows}

-- every confirmed record has a named status
pub record Named (q : Queue) (row : List ℕ) : Type 0 where
  pub name : (j : ℕ) → j < q.confirmed → named (at row (place q j)).status ≡ true

pub record Filed (ts : ℕ) (q : Queue) (r : Rows) : Type 0 where
  pub ruled : Ruled q
  pub lent : Lent q r.row r.area
  pub sound : Sound ts q r.row
  pub status : Named q r.row

-- ---- the statuses of confirmations
pub named-OK : named OK ≡ true
unfolding named pick less same
named-OK = refl

pub named-NA : named NA ≡ true
unfolding named pick less same
named-NA = refl

pub named-DS : named DS ≡ true
unfolding named pick less same
named-DS = refl

-- a record put at the place of another in use
unharmed : (i j : ℕ) (q : Queue) (row : List ℕ) (r : Record) → Ruled q → length row ≡ SIZE * q.places → i < q.places
    → j < q.places → (i ≡ j → ⊥) → at (put row (place q i) r) (place q j) ≡ at row (place q j)
unharmed i j q row r u l h n d =
    let b = place-below q i u (omega arith) in
    at_other row (place q i) (place q j) r (omega arith) (λ e. d (place-apart q i j h n e))

module _ (q : Queue) (row : List ℕ) (u : Ruled q) (l : length row ≡ SIZE * q.places) (z : Named q row) where
  -- ---- a confirmation
  confirmed-before : (status count j : ℕ) (x area : List ℕ) → 0 < q.unconfirmed → j < q.confirmed
      → named (at (confirm q status count x row area).row (place q j)).status ≡ true
  unfolding confirm current
  confirmed-before status count j x area h n =
      rw
      (unharmed q.confirmed j q row (closed (at row (place q q.confirmed)) status count (length x)) u l
      (omega (arith, u.used)) (omega (arith, u.used)) (λ e. omega arith))
      (z.name j n)

  confirmed-now : (status count : ℕ) (x area : List ℕ) → named status ≡ true
      → named (at (confirm q status count x row area).row (place q q.confirmed)).status ≡ true
  unfolding confirm current closed
  confirmed-now status count x area e =
      let b = place-below q q.confirmed u (omega (arith, u.used)) in
      rw
      (at-put row (place q q.confirmed) (closed (at row (place q q.confirmed)) status count (length x))
      (omega arith)) e

  pub named-confirmed : (status count : ℕ) (x area : List ℕ) → 0 < q.unconfirmed → named status ≡ true
      → Named (confirmed q) (confirm q status count x row area).row
  unfolding confirmed
  named-confirmed status count x area h e =
      record {
        name =
            λ j n. rw (place-confirmed q j)
            (by_order j q.confirmed (λ m. confirmed-before status count j x area h m) (λ m. let i : j ≡ q.confirmed = omega arith in rw i (confirmed-now status count x area e)));
      }

  -- ---- submit
  pub named-grown : (r : Record) → q.confirmed + q.unconfirmed < q.places
      → Named (grown q) (put row (place q (q.confirmed + q.unconfirmed)) r)
  unfolding grown
  named-grown r h =
      record {
        name =
            λ j n. rw (
              place-grown q j,
              unharmed (q.confirmed + q.unconfirmed) j q row r u l h (omega (arith, u.used)) (λ e. omega arith),
            ) (z.name j n);
      }

  -- ---- collect
  pub named-freed : 0 < q.confirmed → Named (freed q) row
  unfolding freed
  named-freed h =
      record { name = λ j n. rw (place-freed q j u (omega (arith, u.used))) (z.name (j + 1) (omega arith)) }

pub named-empty : (q : Queue) (row : List ℕ) → q.confirmed ≡ 0 → Named q row
named-empty q row e = record { name = λ j n. absurd (omega arith) }

-- ---- all of it
module _ (ts : ℕ) (q : Queue) (r : Rows) (k : Filed ts q r) where
  pub filed-confirmed : (status count : ℕ) (x : List ℕ) → 0 < q.unconfirmed → named status ≡ true → length x ≤ AREA
      → Filed ts (confirmed q)
      (record {
        row = (confirm q status count x r.row r.area).row;
        area = (confirm q status count x r.row r.area).area;
      })
  filed-confirmed status count x h e n =
      record {
        ruled = ruled-confirmed q h k.ruled;
        lent = lent-confirmed q status count x r.row r.area k.ruled k.lent n;
        sound = sound-confirmed ts q status count x r.row r.area k.ruled h k.lent.places k.sound;
        status = named-confirmed q r.row k.ruled k.lent.places k.status status count x r.area h e;
      }

  pub filed-freed : 0 < q.confirmed → Filed ts (freed q) r
  unfolding freed
  filed-freed h =
      record {
        ruled = ruled-freed q h k.ruled;
        lent = record { places = k.lent.places; areas = k.lent.areas };
        sound = sound-freed ts q r.row k.ruled h k.sound;
        status = named-freed q r.row k.ruled k.lent.places k.status h;
      }

named-after : (ts : ℕ) (q : Queue) (e : Record) (x row area : List ℕ) {l : Left Taken} → Ruled q
    → length row ≡ SIZE * q.places → Named q row → Outcome ts q e x row area l → Named l.answer.queue l.row
unfolding refuse take
named-after ts q e x row area u l z (as_it_was n d i) = rw (← i) z
named-after ts q e x row area u l z (with_it a i) = rw (← i) (named-grown q row u l z _ a.room)

filed-submitted : (ts : ℕ) (q : Queue) (r : Rows) (e : Record) (x : List ℕ) → Filed ts q r
    → Filed ts (submitted ts q e x r.row r.area).answer.queue
    (record
    { row = (submitted ts q e x r.row r.area).row; area = (submitted ts q e x r.row r.area).area })
filed-submitted ts q r e x k =
    record {
      ruled = ruled-submitted ts q e x r.row r.area k.ruled k.lent;
      lent = lent-submitted ts q e x r.row r.area k.ruled k.lent;
      sound = sound-submitted ts q e x r.row r.area k.ruled k.lent k.sound;
      status =
          named-after ts q e x r.row r.area k.ruled k.lent.places k.status
          (outcome ts q e x r.row r.area);
    }

pub filed-taken : (ts : ℕ) (q : Queue) (r : Rows) (e : Record) (x : List ℕ) (l : Left Taken)
    → l ≡ submitted ts q e x r.row r.area → Filed ts q r
    → Filed ts l.answer.queue (record { row = l.row; area = l.area })
filed-taken ts q r e x l i k = rw i (filed-submitted ts q r e x k)
