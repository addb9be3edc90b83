-- Where a request stands in its queue: waiting some places behind the first unconfirmed one, or shut, confirmed and not
-- yet collected, with its count in its record; and what each act on the queue makes of that. Assumes nothing.
use Prim.Native.Nat.{ℕ, suc, ◌+◌, ◌-◌, ◌*◌, ◌<◌, ◌≤◌}
use mathlib.Core.Bool.{false}
use mathlib.Core.Path.{◌≡◌, refl, sym, ap, ◌∙◌}
use mathlib.Core.List.{List}
use native.Mathlib.Omega.{arith}
use lib.ListN.{length}
use Rattle.choice.specs.Choice.{less}
use Rattle.choice.proofs.Rules.{false-less}
use Rattle.request.specs.declared.Record.{Record}
use Rattle.request.specs.Record.{SIZE}
use Rattle.queue.specs.declared.Queue.{Queue}
use Rattle.queue.specs.Queue.{Ruled, place, current, closed, grown, confirmed, freed}
use Rattle.queue.proofs.Laws.{ruled-grown, ruled-confirmed, ruled-freed, place-below, place-apart, place-grown}
use Rattle.queue.proofs.Laws.{place-confirmed, place-freed}
use Rattle.rows.specs.Rows.{at, put, confirm}
use Rattle.rows.proofs.Laws.{at-put, at_other, length-put}
use Rattle.state.proofs.Cases.{by, positive}

-- the request at place p waits behind d unconfirmed ones
pub record Waiting (p d : ℕ) (q : Queue) : Type 0 where
  pub is : p ≡ place q (q.confirmed + d)
  pub within : d < q.unconfirmed

-- the request at place p is confirmed and its record there has the count n
pub record Shut (p n : ℕ) (q : Queue) (row : List ℕ) : Type 0 where
  pub turn : ℕ
  pub is : p ≡ place q turn
  pub within : turn < q.confirmed
  pub count : (at row p).count ≡ n

-- a queue in order, with a row as long as it has places
pub record Rowed (q : Queue) (row : List ℕ) : Type 0 where
  pub ruled : Ruled q
  pub long : length row ≡ SIZE * q.places

less-not : (a b : ℕ) → a < b → less (a + 0) b ≡ false → ⊥
less-not a b h e =
    let f = false-less (a + 0) b e in
    omega arith

-- ---- which request is the first unconfirmed one
pub current-ours : (p : ℕ) (q : Queue) → Waiting p 0 q → current q ≡ p
unfolding current
current-ours p q w =
    let e : q.confirmed + 0 ≡ q.confirmed = omega arith in
    sym (rw e at w.is)

pub current-ahead : (p d : ℕ) (q : Queue) → Ruled q → 0 < d → Waiting p d q → current q ≡ p → ⊥
unfolding current
current-ahead p d q r h w e =
    let f = place-apart q q.confirmed (q.confirmed + d) (omega (arith, r.used, w.within))
    (omega (arith, r.used, w.within)) (e ∙ w.is) in
    omega arith

pub current-shut : (p n : ℕ) (q : Queue) (row : List ℕ) → Ruled q → 0 < q.unconfirmed → Shut p n q row
    → current q ≡ p → ⊥
unfolding current
current-shut p n q row r h s e =
    let f = place-apart q q.confirmed s.turn (omega (arith, r.used)) (omega (arith, r.used, s.within))
    (e ∙ s.is) in
    omega (arith, s.within)

-- one confirmed leaves one less
pub fewer : (n : ℕ) (q : Queue) → suc n ≡ q.unconfirmed → n ≡ (confirmed q).unconfirmed
unfolding confirmed
fewer n q e = omega arith

-- ---- waiting
pub waiting-new : (q : Queue) → Waiting (place q (q.confirmed + q.unconfirmed)) q.unconfirmed (grown q)
unfolding grown
waiting-new q = record { is = sym (place-grown q _); within = omega arith }

pub waiting-grown : (p d : ℕ) (q : Queue) → Waiting p d q → Waiting p d (grown q)
unfolding grown
waiting-grown p d q w = record { is = w.is ∙ sym (place-grown q _); within = omega (arith, w.within) }

pub waiting-confirmed : (p d : ℕ) (q : Queue) → 0 < d → Waiting p d q → Waiting p (d - 1) (confirmed q)
unfolding confirmed
waiting-confirmed p d q h w =
    let e : q.confirmed + 1 + (d - 1) ≡ q.confirmed + d = omega arith in
    record { is = w.is ∙ ap (place q) (sym e) ∙ sym (place-confirmed q _); within = omega (arith, w.within) }

pub waiting-freed : (p d : ℕ) (q : Queue) → Ruled q → 0 < q.confirmed → Waiting p d q → Waiting p d (freed q)
unfolding freed
waiting-freed p d q r h w =
    let e : q.confirmed - 1 + d + 1 ≡ q.confirmed + d = omega arith in
    record {
      is =
          w.is ∙ ap (place q) (sym e) ∙ sym
          (place-freed q (q.confirmed - 1 + d) r (omega (arith, r.used, w.within)));
      within = w.within;
    }

-- ---- shut
-- a record put at another place in use leaves it
unharmed : (p n i : ℕ) (q : Queue) (row : List ℕ) (r : Record) → Rowed q row → i < q.places → (s : Shut p n q row)
    → (i ≡ s.turn → ⊥) → (at (put row (place q i) r) p).count ≡ n
unharmed p n i q row r u h s d =
    let b = place-below q i u.ruled (omega arith) in
    ap (λ (x : Record). x.count)
    (at_other row (place q i) p r (omega (arith, u.long))
    (λ e. d (place-apart q i s.turn h (omega (arith, u.ruled.used, s.within)) (e ∙ s.is))))
    ∙ s.count

current-confirmed : (q : Queue) → current q ≡ place (confirmed q) q.confirmed
unfolding current
current-confirmed q = sym (place-confirmed q _)

current-fits : (p : ℕ) (q : Queue) (row : List ℕ) → Rowed q row → current q ≡ p → SIZE * p + SIZE ≤ length row
unfolding current
current-fits p q row u e =
    let b = place-below q q.confirmed u.ruled (omega (arith, u.ruled.used)) in
    omega (arith, u.long)

-- the first place in use is the row's first in turn
pub place-first : (q : Queue) → Ruled q → place q 0 ≡ q.first
unfolding place
place-first q r =
    by (λ n. n ≡ q.first) _ _ _ (λ e. omega arith) (λ e. absurd (less-not q.first q.places r.turn e))

first-turn : (p n : ℕ) (q : Queue) (row : List ℕ) → Rowed q row → (q.first ≡ p → ⊥) → (s : Shut p n q row)
    → 0 < s.turn
first-turn p n q row u h s =
    positive s.turn (λ e. h (sym (place-first q u.ruled) ∙ ap (place q) (sym e) ∙ sym s.is))

module _ (p n : ℕ) (q : Queue) (row : List ℕ) (u : Rowed q row) where
  pub shut-now : (status : ℕ) (x area : List ℕ) → Waiting p 0 q
      → Shut p n (confirmed q) (confirm q status n x row area).row
  unfolding confirmed confirm closed
  shut-now status x area w =
      let b = place-below q q.confirmed u.ruled (omega (arith, u.ruled.used)) in
      let e = current-ours p q w in
      record {
        turn = q.confirmed;
        is = sym e ∙ now;
        within = omega arith;
        count = rw e (ap (λ (x : Record). x.count) (at-put row p _ (fits e)));
      }
    where
      now : current q ≡ place (confirmed q) q.confirmed
      now = current-confirmed q

      fits : current q ≡ p → SIZE * p + SIZE ≤ length row
      fits e = current-fits p q row u e

  pub shut-confirmed : (status m : ℕ) (x area : List ℕ) → 0 < q.unconfirmed → Shut p n q row
      → Shut p n (confirmed q) (confirm q status m x row area).row
  unfolding confirmed confirm current
  shut-confirmed status m x area h s =
      record {
        turn = s.turn;
        is = s.is ∙ sym (place-confirmed q _);
        within = omega (arith, s.within);
        count = unharmed p n q.confirmed q row _ u (omega (arith, u.ruled.used)) s (λ e. omega (arith, s.within));
      }

  pub shut_grown : (r : Record) → q.confirmed + q.unconfirmed < q.places → Shut p n q row
      → Shut p n (grown q) (put row (place q (q.confirmed + q.unconfirmed)) r)
  unfolding grown
  shut_grown r h s =
      record {
        turn = s.turn;
        is = s.is ∙ sym (place-grown q _);
        within = s.within;
        count = unharmed p n (q.confirmed + q.unconfirmed) q row r u h s (λ e. omega (arith, s.within));
      }

  -- collected is the first in turn, or another
  pub shut-freed : (q.first ≡ p → ⊥) → Shut p n q row → Shut p n (freed q) row
  unfolding freed
  shut-freed h s =
      let t = first-turn p n q row u h s in
      let e : s.turn - 1 + 1 ≡ s.turn = omega arith in
      record {
        turn = s.turn - 1;
        is =
            s.is ∙ ap (place q) (sym e) ∙ sym
            (place-freed q (s.turn - 1) u.ruled (omega (arith, u.ruled.used, s.within)));
        within = omega (arith, s.within);
        count = s.count;
      }

-- ---- the record of a waiting request stays as it is when one ahead of it is confirmed, and when one is taken behind it
module _ {p d : ℕ} (q : Queue) (row : List ℕ) where
  pub ahead-kept : (status m : ℕ) (x area : List ℕ) → Rowed q row → 0 < d → Waiting p d q
      → at (confirm q status m x row area).row p ≡ at row p
  unfolding confirm
  ahead-kept status m x area u h w =
      at_other row (current q) p _ (current-fits (current q) q row u refl) (current-ahead p d q u.ruled h w)

  pub behind-kept : (r : Record) → Rowed q row → q.confirmed + q.unconfirmed < q.places → Waiting p d q
      → at (put row (place q (q.confirmed + q.unconfirmed)) r) p ≡ at row p
  behind-kept r u h w =
      let b = place-below q (q.confirmed + q.unconfirmed) u.ruled u.ruled.used in
      let i : q.confirmed + q.unconfirmed ≡ q.confirmed + d → ⊥ = λ e. omega (arith, w.within) in
      at_other row _ p r (omega (arith, u.long))
      (λ e. i (place-apart q _ (q.confirmed + d) h (omega (arith, w.within)) (e ∙ w.is)))

-- ---- the first place in use
pub first-waiting : (p d : ℕ) (q : Queue) → Ruled q → 0 < q.confirmed → Waiting p d q → q.first ≡ p → ⊥
first-waiting p d q r h w e =
    let f = place-apart q 0 (q.confirmed + d) (omega (arith, r.used)) (omega (arith, r.used, w.within))
    (place-first q r ∙ e ∙ w.is) in
    omega arith

-- ---- queue and row stay in order
pub rowed-confirmed : (q : Queue) (row : List ℕ) (status m : ℕ) (x area : List ℕ) → Rowed q row → 0 < q.unconfirmed
    → Rowed (confirmed q) (confirm q status m x row area).row
unfolding confirm confirmed
rowed-confirmed q row status m x area u h =
    record {
      ruled = ruled-confirmed q h u.ruled;
      long = length-put row (current q) _ (current-fits (current q) q row u refl) ∙ u.long;
    }

pub rowed-grown : (q : Queue) (row : List ℕ) (r : Record) → Rowed q row → q.confirmed + q.unconfirmed < q.places
    → Rowed (grown q) (put row (place q (q.confirmed + q.unconfirmed)) r)
unfolding grown
rowed-grown q row r u h =
    let b = place-below q (q.confirmed + q.unconfirmed) u.ruled u.ruled.used in
    record { ruled = ruled-grown q h u.ruled; long = length-put row _ r (omega (arith, u.long)) ∙ u.long }

pub rowed-freed : (q : Queue) (row : List ℕ) → Rowed q row → 0 < q.confirmed → Rowed (freed q) row
unfolding freed
rowed-freed q row u h = record { ruled = ruled-freed q h u.ruled; long = u.long }
