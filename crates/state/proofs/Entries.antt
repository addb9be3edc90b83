-- What lies at a place of a queue, a record and its data: while its request waits, when it is confirmed, and after
-- that until its record is collected. Assumes nothing.
use Prim.Native.Nat.{ℕ, ◌+◌, ◌-◌, ◌<◌, ◌≤◌}
use mathlib.Core.Path.{◌≡◌, refl, sym, ap, ◌∙◌}
use mathlib.Core.List.{List}
use native.Mathlib.Omega.{arith}
use lib.ListN.{length}
use Rattle.request.specs.declared.Record.{Record}
use Rattle.queue.specs.declared.Queue.{Queue}
use Rattle.queue.specs.Queue as Q
use Rattle.queue.specs.Queue.{AREA, place, current, closed, grown, freed}
use Rattle.queue.proofs.Laws.{current-below, place-below, place-apart}
use Rattle.rows.specs.Rows.{at, put, content, fill, confirm}
use Rattle.rows.proofs.Laws.{at-put, at_other, content-other}
use Rattle.state.specs.World.{Rows}
use Rattle.state.specs.Submitted.{Lies}
use Rattle.state.proofs.Cases.{positive}
use Rattle.state.proofs.Filed.{Filed}
use Rattle.state.proofs.Places.{Waiting, Shut, Rowed, current-ours, current-shut}
use Rattle.state.proofs.Places.{waiting-grown, waiting-confirmed, waiting-freed, shut-now, shut_grown}
use Rattle.state.proofs.Places.{shut-confirmed, shut-freed}
use Rattle.state.proofs.Effects.{taken_by, closed_by}

-- a request that waits at place n, as it was submitted with the record r and the data x
pub record Open (n : ℕ) (r : Record) (x : List ℕ) (q : Queue) (u : Rows) : Type 0 where
  pub ahead : ℕ
  pub waits : Waiting n ahead q
  pub lies : Lies n (Q.waiting r (length x)) (length x) x u

-- a confirmed request at place n, with the record e and all the data d of the place
pub record Fixed (n : ℕ) (e : Record) (d : List ℕ) (q : Queue) (u : Rows) : Type 0 where
  pub shut : Shut n e.count q u.row
  pub lies : Lies n e AREA d u

module _ {own : ℕ} (q : Queue) (u : Rows) (f : Filed own q u) where
  rowed : Rowed q u.row
  rowed = record { ruled = f.ruled; long = f.lent.places }

  -- what is put in turn i leaves what lies in turn t
  other : {n many : ℕ} {e : Record} {d : List ℕ} (i t : ℕ) (a : Record) (x : List ℕ) → many ≤ AREA → length x ≤ AREA
      → i < q.places → t < q.places → (i ≡ t → ⊥) → n ≡ place q t → Lies n e many d u
      → Lies n e many d (record { row = put u.row (place q i) a; area = fill u.area (place q i) x })
  other {n = n} i t a x m l h j b is z =
      let p = place-below q i f.ruled (omega arith) in
      let c : place q i ≡ n → ⊥ = λ k. b (place-apart q i t h j (k ∙ is)) in
      record {
        entry = at_other u.row (place q i) _ a (omega (arith, p, f.lent.places)) c ∙ z.entry;
        octets = content-other u.area (place q i) _ x _ (omega (arith, p, f.lent.areas)) l m c ∙ z.octets;
      }

  -- ---- a request that waits
  module _ {n : ℕ} {r : Record} {x : List ℕ} (short : length x ≤ AREA) (o : Open n r x q u) where
    pub open-grown : (a : Record) (d : List ℕ) → q.confirmed + q.unconfirmed < q.places → length d ≤ AREA
        → Open n r x (grown q) (taken_by q u a d)
    open-grown a d h l =
        let w = o.waits.within in
        record {
          ahead = o.ahead;
          waits = waiting-grown n o.ahead q o.waits;
          lies =
              other _ (q.confirmed + o.ahead) _ d short l h (omega arith) (λ k. omega arith) o.waits.is
              o.lies;
        }

    pub open-freed : 0 < q.confirmed → Open n r x (freed q) u
    open-freed c =
        record { ahead = o.ahead; waits = waiting-freed n o.ahead q f.ruled c o.waits; lies = o.lies }

    pub open-closed : (status k : ℕ) (d : List ℕ) → length d ≤ AREA → (current q ≡ n → ⊥)
        → Open n r x (Q.confirmed q) (closed_by q u status k d)
    unfolding confirm current
    open-closed status k d l b =
        let w = o.waits.within in
        let a = positive o.ahead (λ e. b (current-ours n q (rw e at o.waits))) in
        record {
          ahead = o.ahead - 1;
          waits = waiting-confirmed n o.ahead q a o.waits;
          lies =
              other q.confirmed (q.confirmed + o.ahead) _ d short l (omega (arith, f.ruled.used))
              (omega (arith, f.ruled.used)) (λ k. omega arith) o.waits.is o.lies;
        }

  -- the first unconfirmed request is confirmed
  next : 0 < q.unconfirmed → Waiting (current q) 0 q
  unfolding current
  next h =
      let e : q.confirmed + 0 ≡ q.confirmed = omega arith in
      record { is = ap (place q) (sym e); within = h }

  fixed-first : (status k : ℕ) (x : List ℕ) → 0 < q.unconfirmed
      → Fixed (current q) (closed (at u.row (current q)) status k (length x))
      (content (closed_by q u status k x).area (current q) AREA) (Q.confirmed q) (closed_by q u status k x)
  unfolding confirm closed
  fixed-first status k x h =
      let b = current-below q f.ruled in
      record {
        shut = shut-now (current q) k q u.row rowed status x u.area (next h);
        lies =
            record { entry = at-put u.row (current q) _ (omega (arith, b, f.lent.places)); octets = refl };
      }

  pub fixed-now : (n status k : ℕ) (x : List ℕ) → 0 < q.unconfirmed → current q ≡ n
      → Fixed n (closed (at u.row n) status k (length x)) (content (closed_by q u status k x).area n AREA)
      (Q.confirmed q) (closed_by q u status k x)
  fixed-now n status k x h e = rw e at (fixed-first status k x h)

  -- ---- a confirmed one
  module _ {n : ℕ} {e : Record} {d : List ℕ} (z : Fixed n e d q u) where
    pub fixed-grown : (a : Record) (x : List ℕ) → q.confirmed + q.unconfirmed < q.places → length x ≤ AREA
        → Fixed n e d (grown q) (taken_by q u a x)
    fixed-grown a x h l =
        let w = z.shut.within in
        record {
          shut = shut_grown n _ q u.row rowed _ h z.shut;
          lies =
              other _ z.shut.turn _ x (omega arith) l h (omega arith) (λ k. omega arith) z.shut.is
              z.lies;
        }

    pub fixed-closed : (status k : ℕ) (x : List ℕ) → 0 < q.unconfirmed → length x ≤ AREA
        → Fixed n e d (Q.confirmed q) (closed_by q u status k x)
    unfolding confirm current
    fixed-closed status k x h l =
        let w = z.shut.within in
        record {
          shut = shut-confirmed n _ q u.row rowed status k x u.area h z.shut;
          lies =
              other q.confirmed z.shut.turn _ x (omega arith) l (omega (arith, f.ruled.used))
              (omega (arith, f.ruled.used)) (λ k. omega arith) z.shut.is z.lies;
        }

    pub fixed-freed : (q.first ≡ n → ⊥) → Fixed n e d (freed q) u
    fixed-freed b = record { shut = shut-freed n _ q u.row rowed b z.shut; lies = z.lies }

    pub fixed-current : 0 < q.unconfirmed → current q ≡ n → ⊥
    fixed-current h = current-shut n _ q u.row f.ruled h z.shut
