-- A drain under way: what is left to confirm, from what is left so far, ends as the whole does. Assumes nothing.
use Prim.Native.Nat.{ℕ, zero, suc, ◌+◌, ◌-◌, ◌<◌, ◌≤◌}
use mathlib.Core.Path.{◌≡◌, sym, ◌∙◌}
use mathlib.Core.List.{List, []}
use native.Mathlib.Omega.{arith}
use lib.ListN.{length}
use Rattle.request.specs.Record.{DS}
use Rattle.queue.specs.declared.Queue.{Queue}
use Rattle.queue.specs.Queue.{AREA, Ruled, current, confirmed}
use Rattle.queue.proofs.Laws.{ruled-confirmed, current-below}
use Rattle.rows.specs.Rows.{Lent, Left, left, confirm, drain}
use Rattle.rows.proofs.Laws.{length-put, length-fill}

-- from the queue q, count sendings of its first request, and the row and data area given
pub record Draining (q : Queue) (count : ℕ) (row₀ area₀ : List ℕ) (rest : Queue) (sendings : ℕ) (row area : List ℕ) :
    Type 0 where
  pub ruled : Ruled rest
  pub lent : Lent rest row area
  pub places : rest.places ≡ q.places
  pub ends : drain rest.unconfirmed sendings (left rest row area) ≡ drain q.unconfirmed count (left q row₀ area₀)

-- a confirmation keeps the row and the data area the queue's
pub lent-confirmed : (q : Queue) (status count : ℕ) (x row area : List ℕ) → Ruled q → Lent q row area
    → length x ≤ AREA
    → Lent (confirmed q) (confirm q status count x row area).row (confirm q status count x row area).area
unfolding confirm confirmed
lent-confirmed q status count x row area r l n =
    let p = current-below q r in
    record {
      places = length-put row (current q) _ (omega (arith, l.places)) ∙ l.places;
      areas = length-fill area (current q) x (omega (arith, l.areas)) ∙ l.areas;
    }

-- ---- one more confirmed, and none left to confirm
drain-one : (n count : ℕ) (w : Left Queue) → 0 < n
    → drain n count w ≡ drain (n - 1) 0 (confirm w.answer DS count [] w.row w.area)
unfolding drain
drain-one zero count w h = elim h [ ]
drain-one (suc n) count w h =
    let e : suc n - 1 ≡ n = omega arith in
    rw e

drain-none : (n count : ℕ) (w : Left Queue) → n ≡ 0 → drain n count w ≡ w
unfolding drain
drain-none n count w h = rw h

module _ {q rest : Queue} {count sendings : ℕ} {row₀ area₀ row area : List ℕ}
    (d : Draining q count row₀ area₀ rest sendings row area) where
  confirming : 0 < rest.unconfirmed → (w : Left Queue) → w ≡ confirm rest DS sendings [] row area
      → Draining q count row₀ area₀ w.answer 0 w.row w.area
  unfolding confirm confirmed
  confirming h w e =
      rw e
      record {
        ruled = ruled-confirmed rest h d.ruled;
        lent = lent-confirmed rest DS sendings [] row area d.ruled d.lent (omega arith);
        places = d.places;
        ends = sym (drain-one rest.unconfirmed sendings (left rest row area) h) ∙ d.ends;
      }

  pub draining-one : {rest' : Queue} {row' area' : List ℕ} → 0 < rest.unconfirmed
      → left rest' row' area' ≡ confirm rest DS sendings [] row area
      → Draining q count row₀ area₀ rest' 0 row' area'
  draining-one h e = confirming h _ e

  -- the count of unconfirmed requests falls by one
  fewer : 0 < rest.unconfirmed → (w : Left Queue) → w ≡ confirm rest DS sendings [] row area
      → w.answer.unconfirmed + 1 ≡ rest.unconfirmed
  unfolding confirm confirmed
  fewer h w e = rw e (omega arith)

  pub draining-fewer : {rest' : Queue} {row' area' : List ℕ} → 0 < rest.unconfirmed
      → left rest' row' area' ≡ confirm rest DS sendings [] row area → rest'.unconfirmed + 1 ≡ rest.unconfirmed
  draining-fewer h e = fewer h _ e

  pub draining-none : rest.unconfirmed ≡ 0 → left rest row area ≡ drain q.unconfirmed count (left q row₀ area₀)
  draining-none h = sym (drain-none rest.unconfirmed sendings (left rest row area) h) ∙ d.ends

-- ---- what a drain leaves: none unconfirmed, and all in order
pub record Drained (w : Left Queue) : Type 0 where
  pub ruled : Ruled w.answer
  pub lent : Lent w.answer w.row w.area
  pub none : w.answer.unconfirmed ≡ 0

pub drained : (n count : ℕ) (w : Left Queue) → n ≡ w.answer.unconfirmed → Ruled w.answer
    → Lent w.answer w.row w.area → Drained (drain n count w)
unfolding drain confirm confirmed
drained zero count w e u l = record { ruled = u; lent = l; none = sym e }
drained (suc n) count w e u l =
    drained n 0 (confirm w.answer DS count [] w.row w.area) (omega arith)
    (ruled-confirmed w.answer (omega arith) u)
    (lent-confirmed w.answer DS count [] w.row w.area u l (omega arith))
