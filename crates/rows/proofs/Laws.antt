-- The laws of a row and its data area: when they are a queue's, and what stands at a place after a record or data were
-- put there or elsewhere. Assumes nothing.
use Prim.Native.Nat.{ℕ, ◌+◌, ◌*◌, ◌<◌, ◌≤◌}
use mathlib.Core.Bool.{Bool, true, false}
use mathlib.Core.Path.{◌≡◌, refl, sym}
use mathlib.Core.List.{List}
use native.Mathlib.Omega.{arith}
use lib.ListN.{length}
use Rattle.choice.specs.Choice.{less}
use Rattle.choice.proofs.Rules.{true-less, false-less, true_same, if-same, unless-same, unless-less, unrefused, granted}
use Rattle.request.specs.declared.Record.{Record}
use Rattle.laid.proofs.Laws.{length-laid}
use Rattle.laid.proofs.Octets.{laid-part, before-part, behind-part}
use Rattle.request.specs.Record.{SIZE, octets}
use Rattle.request.proofs.Laws.{length-octets, read_back, read-before, read_behind}
use Rattle.queue.specs.declared.Queue.{Queue}
use Rattle.queue.specs.Queue.{AREA, misfit, unlike}
use Rattle.rows.specs.Rows.{at, content, Lent, put, fill}

-- ---- a row and its data area that are the queue's
pub lent : (q : Queue) (row area : List ℕ) → misfit q SIZE (length row) (length area) ≡ false → Lent q row area
unfolding misfit unlike
lent q row area e =
    let a = unrefused _ _ e in
    let b = unrefused _ _ a.1 in
    let c = granted _ _ b.1 in
    let d = granted _ _ c.1 in
    record { places = true_same _ _ c.0; areas = true_same _ _ d.0 }

pub not-misfit : (q : Queue) (row area : List ℕ) → 0 < q.places → q.places ≤ 64 → Lent q row area
    → misfit q SIZE (length row) (length area) ≡ false
unfolding misfit unlike
not-misfit q row area z h l =
    sym (unless-same _ (λ e. omega arith) (unless-less _ h (if-same _ l.places (if-same _ l.areas refl))))

-- one of two numbers is below the other, or it is not
pub by_order : {A : Type 0} (p j : ℕ) → (p < j → A) → (j ≤ p → A) → A
by_order {A = A} p j f g = by (less p j) refl
  where
    by : (b : Bool) → less p j ≡ b → A
    by true e = f (true-less p j e)
    by false e = g (false-less p j e)

-- ---- lengths are kept
pub length-put : (row : List ℕ) (p : ℕ) (r : Record) → SIZE * p + SIZE ≤ length row → length (put row p r) ≡ length row
unfolding put
length-put row p r h = length-laid row (SIZE * p) (octets r) (rw (length-octets r) h)

pub length-fill : (area : List ℕ) (p : ℕ) (x : List ℕ) → AREA * p + length x ≤ length area
    → length (fill area p x) ≡ length area
unfolding fill
length-fill area p x h = length-laid area (AREA * p) x h

-- ---- a record put is the one there, and the others are as they were
pub at-put : (row : List ℕ) (p : ℕ) (r : Record) → SIZE * p + SIZE ≤ length row → at (put row p r) p ≡ r
unfolding at put
at-put row p r h = read_back row (SIZE * p) r h

pub at_other : (row : List ℕ) (p j : ℕ) (r : Record) → SIZE * p + SIZE ≤ length row → (p ≡ j → ⊥)
    → at (put row p r) j ≡ at row j
unfolding at put
at_other row p j r h n =
    by_order p j
    (λ m. read_behind row (SIZE * p) (SIZE * j) r h (omega arith))
    (λ m. read-before row (SIZE * p) (SIZE * j) r h (omega (arith, n)))

-- ---- data filled in are the ones there, and the others are as they were
pub content-fill : (area : List ℕ) (p : ℕ) (x : List ℕ) → AREA * p ≤ length area
    → content (fill area p x) p (length x) ≡ x
unfolding content fill
content-fill area p x h = laid-part area (AREA * p) x h

pub content-other : (area : List ℕ) (p j : ℕ) (x : List ℕ) (n : ℕ) → AREA * p + AREA ≤ length area → length x ≤ AREA
    → n ≤ AREA → (p ≡ j → ⊥) → content (fill area p x) j n ≡ content area j n
unfolding content fill
content-other area p j x n h l m d =
    by_order p j
    (λ s. behind-part area (AREA * p) x (AREA * j) n (omega arith) (omega arith))
    (λ s. before-part area (AREA * p) x (AREA * j) n (omega arith) (omega (arith, d)))
