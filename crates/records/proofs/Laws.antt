-- The laws of a row of records and the octets that it stands for: a record put or read at a place of the one is put
-- or read there in the other, the octets tell the records, and what submit's decision leaves. Assumes nothing.
use Prim.Native.Nat.{ℕ, zero, suc, ◌+◌, ◌*◌, ◌<◌, ◌≤◌}
use mathlib.Core.Bool.{Bool, true, false}
use mathlib.Core.Path.{◌≡◌, refl, sym, ap, ◌∙◌}
use mathlib.Core.List.{List, [], ◌∷◌, ◌++◌, append_assoc}
use native.Mathlib.Omega.{arith}
use lib.ListN.{length, get_or, set, drop, replicate, get_or-eq_default, length-append, length-replicate}
use lib.Seq.{take-append-add, drop-append-add, get_or-append-add}
use Rattle.std.proofs.Common.{Result, Ok, Err}
use Rattle.std.specs.Prelude.{IfOk}
use Rattle.choice.specs.Choice.{pick, less}
use Rattle.choice.proofs.Rules.{pick_true, pick-false, same_true, same_false}
use Rattle.refusal.specs.declared.Refusal.{Refusal}
use Rattle.refusal.proofs.Numbers.{above_zero}
use Rattle.frame.specs.Reading.{octet}
use Rattle.laid.specs.Laid.{laid}
use Rattle.request.specs.declared.Record.{Record}
use Rattle.request.specs.Record.{SIZE, reference_at, reference_octets, flagged, octets, record_at}
use Rattle.request.proofs.Laws.{length-octets, reference-whole, flag-whole}
use Rattle.queue.specs.declared.Queue.{Queue}
use Rattle.queue.specs.declared.Taken.{Taken as Takes}
use Rattle.queue.specs.Queue.{AREA, Ruled, Taken, accepted, refuse, taken, taken_of}
use Rattle.rows.specs.Rows as Rows
use Rattle.rows.specs.Rows.{Lent, left, stored}
use Rattle.rows.proofs.Submitted.{room_of}
use Rattle.records.specs.Records.{blank, row_of, placed, filled}

pub length-row : (row : List Record) → length (row_of row) ≡ SIZE * length row
unfolding row_of
length-row [] = refl
length-row (r ∷ row) = simp length-append (omega (arith, length-octets r, length-row row))

-- ---- the record at a place
behind : (r : Record) (l : List ℕ) (p k : ℕ) → octet (octets r ++ l) (SIZE * suc p + k) ≡ octet l (SIZE * p + k)
behind r l p k =
    let e : SIZE * suc p + k ≡ length (octets r) + (SIZE * p + k) = omega (arith, length-octets r) in
    ap (λ (n : ℕ). octet (octets r ++ l) n) e ∙ get_or-append-add (octets r) l (SIZE * p + k) 0

next : (r : Record) (l : List ℕ) (p : ℕ) → record_at (octets r ++ l) (SIZE * suc p) ≡ record_at l (SIZE * p)
unfolding record_at reference_at
next r l p =
    cc (
      behind r l p 0,
      behind r l p 1,
      behind r l p 2,
      behind r l p 3,
      behind r l p 4,
      behind r l p 5,
      behind r l p 6,
      behind r l p 7,
      behind r l p 8,
      behind r l p 9,
      behind r l p 10,
      behind r l p 11,
      behind r l p 12,
    )

first : (r : Record) (l : List ℕ) → record_at (octets r ++ l) (SIZE * 0) ≡ r
unfolding record_at octets reference_at reference_octets
first r l = rw (reference-whole r.reference, flag-whole r.asks)

nothing : (p : ℕ) → record_at [] p ≡ blank
unfolding record_at reference_at flagged less
nothing p = refl

pub at_row : (row : List Record) (p : ℕ) → Rows.at (row_of row) p ≡ get_or row p blank
unfolding Rows.at row_of
at_row [] p = nothing (SIZE * p)
at_row (r ∷ row) zero = first r (row_of row)
at_row (r ∷ row) (suc p) = next r (row_of row) p ∙ at_row row p

-- ---- a record put at a place
laid_next : (a l : List ℕ) (i : ℕ) (u : List ℕ) → laid (a ++ l) (length a + i) u ≡ a ++ laid l i u
unfolding laid
laid_next a l i u =
    let e : length a + i + length u ≡ length a + (i + length u) = omega arith in
    rw (e, take-append-add a l i, drop-append-add a l (i + length u)) (append_assoc a _ _)

put_first : (r h : Record) (l : List ℕ) → laid (octets h ++ l) (SIZE * 0) (octets r) ≡ octets r ++ l
unfolding laid octets reference_octets
put_first r h l = refl

put_next : (r h : Record) (l : List ℕ) (p : ℕ)
    → laid (octets h ++ l) (SIZE * suc p) (octets r) ≡ octets h ++ laid l (SIZE * p) (octets r)
put_next r h l p =
    let e : SIZE * suc p ≡ length (octets h) + SIZE * p = omega (arith, length-octets h) in
    ap (λ (n : ℕ). laid (octets h ++ l) n (octets r)) e ∙ laid_next (octets h) l (SIZE * p) (octets r)

pub put-row : (row : List Record) (p : ℕ) (r : Record) → p < length row
    → row_of (set row p r) ≡ Rows.put (row_of row) p r
unfolding Rows.put row_of
put-row [] p r h = absurd (omega (arith, h))
put-row (x ∷ row) zero r h = sym (put_first r x (row_of row))
put-row (x ∷ row) (suc p) r h =
    ap (λ (l : List ℕ). octets x ++ l) (put-row row p r (omega (arith, h))) ∙ sym (put_next r x (row_of row) p)

-- ---- rows of records with the same octets are the same
rest : (r : Record) (l : List ℕ) → drop SIZE (octets r ++ l) ≡ l
unfolding octets reference_octets
rest r l = refl

pub octets-tell : (a b : List Record) → row_of a ≡ row_of b → a ≡ b
unfolding row_of octets
octets-tell [] [] e = refl
octets-tell [] (s ∷ b) e = absurd (omega (arith, ap length e))
octets-tell (r ∷ a) [] e = absurd (omega (arith, ap length e))
octets-tell (r ∷ a) (s ∷ b) e =
    let heads = sym (first r (row_of a)) ∙ ap (λ (l : List ℕ). record_at l (SIZE * 0)) e ∙ first s (row_of b) in
    let tails = sym (rest r (row_of a)) ∙ ap (drop SIZE) e ∙ rest s (row_of b) in
    cc (heads, octets-tell a b tails)

-- ---- a request taken has room for its data, and for its record
pub room_for : (ts : ℕ) (q : Queue) (r : Record) (t : Takes) (x area : List ℕ) → Ruled q
    → length area ≡ AREA * q.places → taken_of q r (Ok t) ≡ taken ts q r (length x)
    → (AREA * t.place + AREA ≤ length area) × (length x ≤ AREA)
room_for ts q r t x area u e d =
    let any : List ℕ = replicate (SIZE * q.places) 0 in
    let h =
    room_of ts q r t x any area u (record { places = length-replicate (SIZE * q.places) 0; areas = e }) d
    in
    (h.data-fit, h.short)

pub within-row : (ts : ℕ) (q : Queue) (r : Record) (t : Takes) (x : List ℕ) (row : List Record) (area : List ℕ)
    → Ruled q → Lent q (row_of row) area → taken_of q r (Ok t) ≡ taken ts q r (length x) → t.place < length row
within-row ts q r t x row area u l d =
    omega (arith, (room_of ts q r t x (row_of row) area u l d).record-fits, length-row row)

pub taken-within : (ts : ℕ) (q : Queue) (r : Record) (d : Result Takes Refusal) (x : List ℕ) (row : List Record)
    (area : List ℕ) → Ruled q → Lent q (row_of row) area → taken_of q r d ≡ taken ts q r (length x)
    → IfOk d (λ t. t.place < length row)
taken-within ts q r (Ok t) x row area u l d = within-row ts q r t x row area u l d
taken-within ts q r (Err e) x row area u l d = tt

-- ---- what submit's decision leaves
stored-by : (b : Bool) (t : Taken) (row row' area area' : List ℕ)
    → left t (pick b row row') (pick b area area') ≡ pick b (left t row area) (left t row' area')
unfolding pick
stored-by true t row row' area area' = refl
stored-by false t row row' area area' = refl

pub is-stored : (t : Taken) (x row area : List ℕ) → left t (placed t row) (filled t x area) ≡ stored t x row area
unfolding stored placed filled
is-stored t x row area = stored-by _ t _ row _ area

-- and by the answer: refused, all is as it was
pub filled-err : (q : Queue) (r : Record) (e : Refusal) (x area : List ℕ) → filled (taken_of q r (Err e)) x area ≡ area
unfolding filled taken_of refuse
filled-err q r e x area = pick-false _ _ (same_false (λ z. omega (arith, above_zero e)))

pub placed-err : (q : Queue) (r : Record) (e : Refusal) (row : List ℕ) → placed (taken_of q r (Err e)) row ≡ row
unfolding placed taken_of refuse
placed-err q r e row = pick-false _ _ (same_false (λ z. omega (arith, above_zero e)))

pub placed-ok : (q : Queue) (r : Record) (t : Takes) (row : List ℕ)
    → placed (taken_of q r (Ok t)) row ≡ Rows.put row t.place t.entry
unfolding placed taken_of accepted
placed-ok q r t row = pick_true _ _ (same_true refl)

pub filled-ok : (q : Queue) (r : Record) (t : Takes) (x area : List ℕ)
    → filled (taken_of q r (Ok t)) x area ≡ Rows.fill area t.place x
unfolding filled taken_of accepted
filled-ok q r t x area = pick_true _ _ (same_true refl)

pub ruleset read_there = (at_row, get_or-eq_default)

pub ruleset put_there = (put-row)

pub ruleset row_steps = (at_row, put-row, length-row)
