-- What is known of a request that submit does not refuse for itself, and of a record laid in a row: it is read back,
-- and the records at other places are untouched. Assumes nothing.
use Prim.Native.Nat.{ℕ, ◌+◌, ◌*◌, ◌/◌, ◌%◌, ◌<◌, ◌≤◌}
use mathlib.Core.Bool.{Bool, true, false}
use mathlib.Core.Path.{◌≡◌, refl, sym, ◌∙◌}
use mathlib.Core.List.{List}
use native.Mathlib.Omega.{arith}
use lib.ListN.{length}
use Rattle.choice.specs.Choice.{pick, less}
use Rattle.choice.proofs.Rules.{passed, is_said, false-less, pick-itself}
use Rattle.frame.specs.Reading.{octet}
use Rattle.laid.specs.Laid.{laid}
use Rattle.laid.proofs.Octets.{laid-octet, before-octet, behind-octet}
use Rattle.request.specs.declared.Record.{Record}
use Rattle.request.specs.Record.{UNIT, RETRIES, SIZE, reference_at, reference_octets, flag_octet, flagged, octets}
use Rattle.request.specs.Record.{record_at, extensions, misaddressed, mispointed, unserved, overlong, overlimit}
use Rattle.request.specs.Record.{unfit}

-- a fit request, test by test
pub record Fit (ts : ℕ) (r : Record) (n : ℕ) : Type 0 where
  pub addressed : misaddressed ts r.destination.0 r.service ≡ false
  pub pointed : mispointed r.to.0 r.from.0 r.service ≡ false
  pub served : unserved r.service ≡ false
  pub short : overlong r.to.0 r.from.0 n ≡ false
  pub bounded : overlimit r.limit ≡ false

pub fit : (ts : ℕ) (r : Record) (n : ℕ) → unfit ts r n ≡ 0 → Fit ts r n
unfolding unfit
fit ts r n e =
    let a = passed _ 23 _ (omega arith) e in
    let b = passed _ 24 _ (omega arith) a.1 in
    let c = passed _ 25 _ (omega arith) b.1 in
    let d = passed _ 26 _ (omega arith) c.1 in
    let f = passed _ 30 _ (omega arith) d.1 in
    record {
      addressed = is_said a.0;
      pointed = is_said b.0;
      served = is_said c.0;
      short = is_said d.0;
      bounded = is_said f.0;
    }

-- its data and access points are at most 246 octets
pub fit-short : (ts : ℕ) (r : Record) (n : ℕ) → unfit ts r n ≡ 0
    → extensions r.to.0 + (extensions r.from.0 + n) ≤ UNIT
unfolding overlong
fit-short ts r n e = false-less _ _ (sym (pick-itself _) ∙ (fit ts r n e).short)

-- and its limit is at most 15
pub fit-limit : (ts : ℕ) (r : Record) (n : ℕ) → unfit ts r n ≡ 0 → r.limit ≤ RETRIES
unfolding overlimit
fit-limit ts r n e = false-less _ _ (sym (pick-itself _) ∙ (fit ts r n e).bounded)

-- ---- a record laid in a row
pub length-octets : (r : Record) → length (octets r) ≡ SIZE
unfolding octets reference_octets
length-octets r = refl

-- the four octets of a reference make it
pub reference-whole : (n : ℕ) → n % 256 + 256 * (n / 256 % 256) + 65536 * (n / 65536 % 256) + 16777216 * (n / 16777216) ≡ n
reference-whole n = omega arith

pub flag-whole : (b : Bool) → flagged (flag_octet b) ≡ b
unfolding flagged flag_octet pick less
flag-whole true = refl
flag-whole false = refl

pub read_back : (l : List ℕ) (i : ℕ) (r : Record) → i + SIZE ≤ length l → record_at (laid l i (octets r)) i ≡ r
unfolding record_at octets reference_at reference_octets
read_back l i r h =
    let o : (k : ℕ) → k < SIZE → octet (laid l i (octets r)) (i + k) ≡ octet (octets r) k = λ k n. laid-octet l i
    (octets r) k (omega arith) n in
    rw (
      o 0 (omega arith),
      o 1 (omega arith),
      o 2 (omega arith),
      o 3 (omega arith),
      o 4 (omega arith),
      o 5 (omega arith),
      o 6 (omega arith),
      o 7 (omega arith),
      o 8 (omega arith),
      o 9 (omega arith),
      o 10 (omega arith),
      o 11 (omega arith),
      o 12 (omega arith),
      reference-whole r.reference,
      flag-whole r.asks,
    )

-- records whose octets are the same
same-octets : (l m : List ℕ) (j : ℕ) → ((k : ℕ) → k < SIZE → octet l (j + k) ≡ octet m (j + k))
    → record_at l j ≡ record_at m j
unfolding record_at reference_at
same-octets l m j h =
    cc (
      h 0 (omega arith),
      h 1 (omega arith),
      h 2 (omega arith),
      h 3 (omega arith),
      h 4 (omega arith),
      h 5 (omega arith),
      h 6 (omega arith),
      h 7 (omega arith),
      h 8 (omega arith),
      h 9 (omega arith),
      h 10 (omega arith),
      h 11 (omega arith),
      h 12 (omega arith),
    )

pub read-before : (l : List ℕ) (i j : ℕ) (r : Record) → i + SIZE ≤ length l → j + SIZE ≤ i
    → record_at (laid l i (octets r)) j ≡ record_at l j
read-before l i j r h n = same-octets _ l j (λ k m. before-octet l i (octets r) (j + k) (omega arith) (omega arith))

pub read_behind : (l : List ℕ) (i j : ℕ) (r : Record) → i + SIZE ≤ length l → i + SIZE ≤ j
    → record_at (laid l i (octets r)) j ≡ record_at l j
unfolding octets reference_octets
read_behind l i j r h n = same-octets _ l j (λ k m. behind-octet l i (octets r) (j + k) (omega arith) (omega arith))
