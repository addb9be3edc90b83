-- Document 01, "Frames", as theorems about the definitions that reader and writer are held to. Assumes nothing.
use Prim.Native.Nat.{ℕ, ◌<◌}
use mathlib.Core.Bool.{Bool, true, false}
use mathlib.Core.List.{List, ◌++◌}
use mathlib.Core.Logic.{◌⊎◌, inl, inr}
use mathlib.Core.Path.{◌≡◌, refl, sym, ◌∙◌}
use native.Mathlib.Decide.{ℕ_discrete}
use native.Mathlib.Omega.{arith}
use lib.ListN.{length, drop}
use Rattle.std.specs.Prelude.{Result}
use Rattle.choice.specs.Choice.{pick, same}
use Rattle.choice.proofs.Rules.{passed, false-less}
use Rattle.refusal.specs.declared.Refusal.{Refusal}
use Rattle.frame.specs.declared.Part.{Part}
use Rattle.frame.specs.declared.Fields.{Fields}
use Rattle.frame.specs.declared.Fields.TheVariants.{Token, Short, Frame}
use Rattle.frame.specs.Reading.{Answer}
use Rattle.frame.specs.Reading.{Read, answered}
use Rattle.frame.proofs.Results.{answered-same, wrote-same}
use Rattle.frame.specs.Format.{Written}
use Rattle.frame.specs.Format.{Refused, Count, wrote}
use Rattle.frame.specs.Format.{octets, unit, body, sd2, unwritable, unwritable_token, refused, written, left, SD2, SD3}
use Rattle.frame.specs.Reading.{read, plain, refusal, shown, octet}
use Rattle.frame_laws.specs.Terms.{Octets, carried, flip, Summed, Twins}
use Rattle.frame_laws.specs.Table.{table}
use Rattle.frame_laws.proofs.Body.{writable, head-body, data-body, sound-body}
use Rattle.frame_laws.proofs.Framed.{read-token, read-short, reads-framed}
use Rattle.frame_laws.proofs.Accepted.{body_of, accepted, accepted-writable, accepted-carried, accepted-written}
use Rattle.frame_laws.proofs.Accepted.{accepted-SD3}
use Rattle.frame_laws.proofs.Flips.{accepted-flip}
use Rattle.frame_laws.proofs.Table.{table-read}

-- "Frame refusals, first match in this order": the reader's refusal of any string is the first row of the table that
-- holds, and 0 where none does
pub refusal-table : (s : List ℕ) → refusal (read s) ≡ table s
refusal-table s = table-read s

-- (a) "Reading a written frame gives its fields", and its data
pub read-written : (f : Fields) (x : List ℕ) → unwritable f x ≡ 0
    → (p : Part) × (read (octets f x) ≡ Read f p) × (shown (octets f x) p ≡ carried f x)
unfolding octets unwritable unwritable_token plain shown
read-written (Token d a) x ok =
    let e1 = passed _ _ _ (omega arith) ok in
    let e2 = passed _ _ _ (omega arith) e1.1 in
    (record { start = 0; count = 0 }, read-token _ _ (false-less _ _ e1.0) (false-less _ _ e2.0), refl)
read-written Short x ok = (record { start = 0; count = 0 }, read-short, refl)
read-written (Frame h) x ok =
    let w = writable h (length (unit h x)) ok in
    rw (head-body h x w, data-body h x w) at (reads-framed (body h x) (sound-body h x w))

-- (b) "writing the fields of a read frame gives its octets unless it was SD3"
pub written_read : (s : List ℕ) (f : Fields) (p : Part) → Octets s → read s ≡ Read f p
    → (octet s 0 ≡ SD3 → ⊥) → octets f (shown s p) ≡ s
written_read s f p o e n = accepted-written (accepted s f p e) o n

-- (b) and for an SD3 an SD2 that reads as the same fields and data
pub written-twin : (s : List ℕ) (f : Fields) (p : Part) → Octets s → read s ≡ Read f p → octet s 0 ≡ SD3
    → (octet (octets f (shown s p)) 0 ≡ SD2)
    × ((q : Part) × (read (octets f (shown s p)) ≡ Read f q) × (shown (octets f (shown s p)) q ≡ shown s p))
unfolding sd2
written-twin s f p o e n =
    let a = accepted s f p e in
    (rw (accepted-SD3 a o n).1, rw (accepted-carried a) at (read-written f (shown s p) (accepted-writable a)))

-- (c) "one flipped bit in a frame that carries a checksum is always refused"
pub flip-refused : (s : List ℕ) (f : Fields) (p : Part) → read s ≡ Read f p → Summed (octet s 0)
    → (i k : ℕ) → i < length s → k < 8 → 0 < refusal (read (flip s i k))
flip-refused s f p e m i k hi hk = accepted-flip (accepted s f p e) m i k hi hk

-- (d) the fields of a read frame are never refused 8..12 by the writer
pub read-writable : (s : List ℕ) (f : Fields) (p : Part) → read s ≡ Read f p → unwritable f (shown s p) ≡ 0
read-writable s f p e = accepted-writable (accepted s f p e)

-- (d) and so no two strings but an SD3 and its SD2 twin read as the same fields and data
pub read-once : (s t : List ℕ) (f : Fields) (p q : Part) → Octets s → Octets t
    → read s ≡ Read f p → read t ≡ Read f q → shown s p ≡ shown t q
    → (s ≡ t) ⊎ (Twins s t ⊎ Twins t s)
read-once s t f p q os ot es et e = by (ℕ_discrete (octet s 0) SD3) (ℕ_discrete (octet t 0) SD3)
  where
    by : Dec (octet s 0 ≡ SD3) → Dec (octet t 0 ≡ SD3) → (s ≡ t) ⊎ (Twins s t ⊎ Twins t s)
    by (yes m) (yes n) =
        inl (cc ((accepted-SD3 (accepted s f p es) os m).0, (accepted-SD3 (accepted t f q et) ot n).0))
    by (yes m) (no n) =
        let a = accepted-SD3 (accepted s f p es) os m in
        inr (inl (record { body = body_of f (shown s p); third = a.0; second = cc (written_read t f q ot et n, a.1) }))
    by (no m) (yes n) =
        let a = accepted-SD3 (accepted t f q et) ot n in
        inr (inr (record { body = body_of f (shown t q); third = a.0; second = cc (written_read s f p os es m, a.1) }))
    by (no m) (no n) = inl (cc (written_read s f p os es m, written_read t f q ot et n))

-- demand 1, of the writer: "a refused call changes nothing: ... not an octet we lent"
pub refused-leaves : (f : Fields) (x out : List ℕ) {n : ℕ} → written f x out ≡ Refused n → left f x out ≡ out
unfolding written left pick
refused-leaves f x out {n} e = by (same (refused f x out) 0) (octets f x) (refused f x out) e
  where
    by : (b : Bool) (u : List ℕ) (m : ℕ) → pick b (Count (length u)) (Refused m) ≡ Refused n
        → pick b (u ++ drop (length u) out) out ≡ out
    by true u m e =
        let z : ◌≡◌ {A = ℕ} 0 1 = cc in
        absurd (omega arith)
    by false u m e = refl

-- (e) one result: any two answers that meet the reader's promise are equal; and any two that meet a writer's, with what
-- they leave in the output
pub one-read : (s : List ℕ) {a b : Answer} → a ≡ read s → b ≡ read s → a ≡ b
one-read s e f = e ∙ sym f

pub one_written : (f : Fields) (x out : List ℕ) {a b : Written} {o o' : List ℕ} → a ≡ written f x out
    → o ≡ left f x out → b ≡ written f x out → o' ≡ left f x out → (a ≡ b) × (o ≡ o')
one_written f x out e i g j = (e ∙ sym g, i ∙ sym j)

-- the same of what the code answers, by the functions' own contracts: the reader's and the writers'
pub one-read-result : (s : List ℕ) {a b : Result (Fields × Part) Refusal} → answered a ≡ read s → answered b ≡ read s
    → a ≡ b
one-read-result s {a = a} {b = b} e f = answered-same a b (one-read s e f)

pub one-written-result : (f : Fields) (x out : List ℕ) {a b : Result ℕ Refusal} {o o' : List ℕ}
    → wrote a ≡ written f x out → o ≡ left f x out → wrote b ≡ written f x out → o' ≡ left f x out
    → (a ≡ b) × (o ≡ o')
one-written-result f x out {a = a} {b = b} e i g j =
    let w = one_written f x out e i g j in
    (wrote-same a b w.0, w.1)
