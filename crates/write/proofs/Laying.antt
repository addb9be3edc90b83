-- What the writer answers and leaves for fields that it does not refuse, in an output of 255 octets or more: it lays
-- their octets and counts them; and what a frame with a control octet has that it does not refuse. Assumes nothing.
use Rattle.std.proofs.Common.{◌≡◌, ℕ, ◌+◌, ◌≤◌, Bool, true, false, List, [], ◌∷◌, length, sym, refl, ap, ◌∙◌, true≢false, arith}
use Rattle.choice.specs.Choice.{pick, same}
use Rattle.choice.proofs.Rules.{unless-less, asked-true, asked-false}
use Rattle.control.specs.Control.{fc, lawful}
use Rattle.control.proofs.Octet.{listed-fc}
use Rattle.frame.specs.declared.Address.{Address}
use Rattle.frame.specs.declared.Head.{Head}
use Rattle.frame.specs.declared.Fields.{Fields}
use Rattle.frame.specs.declared.Fields.TheVariants.{Token, Short, Frame}
use Rattle.frame.specs.Format.{Written}
use Rattle.frame.specs.Format.{Refused, Count}
use Rattle.frame.specs.Format.{SD1, SD2, unit, octets, outside, misdirected}
use Rattle.frame.specs.Format.{unwritable_token, unwritable_frame, unwritable, written, left}
use Rattle.laid.specs.Laid.{laid, Lays}
use Rattle.write.proofs.Frame.{start}
use Rattle.write.proofs.Answers.{Answered, Writes, wrote, writes-frame}

pub record Laying (f : Fields) (x o : List ℕ) : Type 0 where
  pub counts : Count (length (octets f x)) ≡ written f x o
  pub leaves : laid o 0 (octets f x) ≡ left f x o
  pub near : length (octets f x) ≤ 255

pub laying : (f : Fields) (x o : List ℕ) → unwritable f x ≡ 0 → length (octets f x) ≤ 255 → 255 ≤ length o
    → Laying f x o
laying f x o z n h =
    let w : Writes f x (octets f x) (length (octets f x)) = record { writable = z; octets = refl; count = refl } in
    let a : Answered f x o (Count (length (octets f x))) (laid o 0 (octets f x)) = wrote w o (omega arith) refl in
    record { counts = a.value; leaves = a.out_after; near = n }

pub laying-short : (o : List ℕ) → 255 ≤ length o → Laying Short [] o
unfolding unwritable octets
laying-short o h = laying Short [] o refl (omega arith) h

pub laying-token : (d s : Address) (o : List ℕ) → d.0 ≤ 126 → s.0 ≤ 126 → 255 ≤ length o → Laying (Token d s) [] o
unfolding unwritable unwritable_token octets
laying-token d s o p q h = laying (Token d s) [] o (sym (unless-less _ p (unless-less _ q refl))) (omega arith) h

-- ---- a frame with a control octet that is not refused, n the count of its unit's octets
pub record Passed (h : Head) (n : ℕ) : Type 0 where
  pub source : h.source.0 ≤ 126
  pub destination : h.destination.0 ≤ 127
  pub control : lawful h.control ≡ true
  pub to : outside h.to 63 ≡ false
  pub from : outside h.from 62 ≡ false
  pub directed : misdirected h.destination.0 (fc h.control) ≡ false
  pub units : n ≤ 246

unrefused-frame : (h : Head) (n : ℕ) → Passed h n → 0 ≡ unwritable_frame h n
unfolding unwritable_frame
unrefused-frame h n p =
    unless-less _ p.source
    (unless-less _ p.destination
    (asked-true _ refl (listed-fc _ ∙ p.control)
    (asked-false _ refl p.to
    (asked-false _ refl p.from
    (asked-false _ refl p.directed
    (unless-less _ p.units refl))))))

length-begin : (b : Bool) (n : ℕ) → length (pick b (SD1 ∷ []) (SD2 ∷ (n ∷ (n ∷ (SD2 ∷ []))))) ≤ 4
unfolding pick
length-begin true n = omega arith
length-begin false n = omega arith

pub laying-frame : (h : Head) (x o : List ℕ) → Passed h (length (unit h x)) → 255 ≤ length o → Laying (Frame h) x o
laying-frame h x o p l =
    let k : ℕ = length (unit h x) in
    let u : k ≤ 246 = p.units in
    let w = writes-frame h x {n = k} {r = 0} refl (unrefused-frame h k p) refl in
    let b : length (start (k + 3)) ≤ 4 = length-begin (same (k + 3) 3) (k + 3) in
    laying (Frame h) x o w.writable (rw (w.octets, w.count) (omega arith)) l

-- ---- and what the writer's answer then is
abbrev is_count : Written → Bool
is_count (Count n) = true
is_count (Refused n) = false

module _ {f : Fields} {x o : List ℕ} (w : Laying f x o) {n : ℕ} where
  pub never : {A : Type 0} → Refused n ≡ written f x o → A
  never e = absurd (true≢false (ap is_count (w.counts ∙ sym e)))

  pub lays : {m : List ℕ} → Count n ≡ written f x o → m ≡ left f x o → Lays o 0 (octets f x) 255 n m
  lays e l =
      let c : n ≡ length (octets f x) = cc (e, w.counts) in
      record { place = omega (arith, c); left = l ∙ sym w.leaves; near = w.near }
