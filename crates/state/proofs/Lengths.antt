-- Case 7: the count of a frame's octets by its LE, and an LE out of range whatever follows it. Assumes nothing.
use Prim.Native.Nat.{ℕ, ◌+◌}
use mathlib.Core.Bool.{true}
use mathlib.Core.List.{List}
use mathlib.Core.Path.{◌≡◌, refl, sym, ap}
use native.Mathlib.Omega.{arith}
use lib.ListN.{length, length-append}
use Rattle.choice.proofs.Rules.{if-same, unless-same, unless-less, asked-true}
use Rattle.frame.specs.declared.Head.{Head}
use Rattle.frame.specs.Format.{SD2, octets, unit, body, closing, framed, sd2}
use Rattle.frame.specs.Reading.{octet, mismeasured, read_sd2, read}
use Rattle.state.specs.Twelve.{Longest, measured, reading, reading_of, refused}

-- a body of 249 octets goes as an SD2, which has six octets beside it
framed-sd2 : (b : List ℕ) → length b ≡ 249 → framed b ≡ sd2 b
unfolding framed
framed-sd2 b e = sym (unless-same _ (λ h. omega arith) refl)

sd2-length : (b : List ℕ) → length (sd2 b) ≡ 4 + (length b + 2)
unfolding sd2 closing
sd2-length b = let z = length-append b (closing b) in omega arith

sd2-longest : (b : List ℕ) → length b ≡ 249 → (octet (framed b) 1 ≡ 249) × (length (framed b) ≡ 255)
unfolding sd2
sd2-longest b e = let z = sd2-length b in rw (framed-sd2 b e) (e, omega arith)

pub longest : (h : Head) (x : List ℕ) → length (unit h x) ≡ 246 → Longest h x
unfolding octets body
longest h x e =
    let z = sd2-longest (body h x) (omega arith) in
    record { le = z.0; count = z.1 }

pub mismeasured-refused : (le : ℕ) (s : List ℕ) → mismeasured le le SD2 ≡ true → reading (measured le s) ≡ refused 4
unfolding reading reading_of read read_sd2
mismeasured-refused le s e =
    ap (reading_of (measured le s))
    (sym
    (unless-same _ (λ h. omega arith)
    (unless-same _ (λ h. omega arith)
    (if-same _ refl
    (unless-less _ (omega arith)
    (asked-true _ refl e refl))))))
