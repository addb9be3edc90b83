-- A word read as octets into an output that has room for any word of a line. Assumes nothing.
use Prim.Native.Nat.{ℕ, suc, ◌+◌, ◌/◌, ◌≤◌}
use mathlib.Core.Bool.{Bool, true, false}
use mathlib.Core.List.{List, [], ◌∷◌}
use mathlib.Core.Path.{◌≡◌, refl, ap, ◌∙◌}
use native.Mathlib.Omega.{arith}
use lib.ListN.{length, take, drop, length-drop, length-take}
use Rattle.std.specs.Option.{unwrap_or}
use Rattle.choice.specs.Choice.{pick, less, said}
use Rattle.choice.proofs.Rules.{less-false}
use Rattle.laid.proofs.Laws.{length-laid}
use Rattle.laid.proofs.Octets.{laid-part}
use Rattle.typed.specs.Words.{word, begin_of, letters}
use Rattle.typed.specs.Digits.{is_octets, octets, hex, hex_left}

-- a word is no longer than its line
pub word-short : (l : List ℕ) (k : ℕ) → length (word l k) ≤ length l
unfolding word
word-short l k =
    omega (arith, length-take (letters (drop (begin_of l k) l)) (drop (begin_of l k) l), length-drop (begin_of l k) l)

-- two digits to an octet
pub octets-count : (l : List ℕ) → length (octets l) ≡ length l / 2
unfolding octets
octets-count [] = refl
octets-count (a ∷ []) = refl
octets-count (a ∷ (b ∷ l)) = ap suc (octets-count l) ∙ omega arith

-- what was read, and that it lies in the output
read_of : (w out : List ℕ) (b : Bool) → length w ≤ 4096 → 2048 ≤ length out → said (is_octets w) ≡ b
    → (take (unwrap_or (hex w (length out)) 0) (hex_left w out) ≡ pick (said (is_octets w)) (octets w) [])
    × (unwrap_or (hex w (length out)) 0 ≤ length (hex_left w out))
unfolding hex hex_left pick
read_of w out true h n e =
    let f : less (length out) (length w / 2) ≡ false = less-false (omega arith) in
    let g : 0 + length (octets w) ≤ length out = omega (arith, octets-count w) in
    rw (e, f) (
      rw (← octets-count w) (laid-part out 0 (octets w) (omega arith)),
      omega (arith, octets-count w, length-laid out 0 (octets w) g),
    )
read_of w out false h n e = rw e (refl, omega arith)

pub octets_read : (l : List ℕ) (k : ℕ) (out : List ℕ) → length l ≤ 4096 → 2048 ≤ length out
    → (take (unwrap_or (hex (word l k) (length out)) 0) (hex_left (word l k) out)
    ≡ pick (said (is_octets (word l k))) (octets (word l k)) [])
    × (unwrap_or (hex (word l k) (length out)) 0 ≤ length (hex_left (word l k) out))
octets_read l k out h n = read_of (word l k) out (said (is_octets (word l k))) (omega (arith, word-short l k)) n refl
