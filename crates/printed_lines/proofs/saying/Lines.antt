-- A line that was laid at the start of the text, as what is left of it. Assumes nothing.
use Prim.Native.Nat.{ℕ, ◌+◌, ◌≤◌}
use mathlib.Core.List.{List}
use mathlib.Core.Path.{◌≡◌, sym, ap, ◌∙◌}
use native.Mathlib.Omega.{arith}
use native.Mathlib.Nat.{zero-add}
use lib.ListN.{length, drop, length-append}
use Rattle.laid.specs.Laid.{laid, Lays}

pub line-length : {text l m text' : List ℕ} {room n : ℕ} → Lays text 0 l room n text' → l ≡ m → n ≡ length m
line-length x e = x.place ∙ zero-add _ ∙ ap length e

pub line-left : {text l m text' : List ℕ} {room n : ℕ} → Lays text 0 l room n text' → l ≡ m → text' ≡ laid text 0 m
line-left {text = text} x e = x.left ∙ ap (laid text 0) e

-- what was laid at the start of an output that is as long as before lies in it
pub laid-near : (l u m : List ℕ) → m ≡ laid l 0 u → length m ≡ length l → length u ≤ length l
unfolding laid
laid-near l u m e h = omega (arith, sym (ap length e) ∙ h, length-append u (drop (0 + length u) l))
