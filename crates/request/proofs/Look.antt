-- A record that is fit at the first look. Assumes nothing.
use Prim.Native.Nat.{ℕ, ◌<◌, ◌≤◌}
use mathlib.Core.Bool.{Bool, true, false, true≢false}
use mathlib.Core.Logic.{◌⊎◌, inl, inr, ⊎_elim}
use mathlib.Core.Path.{◌≡◌, refl, sym, ◌∙◌}
use native.Mathlib.Omega.{arith}
use Rattle.choice.specs.Choice.{pick, less, same, either}
use Rattle.choice.proofs.Rules.{less-false, same_true, same_false, true-less, true_same, pick_true, pick-false}
use Rattle.choice.proofs.Rules.{said-false}
use Rattle.request.specs.declared.Record.{Record}
use Rattle.request.specs.Record.{RETRIES, misaddressed, beyond, mispointed, unserved, extensions, overlong}
use Rattle.request.specs.Record.{overlimit, unfit}

abbrev Usual : ℕ → Type 0
Usual p = either (less p 63) (same p 255) ≡ true

one-or-other : (p : ℕ) (a b : Bool) → less p 63 ≡ a → same p 255 ≡ b → either a b ≡ true → (p < 63) ⊎ (p ≡ 255)
unfolding pick
one-or-other p true b l s e = inl (true-less p 63 l)
one-or-other p false true l s e = inr (true_same p 255 s)
one-or-other p false false l s e = absurd (true≢false (sym e))

usual-point : (p : ℕ) → Usual p → (p < 63) ⊎ (p ≡ 255)
usual-point p u = one-or-other p _ _ refl refl u

within : (p most : ℕ) → 62 ≤ most → Usual p → beyond p most ≡ false
unfolding beyond
within p most h u =
    ⊎_elim
    (λ l. pick-false _ _ (same_false (omega arith)) ∙ pick-false _ _ (less-false (omega arith)))
    (λ e. pick_true _ _ (same_true e)) (usual-point p u)

off-63 : (p : ℕ) → Usual p → same p 63 ≡ false
off-63 p u = same_false (λ e. ⊎_elim (λ l. omega arith) (λ q. omega arith) (usual-point p u))

one-most : (b : Bool) → pick b 0 1 ≤ 1
unfolding pick
one-most true = omega arith
one-most false = omega arith

extensions-most : (p : ℕ) → extensions p ≤ 1
unfolding extensions
extensions-most p = one-most _

addressed : (ts d service : ℕ) → d < 127 → (d ≡ ts → ⊥) → misaddressed ts d service ≡ false
unfolding misaddressed
addressed ts d service l n =
    pick-false _ _ (less-false (omega arith))
    ∙ (pick-false _ _ (same_false n) ∙ pick-false _ _ (same_false (omega arith)))

pointed : (to from service : ℕ) → Usual to → Usual from → mispointed to from service ≡ false
unfolding mispointed
pointed to from service u v =
    pick-false _ _ (said-false refl (within to 63 (omega arith) u))
    ∙ (pick-false _ _ (said-false refl (within from 62 (omega arith) v)) ∙ pick-false _ _ (off-63 to u))

short : (to from n : ℕ) → n < 245 → overlong to from n ≡ false
unfolding overlong
short to from n l = pick-false _ _ (less-false (omega (arith, extensions-most to, extensions-most from)))

bounded : (n : ℕ) → n ≤ RETRIES → overlimit n ≡ false
unfolding overlimit
bounded n l = pick-false _ _ (less-false l)

pub fit : (ts : ℕ) (r : Record) (n : ℕ) → r.destination.0 < 127 → (r.destination.0 ≡ ts → ⊥) → Usual r.to.0
    → Usual r.from.0
    → n < 245 → r.limit ≤ RETRIES → unserved r.service ≡ false → unfit ts r n ≡ 0
unfolding unfit
fit ts r n l d u v h b s =
    pick-false _ _ (said-false refl (addressed ts r.destination.0 r.service l d))
    ∙ (pick-false _ _ (said-false refl (pointed r.to.0 r.from.0 r.service u v))
    ∙ (pick-false _ _ (said-false refl s)
    ∙ (pick-false _ _ (said-false refl (short r.to.0 r.from.0 n h))
    ∙ pick-false _ _ (said-false refl (bounded r.limit b)))))
