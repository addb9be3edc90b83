-- The test of SDN by its octets, 68 and 70, and the table of services say the same. Assumes nothing.
use Prim.Native.Nat.{ℕ, ◌+◌, ◌*◌, ◌<◌}
use mathlib.Core.Bool.{Bool, true, false}
use mathlib.Core.Path.{◌≡◌, refl, ◌∙◌}
use native.Mathlib.Omega.{arith}
use Rattle.choice.specs.Choice.{pick, same, said}
use Rattle.choice.proofs.Rules.{same_false, pick-false, by-pick}
use Rattle.control.specs.declared.Service.{Service}
use Rattle.control.specs.declared.Service.TheVariants.{SdaLow, SdnLow, SdaHigh, SdnHigh, Status, SrdLow}
use Rattle.control.specs.declared.Service.TheVariants.{SrdHigh, Ident, Lsap}
use Rattle.control.specs.declared.Control.{Control}
use Rattle.control.specs.declared.Control.TheVariants.{Request, Reply}
use Rattle.control.specs.Control.{service_number, code_number, type_number, bit, fc, lawful, sdn}
use Rattle.control.proofs.Octet.{code-numbered, type-numbered, bit-most}

-- a request of SDN, low or high
unfoldable pub unanswered : Control → Bool
unanswered (Request SdaLow b v) = false
unanswered (Request SdnLow b v) = true
unanswered (Request SdaHigh b v) = false
unanswered (Request SdnHigh b v) = true
unanswered (Request Status b v) = false
unanswered (Request SrdLow b v) = false
unanswered (Request SrdHigh b v) = false
unanswered (Request Ident b v) = false
unanswered (Request Lsap b v) = false
unanswered (Reply k c) = false

other : (n : ℕ) → (n ≡ 68 → ⊥) → (n ≡ 70 → ⊥) → sdn n ≡ false
unfolding sdn
other n a b = pick-false _ _ (same_false a) ∙ pick-false _ _ (same_false b)

others : (c : Control) → unanswered c ≡ false → sdn (fc c) ≡ false
    → sdn (fc c) ≡ pick (lawful c) (unanswered c) false
others c e f = rw e (by-pick (λ (y : Bool). sdn (fc c) ≡ y) (lawful c) f f)

by-service : (s : Service) (b v : Bool) → unanswered (Request s b v) ≡ false
    → service_number s < 16 → (service_number s ≡ 4 → ⊥) → (service_number s ≡ 6 → ⊥)
    → sdn (fc (Request s b v)) ≡ pick (lawful (Request s b v)) (unanswered (Request s b v)) false
unfolding fc
by-service s b v e h p q =
    others (Request s b v) e
    (other _ (λ e. p (omega (arith, bit-most b, bit-most v))) (λ e. q (omega (arith, bit-most b, bit-most v))))

-- the octet of a control is an SDN's exactly if it is a lawful control, "FCB and FCV are 0", of SDN
pub sdn-fc : (c : Control) → sdn (fc c) ≡ pick (lawful c) (unanswered c) false
unfolding sdn fc lawful unanswered bit pick same said
sdn-fc (Request SdnLow true true) = refl
sdn-fc (Request SdnLow true false) = refl
sdn-fc (Request SdnLow false true) = refl
sdn-fc (Request SdnLow false false) = refl
sdn-fc (Request SdnHigh true true) = refl
sdn-fc (Request SdnHigh true false) = refl
sdn-fc (Request SdnHigh false true) = refl
sdn-fc (Request SdnHigh false false) = refl
sdn-fc (Request SdaLow b v) = by-service SdaLow b v refl (omega arith) (λ e. omega arith) (λ e. omega arith)
sdn-fc (Request SdaHigh b v) = by-service SdaHigh b v refl (omega arith) (λ e. omega arith) (λ e. omega arith)
sdn-fc (Request Status b v) = by-service Status b v refl (omega arith) (λ e. omega arith) (λ e. omega arith)
sdn-fc (Request SrdLow b v) = by-service SrdLow b v refl (omega arith) (λ e. omega arith) (λ e. omega arith)
sdn-fc (Request SrdHigh b v) = by-service SrdHigh b v refl (omega arith) (λ e. omega arith) (λ e. omega arith)
sdn-fc (Request Ident b v) = by-service Ident b v refl (omega arith) (λ e. omega arith) (λ e. omega arith)
sdn-fc (Request Lsap b v) = by-service Lsap b v refl (omega arith) (λ e. omega arith) (λ e. omega arith)
sdn-fc (Reply k c) =
    others (Reply k c) refl
    (other (16 * type_number k + code_number c) (λ e. omega (arith, (type-numbered k).1, (code-numbered c).1))
    (λ e. omega (arith, (type-numbered k).1, (code-numbered c).1)))
