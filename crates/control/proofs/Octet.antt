-- FC: a control and its octet determine each other. Assumes nothing.
use Prim.Native.Nat.{ℕ, ◌+◌, ◌*◌, ◌/◌, ◌%◌, ◌<◌, ◌≤◌}
use mathlib.Core.Bool.{Bool, true, false}
use mathlib.Core.Path.{◌≡◌, refl, ◌∙◌}
use native.Mathlib.Omega.{arith}
use Rattle.choice.specs.Choice.{pick, same}
use Rattle.choice.proofs.Rules.{same_true, same_false, true_same, pick_true, pick-false}
use Rattle.control.specs.declared.Service.{Service}
use Rattle.control.specs.declared.Service.TheVariants.{SdaLow, SdnLow, SdaHigh, SdnHigh, Status, SrdLow}
use Rattle.control.specs.declared.Service.TheVariants.{SrdHigh, Ident, Lsap}
use Rattle.control.specs.declared.Code.{Code}
use Rattle.control.specs.declared.Code.TheVariants.{Ok, Ue, Rr, Rs, Dl, Nr, Dh, Rdl, Rdh}
use Rattle.control.specs.declared.Kind.{Kind}
use Rattle.control.specs.declared.Kind.TheVariants.{Slave, NotReady, Ready, InRing}
use Rattle.control.specs.declared.Control.{Control}
use Rattle.control.specs.declared.Control.TheVariants.{Request, Reply}
use Rattle.control.specs.Control.{service_number, service_of, code_number, code_of, type_number, type_of, bit, fc}
use Rattle.control.specs.Control.{control_of, lawful, listed}

-- ---- each part of FC is that of its number
service-numbered : (s : Service) → (service_of (service_number s) ≡ s) × (service_number s < 16)
unfolding service_of pick same
service-numbered SdaLow = (refl, omega arith)
service-numbered SdnLow = (refl, omega arith)
service-numbered SdaHigh = (refl, omega arith)
service-numbered SdnHigh = (refl, omega arith)
service-numbered Status = (refl, omega arith)
service-numbered SrdLow = (refl, omega arith)
service-numbered SrdHigh = (refl, omega arith)
service-numbered Ident = (refl, omega arith)
service-numbered Lsap = (refl, omega arith)

pub code-numbered : (c : Code) → (code_of (code_number c) ≡ c) × (code_number c < 16)
unfolding code_of pick same
code-numbered Ok = (refl, omega arith)
code-numbered Ue = (refl, omega arith)
code-numbered Rr = (refl, omega arith)
code-numbered Rs = (refl, omega arith)
code-numbered Dl = (refl, omega arith)
code-numbered Nr = (refl, omega arith)
code-numbered Dh = (refl, omega arith)
code-numbered Rdl = (refl, omega arith)
code-numbered Rdh = (refl, omega arith)

pub type-numbered : (k : Kind) → (type_of (type_number k) ≡ k) × (type_number k < 4)
unfolding type_of pick same
type-numbered Slave = (refl, omega arith)
type-numbered NotReady = (refl, omega arith)
type-numbered Ready = (refl, omega arith)
type-numbered InRing = (refl, omega arith)

bit-same : (b : Bool) → same (bit b) 1 ≡ b
unfolding bit pick same
bit-same true = refl
bit-same false = refl

pub bit-most : (b : Bool) → bit b ≤ 1
unfolding bit pick
bit-most true = omega arith
bit-most false = omega arith

-- ---- the control of an octet and the octet of a control
-- the digits of a request's octet and of a reply's
request-digits : (b v n : ℕ) → b ≤ 1 → v ≤ 1 → n < 16
    → ((64 + 32 * b + 16 * v + n) / 64 % 2 ≡ 1)
    × ((64 + 32 * b + 16 * v + n) % 16 ≡ n)
    × ((64 + 32 * b + 16 * v + n) / 32 % 2 ≡ b)
    × ((64 + 32 * b + 16 * v + n) / 16 % 2 ≡ v)
request-digits b v n hb hv hn = omega arith

reply-digits : (k c : ℕ) → k < 4 → c < 16
    → ((16 * k + c) / 64 % 2 ≡ 0) × ((16 * k + c) % 16 ≡ c) × ((16 * k + c) / 16 % 4 ≡ k)
reply-digits k c hk hc = omega arith

pub control-again : (c : Control) → control_of (fc c) ≡ c
unfolding fc control_of
control-again (Request s b v) =
    let h = service-numbered s in
    let d = request-digits (bit b) (bit v) (service_number s) (bit-most b) (bit-most v) h.1 in
    pick_true _ _ (same_true d.0) ∙ rw (d.1, d.2, d.3, h.0, bit-same b, bit-same v)
control-again (Reply k c) =
    let h = type-numbered k in
    let g = code-numbered c in
    let d = reply-digits (type_number k) (code_number c) h.1 g.1 in
    pick-false _ _ (same_false (omega arith)) ∙ rw (d.1, d.2, h.0, g.0)

-- ---- which octets are listed
-- that of a lawful control
pub listed-fc : (c : Control) → listed (fc c) ≡ lawful c
unfolding listed
listed-fc c = rw (control-again c) (pick_true _ _ (same_true refl))

-- and each is that of the control that it is read as
first : (b d : Bool) → pick b d false ≡ true → b ≡ true
unfolding pick
first true d e = refl
first false d e = e

pub listed-again : (n : ℕ) → listed n ≡ true → fc (control_of n) ≡ n
unfolding listed
listed-again n h = true_same _ _ (first _ _ h)
