-- What the code's calls answer is told apart by the answer as the definitions have it: a refusal by its number. So any
-- two `Result`s that meet a function's contract, with all that it leaves in what was lent, are equal. Assumes nothing.
use Rattle.std.specs.Prelude.{ℕ, Bool, List, [], length, Result, Ok, Err}
use mathlib.Core.Path.{◌≡◌, sym, ap, ◌∙◌}
use native.Mathlib.Omega.{arith}
use Rattle.refusal.specs.declared.Refusal.{Refusal}
use Rattle.refusal.proofs.Numbers.{above_zero, number-same}
use Rattle.request.specs.declared.Record.{Record}
use Rattle.rows.specs.Rows.{Left, left}
use Rattle.times.specs.declared.Settings.{Settings}
use Rattle.state.specs.declared.Priority.{Priority}
use Rattle.state.specs.declared.State.{State}
use Rattle.state.specs.declared.Core.{Core}
use Rattle.state.specs.declared.Kept.{Kept}
use Rattle.state.specs.declared.Heard.{Heard as GivenHeard}
use Rattle.state.specs.declared.Accepted.{Accepted as GivenAccepted}
use Rattle.state.specs.declared.Answer.{Answer as GivenAnswer}
use Rattle.state.specs.declared.HandedBack.{HandedBack as GivenHandedBack}
use Rattle.state.specs.World.{Rows, Called, world_of}
use Rattle.state.specs.Told.{Heard, Answer, Accepted, Renewed, HandedBack, heard_by, answered_by, accepted_by}
use Rattle.state.specs.Told.{renewed_by, handed_back_by, Leaves, leaves, told, reset_of, started_of, lent, blank}
use Rattle.state.specs.Told.{submitted_of, handed_back_of}
use Rattle.state.specs.Calls as Calls

-- ---- each reading of a `Result` is one-to-one
pub heard-same : (c : Core) (k : Kept) (a b : Result GivenHeard Refusal) → heard_by c k a ≡ heard_by c k b → a ≡ b
unfolding heard_by
heard-same c k (Ok a) (Ok b) e =
    ap (λ (h : Heard).
    Ok (record { core = h.core; kept = h.kept; length = h.length; wait = h.wait; indication = h.indication })) e
heard-same c k (Err r) (Err q) e = ap (λ (x : Refusal). Err x) (number-same r q (ap (λ (h : Heard). h.refused) e))
heard-same c k (Ok a) (Err q) e = absurd (omega (arith, above_zero q, ap (λ (h : Heard). h.refused) e))
heard-same c k (Err r) (Ok b) e = absurd (omega (arith, above_zero r, ap (λ (h : Heard). h.refused) e))

pub answered-same : (s : State) (a b : Result GivenAnswer Refusal) → answered_by s a ≡ answered_by s b → a ≡ b
unfolding answered_by
answered-same s (Ok a) (Ok b) e =
    ap (λ (h : Answer). Ok (record { state = h.state; length = h.length; wait = h.wait; indication = h.indication })) e
answered-same s (Err r) (Err q) e = ap (λ (x : Refusal). Err x) (number-same r q (ap (λ (h : Answer). h.refused) e))
answered-same s (Ok a) (Err q) e = absurd (omega (arith, above_zero q, ap (λ (h : Answer). h.refused) e))
answered-same s (Err r) (Ok b) e = absurd (omega (arith, above_zero r, ap (λ (h : Answer). h.refused) e))

pub accepted-same : (s : State) (a b : Result GivenAccepted Refusal) → accepted_by s a ≡ accepted_by s b → a ≡ b
unfolding accepted_by
accepted-same s (Ok a) (Ok b) e = ap (λ (h : Accepted). Ok (record { state = h.state; place = h.place })) e
accepted-same s (Err r) (Err q) e = ap (λ (x : Refusal). Err x) (number-same r q (ap (λ (h : Accepted). h.refused) e))
accepted-same s (Ok a) (Err q) e = absurd (omega (arith, above_zero q, ap (λ (h : Accepted). h.refused) e))
accepted-same s (Err r) (Ok b) e = absurd (omega (arith, above_zero r, ap (λ (h : Accepted). h.refused) e))

pub renewed-same : (s : State) (a b : Result State Refusal) → renewed_by s a ≡ renewed_by s b → a ≡ b
unfolding renewed_by
renewed-same s (Ok a) (Ok b) e = ap (λ (h : Renewed). Ok h.state) e
renewed-same s (Err r) (Err q) e = ap (λ (x : Refusal). Err x) (number-same r q (ap (λ (h : Renewed). h.refused) e))
renewed-same s (Ok a) (Err q) e = absurd (omega (arith, above_zero q, ap (λ (h : Renewed). h.refused) e))
renewed-same s (Err r) (Ok b) e = absurd (omega (arith, above_zero r, ap (λ (h : Renewed). h.refused) e))

pub handed-same : (s : State) (a b : Result GivenHandedBack Refusal) → handed_back_by s a ≡ handed_back_by s b → a ≡ b
unfolding handed_back_by
handed-same s (Ok a) (Ok b) e =
    ap (λ (h : HandedBack). Ok (record { state = h.state; place = h.place; entry = h.entry })) e
handed-same s (Err r) (Err q) e = ap (λ (x : Refusal). Err x) (number-same r q (ap (λ (h : HandedBack). h.refused) e))
handed-same s (Ok a) (Err q) e = absurd (omega (arith, above_zero q, ap (λ (h : HandedBack). h.refused) e))
handed-same s (Err r) (Ok b) e = absurd (omega (arith, above_zero r, ap (λ (h : HandedBack). h.refused) e))

-- ---- one result of each call: any two `Result`s that meet its contract, with all that they leave, are equal
pub one-start-result : (t : Settings) (ts : ℕ) (masters points : List ℕ) (high low : ℕ) {a b : Result State Refusal}
    → renewed_by blank a ≡ started_of (Calls.start t ts masters points high low)
    → renewed_by blank b ≡ started_of (Calls.start t ts masters points high low) → a ≡ b
one-start-result t ts masters points high low {a = a} {b = b} e f = renewed-same blank a b (e ∙ sym f)

module _ (s : State) (p : Priority) (own : Rows) where
  pub one-submit-result : (r : Record) (x : List ℕ) {a b : Result GivenAccepted Refusal} {u v m n : List ℕ}
      → left (accepted_by s a) u m ≡ submitted_of p (Calls.submit p r x (lent p s own))
      → left (accepted_by s b) v n ≡ submitted_of p (Calls.submit p r x (lent p s own))
      → (a ≡ b) × (u ≡ v) × (m ≡ n)
  one-submit-result r x {a = a} {b = b} e f =
      let g = e ∙ sym f in (
        accepted-same s a b (ap (λ (y : Left Accepted). y.answer) g),
        ap (λ (y : Left Accepted). y.row) g,
        ap (λ (y : Left Accepted). y.area) g,
      )

  pub one-collect-result : {a b : Result GivenHandedBack Refusal}
      → handed_back_by s a ≡ handed_back_of (Calls.collect p (lent p s own))
      → handed_back_by s b ≡ handed_back_of (Calls.collect p (lent p s own)) → a ≡ b
  one-collect-result {a = a} {b = b} e f = handed-same s a b (e ∙ sym f)

module _ (s : State) (high low : Rows) {h h' l l' : Rows} where
  one-turn : (d : Called) (out : List ℕ) {x x' : List ℕ} {a b : Result GivenAnswer Refusal}
      → leaves (answered_by s a) h l x ≡ told d out → leaves (answered_by s b) h' l' x' ≡ told d out
      → (a ≡ b) × (h ≡ h') × (l ≡ l') × (x ≡ x')
  one-turn d out {a = a} {b = b} e f =
      let g = e ∙ sym f in (
        answered-same s a b (ap (λ (y : Leaves Answer). y.answer) g),
        ap (λ (y : Leaves Answer). y.high) g,
        ap (λ (y : Leaves Answer). y.low) g,
        ap (λ (y : Leaves Answer). y.out) g,
      )

  pub one-frame-result : (clock : ℕ) (room : Bool) (first second octets out : List ℕ)
      {a b : Result GivenAnswer Refusal} {x x' : List ℕ}
      → leaves (answered_by s a) h l x
      ≡ told (Calls.frame clock room first second octets (length out) (world_of s high low)) out
      → leaves (answered_by s b) h' l' x'
      ≡ told (Calls.frame clock room first second octets (length out) (world_of s high low)) out
      → (a ≡ b) × (h ≡ h') × (l ≡ l') × (x ≡ x')
  one-frame-result clock room first second octets out e f = one-turn _ out e f

  pub one-sent-result : (clock : ℕ) (out : List ℕ) {a b : Result GivenAnswer Refusal} {x x' : List ℕ}
      → leaves (answered_by s a) h l x ≡ told (Calls.sent clock (length out) (world_of s high low)) out
      → leaves (answered_by s b) h' l' x' ≡ told (Calls.sent clock (length out) (world_of s high low)) out
      → (a ≡ b) × (h ≡ h') × (l ≡ l') × (x ≡ x')
  one-sent-result clock out e f = one-turn _ out e f

  pub one-slot-result : (clock : ℕ) (out : List ℕ) {a b : Result GivenAnswer Refusal} {x x' : List ℕ}
      → leaves (answered_by s a) h l x ≡ told (Calls.slot clock (length out) (world_of s high low)) out
      → leaves (answered_by s b) h' l' x' ≡ told (Calls.slot clock (length out) (world_of s high low)) out
      → (a ≡ b) × (h ≡ h') × (l ≡ l') × (x ≡ x')
  one-slot-result clock out e f = one-turn _ out e f

  pub one-reset-result : {a b : Result State Refusal}
      → leaves (renewed_by s a) h l [] ≡ reset_of (Calls.reset (world_of s high low))
      → leaves (renewed_by s b) h' l' [] ≡ reset_of (Calls.reset (world_of s high low))
      → (a ≡ b) × (h ≡ h') × (l ≡ l')
  one-reset-result {a = a} {b = b} e f =
      let g = e ∙ sym f in (
        renewed-same s a b (ap (λ (y : Leaves Renewed). y.answer) g),
        ap (λ (y : Leaves Renewed). y.high) g,
        ap (λ (y : Leaves Renewed). y.low) g,
      )
