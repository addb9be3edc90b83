-- What a reply must be to count as one, what a repeat is answered with, and which update is shown. Assumes nothing.
use Prim.Native.Nat.{ℕ, ◌<◌}
use mathlib.Core.Bool.{Bool, true, false, true≢false}
use mathlib.Core.Path.{◌≡◌, refl, sym, ap}
use mathlib.Core.List.{List, [], ◌∷◌}
use lib.ListN.{length}
use Rattle.choice.specs.Choice.{pick, said}
use Rattle.choice.proofs.Rules.{true_same, less-true, pick_true, pick-false, said-true, said-false, is_said, both_true}
use Rattle.control.specs.declared.Control.{Control}
use Rattle.control.specs.declared.Control.TheVariants.{Request, Reply}
use Rattle.frame.specs.declared.Fields.TheVariants.{Frame}
use Rattle.frame.specs.declared.Head.{Head}
use Rattle.frame.specs.declared.Part.{Part}
use Rattle.request.specs.declared.Record.{Record}
use Rattle.state.specs.declared.Responder.{Responder}
use Rattle.state.specs.declared.Memory.{Memory}
use Rattle.state.specs.declared.Verdict.{Verdict}
use Rattle.state.specs.declared.Verdict.TheVariants.{Plausible, Vain, Foreign}
use Rattle.frame.specs.Access.{point_of}
use Rattle.state.specs.Request.{swapped, returned, judged_by, judged}
use Rattle.state.specs.Answering.{reserved, repeated, recalled, replies, answered, answer_counted, shown}

-- ---- two lifts behind one station stay two
-- a reply to TS from the request's destination, with its access points swapped, an absent one absent
pub record Returned (ts : ℕ) (r : Record) (h : Head) : Type 0 where
  pub destination : h.destination.0 ≡ ts
  pub source : h.source.0 ≡ r.destination.0
  pub to : point_of h.to ≡ r.from.0
  pub from : point_of h.from ≡ r.to.0

returned-is : (ts : ℕ) (r : Record) (h : Head) → returned ts r h ≡ true → Returned ts r h
unfolding returned swapped
returned-is ts r h e =
    let a = both_true _ _ e in
    let b = both_true _ _ a.1 in
    let d = both_true _ _ b.1 in
    let f = both_true _ _ d.1 in
    record {
      destination = true_same _ _ a.0;
      source = true_same _ _ b.0;
      to = true_same _ _ d.0;
      from = true_same _ _ f.0;
    }

unfoldable plausible : Verdict → Bool
plausible (Plausible n) = true
plausible Vain = false
plausible Foreign = false

won : (b : Bool) (v : Verdict) (s : ℕ) → pick b v Vain ≡ Plausible s → b ≡ true
unfolding pick plausible
won true v s e = refl
won false v s e = absurd (true≢false (ap plausible (sym e)))

apart : (ts : ℕ) (r : Record) (h : Head) (n s : ℕ) (k : Control) → judged_by ts r h n k ≡ Plausible s → Returned ts r h
unfolding judged_by plausible
apart ts r h n s (Request x b v) e = absurd (true≢false (ap plausible (sym e)))
apart ts r h n s (Reply x k) e = returned-is ts r h (is_said (won _ _ s e))

-- a frame that is taken as the reply is from the lift that was asked
pub lifts-apart : (ts : ℕ) (r : Record) (h : Head) (n s : ℕ) → judged ts r (Frame h) n ≡ Plausible s → Returned ts r h
unfolding judged
lifts-apart ts r h n s e = apart ts r h n s h.control e

-- ---- "repeats the remembered reply's octets, with no indication"
module _ (r : Responder) (points : List ℕ) (m : Memory) (is_sda fcb fcv room : Bool) (high low : List ℕ) (h : Head)
    (p : Part) where
  pub repeat-silent : reserved h.to ≡ false → repeated m.kept h.source.0 fcb fcv ≡ true
      → answer_counted r points m is_sda fcb fcv room high low h p ≡ answered m (replies r (recalled m) ∷ [])
  unfolding answer_counted
  repeat-silent f e =
      rw (
        pick-false {b = said (reserved h.to)} _ _ (said-false refl f),
        pick_true {b = said (repeated m.kept h.source.0 fcb fcv)} _ _ (said-true refl e),
      )

-- ---- "high first"
pub high-shown : (high low : List ℕ) → 0 < length high → shown high low ≡ high
unfolding shown
high-shown high low h = pick_true _ _ (less-true h)
