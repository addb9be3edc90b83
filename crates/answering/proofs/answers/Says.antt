-- What is said of each kind of answer's events: nothing, a reply, a reply with an indication, an indication alone.
-- Assumes nothing.
use Prim.Native.Nat.{ℕ}
use mathlib.Core.Bool.{Bool, true, false}
use mathlib.Core.Path.{◌≡◌, refl, sym, ◌∙◌}
use mathlib.Core.List.{List, [], ◌∷◌}
use native.Mathlib.Omega.{arith}
use Rattle.choice.specs.Choice.{pick}
use Rattle.choice.proofs.Rules.{less-false, false-less, false_same, pick-itself}
use Rattle.std.specs.Prelude.{Option, None, Some}
use Rattle.std.specs.Bool.{then_some}
use Rattle.frame.specs.declared.Point.{Point}
use Rattle.frame.specs.declared.Head.{Head}
use Rattle.frame.specs.declared.Part.{Part}
use Rattle.frame.specs.Format.{outside}
use Rattle.laid.specs.Laid.{Lays}
use Rattle.laid.proofs.Laws.{laid_nil}
use Rattle.state.specs.declared.Kept.{Kept}
use Rattle.state.specs.declared.Spoken.{Spoken}
use Rattle.state.specs.declared.Responder.{Responder}
use Rattle.state.specs.declared.Indication.{Indication}
use Rattle.state.specs.declared.Memory.{Memory}
use Rattle.state.specs.Answering.{Readable, Answerable, Answered, answered, reserved, replies, shows}
use Rattle.state.specs.Told.{Says, telling, untold, adds}

-- ---- a request that was read and is not to access point 63 is answerable
below : (a : Option Point) → outside a 63 ≡ false → reserved a ≡ false → outside a 62 ≡ false
unfolding outside reserved
below None e f = refl
below (Some p) e f =
    pick-itself _ ∙ less-false (omega (arith, false-less _ _ (sym (pick-itself _) ∙ e), false_same _ _ f))

pub answerable : {h : Head} → Readable h → reserved h.to ≡ false → Answerable h
answerable {h} r f = record { source = r.source; to = below h.to r.to f; from = r.from }

-- ---- what is said
abbrev pub quiet : Kept → Option Indication → Spoken
quiet k i = record { kept = k; length = 0; wait = record { 0 = 0 }; indication = i }

pub says_nothing : (k : Kept) (out : List ℕ) → Says k [] out (quiet k None) out
unfolding telling untold
says_nothing k out =
    record {
      kept = refl;
      wait = refl;
      indication = refl;
      laid = record { place = refl; left = sym (laid_nil out 0); near = omega arith };
    }

told-shows : (i : Bool) (h : Head) (p : Part)
    → then_some i (record { head = h; part = p }) ≡ (telling (shows i h p)).indication
unfolding telling untold adds shows pick
told-shows true h p = refl
told-shows false h p = refl

says-shows : (k : Kept) (i : Bool) (h : Head) (p : Part) (out : List ℕ)
    → Says k (shows i h p) out (quiet k (telling (shows i h p)).indication) out
unfolding telling untold adds shows pick
says-shows k true h p out =
    record {
      kept = refl;
      wait = refl;
      indication = refl;
      laid = record { place = refl; left = sym (laid_nil out 0); near = omega arith };
    }
says-shows k false h p out =
    record {
      kept = refl;
      wait = refl;
      indication = refl;
      laid = record { place = refl; left = sym (laid_nil out 0); near = omega arith };
    }

module _ (r : Responder) {k : Kept} {o out out' : List ℕ} {n : ℕ} where
  pub says-reply : Lays out 0 o 255 n out'
      → Says k (replies r o ∷ []) out (record { kept = k; length = n; wait = r.wait; indication = None }) out'
  unfolding telling untold adds replies
  says-reply l = record { kept = refl; wait = refl; indication = refl; laid = l }

  pub says-new : {q : Kept} {s : Option Indication} (i : Bool) (h : Head) (p : Part) → q ≡ k
      → s ≡ then_some i (record { head = h; part = p }) → Lays out 0 o 255 n out'
      → Says k (replies r o ∷ shows i h p) out (record { kept = q; length = n; wait = r.wait; indication = s }) out'
  unfolding telling untold adds replies
  says-new i h p f d l = record { kept = f; wait = refl; indication = d ∙ told-shows i h p; laid = l }

-- ---- where nothing is replied
pub says_none : (m : Memory) (a : Answered) {out : List ℕ} {s : Spoken} → a ≡ answered m [] → s ≡ quiet m.kept None
    → Says a.memory.kept a.events out s out
unfolding answered
says_none m a {out} e q = rw (e, q) (says_nothing m.kept out)

pub says_shown : (m : Memory) (a : Answered) {out : List ℕ} {s : Spoken} (i : Bool) (h : Head) (p : Part)
    → a ≡ answered m (shows i h p) → s ≡ quiet m.kept (telling (shows i h p)).indication
    → Says a.memory.kept a.events out s out
unfolding answered
says_shown m a {out} i h p e q = rw (e, q) (says-shows m.kept i h p out)
