-- The writer never refuses a reply. Assumes nothing.
use Prim.Native.Nat.{ℕ, ◌≤◌}
use mathlib.Core.Bool.{false}
use mathlib.Core.Path.{◌≡◌, refl, sym, ◌∙◌}
use mathlib.Core.List.{List}
use native.Mathlib.Omega.{arith}
use lib.ListN.{length}
use Rattle.choice.proofs.Rules.{less-false, same_false, false-less, pick-false, pick-itself}
use Rattle.control.specs.declared.Code.{Code}
use Rattle.control.specs.Control.{fc, lawful}
use Rattle.std.specs.Prelude.{Option, None, Some}
use Rattle.frame.specs.declared.Point.{Point}
use Rattle.frame.specs.declared.Head.{Head}
use Rattle.frame.specs.declared.Fields.{Fields}
use Rattle.frame.specs.declared.Fields.TheVariants.{Frame}
use Rattle.frame.specs.Format.{unit, outside, misdirected, octets, written, left, wrote}
use Rattle.frame.proofs.Lengths.{length-extension, length-unit}
use Rattle.laid.specs.Laid.{Lays}
use Rattle.refusal.specs.declared.Refusal.{Refusal}
use Rattle.std.specs.Prelude.{Result, Ok, Err}
use Rattle.std.specs.Result.{result_unwrap_or}
use Rattle.write.proofs.Laying.{Laying, Passed, laying-frame, never, lays}
use Rattle.state.specs.declared.Responder.{Responder}
use Rattle.state.specs.Answering.{UPDATE, Answerable, reply_head}

-- an access point is inside 63 if inside 62
wider : (a : Option Point) → outside a 62 ≡ false → outside a 63 ≡ false
unfolding outside
wider None e = refl
wider (Some p) e = pick-itself _ ∙ less-false (omega (arith, false-less _ _ (sym (pick-itself _) ∙ e)))

module _ (r : Responder) (h : Head) (k : Code) (x : List ℕ) (a : Answerable h) (n : length x ≤ UPDATE) where
  units : length (unit (reply_head r h k) x) ≤ 246
  unfolding reply_head
  units = rw (length-unit (reply_head r h k) x) (omega (arith, length-extension h.from, length-extension h.to))

  directed : misdirected h.source.0 (fc (reply_head r h k).control) ≡ false
  unfolding misdirected
  directed = pick-false _ _ (same_false (λ q. omega (arith, a.source)))

  reply-passed : r.ts.0 ≤ 126 → Passed (reply_head r h k) (length (unit (reply_head r h k) x))
  unfolding reply_head lawful
  reply-passed t =
      record {
        source = t;
        destination = omega (arith, a.source);
        control = refl;
        to = wider h.from a.from;
        from = a.to;
        directed = directed;
        units = units;
      }

  pub laying-reply : (o : List ℕ) → r.ts.0 ≤ 126 → 255 ≤ length o → Laying (Frame (reply_head r h k)) x o
  laying-reply o t l = laying-frame (reply_head r h k) x o (reply-passed t) l

-- the count of a frame that the writer does not refuse
pub counted : {f : Fields} {x o m : List ℕ} → Laying f x o → (r : Result ℕ Refusal) → wrote r ≡ written f x o
    → m ≡ left f x o → Lays o 0 (octets f x) 255 (result_unwrap_or r 0) m
unfolding wrote
counted w (Ok n) e l = lays w e l
counted w (Err n) e l = never w e
