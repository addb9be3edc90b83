-- The refusal by the number of a row's records is that by the number of the octets that they stand for. Assumes nothing.
use Prim.Native.Nat.{ℕ, ◌*◌}
use mathlib.Core.Bool.{Bool, true, false}
use mathlib.Core.Path.{◌≡◌, refl, sym, ap, ◌∙◌}
use mathlib.Core.List.{List}
use native.Mathlib.Omega.{arith}
use lib.ListN.{length}
use Rattle.choice.specs.Choice.{pick, less, same}
use Rattle.choice.proofs.Rules.{same_true, same_false, true_same, false_same}
use Rattle.request.specs.declared.Record.{Record}
use Rattle.request.specs.Record.{SIZE}
use Rattle.queue.specs.declared.Queue.{Queue}
use Rattle.queue.specs.Queue.{AREA, misfit, unlike}
use Rattle.records.specs.Records.{row_of}
use Rattle.records.proofs.Laws.{length-row}
use Rattle.state.specs.declared.State.{State}
use Rattle.station_queues.specs.Decided.{refusal_of}

same-scaled : (m n : ℕ) → same (SIZE * m) (SIZE * n) ≡ same m (1 * n)
same-scaled m n = by _ refl
  where
    by : (b : Bool) → same m (1 * n) ≡ b → same (SIZE * m) (SIZE * n) ≡ same m (1 * n)
    by true e = same_true (omega (arith, true_same _ _ e)) ∙ sym e
    by false e = same_false (λ h. false_same _ _ e (omega arith)) ∙ sym e

misfit-octets : (q : Queue) (places octets area : ℕ) → octets ≡ SIZE * places
    → misfit q 1 places area ≡ misfit q SIZE octets area
unfolding misfit unlike
misfit-octets q places octets area l =
    ap
    (λ (b : Bool). pick (same q.places 0) true
    (pick (less 64 q.places) true (pick b (pick (same area (AREA * q.places)) false true) true)))
    (sym (ap (λ (n : ℕ). same n (SIZE * q.places)) l ∙ same-scaled places q.places))

pub by_octets : (q : Queue) (s : State) (row : List Record) (area : List ℕ) {n : ℕ}
    → n
    ≡ refusal_of (misfit q 1 (length row) (length area)) s.core s.masters.0 s.started.0 s.memory.kept
    → n
    ≡ refusal_of (misfit q SIZE (length (row_of row)) (length area)) s.core s.masters.0 s.started.0
    s.memory.kept
by_octets q s row area e =
    e ∙ ap (λ (b : Bool). refusal_of b s.core s.masters.0 s.started.0 s.memory.kept)
    (misfit-octets q _ _ (length area) (length-row row))
