-- One result: any two answers that meet the promise of submit or collect over a slice of records, with what they leave
-- in the row and the data area, are equal; so are any two `Result`s that meet the functions' contracts. Assumes nothing.
use Prim.Native.Nat.{ℕ}
use mathlib.Core.Path.{◌≡◌, sym, ap, ◌∙◌}
use mathlib.Core.List.{List}
use Rattle.std.specs.Prelude.{Result}
use Rattle.refusal.specs.declared.Refusal.{Refusal}
use Rattle.request.specs.declared.Record.{Record}
use Rattle.rows.specs.Rows.{Left, left}
use Rattle.records.specs.Records.{row_of}
use Rattle.records.proofs.Laws.{octets-tell}
use Rattle.state.specs.declared.Priority.{Priority}
use Rattle.state.specs.declared.State.{State}
use Rattle.state.specs.declared.Accepted.{Accepted as GivenAccepted}
use Rattle.state.specs.declared.HandedBack.{HandedBack as GivenHandedBack}
use Rattle.state.specs.Told.{Accepted, accepted_by}
use Rattle.state.specs.Told.{HandedBack, handed_back_by}
use Rattle.state.specs.World.{rows}
use Rattle.state.specs.Calls.{submit, collect}
use Rattle.state.specs.Told.{lent, submitted_of, handed_back_of}
use Rattle.state.proofs.Results.{accepted-same, handed-same}

module _ (s : State) (p : Priority) (row : List Record) (area : List ℕ) where
  pub one-submit : (r : Record) (x : List ℕ) {a b : Accepted} {u v : List Record} {m n : List ℕ}
      → left a (row_of u) m ≡ submitted_of p (submit p r x (lent p s (rows (row_of row) area)))
      → left b (row_of v) n ≡ submitted_of p (submit p r x (lent p s (rows (row_of row) area)))
      → (a ≡ b) × (u ≡ v) × (m ≡ n)
  one-submit r x {u = u} {v = v} e f =
      let g = e ∙ sym f in (
        ap (λ (y : Left Accepted). y.answer) g,
        octets-tell u v (ap (λ (y : Left Accepted). y.row) g),
        ap (λ (y : Left Accepted). y.area) g,
      )

  pub one-collect : {a b : HandedBack} → a ≡ handed_back_of (collect p (lent p s (rows (row_of row) area)))
      → b ≡ handed_back_of (collect p (lent p s (rows (row_of row) area))) → a ≡ b
  one-collect e f = e ∙ sym f

  -- ---- the same of the `Result`s that the code answers
  pub one-submit-result : (r : Record) (x : List ℕ) {a b : Result GivenAccepted Refusal} {u v : List Record}
      {m n : List ℕ}
      → left (accepted_by s a) (row_of u) m ≡ submitted_of p (submit p r x (lent p s (rows (row_of row) area)))
      → left (accepted_by s b) (row_of v) n ≡ submitted_of p (submit p r x (lent p s (rows (row_of row) area)))
      → (a ≡ b) × (u ≡ v) × (m ≡ n)
  one-submit-result r x {a = a} {b = b} e f =
      let w = one-submit r x e f in
      (accepted-same s a b w.0, w.1, w.2)

  pub one-collect-result : {a b : Result GivenHandedBack Refusal}
      → handed_back_by s a ≡ handed_back_of (collect p (lent p s (rows (row_of row) area)))
      → handed_back_by s b ≡ handed_back_of (collect p (lent p s (rows (row_of row) area))) → a ≡ b
  one-collect-result {a = a} {b = b} e f = handed-same s a b (one-collect e f)
