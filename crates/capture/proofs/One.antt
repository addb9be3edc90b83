-- One result: any two counts that meet the lister's promise, with what they leave in the output, are equal. Assumes
-- nothing.
use Prim.Native.Nat.{ℕ}
use mathlib.Core.Path.{◌≡◌, sym, ◌∙◌}
use mathlib.Core.List.{List}
use Rattle.capture.specs.Listing.{listed, left}

pub one-listed : (s out : List ℕ) {a b : ℕ} {o o' : List ℕ} → a ≡ listed s out → o ≡ left s out → b ≡ listed s out
    → o' ≡ left s out → (a ≡ b) × (o ≡ o')
one-listed s out e i g j = (e ∙ sym g, i ∙ sym j)
