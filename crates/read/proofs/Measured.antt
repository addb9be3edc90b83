-- What an SD2 whose length octets are not refused tells: LE is within its bounds. Assumes nothing.
use Prim.Native.Nat.{ℕ, ◌≤◌}
use mathlib.Core.Bool.{Bool, true, false, true≢false}
use mathlib.Core.Path.{◌≡◌, refl}
use Rattle.choice.specs.Choice.{pick, less}
use Rattle.choice.proofs.Rules.{false-less}
use Rattle.frame.specs.Reading.{mismeasured}

-- LE of an SD2 that is not refused
measured : (le : ℕ) (t u r : Bool) → less le 4 ≡ t → less 249 le ≡ u → pick t true (pick u true r) ≡ false
    → (4 ≤ le) × (le ≤ 249)
unfolding pick
measured le true u r p q e = absurd (true≢false e)
measured le false true r p q e = absurd (true≢false e)
measured le false false r p q e = (false-less le 4 p, false-less 249 le q)

pub mismeasured-within : (le repeat fourth : ℕ) → mismeasured le repeat fourth ≡ false → (4 ≤ le) × (le ≤ 249)
unfolding mismeasured
mismeasured-within le repeat fourth e = measured le (less le 4) (less 249 le) _ refl refl e

pub ruleset measures = (mismeasured-within)
