-- Where times are reckoned, the settings' sums are small. Assumes nothing.
use Prim.Native.Nat.{ℕ}
use mathlib.Core.Bool.{Bool, true, false}
use mathlib.Core.Path.{◌≡◌, refl}
use Rattle.choice.specs.Choice.{pick, said}
use Rattle.choice.proofs.Rules.{is_said}
use Rattle.times.specs.declared.Settings.{Settings}
use Rattle.times.specs.declared.Times.{Times}
use Rattle.times.specs.Times.{Reckoned}
use Rattle.times.specs.Times.{Refused, Reckon}
use Rattle.times.specs.Times.{Small, unruly, reckoned}
use Rattle.times.proofs.Rules.{ruly-small}

-- times were reckoned, so nothing refused the settings
unrefused : (b : Bool) (z : Reckoned) (t : Times) → Reckon t ≡ pick b (Refused 20) z → b ≡ false
unfolding pick
unrefused true z t e = cc
unrefused false z t e = refl

pub reckon-small : (s : Settings) (ts : ℕ) (t : Times) → Reckon t ≡ reckoned s ts → Small s
unfolding reckoned
reckon-small s ts t e = ruly-small s (is_said (unrefused (said (unruly s)) _ t e))

pub ruleset reckoned_small = (reckon-small)
