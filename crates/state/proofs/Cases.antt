-- A fact of a choice is shown of both sides, each with what the test said; and numbers that are not 0. Assumes nothing.
use Prim.Native.Nat.{ℕ, ◌<◌}
use mathlib.Core.Bool.{Bool, true, false}
use mathlib.Core.Path.{◌≡◌, refl}
use native.Mathlib.Omega.{arith}
use Rattle.choice.specs.Choice.{pick}

pub by : {A : Type 0} (P : A → Type 0) (b : Bool) (x y : A) → (b ≡ true → P x) → (b ≡ false → P y) → P (pick b x y)
unfolding pick
by P true x y f g = f refl
by P false x y f g = g refl

-- nothing is asked
pub data Any : Type 0 where
  any : Any

pub positive : (n : ℕ) → (n ≡ 0 → ⊥) → 0 < n
positive n h = omega (arith, h)
