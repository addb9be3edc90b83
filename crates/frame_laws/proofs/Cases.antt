-- A `pick` whose outcome is known tells its test: the other branch has another outcome. Assumes nothing.
use mathlib.Core.Bool.{Bool, true, false}
use mathlib.Core.Path.{◌≡◌, refl}
use Prim.Native.Nat.{ℕ}
use native.Mathlib.Omega.{arith}
use Rattle.choice.specs.Choice.{pick}
use Rattle.frame.specs.declared.Fields.{Fields}
use Rattle.frame.specs.declared.Part.{Part}
use Rattle.frame.specs.Reading.{Refused, Read}

-- the second has another outcome, or the first
pub taken : {A : Type 0} (b : Bool) (x y : A) {z : A} → (y ≡ z → ⊥) → pick b x y ≡ z → (b ≡ true) × (x ≡ z)
unfolding pick
taken true x y n e = (refl, e)
taken false x y n e = absurd (n e)

pub left : {A : Type 0} (b : Bool) (x y : A) {z : A} → (x ≡ z → ⊥) → pick b x y ≡ z → (b ≡ false) × (y ≡ z)
unfolding pick
left true x y n e = absurd (n e)
left false x y n e = (refl, e)

-- from the outcome, either branch with its test; and to it
pub either_way : {A C : Type 0} (b : Bool) (x y : A) {z : A} → pick b x y ≡ z
    → (b ≡ true → x ≡ z → C) → (b ≡ false → y ≡ z → C) → C
unfolding pick
either_way true x y e f g = f refl e
either_way false x y e f g = g refl e

pub both_ways : {A : Type 0} (b : Bool) {x y z : A} → (b ≡ true → x ≡ z) → (b ≡ false → y ≡ z)
    → pick b x y ≡ z
unfolding pick
both_ways true f g = f refl
both_ways false f g = g refl

-- outcomes that differ
pub true-is-false : true ≡ false → ⊥
true-is-false e = let z : ◌≡◌ {A = ℕ} 0 1 = cc in omega arith

pub false-is-true : false ≡ true → ⊥
false-is-true e = let z : ◌≡◌ {A = ℕ} 0 1 = cc in omega arith

pub refused-is-read : {n : ℕ} {f : Fields} {p : Part} → Refused n ≡ Read f p → ⊥
refused-is-read e = let z : ◌≡◌ {A = ℕ} 0 1 = cc in omega arith
