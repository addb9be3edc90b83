-- The tests by halves are the definition `listed`: one test that is computed for all 256 octets. Assumes nothing.
use Prim.Native.Nat.{ℕ, zero, suc, ◌<◌}
use mathlib.Core.Bool.{Bool, true, false}
use mathlib.Core.Path.{◌≡◌, refl, subst, sym}
use mathlib.Core.Logic.{⊎_elim}
use native.Mathlib.Nat.{not-suc-le-zero, le_of_suc-le-suc, eq-or-lt_of_le}
use lib.Dec.{T}
use Rattle.choice.specs.Choice.{pick, less, same, said}
use Rattle.control.specs.Control.{service_of, code_of, type_of, bit, fc, control_of, lawful, listed}
use Rattle.control.specs.Halves.{replied, requested, numbered, by_halves}

-- two truth values are one
abbrev alike : Bool → Bool → Bool
alike true b = b
alike false true = false
alike false false = true

alike_same : (a b : Bool) → T (alike a b) → a ≡ b
alike_same true true t = refl
alike_same true false t = absurd t
alike_same false true t = absurd t
alike_same false false t = refl

abbrev and : Bool → Bool → Bool
and true b = b
and false b = false

and_left : (a b : Bool) → T (and a b) → T a
and_left true b t = tt
and_left false b t = t

and_right : (a b : Bool) → T (and a b) → T b
and_right true b t = t
and_right false b t = absurd t

-- a test passes at each number below k
abbrev below : (ℕ → Bool) → ℕ → Bool
below f zero = true
below f (suc k) = and (f k) (below f k)

within : (f : ℕ → Bool) (k : ℕ) → T (below f k) → (n : ℕ) → n < k → T (f n)
within f zero t n h = absurd (not-suc-le-zero h)
within f (suc k) t n h =
    ⊎_elim (λ (e : n ≡ k). subst (λ (m : ℕ). T (f m)) (sym e) (and_left (f k) (below f k) t))
    (λ (l : n < k). within f k (and_right (f k) (below f k) t) n l) (eq-or-lt_of_le (le_of_suc-le-suc h))

right : ℕ → Bool
right n = alike (listed n) (by_halves n)

computed : T (below right 256)
unfolding right by_halves listed fc control_of service_of code_of type_of bit lawful replied requested numbered pick same
    less said
computed = tt

pub halves : (n : ℕ) → n < 256 → listed n ≡ by_halves n
unfolding right
halves n h = alike_same _ _ (within right 256 computed n h)
