-- The search one address at a time: with none untried it ends, with some it looks at the next. Assumes nothing.
use Prim.Native.Nat.{ℕ, zero, suc, ◌-◌, ◌<◌}
use mathlib.Core.List.{List}
use mathlib.Core.Path.{◌≡◌, refl, ap}
use native.Mathlib.Omega.{arith}
use lib.Seq.{set_out}
use Rattle.choice.specs.Choice.{pick}
use Rattle.ring.specs.Ring.{member, on, seek}

pub seek-none : (l : List ℕ) (step a : ℕ) → seek l step 0 a ≡ a
unfolding seek
seek-none l step a = refl

pub seek-some : (l : List ℕ) (step n a : ℕ) → 0 < n
    → seek l step n a ≡ pick (member l (on step a)) (on step a) (seek l step (n - 1) (on step a))
unfolding seek
seek-some l step zero a h = absurd (omega arith)
seek-some l step (suc n) a h =
    ap (λ (k : ℕ). pick (member l (on step a)) (on step a) (seek l step k (on step a))) (one_less n)
  where
    one_less : (k : ℕ) → k ≡ suc k - 1
    one_less k = omega arith

pub ruleset seek_steps = (seek-none, seek-some)

-- beyond the last address nothing is set
pub ruleset no_place = (set_out)
