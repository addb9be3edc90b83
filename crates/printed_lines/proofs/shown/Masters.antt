-- The walk over the masters: what is still to come of a piece, and the list one address on. Assumes nothing.
use Prim.Native.Nat.{ℕ, suc, ◌+◌, ◌-◌, ◌<◌, ◌≤◌}
use mathlib.Core.Bool.{Bool, true, false}
use mathlib.Core.List.{List, [], ◌++◌}
use mathlib.Core.Path.{◌≡◌}
use native.Mathlib.Omega.{arith}
use lib.ListN.{length}
use Rattle.choice.specs.Choice.{pick}
use Rattle.choice.proofs.Rules.{pick_true, pick-false}
use Rattle.laid.specs.Laid.{laid}
use Rattle.printed.specs.Numeral.{numeral}
use Rattle.printed.specs.Printed.{comma, joined}
use Rattle.printed.proofs.phrases.Steps.{laying}
use Rattle.ring.specs.Ring.{member}

-- with v still to come at a place, all of u is laid
pub record Comes (l : List ℕ) (at : ℕ) (u : List ℕ) (w : ℕ) (v m : List ℕ) : Type 0 where
  pub place : w + length v ≡ at + length u
  pub left : laid m w v ≡ laid l at u

-- ---- the list one address on
on : (a : ℕ) → a < 127 → 127 - a ≡ suc (127 - (a + 1))
on a h = omega arith

pub joined_in : (masters : List ℕ) (first : Bool) (a : ℕ) → a < 127 → member masters a ≡ true
    → joined first (127 - a) a masters
    ≡ pick first (numeral a) (comma ++ numeral a) ++ joined false (127 - (a + 1)) (a + 1) masters
unfolding joined
joined_in masters first a h e = rw (on a h) (pick_true _ _ e)

pub joined-out : (masters : List ℕ) (first : Bool) (a : ℕ) → a < 127 → member masters a ≡ false
    → joined first (127 - a) a masters ≡ joined first (127 - (a + 1)) (a + 1) masters
unfolding joined
joined-out masters first a h e = rw (on a h) (pick-false _ _ e)

pub joined-last : (masters : List ℕ) (first : Bool) (a : ℕ) → 127 ≤ a → joined first (127 - a) a masters ≡ []
unfolding joined
joined-last masters first a h = rw (none a h)
  where
    none : (a : ℕ) → 127 ≤ a → 127 - a ≡ 0
    none a h = omega arith

-- what follows of a step of the walk
pub ruleset walk = (laying, joined_in, joined-out, joined-last)
