-- Laws of the bit clock, and document 01's case 10. Assumes nothing.
use Rattle.std.proofs.Common.{◌≡◌, ℕ, ◌+◌, ◌-◌, ◌%◌, ◌^◌, ◌<◌, ◌≤◌, true, false, refl, arith}
use Rattle.choice.specs.Choice.{less}
use Rattle.choice.proofs.Rules.{less-true, less-false}
use Rattle.clock.specs.Clock.{elapsed, time_left}

-- elapsed time is right across the wrap, for every pair of clocks less than 2^32 apart
pub elapsed-wrap : (t d : ℕ) → d < 2 ^ 32 → elapsed ((t + d) % 2 ^ 32) (t % 2 ^ 32) ≡ d
unfolding elapsed
elapsed-wrap t d h = omega arith

-- "a clock that goes back is a long wait"
pub elapsed-back : (t d : ℕ) → 0 < d → d ≤ t → t < 2 ^ 32 → elapsed (t - d) t ≡ 2 ^ 32 - d
unfolding elapsed
elapsed-back t d p h g = omega arith

-- time is left one bit time before TTR has elapsed since the acceptance, and none when it has
pub left-before : (t ttr : ℕ) → 0 < ttr → ttr ≤ 2 ^ 32 → time_left ((t + (ttr - 1)) % 2 ^ 32) (t % 2 ^ 32) ttr ≡ true
unfolding time_left
left-before t ttr p h = less-true (omega (arith, elapsed-wrap t (ttr - 1) (omega arith)))

pub left-none : (t ttr : ℕ) → ttr < 2 ^ 32 → time_left ((t + ttr) % 2 ^ 32) (t % 2 ^ 32) ttr ≡ false
unfolding time_left
left-none t ttr h = less-false (omega (arith, elapsed-wrap t ttr h))

-- case 10: "TTR 1000, earlier acceptance 100: time left at 1099, none at 1100"
pub case-10 : (time_left 1099 100 1000 ≡ true) × (time_left 1100 100 1000 ≡ false)
unfolding time_left elapsed less
case-10 = (refl, refl)
