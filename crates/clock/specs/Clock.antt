-- Document 01, "Times": the time elapsed on the bit clock, and the time that is left. Assumes nothing.
use Rattle.std.specs.Prelude.{ℕ, ◌+◌, ◌-◌, ◌%◌, ◌^◌, Bool}
use Rattle.choice.specs.Choice.{less}

-- "elapsed time is later minus earlier modulo 2^32"
unfoldable pub elapsed : ℕ → ℕ → ℕ
elapsed later earlier = (later + 2 ^ 32 - earlier) % 2 ^ 32

-- "Time is left while (clock - the acceptance before this hold's) modulo 2^32 is below TTR"
unfoldable pub time_left : ℕ → ℕ → ℕ → Bool
time_left clock acceptance ttr = less (elapsed clock acceptance) ttr
