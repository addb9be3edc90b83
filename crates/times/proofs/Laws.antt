-- Document 01's case 9, and document 02's order 1: what Tid1 heeds, what moved and what stayed. Assumes nothing.
use Prim.Native.Nat.{ℕ, ◌+◌, ◌*◌, ◌≤◌, max}
use mathlib.Core.Path.{◌≡◌, refl}
use native.Mathlib.Omega.{arith}
use Rattle.choice.specs.Choice.{pick, less, said}
use Rattle.times.specs.declared.Settings.{Settings}
use Rattle.times.specs.declared.Times.{Times}
use Rattle.times.specs.Times.{Refused, Reckon}
use Rattle.times.specs.Times.{outside, tsm, tid1, tid2, tsl, tto, too_long, unruly_delays, unruly, times_of}
use Rattle.times.specs.Times.{reckoned, standard}
use Rattle.times.specs.Heeding.{Heeds, slow}

-- TSM, Tid1, Tid2, TSL and TTO of a table, in turn
abbrev times : ℕ → ℕ → ℕ → ℕ → ℕ → Times
times m i j l o =
    record {
      tsm = record { 0 = m };
      tid1 = record { 0 = i };
      tid2 = record { 0 = j };
      tsl = record { 0 = l };
      tto = record { 0 = o };
    }

-- case 9: "Standard settings, TS 2: TSM 42, Tid1 75, Tid2 400, TSL 455, TTO 4550"
pub case-9 : reckoned standard 2 ≡ Reckon (times 42 75 400 455 4550)
unfolding reckoned unruly unruly_delays outside too_long times_of tsm tid1 tid2 tsl tto standard pick less said
case-9 = refl

-- "With the standard settings and min TSDR 200, Tid1 is 200": and only Tid1 is other than in case 9
pub slow-responder : reckoned (slow 200 0) 2 ≡ Reckon (times 42 200 400 455 4550)
unfolding reckoned unruly unruly_delays outside too_long times_of tsm tid1 tid2 tsl tto standard slow pick less said
slow-responder = refl

-- a TSDI over max TSDR: "Tid2 stays as it was; TSL follows"
pub slow-initiator : reckoned (slow 20 500) 2 ≡ Reckon (times 42 500 400 555 5550)
unfolding reckoned unruly unruly_delays outside too_long times_of tsm tid1 tid2 tsl tto standard slow pick less said
slow-initiator = refl

-- "20 also for TSDI out of range", and for one in range by which TSL is over 65535
pub too-slow : (reckoned (slow 20 65536) 2 ≡ Refused 20)
    × (reckoned (slow 20 65481) 2 ≡ Refused 20)
    × (reckoned (slow 20 65480) 2 ≡ Reckon (times 42 65480 400 65535 655350))
unfolding reckoned unruly unruly_delays outside too_long times_of tsm tid1 tid2 tsl tto standard slow pick less said
too-slow = (refl, refl, refl)

-- ---- of any settings
-- Tid1 heeds each of the three
pub tid1-heeds : (s : Settings) → Heeds s (tid1 s)
unfolding tid1
tid1-heeds s = record { line = omega arith; responder = omega arith; initiator = omega arith }

-- Tid1 is document 01's, 33 + TSM, where neither min TSDR nor TSDI is longer
pub tid1-before : (s : Settings) → s.mintsdr.0 ≤ 33 + tsm s → s.tsdi.0 ≤ 33 + tsm s → tid1 s ≡ 33 + tsm s
unfolding tid1
tid1-before s h g = omega (arith, h, g)

-- TSL is document 01's, by 33 + TSM, where TSDI is not longer than the longer of that and max TSDR: min TSDR does not
-- move it
pub tsl-before : (s : Settings) → s.mintsdr.0 ≤ s.maxtsdr.0 → s.tsdi.0 ≤ max s.maxtsdr.0 (33 + tsm s)
    → tsl s ≡ 2 * s.ttd.0 + 11 + tsm s + max s.maxtsdr.0 (33 + tsm s)
unfolding tid1 tsl
tsl-before s h g = omega (arith, h, g)
