-- What settings that are in rule tell: their sums are small. Assumes nothing.
use Prim.Native.Nat.{ℕ, ◌*◌, ◌≤◌}
use mathlib.Core.Bool.{false}
use mathlib.Core.Path.{◌≡◌}
use native.Mathlib.Nat.{mul-le-mul}
use native.Mathlib.Omega.{arith}
use Rattle.choice.specs.Choice.{less}
use Rattle.choice.proofs.Rules.{false-less, unrefused, granted, is_said}
use Rattle.times.specs.declared.Settings.{Settings}
use Rattle.times.specs.Times.{outside, unruly_delays, unruly, Small}

-- a number that is not outside is within
pub outside-within : (n least most : ℕ) → outside n least most ≡ false → (least ≤ n) × (n ≤ most)
unfolding outside
outside-within n least most e =
    let a = unrefused (less n least) _ e in
    let b = unrefused (less most n) _ a.1 in
    (false-less n least a.0, false-less most n b.0)

pub small-delays : (s : Settings) → unruly_delays s ≡ false → s.tsdi.0 ≤ 65535 → Small s
unfolding unruly_delays
small-delays s e h =
    let a = unrefused _ _ e in
    let b = unrefused _ _ a.1 in
    let c = unrefused _ _ b.1 in
    let d = granted _ _ c.1 in
    let f = unrefused _ _ d.1 in
    let g = unrefused _ _ f.1 in
    record {
      tset = (outside-within s.tset.0 20 255 (is_said a.0)).1;
      tqui = false-less 255 s.tqui.0 b.0;
      mintsdr = (outside-within s.mintsdr.0 20 65535 (is_said c.0)).1;
      maxtsdr = (outside-within s.maxtsdr.0 s.mintsdr.0 65535 (is_said f.0)).1;
      ttd = false-less 65535 s.ttd.0 g.0;
      tsdi = h;
    }

pub ruly-small : (s : Settings) → unruly s ≡ false → Small s
unfolding unruly
ruly-small s e =
    let a = unrefused _ _ e in
    let d = unrefused _ _ (unrefused _ _ (unrefused _ _ a.1).1).1 in
    small-delays s (is_said a.0) (false-less 65535 s.tsdi.0 d.0)

-- and their retry limit is at most 15
pub ruly-retries : (s : Settings) → unruly s ≡ false → s.retries.0 ≤ 15
unfolding unruly
ruly-retries s e = false-less 15 s.retries.0 (unrefused _ _ (unrefused _ _ (unrefused _ _ e).1).1).0

-- 2 TS TSL is small
pub small_product : (ts slot : ℕ) → ts ≤ 126 → slot ≤ 197383 → 2 * ts * slot ≤ 252 * 197383
small_product ts slot h g = mul-le-mul {n₁ = 2 * ts} {m₁ = slot} {n₂ = 252} {m₂ = 197383} (omega arith) g

pub ruleset small_settings = (small-delays, ruly-small)
