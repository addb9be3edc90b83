-- The laws of the numbers: settings, a core and what the memory keeps come back from their numbers as they were, so a
-- program that holds the numbers between calls holds all of them; and numbers that stand for no case are refused 29
-- with any sets. Assumes nothing.
use Prim.Native.Nat.{ℕ}
use mathlib.Core.Bool.{Bool, true, false}
use mathlib.Core.List.{List}
use mathlib.Core.Path.{◌≡◌, refl}
use native.Mathlib.Omega.{arith}
use Rattle.choice.specs.Choice.{pick, less, same, said}
use Rattle.choice.proofs.Rules.{pick_true, less-true}
use Rattle.times.specs.declared.Settings.{Settings}
use Rattle.times.specs.Times.{unruly}
use Rattle.state.specs.declared.Phase.{Phase}
use Rattle.state.specs.declared.Phase.TheVariants.{Idle, Awaited, Sdn, Check, ToSelf}
use Rattle.state.specs.declared.Priority.{Priority}
use Rattle.state.specs.declared.Priority.TheVariants.{High, Low}
use Rattle.state.specs.declared.Core.{Core}
use Rattle.state.specs.declared.Kept.{Kept}
use Rattle.state.specs.Refusals.{unstartable, unstarted, lawless}
use Rattle.c_core.specs.declared.numbers.Numbers.{Numbers}
use Rattle.c_core.specs.Numbers.{phase_number, phase_of, served_number, served_of, flag_number, flag_of, malformed}
use Rattle.c_core.specs.Numbers.{ts_in, settings_in, settings_of, doing_in, hold_in, high_in, low_in, core_in}
use Rattle.c_core.specs.Numbers.{kept_in, numbers_of}

-- ---- each case comes back from its number
phase-back : (p : Phase) → phase_of (phase_number p) ≡ p
unfolding phase_of phase_number pick same
phase-back Idle = refl
phase-back Awaited = refl
phase-back Sdn = refl
phase-back Check = refl
phase-back ToSelf = refl

served-back : (p : Priority) → served_of (served_number p) ≡ p
unfolding served_of served_number pick same
served-back High = refl
served-back Low = refl

flag-back : (b : Bool) → flag_of (flag_number b) ≡ b
unfolding flag_of flag_number pick same
flag-back true = refl
flag-back false = refl

-- and its number stands for a case
phase-below : (p : Phase) → less 4 (phase_number p) ≡ false
unfolding phase_number less
phase-below Idle = refl
phase-below Awaited = refl
phase-below Sdn = refl
phase-below Check = refl
phase-below ToSelf = refl

served-below : (p : Priority) → less 1 (served_number p) ≡ false
unfolding served_number less
served-below High = refl
served-below Low = refl

flag-below : (b : Bool) → less 1 (flag_number b) ≡ false
unfolding flag_number pick less
flag-below true = refl
flag-below false = refl

well-formed : (p : Phase) (s : Priority) (x b : Bool)
    → malformed (phase_number p) (served_number s) (flag_number x) (flag_number b) ≡ false
unfolding malformed pick
well-formed p s x b = rw (phase-below p, served-below s, flag-below x, flag-below b)

-- ---- settings come back: a start that is given the numbers of the standard settings is one with the standard settings
pub settings-back : (s : Settings) → settings_in (settings_of s) ≡ s
unfolding settings_in settings_of
settings-back s = refl

-- ---- the core and what the memory keeps come back
pub core-back : (c : Core) (k : Kept) → core_in (numbers_of c k) ≡ c
unfolding core_in settings_in settings_of ts_in doing_in hold_in high_in low_in numbers_of said pick
core-back c k =
    rw (
      well-formed c.doing.phase c.doing.served c.doing.sdn k.bit,
      phase-back c.doing.phase,
      served-back c.doing.served,
      flag-back c.doing.sdn,
    )

pub kept_back : (c : Core) (k : Kept) → kept_in (numbers_of c k) ≡ k
unfolding kept_in numbers_of
kept_back c k = rw (flag-back k.bit)

-- ---- numbers that stand for no case are lawless
no-ts : (n : Numbers) → malformed n.phase n.served n.sdn n.bit ≡ true → (ts_in n).0 ≡ 127
unfolding ts_in said pick
no-ts n e = rw e

either : (b : Bool) {y : Bool} → y ≡ true → pick b true y ≡ true
unfolding pick
either true e = refl
either false e = e

unstartable-127 : (n : Numbers) (masters : List ℕ) → (ts_in n).0 ≡ 127
    → unstartable (settings_in n.settings) (ts_in n).0 masters ≡ true
unfolding unstartable
unstartable-127 n masters e =
    either (said (unruly (settings_in n.settings))) (pick_true _ _ (rw e (less-true (omega arith))))

pub malformed-lawless : (n : Numbers) (masters started : List ℕ)
    → malformed n.phase n.served n.sdn n.bit ≡ true → lawless (core_in n) masters started (kept_in n) ≡ true
unfolding lawless unstarted said pick core_in
malformed-lawless n masters started e = rw (unstartable-127 n masters (no-ts n e))
