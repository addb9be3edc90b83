-- What frame, sent and slot leave, handed over, and the core of a call by its refusal. Assumes nothing.
use Prim.Native.Nat.{ℕ}
use native.Mathlib.Omega.{arith}
use mathlib.Core.List.{List}
use mathlib.Core.Path.{◌≡◌, refl, ap}
use Rattle.choice.proofs.Rules.{pick-false, pick_true, same_true, same_false}
use Rattle.refusal.specs.declared.Refusal.{Refusal}
use Rattle.refusal.specs.Refusal.{number}
use Rattle.refusal.proofs.Numbers.{above_zero}
use Rattle.state.specs.declared.Core.{Core}
use Rattle.state.specs.declared.Kept.{Kept}
use Rattle.std.specs.Prelude.{Result, Ok, Err}
use Rattle.state.specs.declared.State.{State}
use Rattle.state.specs.Told.{Heard, blank, renewed_by}
use Rattle.state.specs.World.{Rows}
use Rattle.state.specs.Told.{Stands, stands}
use Rattle.c_core.specs.declared.numbers.Numbers.{Numbers}
use Rattle.c_core.specs.declared.handover.FlatAnswer.{FlatAnswer}
use Rattle.c_core.specs.Numbers.{numbers_of}
use Rattle.c_core.specs.Handover.{numbers_after, flat_answer, flat_renewed, flat_started, held, holding}

-- a call that is carried out hands over the numbers that it leaves, a refused one those that it was given
pub carried : (n : Numbers) (c : Core) (k : Kept) → numbers_after n 0 c k ≡ numbers_of c k
unfolding numbers_after
carried n c k = pick_true _ _ (same_true refl)

pub declined : (n : Numbers) (r : Refusal) (c : Core) (k : Kept) → numbers_after n (number r) c k ≡ n
unfolding numbers_after
declined n r c k = let p = above_zero r in pick-false _ _ (same_false (λ h. omega (arith, p)))

-- a refused start, which is given no numbers, hands over those of the blank state
pub started-renewed : (n : Numbers) (a : Result State Refusal) → n ≡ numbers_of blank.core blank.memory.kept
    → flat_renewed n (renewed_by blank a) ≡ flat_started (renewed_by blank a)
unfolding flat_renewed flat_started renewed_by
started-renewed n (Ok s) e = rw (carried n s.core s.memory.kept)
started-renewed n (Err r) e = rw (declined n r blank.core blank.memory.kept, e)

pub ruleset core_steps = (carried, declined)

pub stands-held : (n : Numbers) {a : Heard} {r : FlatAnswer} {masters started marks points octets out : List ℕ}
    {high low : Rows} {s : Stands}
    → stands a masters started marks points octets high low out ≡ s → r ≡ flat_answer n a
    → held r masters started marks points octets high low out ≡ holding n s
unfolding holding
stands-held n e f = rw f (ap (holding n) e)
