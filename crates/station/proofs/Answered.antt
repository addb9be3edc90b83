-- What a call leaves where the arrays of the state are lent, as what it answers with a state by value. Assumes nothing.
use Prim.Native.Nat.{ℕ}
use native.Mathlib.Omega.{arith}
use mathlib.Core.Path.{◌≡◌, refl, ap, ◌∙◌}
use mathlib.Core.List.{List}
use Rattle.std.specs.Prelude.{Err}
use Rattle.refusal.specs.declared.Refusal.{Refusal}
use Rattle.refusal.specs.Refusal.{number}
use Rattle.refusal.proofs.Numbers.{above_zero}
use Rattle.state.specs.declared.State.{State}
use Rattle.state.specs.Told.{Answer, Heard, answered_by, heard_by}
use Rattle.state.specs.World.{Rows, Called, world_of, state_of}
use Rattle.state.specs.Told.{Stands, Leaves, telling, stands, standing, heard_of, leaves, told, answer_of}
use Rattle.state.specs.Runs.{Call, call}
use Rattle.state.proofs.Refused.{refusal-told, refused-leaves}

-- ---- a call that is carried out
abbrev pub answering : Stands → Answer
answering x =
    record {
      refused = x.answer.refused;
      state =
          record {
            core = x.answer.core;
            masters = record { 0 = x.masters };
            started = record { 0 = x.started };
            marks = record { 0 = x.marks };
            points = record { 0 = x.points };
            memory = record { kept = x.answer.kept; octets = x.octets };
          };
      length = x.answer.length;
      wait = x.answer.wait;
      indication = x.answer.indication;
    }

abbrev leaving : Stands → Leaves Answer
leaving x = leaves (answering x) x.high x.low x.out

pub answered : (d : Called) (out : List ℕ) {h : Heard} {masters started marks points octets : List ℕ}
    {high low : Rows} {out' : List ℕ}
    → stands h masters started marks points octets high low out' ≡ standing d out
    → leaving (stands h masters started marks points octets high low out') ≡ told d out
unfolding standing heard_of told answer_of state_of
answered d out e = ap leaving e

-- ---- a refused one, whose world is as it was
abbrev refusing : State → Stands → Leaves Answer
refusing s x =
    leaves
    (record
    { refused = x.answer.refused; state = s; length = x.answer.length; wait = x.answer.wait; indication = x.answer.indication })
    x.high x.low x.out

told_with : (d : Called) (out : List ℕ) (s : State) → state_of d.world ≡ s → refusing s (standing d out) ≡ told d out
unfolding standing heard_of told answer_of
told_with d out s e = rw (← e) refl

module _ (x : Call) (s : State) (high low : Rows) where
  abbrev d : Called
  d = call x (world_of s high low)

  as_given : ((telling d.events).refused ≡ 0 → ⊥) → state_of d.world ≡ s
  unfolding state_of world_of
  as_given h = ap state_of (refused-leaves x (world_of s high low) (refusal-told _ h))

  pub unanswered : (out : List ℕ) (r : Refusal) {masters started marks points octets : List ℕ} {high' low' : Rows}
      {out' : List ℕ}
      → stands (heard_by s.core s.memory.kept (Err r)) masters started marks points octets high' low' out'
      ≡ standing d out
      → leaves (answered_by s (Err r)) high' low' out' ≡ told d out
  unfolding heard_by answered_by standing heard_of
  unanswered out r e =
      let k : number r ≡ (telling d.events).refused = ap (λ (y : Stands). y.answer.refused) e in
      let p = above_zero r in
      ap (refusing s) e ∙ told_with d out s (as_given (λ h. omega (arith, p, k, h)))
