-- Start takes the set of masters and the access points as they are lent, and reset leaves what is lent to it only to
-- read: so their answers and the arrays that they fill are all that they hand over. Assumes nothing.
use Prim.Native.Nat.{ℕ}
use native.Mathlib.Omega.{arith}
use mathlib.Core.Bool.{Bool, true, false}
use mathlib.Core.List.{List, []}
use mathlib.Core.Path.{◌≡◌, refl, ap, ◌∙◌}
use Rattle.choice.specs.Choice.{pick}
use Rattle.choice.proofs.Rules.{if-same, unless-same}
use Rattle.times.specs.declared.Settings.{Settings}
use Rattle.state.specs.declared.State.{State}
use Rattle.std.specs.Prelude.{Ok, Err}
use Rattle.refusal.specs.declared.Refusal.{Refusal}
use Rattle.refusal.proofs.Numbers.{above_zero}
use Rattle.state.specs.Told.{Renewed, blank, renewed_by}
use Rattle.state.specs.World.{Rows, Called, state_of, world_of}
use Rattle.state.specs.Calls.{Unstarted, Station, refuse, fresh_world, forgotten}
use Rattle.state.specs.Calls.{resetting as calls_resetting, start, reset}
use Rattle.state.specs.Told.{Leaves, leaves, started_of, reset_of}
use Rattle.c_core.specs.declared.numbers.Numbers.{Numbers}
use Rattle.c_core.specs.declared.handover.FlatRenewed.{FlatRenewed}
use Rattle.c_core.specs.Handover.{flat_started, flat_renewed, filled, starting, held, resetting}

-- ---- start
-- an accepted start is the last of its chain
accepted-by : (a b c d e : Bool) (s : State)
    → (started_of
    (pick a (Unstarted 20)
    (pick b (Unstarted 21)
    (pick c (Unstarted 21) (pick d (Unstarted 21) (pick e (Unstarted 21) (Station s))))))).refused
    ≡ 0
    → (started_of
    (pick a (Unstarted 20)
    (pick b (Unstarted 21)
    (pick c (Unstarted 21) (pick d (Unstarted 21) (pick e (Unstarted 21) (Station s))))))).state
    ≡ s
unfolding pick started_of
accepted-by true b c d e s h = absurd (omega arith)
accepted-by false true c d e s h = absurd (omega arith)
accepted-by false false true d e s h = absurd (omega arith)
accepted-by false false false true e s h = absurd (omega arith)
accepted-by false false false false true s h = absurd (omega arith)
accepted-by false false false false false s h = refl

filled-by : (a : Renewed) (masters started marks points octets : List ℕ) → a.refused ≡ 0
    → a.state.masters.0 ≡ masters
    → a.state.points.0 ≡ points
    → filled (flat_started a) masters a.state.started.0 a.state.marks.0 points
    a.state.memory.octets
    ≡ starting a masters started marks points octets
unfolding starting
filled-by a masters started marks points octets h m p = rw (← m, ← p) (if-same _ h refl)

module _ (s : Settings) (ts : ℕ) (masters points : List ℕ) (high low : ℕ) where
  start-lists : (started_of (start s ts masters points high low)).refused ≡ 0
      → ((started_of (start s ts masters points high low)).state.masters.0 ≡ masters)
      × ((started_of (start s ts masters points high low)).state.points.0 ≡ points)
  unfolding start state_of fresh_world
  start-lists h = (
    ap (λ (x : State). x.masters.0) (accepted-by _ _ _ _ _ _ h),
    ap (λ (x : State). x.points.0) (accepted-by _ _ _ _ _ _ h),
  )

  pub start-filled : {a : Renewed} {r : FlatRenewed} (started marks octets : List ℕ)
      → a ≡ started_of (start s ts masters points high low)
      → r ≡ flat_started a → a.refused ≡ 0
      → filled r masters a.state.started.0 a.state.marks.0 points a.state.memory.octets
      ≡ starting (started_of (start s ts masters points high low)) masters started marks points octets
  start-filled started marks octets e f h =
      let h' = rw e at h in
      rw (f, e) (filled-by _ masters started marks points octets h' (start-lists h').0 (start-lists h').1)

  pub start-refused : {a : Renewed} {r : FlatRenewed} (started marks octets : List ℕ)
      → a ≡ started_of (start s ts masters points high low)
      → r ≡ flat_started a → (a.refused ≡ 0 → ⊥)
      → filled r masters started marks points octets
      ≡ starting (started_of (start s ts masters points high low)) masters started marks points octets
  unfolding starting
  start-refused started marks octets e f h = rw (← e, f) (unless-same _ h refl)

  -- the same of what start answers
  pub start-done : (x : State) {r : FlatRenewed} (started marks octets : List ℕ)
      → renewed_by blank (Ok x) ≡ started_of (start s ts masters points high low)
      → r ≡ flat_started (renewed_by blank (Ok x))
      → filled r masters x.started.0 x.marks.0 points x.memory.octets
      ≡ starting (started_of (start s ts masters points high low)) masters started marks points octets
  unfolding renewed_by
  start-done x started marks octets e f = start-filled started marks octets e f refl

  pub start-declined : (k : Refusal) {r : FlatRenewed} (started marks octets : List ℕ)
      → renewed_by blank (Err k) ≡ started_of (start s ts masters points high low)
      → r ≡ flat_started (renewed_by blank (Err k))
      → filled r masters started marks points octets
      ≡ starting (started_of (start s ts masters points high low)) masters started marks points octets
  unfolding renewed_by
  start-declined k started marks octets e f =
      let p = above_zero k in
      start-refused started marks octets e f (λ h. omega (arith, p, h))

-- ---- reset
-- what it leaves of a state
record Kept (s : State) (d : Called) : Type 0 where
  started : d.world.started ≡ s.started.0
  points : d.world.points ≡ s.points.0
  octets : d.world.memory.octets ≡ s.memory.octets

kept-pick : {s : State} (b : Bool) {x y : Called} → Kept s x → Kept s y → Kept s (pick b x y)
unfolding pick
kept-pick true e f = e
kept-pick false e f = f

kept-refused : (k : ℕ) (s : State) (high low : Rows) → Kept s (refuse k (world_of s high low))
unfolding refuse world_of
kept-refused k s high low = record { started = refl; points = refl; octets = refl }

kept-renewed : (s : State) (high low : Rows) → Kept s (calls_resetting (world_of s high low))
unfolding calls_resetting fresh_world forgotten world_of
kept-renewed s high low = record { started = refl; points = refl; octets = refl }

reset-kept : (s : State) (high low : Rows) → Kept s (reset (world_of s high low))
unfolding reset
reset-kept s high low =
    kept-pick _ (kept-refused 21 s high low)
    (kept-pick _ (kept-refused 21 s high low)
    (kept-pick _ (kept-refused 29 s high low) (kept-renewed s high low)))

held_by : (n : Numbers) (s : State) (l : Leaves Renewed) → l.answer.state.started.0 ≡ s.started.0
    → l.answer.state.points.0 ≡ s.points.0 → l.answer.state.memory.octets ≡ s.memory.octets
    → held (flat_renewed n l.answer) l.answer.state.masters.0 s.started.0
    l.answer.state.marks.0 s.points.0 s.memory.octets l.high l.low l.out
    ≡ resetting n l
unfolding resetting
held_by n s l e f g = rw (e, f, g)

pub reset-held : (n : Numbers) (s : State) (high low : Rows) {a : Renewed} {r : FlatRenewed} {high' low' : Rows}
    → leaves a high' low' [] ≡ reset_of (reset (world_of s high low)) → r ≡ flat_renewed n a
    → held r a.state.masters.0 s.started.0 a.state.marks.0 s.points.0 s.memory.octets
    high' low' []
    ≡ resetting n (reset_of (reset (world_of s high low)))
unfolding reset_of state_of
reset-held n s high low e f =
    let k = reset-kept s high low in
    rw f
    (held_by n s _ (ap (λ (l : Leaves Renewed). l.answer.state.started.0) e ∙ k.started)
    (ap (λ (l : Leaves Renewed). l.answer.state.points.0) e ∙ k.points)
    (ap (λ (l : Leaves Renewed). l.answer.state.memory.octets) e ∙ k.octets)
    ∙ ap (resetting n) e)

-- the same of what reset answers
module _ (n : Numbers) (s : State) (high low : Rows) {r : FlatRenewed} {high' low' : Rows} where
  pub reset-done : (x : State) → leaves (renewed_by s (Ok x)) high' low' [] ≡ reset_of (reset (world_of s high low))
      → ((y : State) → r ≡ flat_renewed n (renewed_by y (Ok x)))
      → held r x.masters.0 s.started.0 x.marks.0 s.points.0 s.memory.octets high' low' []
      ≡ resetting n (reset_of (reset (world_of s high low)))
  unfolding renewed_by
  reset-done x e f = reset-held n s high low e (f s)

  pub reset-declined : (k : Refusal)
      → leaves (renewed_by s (Err k)) high' low' [] ≡ reset_of (reset (world_of s high low))
      → ((y : State) → r ≡ flat_renewed n (renewed_by y (Err k)))
      → held r s.masters.0 s.started.0 s.marks.0 s.points.0 s.memory.octets high' low' []
      ≡ resetting n (reset_of (reset (world_of s high low)))
  unfolding renewed_by
  reset-declined k e f = reset-held n s high low e (f s)
