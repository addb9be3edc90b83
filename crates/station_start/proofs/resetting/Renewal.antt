-- What reset leaves of a state and both rows: refused, or drained and afresh. Assumes nothing.
use Prim.Native.Nat.{ℕ, ◌<◌}
use native.Mathlib.Omega.{arith}
use mathlib.Core.Bool.{Bool, true, false}
use mathlib.Core.List.{List, []}
use mathlib.Core.Path.{◌≡◌, refl, sym, ap, ◌∙◌}
use Rattle.std.specs.Prelude.{Result, Ok, Err}
use Rattle.choice.specs.Choice.{pick}
use Rattle.choice.proofs.Rules.{pick-false, said-false, passed, is_said}
use Rattle.queue.specs.declared.Queue.{Queue}
use Rattle.rows.specs.Rows.{Left, left, drain}
use Rattle.refusal.specs.declared.Refusal.{Refusal}
use Rattle.refusal.specs.Refusal.{number}
use Rattle.refusal.proofs.Numbers.{above_zero}
use Rattle.state.specs.declared.Core.{Core}
use Rattle.state.specs.declared.Kept.{Kept}
use Rattle.state.specs.declared.State.{State}
use Rattle.state.specs.declared.Priority.TheVariants.{High, Low}
use Rattle.state.specs.World.{Rows, World, Called, rows, queue_of, rows_of, world_of, state_of}
use Rattle.state.specs.Refusals.{unlent, lawless}
use Rattle.state.specs.Calls.{no_rows, fresh_core, fresh_world, refuse, count_of, drained, resetting, reset}
use Rattle.state.specs.Told.{leaves, telling, adds, untold, renewed_by, reset_of}
use Rattle.state.proofs.Refused.{told-resetting, unrefused}
use Rattle.station_start.specs.Refused.{refusal_of}

-- ---- what is known where nothing is refused
pub record Ready (c : Core) (masters started : List ℕ) (k : Kept) (high low : Rows) : Type 0 where
  pub lent-high : unlent c.high high ≡ false
  pub lent-low : unlent c.low low ≡ false
  pub lawful : lawless c masters started k ≡ false

pub ready : (c : Core) (masters started : List ℕ) (k : Kept) (high low : Rows)
    → 0 ≡ refusal_of c masters started k high low → Ready c masters started k high low
unfolding refusal_of
ready c masters started k high low e =
    let a = passed _ _ _ (omega arith) (sym e) in
    let b = passed _ _ _ (omega arith) a.1 in
    let d = passed _ _ _ (omega arith) b.1 in
    record { lent-high = is_said a.0; lent-low = is_said b.0; lawful = is_said d.0 }

-- ---- the call, by its refusal
chain : (a b d : Bool) (n : ℕ) (w : World) (x : Called) → n ≡ pick a 21 (pick b 21 (pick d 29 0)) → 0 < n
    → pick a (refuse 21 w) (pick b (refuse 21 w) (pick d (refuse 29 w) x)) ≡ refuse n w
unfolding pick
chain true b d n w x e p = rw e
chain false true d n w x e p = rw e
chain false false true n w x e p = rw e
chain false false false n w x e p = absurd (omega arith)

module _ (s : State) (high low : Rows) where
  pub reset-refused : (r : Refusal) (x : Result State Refusal) → x ≡ Err r
      → number r ≡ refusal_of s.core s.masters.0 s.started.0 s.memory.kept high low
      → leaves (renewed_by s x) high low [] ≡ reset_of (reset (world_of s high low))
  unfolding renewed_by reset_of reset refusal_of refuse world_of state_of telling adds untold
  reset-refused r x h e =
      rw h (sym (ap reset_of (chain _ _ _ (number r) (world_of s high low) _ e (above_zero r))))

  reset-resets : Ready s.core s.masters.0 s.started.0 s.memory.kept high low
      → reset (world_of s high low) ≡ resetting (world_of s high low)
  unfolding reset world_of
  reset-resets k =
      pick-false _ _ (said-false refl k.lent-high)
      ∙ (pick-false _ _ (said-false refl k.lent-low) ∙ pick-false _ _ (said-false refl k.lawful))

-- ---- afresh: the state is the same whatever rows stand by it
abbrev afresh : World → Queue → Queue → State
afresh w h l =
    state_of
    (fresh_world (fresh_core w.site.core.settings w.site.core.ts.0 w.started h l) w.started
    w.points w.memory.octets no_rows no_rows)

renewed : (w : World)
    → leaves
    (record { refused = 0; state = afresh w (drained High w.site).answer (drained Low w.site).answer })
    (rows (drained High w.site).row (drained High w.site).area)
    (rows (drained Low w.site).row (drained Low w.site).area) []
    ≡ reset_of (resetting w)
unfolding reset_of resetting state_of fresh_world
renewed w =
    ap
    (λ (n : ℕ). leaves
    (record { refused = n; state = afresh w (drained High w.site).answer (drained Low w.site).answer })
    (rows (drained High w.site).row (drained High w.site).area)
    (rows (drained Low w.site).row (drained Low w.site).area) [])
    (sym (unrefused (resetting w).events (told-resetting w).told))

drained-high : (s : State) (high low : Rows) {k : ℕ} → k ≡ count_of High s.core
    → drain s.core.high.unconfirmed k (left s.core.high high.row high.area)
    ≡ drained High (world_of s high low).site
unfolding drained world_of queue_of rows_of
drained-high s high low e = rw e

drained-low : (s : State) (high low : Rows) {k : ℕ} → k ≡ count_of Low s.core
    → drain s.core.low.unconfirmed k (left s.core.low low.row low.area)
    ≡ drained Low (world_of s high low).site
unfolding drained world_of queue_of rows_of
drained-low s high low e = rw e

by-drained : (w : World) (h l : Left Queue) → h ≡ drained High w.site → l ≡ drained Low w.site
    → leaves (record { refused = 0; state = afresh w h.answer l.answer }) (rows h.row h.area)
    (rows l.row l.area) []
    ≡ reset_of (resetting w)
by-drained w h l e f = rw (e, f) (renewed w)

-- the call, carried out, by what the code finds
module _ (s : State) (high low : Rows) {i j : ℕ} {h l : Queue} {hrow harea lrow larea : List ℕ} {x : State}
    (e : 0 ≡ refusal_of s.core s.masters.0 s.started.0 s.memory.kept high low)
    (a : i ≡ count_of High s.core)
    (b : left h hrow harea ≡ drain s.core.high.unconfirmed i (left s.core.high high.row high.area))
    (d : j ≡ count_of Low s.core)
    (f : left l lrow larea ≡ drain s.core.low.unconfirmed j (left s.core.low low.row low.area)) where
  pub reset-renewed : x
      ≡ state_of
      (fresh_world (fresh_core s.core.settings s.core.ts.0 s.started.0 h l) s.started.0 s.points.0
      s.memory.octets no_rows no_rows)
      → leaves (renewed_by s (Ok x)) (rows hrow harea) (rows lrow larea) []
      ≡ reset_of (reset (world_of s high low))
  unfolding world_of renewed_by
  reset-renewed g =
      rw g
      (by-drained (world_of s high low) (left h hrow harea) (left l lrow larea) (b ∙ drained-high s high low a)
      (f ∙ drained-low s high low d) ∙ ap reset_of (sym (reset-resets s high low (ready _ _ _ _ _ _ e))))
