-- The set of masters over calls and runs: who enters it and who leaves it, that TS never does, and that the set kept for
-- reset stays. Assumes nothing.
use mathlib.Core.Bool.{true}
use mathlib.Core.Path.{◌≡◌, refl, ◌∙◌}
use mathlib.Core.List.{List, [], ◌∷◌}
use Rattle.ring.specs.Ring.{member}
use Rattle.state.specs.World.{World, Called}
use Rattle.state.specs.Calls.{refuse}
use Rattle.state.specs.Runs.{Call, call, run, Begun}
use Rattle.state.specs.Masters.{Changed, unchanged}
use Rattle.state.proofs.Walk.{Course, declined, carried, course}
use Rattle.state.proofs.Ordered.{run-orderly}
use Rattle.state.proofs.Start.{begun-orderly, begun-masters}

-- ---- one call, of any world
changed-course : {c : Call} {w : World} {d : Called} → Course w c d
    → Changed w.site.core w.started w.site.masters c d.world.site.masters
unfolding refuse
changed-course (declined n) = unchanged _
changed-course (carried x) = x.set

-- nothing else changes the set of masters
pub call-changed : (c : Call) (w : World)
    → Changed w.site.core w.started w.site.masters c (call c w).world.site.masters
call-changed c w = changed-course (course c w)

-- ---- the set kept for reset stays
started-course : {c : Call} {w : World} {d : Called} → Course w c d → d.world.started ≡ w.started
unfolding refuse
started-course (declined n) = refl
started-course (carried x) = x.started

run-started : (l : List Call) (w : World) → (run l w).world.started ≡ w.started
unfolding run
run-started [] w = refl
run-started (c ∷ l) w = run-started l (call c w).world ∙ started-course (course c w)

-- ---- after a start and any calls
module _ (w : World) (b : Begun w) (l : List Call) where
  -- the set kept for reset is the one that start was given
  pub masters-kept : (run l w).world.started ≡ b.masters
  masters-kept = run-started l w ∙ (begun-masters w b).1

  -- "TS is never removed"
  pub ts-stays : member (run l w).world.site.masters b.ts ≡ true
  ts-stays =
      let o = run-orderly b.settings b.ts l w (begun-orderly w b) in rw o.firm.station at o.firm.among
