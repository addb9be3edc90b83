-- Every call keeps a station in order, whatever it is given. Assumes nothing.
use Prim.Native.Nat.{ℕ}
use mathlib.Core.List.{List, [], ◌∷◌}
use Rattle.times.specs.declared.Settings.{Settings}
use Rattle.state.specs.World.{World, Called}
use Rattle.state.specs.Calls.{refuse}
use Rattle.state.specs.Runs.{Call, call, run}
use Rattle.state.proofs.Acts.{calm}
use Rattle.state.proofs.Walk.{Course, declined, carried, course}
use Rattle.state.proofs.Keeping.{given-course}
use Rattle.state.proofs.Poise.{AptIn, Poised, poise, poised-apt}
use Rattle.state.proofs.Order.{Orderly}

module _ (t : Settings) (ts : ℕ) where
  pub poised : (w : World) → Orderly t ts w → Poised t ts calm w.site
  unfolding AptIn
  poised w o = record { firm = o.firm; apt = o.apt }

  orderly-course : {c : Call} {w : World} {d : Called} → Course w c d → Orderly t ts w → Poised t ts calm d.world.site
      → Orderly t ts d.world
  unfolding refuse
  orderly-course (declined n) o g = o
  orderly-course (carried c) o g =
      record {
        ruly = o.ruly;
        small = o.small;
        firm = g.firm;
        apt = poised-apt g;
        started = rw c.started o.started;
        memory = c.memory o.memory;
      }

  pub call-orderly : (c : Call) (w : World) → Orderly t ts w → Orderly t ts (call c w).world
  call-orderly c w o = orderly-course (course c w) o (given-course (poise t ts o.small) (course c w) (poised w o))

  pub run-orderly : (l : List Call) (w : World) → Orderly t ts w → Orderly t ts (run l w).world
  unfolding run
  run-orderly [] w o = o
  run-orderly (c ∷ l) w o = run-orderly l _ (call-orderly c w o)
