-- A frame in each phase, for a phase that is known by an equation. Assumes nothing.
use Prim.Native.Nat.{ℕ}
use mathlib.Core.Bool.{Bool}
use mathlib.Core.Path.{◌≡◌}
use mathlib.Core.List.{List}
use Rattle.frame.specs.Reading.{read}
use Rattle.state.specs.declared.Core.{Core}
use Rattle.state.specs.declared.Kept.{Kept}
use Rattle.state.specs.declared.Phase.{Phase}
use Rattle.state.specs.declared.Phase.TheVariants.{Idle, Awaited, Check}
use Rattle.state.specs.World.{Rows, World, with_core, with_doing, with_site}
use Rattle.state.specs.Hold.{resting, rest}
use Rattle.state.specs.Refusals.{Sited}
use Rattle.state.specs.Calls.{called, idle_read, awaited_read, heard}
use Rattle.state.specs.Told.{world_in}
use Rattle.hearing.specs.Hears.{Listening}

module _ (clock : ℕ) (room : Bool) (first second s : List ℕ) (w : World) {p : Phase} where
  pub heard-idle : p ≡ Idle → heard p clock room first second s w ≡ idle_read clock room first second (read s) w
  unfolding heard
  heard-idle e = rw e

  pub heard-awaited : p ≡ Awaited
      → heard p clock room first second s w ≡ called (awaited_read clock s (read s) w.site) w
  unfolding heard
  heard-awaited e = rw e

-- "Any frame .. ends the check": the core rests first
module _ (clock : ℕ) (room : Bool) (first second s : List ℕ) (c : Core) (k : Kept)
    (masters t marks points octets : List ℕ) (high low : Rows) {p : Phase} {c' : Core} where
  pub heard-check : p ≡ Check → c' ≡ with_doing (resting c.doing) c
      → heard p clock room first second s (world_in c k masters t marks points octets high low)
      ≡ idle_read clock room first second (read s) (world_in c' k masters t marks points octets high low)
  unfolding heard rest with_core with_site
  heard-check e f = rw (e, f)

sited-resting : {c : Core} {high low : Rows} → Sited c high low → Sited (with_doing (resting c.doing) c) high low
unfolding with_doing
sited-resting s =
    record {
      core =
          record {
            settings = s.core.settings;
            retries = s.core.retries;
            ts = s.core.ts;
            high = s.core.high;
            low = s.core.low;
          };
      lent_high = s.lent_high;
      lent_low = s.lent_low;
      sound_high = s.sound_high;
      sound_low = s.sound_low;
    }

pub listening-resting : {c : Core} {k : Kept} {high low : Rows} {first second out : List ℕ}
    → Listening c k high low first second out
    → Listening (with_doing (resting c.doing) c) k high low first second out
listening-resting l =
    record { sited = sited-resting l.sited; kept = l.kept; upper = l.upper; lower = l.lower; room = l.room }
