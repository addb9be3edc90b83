-- What start gives is a station in order, so a run after a start stays so and is never refused 29. Assumes nothing.
use Prim.Native.Nat.{ℕ, ◌*◌, ◌≤◌, ◌<◌}
use mathlib.Core.Bool.{Bool, true, false, true≢false}
use mathlib.Core.Path.{◌≡◌, refl, sym, ap}
use mathlib.Core.List.{List}
use native.Mathlib.Omega.{arith}
use lib.ListN.{length, replicate}
use Rattle.choice.specs.Choice.{pick}
use Rattle.choice.proofs.Rules.{false-less, false_same, unrefused, granted, is_said}
use Rattle.times.specs.declared.Settings.{Settings}
use Rattle.times.specs.Times.{unruly}
use Rattle.ring.specs.Ring.{member}
use Rattle.request.specs.Record.{SIZE}
use Rattle.queue.specs.Queue.{AREA}
use Rattle.rows.proofs.Check.{sound_empty}
use Rattle.state.specs.declared.Phase.TheVariants.{Idle}
use Rattle.state.specs.declared.State.{State}
use Rattle.state.specs.Calls.{Started, Unstarted, Station}
use Rattle.state.specs.World.{Rows, World, world_of, state_of}
use Rattle.state.specs.Request.{UNKNOWN}
use Rattle.state.specs.Refusals.{unstartable}
use Rattle.state.specs.Calls.{empty_queue, forgotten, no_rows, fresh_core, fresh_world, start}
use Rattle.state.specs.Runs.{Call, run, Begun}
use Rattle.state.proofs.Cases.{positive}
use Rattle.state.proofs.Filed.{Filed, named-empty}
use Rattle.state.proofs.Poise.{apt-idle, previous-small}
use Rattle.state.proofs.Order.{Orderly}
use Rattle.state.proofs.Never.{tells, run-never-29}

-- ---- a start that gave a station passed each test
given : Started → Bool
given (Unstarted n) = false
given (Station s) = true

past : (b : Bool) (n : ℕ) (y : Started) (s : State) → pick b (Unstarted n) y ≡ Station s → (b ≡ false) × (y ≡ Station s)
unfolding pick given
past true n y s e = absurd (true≢false (sym (ap given e)))
past false n y s e = (refl, e)

state_in : State → Started → State
state_in d (Unstarted n) = d
state_in d (Station s) = s

same-state : (a s : State) → Station a ≡ Station s → s ≡ a
unfolding state_in
same-state a s e = sym (ap (state_in s) e)

record Startable (t : Settings) (ts : ℕ) (masters : List ℕ) : Type 0 where
  ruly : unruly t ≡ false
  small : ts ≤ 126
  among : member masters ts ≡ true

startable : (t : Settings) (ts : ℕ) (masters : List ℕ) → unstartable t ts masters ≡ false → Startable t ts masters
unfolding unstartable
startable t ts masters e =
    let a = unrefused _ _ e in
    let b = unrefused _ _ a.1 in
    let c = granted _ _ b.1 in
    record { ruly = is_said a.0; small = false-less _ _ b.0; among = is_said c.0 }

-- the state that start gives
abbrev fresh : Settings → ℕ → List ℕ → List ℕ → ℕ → ℕ → State
fresh t ts masters points high low =
    state_of
    (fresh_world (fresh_core t ts masters (empty_queue high) (empty_queue low)) masters points (replicate 255 0) no_rows
    no_rows)

record Given (t : Settings) (ts : ℕ) (masters points : List ℕ) (high low : ℕ) (s : State) : Type 0 where
  startable : Startable t ts masters
  some_high : 0 < high
  few_high : high ≤ 64
  some_low : 0 < low
  few_low : low ≤ 64
  is : s ≡ fresh t ts masters points high low

start-given : (t : Settings) (ts : ℕ) (masters points : List ℕ) (high low : ℕ) (s : State)
    → start t ts masters points high low ≡ Station s → Given t ts masters points high low s
unfolding start
start-given t ts masters points high low s e =
    let a = past _ _ _ s e in
    let b = past _ _ _ s a.1 in
    let c = past _ _ _ s b.1 in
    let d = past _ _ _ s c.1 in
    let f = past _ _ _ s d.1 in
    record {
      startable = startable t ts masters (is_said a.0);
      some_high = positive high (false_same _ _ b.0);
      few_high = false-less _ _ c.0;
      some_low = positive low (false_same _ _ d.0);
      few_low = false-less _ _ f.0;
      is = same-state _ s f.1;
    }

-- ---- an empty queue is in order
filed-empty : (ts n : ℕ) (r : Rows) → 0 < n → n ≤ 64 → length r.row ≡ SIZE * n → length r.area ≡ AREA * n
    → Filed ts (empty_queue n) r
unfolding empty_queue
filed-empty ts n r h l a b =
    record {
      ruled = record { few = l; turn = h; used = omega arith };
      lent = record { places = a; areas = b };
      sound = sound_empty ts _ r.row refl;
      status = named-empty _ r.row refl;
    }

orderly-fresh : (t : Settings) (ts : ℕ) (masters points : List ℕ) (high low : ℕ) (s : State) (u v : Rows)
    → Given t ts masters points high low s → length u.row ≡ SIZE * high → length u.area ≡ AREA * high
    → length v.row ≡ SIZE * low → length v.area ≡ AREA * low
    → Orderly t ts (world_of (fresh t ts masters points high low) u v)
unfolding world_of state_of fresh_world fresh_core forgotten
orderly-fresh t ts masters points high low s u v g a b c d =
    record {
      ruly = g.startable.ruly;
      small = g.startable.small;
      firm =
          record {
            settings = refl;
            station = refl;
            previous = previous-small masters ts ts g.startable.small refl;
            first = omega arith;
            among = g.startable.among;
            high = filed-empty ts high u g.some_high g.few_high a b;
            low = filed-empty ts low v g.some_low g.few_low c d;
          };
      apt = apt-idle _ _ _ _ _ _ _;
      started = g.startable.among;
      memory = record { source = omega arith; reply = omega arith };
    }

-- what start gave, with the rows that are lent
begun-is : (w : World) (b : Begun w)
    → w ≡ world_of (fresh b.settings b.ts b.masters b.points b.high b.low) b.upper b.lower
begun-is w b = rw (b.world, (start-given _ _ _ _ _ _ _ b.started).is) refl

pub begun-orderly : (w : World) (b : Begun w) → Orderly b.settings b.ts w
begun-orderly w b =
    rw (begun-is w b)
    (orderly-fresh b.settings b.ts b.masters b.points b.high b.low b.state b.upper b.lower
    (start-given _ _ _ _ _ _ _ b.started) b.upper_row b.upper_area b.lower_row b.lower_area)

-- both queues are empty
pub begun-queues : (w : World) (b : Begun w)
    → (w.site.core.high ≡ empty_queue b.high) × (w.site.core.low ≡ empty_queue b.low)
unfolding world_of state_of fresh_world fresh_core
begun-queues w b = rw (begun-is w b) (refl, refl)

-- every mark is unknown, and the phase is Idle
pub begun-marks : (w : World) → Begun w
    → (w.site.marks ≡ replicate 127 UNKNOWN) × (w.site.core.doing.phase ≡ Idle)
unfolding world_of state_of fresh_world fresh_core
begun-marks w b = rw (begun-is w b) (refl, refl)

-- the set in force and the one kept for reset are the one that start was given
pub begun-masters : (w : World) (b : Begun w) → (w.site.masters ≡ b.masters) × (w.started ≡ b.masters)
unfolding world_of state_of fresh_world fresh_core
begun-masters w b = rw (begun-is w b) (refl, refl)

-- "one that refuses states of its own making" is shut out: "in a run as demand 3 has it, no call is refused 29"
pub begun-never-29 : (w : World) → Begun w → (l : List Call) → tells 29 (run l w).events ≡ false
begun-never-29 w b l = run-never-29 b.settings b.ts l w (begun-orderly w b)
