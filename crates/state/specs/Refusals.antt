-- Document 01, station refusals 21, 22 and 29, in their order. Assumes nothing.
use Rattle.std.specs.Prelude.{ℕ, ◌<◌, ◌≤◌, ◌≡◌, Bool, true, false, List, length}
use Rattle.choice.specs.Choice.{pick, less, same, said}
use Rattle.ring.specs.Ring.{member, next_of}
use Rattle.times.specs.declared.Settings.{Settings}
use Rattle.times.specs.Times.{Small, unruly}
use Rattle.request.specs.declared.Record.{Record}
use Rattle.request.specs.Record.{SIZE, SDN, unfit}
use Rattle.queue.specs.declared.Queue.{Queue}
use Rattle.queue.specs.Queue.{Ruled, current, misfit, overfull}
use Rattle.rows.specs.Rows.{Lent, at, sound}
use Rattle.state.specs.declared.Phase.{Phase}
use Rattle.state.specs.declared.Phase.TheVariants.{Idle, Awaited, Sdn, Check, ToSelf}
use Rattle.state.specs.declared.Priority.{Priority}
use Rattle.state.specs.declared.Priority.TheVariants.{High, Low}
use Rattle.state.specs.declared.Core.{Core}
use Rattle.state.specs.declared.Kept.{Kept}
use Rattle.state.specs.Hold.{NOBODY}
use Rattle.state.specs.World.{World, Rows, queue_of}
use Rattle.state.specs.Request.{record_in}
use Rattle.state.specs.Answering.{UPDATE}

-- 20: "setting, TS over 126 or set out of rule": TS is among the masters
unfoldable pub unstartable : Settings → ℕ → List ℕ → Bool
unstartable s ts masters =
    pick (said (unruly s)) true (pick (less 126 ts) true (pick (said (member masters ts)) false true))

-- 21, of one queue and what is lent as its row and data
unfoldable pub unlent : Queue → Rows → Bool
unlent q r = misfit q SIZE (length r.row) (length r.area)

-- 22: "output under 255 octets, or an update over 244"
unfoldable pub cramped : ℕ → ℕ → ℕ → Bool
cramped out high low = pick (less out 255) true (pick (less UPDATE high) true (pick (less UPDATE low) true false))

-- 29, by the state alone: "settings, TS or a set start would refuse": the set in force and the one kept for reset
unfoldable pub unstarted : Core → List ℕ → List ℕ → Bool
unstarted c masters started =
    pick (said (unstartable c.settings c.ts.0 masters)) true (pick (said (member started c.ts.0)) false true)

-- "an address over 126", where 127 is nobody: PS, the stranger, whose request was answered
unfoldable pub misaddressed : ℕ → ℕ → ℕ → Bool
misaddressed ps stranger source =
    pick (less 126 ps) true (pick (less NOBODY stranger) true (pick (less NOBODY source) true false))

-- "counts above its rows", "a remembered reply over 255 octets"
unfoldable pub overcounted : Queue → Queue → ℕ → Bool
overcounted high low reply =
    pick (said (overfull high)) true (pick (said (overfull low)) true (pick (less 255 reply) true false))

-- "a phase at odds with what is being sent": a request is in the queue being served; the token goes to another, or to
-- TS
unfoldable pub odd_in : Phase → Core → List ℕ → Bool
odd_in Idle c masters = false
odd_in Awaited c masters = same (queue_of c.doing.served c).unconfirmed 0
odd_in Sdn c masters = same (queue_of c.doing.served c).unconfirmed 0
odd_in Check c masters = same (next_of masters c.ts.0) c.ts.0
odd_in ToSelf c masters = pick (same (next_of masters c.ts.0) c.ts.0) false true

unfoldable pub lawless : Core → List ℕ → List ℕ → Kept → Bool
lawless c masters started k =
    pick (said (unstarted c masters started)) true
    (pick (said (misaddressed c.ps.0 c.stranger.0 k.source.0)) true
    (pick (said (overcounted c.high c.low k.length)) true
    (odd_in c.doing.phase c masters)))

-- 29, by the records: "any unconfirmed record, in either row, that submit would refuse for itself", and the record
-- being sent: SDA or SRD while its reply is awaited, SDN while that goes out
unfoldable pub sound_in : ℕ → Queue → List ℕ → Bool
sound_in ts q row = sound ts q row q.unconfirmed

unfoldable pub unlike_in : Phase → ℕ → Bool
unlike_in Idle service = false
unlike_in Awaited service = same service SDN
unlike_in Sdn service = pick (same service SDN) false true
unlike_in Check service = false
unlike_in ToSelf service = false

unfoldable pub row_by : Priority → List ℕ → List ℕ → List ℕ
row_by High high low = high
row_by Low high low = low

unfoldable pub in_flight : Core → List ℕ → List ℕ → Record
in_flight c high low = at (row_by c.doing.served high low) (current (queue_of c.doing.served c))

unfoldable pub unsound : Core → List ℕ → List ℕ → Bool
unsound c high low =
    pick (said (sound_in c.ts.0 c.high high))
    (pick (said (sound_in c.ts.0 c.low low))
    (unlike_in c.doing.phase (in_flight c high low).service)
    true)
    true

-- the refusal of frame, sent and slot, with an output and two updates of those lengths; 0 is none
unfoldable pub refusal_in : ℕ → ℕ → ℕ → Core → List ℕ → List ℕ → Kept → Rows → Rows → ℕ
refusal_in out high_update low_update c masters started k high low =
    pick (said (unlent c.high high)) 21
    (pick (said (unlent c.low low)) 21
    (pick (said (cramped out high_update low_update)) 22
    (pick (said (lawless c masters started k)) 29
    (pick (said (unsound c high.row low.row)) 29
    0))))

unfoldable pub refusal : ℕ → ℕ → ℕ → World → ℕ
refusal out high low w =
    refusal_in out high low w.site.core w.site.masters w.started w.memory.kept w.site.high
    w.site.low

-- ---- what is known where nothing is refused
-- of the core
pub record Lawful (c : Core) : Type 0 where
  pub settings : Small c.settings
  pub retries : c.settings.retries.0 ≤ 15
  pub ts : c.ts.0 < 127
  pub high : Ruled c.high
  pub low : Ruled c.low

-- of the core and the rows that are lent
pub record Sited (c : Core) (high low : Rows) : Type 0 where
  pub core : Lawful c
  pub lent_high : Lent c.high high.row high.area
  pub lent_low : Lent c.low low.row low.area
  pub sound_high : sound_in c.ts.0 c.high high.row ≡ true
  pub sound_low : sound_in c.ts.0 c.low low.row ≡ true

-- of a queue whose first request is sent: it has one, and its record is fit
pub record Ready (p : Priority) (c : Core) (r : Rows) : Type 0 where
  pub core : Lawful c
  pub lent : Lent (queue_of p c) r.row r.area
  pub some : 0 < (queue_of p c).unconfirmed
  pub fit : unfit c.ts.0 (record_in (queue_of p c) r) (record_in (queue_of p c) r).length ≡ 0
