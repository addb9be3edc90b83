-- What is known where nothing is refused: each test that was passed, in numbers. Assumes nothing.
use Prim.Native.Nat.{ℕ, ◌<◌, ◌≤◌}
use mathlib.Core.Bool.{Bool, true, false}
use mathlib.Core.List.{List}
use mathlib.Core.Path.{◌≡◌, refl, sym}
use Rattle.choice.specs.Choice.{pick, said}
use native.Mathlib.Omega.{arith}
use Rattle.choice.proofs.Rules.{false-less, false_same, passed, unrefused, granted, is_said, not-turned}
use Rattle.ring.specs.Ring.{member}
use Rattle.times.specs.declared.Settings.{Settings}
use Rattle.times.specs.Times.{Small}
use Rattle.times.proofs.Rules.{ruly-small, ruly-retries}
use Rattle.request.specs.declared.Record.{Record}
use Rattle.queue.specs.declared.Queue.{Queue}
use Rattle.queue.specs.Queue.{Ruled, current}
use Rattle.queue.proofs.Laws.{ruled}
use Rattle.rows.specs.Rows.{Lent, at}
use Rattle.rows.proofs.Laws.{lent}
use Rattle.state.specs.declared.Phase.{Phase}
use Rattle.state.specs.declared.Phase.TheVariants.{Awaited, Sdn}
use Rattle.state.specs.declared.Priority.{Priority}
use Rattle.state.specs.declared.Priority.TheVariants.{High, Low}
use Rattle.state.specs.declared.Core.{Core}
use Rattle.state.specs.declared.Kept.{Kept}
use Rattle.state.specs.World.{Rows, queue_of}
use Rattle.state.specs.Answering.{UPDATE}
use Rattle.state.specs.Refusals.{Lawful, Sited, unstartable, unlent, cramped, unstarted, overcounted}
use Rattle.state.specs.Refusals.{odd_in, lawless, sound_in, unlike_in, row_by, in_flight, unsound, refusal_in}

-- ---- 20
module _ (s : Settings) (ts : ℕ) (masters : List ℕ) (e : unstartable s ts masters ≡ false) where
  pub startable-settings : Small s
  unfolding unstartable
  startable-settings = ruly-small s (is_said (unrefused _ _ e).0)

  pub startable-retries : s.retries.0 ≤ 15
  unfolding unstartable
  startable-retries = ruly-retries s (is_said (unrefused _ _ e).0)

  pub startable-ts : ts < 127
  unfolding unstartable
  startable-ts =
      let a = unrefused _ _ e in
      omega (arith, false-less 126 ts (unrefused _ _ a.1).0)

-- ---- 21
pub lent_rows : (q : Queue) (r : Rows) → unlent q r ≡ false → Lent q r.row r.area
unfolding unlent
lent_rows q r e = lent q r.row r.area e

-- ---- 22
roomy : (out first second : ℕ) → cramped out first second ≡ false
    → (255 ≤ out) × ((first ≤ UPDATE) × (second ≤ UPDATE))
unfolding cramped
roomy out first second e =
    let a = unrefused _ _ e in
    let b = unrefused _ _ a.1 in
    let d = unrefused _ _ b.1 in
    (false-less out 255 a.0, (false-less UPDATE first b.0, false-less UPDATE second d.0))

-- ---- 29, by the state alone
pub started-startable : (c : Core) (masters started : List ℕ) → unstarted c masters started ≡ false
    → unstartable c.settings c.ts.0 masters ≡ false
unfolding unstarted
started-startable c masters started e = is_said (unrefused _ _ e).0

started-member : (c : Core) (masters started : List ℕ) → unstarted c masters started ≡ false
    → member started c.ts.0 ≡ true
unfolding unstarted
started-member c masters started e = is_said (not-turned _ (unrefused _ _ e).1)

counted : (high low : Queue) (reply : ℕ) → overcounted high low reply ≡ false
    → (Ruled high) × ((Ruled low) × (reply ≤ 255))
unfolding overcounted
counted high low reply e =
    let a = unrefused _ _ e in
    let b = unrefused _ _ a.1 in
    let d = unrefused _ _ b.1 in
    (ruled high (is_said a.0), (ruled low (is_said b.0), false-less 255 reply d.0))

-- what each phase asks
module _ (p : Phase) (c : Core) (masters : List ℕ) where
  even-awaited : p ≡ Awaited → odd_in p c masters ≡ false → 0 < (queue_of c.doing.served c).unconfirmed
  unfolding odd_in
  even-awaited h e = omega (arith, false_same (queue_of c.doing.served c).unconfirmed 0 (rw h at e))

  even-sdn : p ≡ Sdn → odd_in p c masters ≡ false → 0 < (queue_of c.doing.served c).unconfirmed
  unfolding odd_in
  even-sdn h e = omega (arith, false_same (queue_of c.doing.served c).unconfirmed 0 (rw h at e))

module _ (c : Core) (masters started : List ℕ) (k : Kept) (e : lawless c masters started k ≡ false) where
  lawful-started : unstarted c masters started ≡ false
  unfolding lawless
  lawful-started = is_said (unrefused _ _ e).0

  lawful-counted : overcounted c.high c.low k.length ≡ false
  unfolding lawless
  lawful-counted =
      let a = unrefused _ _ e in
      let b = unrefused _ _ a.1 in
      is_said (unrefused _ _ b.1).0

  pub lawful-phase : odd_in c.doing.phase c masters ≡ false
  unfolding lawless
  lawful-phase =
      let a = unrefused _ _ e in
      let b = unrefused _ _ a.1 in
      (unrefused _ _ b.1).1

  pub lawful : Lawful c
  lawful =
      let s = started-startable c masters started lawful-started in
      let n = counted c.high c.low k.length lawful-counted in
      record {
        settings = startable-settings c.settings c.ts.0 masters s;
        retries = startable-retries c.settings c.ts.0 masters s;
        ts = startable-ts c.settings c.ts.0 masters s;
        high = n.0;
        low = n.1.0;
      }

  -- TS is in the set kept for reset
  pub lawful-kept : member started c.ts.0 ≡ true
  lawful-kept = started-member c masters started lawful-started

  -- the remembered reply
  pub lawful-reply : k.length ≤ 255
  lawful-reply = (counted c.high c.low k.length lawful-counted).1.1

  -- while a request is sent, it is in the queue being served
  pub lawful-awaited : c.doing.phase ≡ Awaited → 0 < (queue_of c.doing.served c).unconfirmed
  lawful-awaited h = even-awaited c.doing.phase c masters h lawful-phase

  pub lawful-sdn : c.doing.phase ≡ Sdn → 0 < (queue_of c.doing.served c).unconfirmed
  lawful-sdn h = even-sdn c.doing.phase c masters h lawful-phase

-- each queue of a lawful core is ruled
pub ruled-of : (c : Core) (p : Priority) → Lawful c → Ruled (queue_of p c)
unfolding queue_of
ruled-of c High l = l.high
ruled-of c Low l = l.low

-- ---- 29, by the records
-- the record in flight as the code comes by it
row-high : (p : Priority) (high low : List ℕ) → p ≡ High → row_by p high low ≡ high
unfolding row_by
row-high p high low h = rw h

row_low : (p : Priority) (high low : List ℕ) → p ≡ Low → row_by p high low ≡ low
unfolding row_by
row_low p high low h = rw h

module _ (c : Core) (high low : List ℕ) {r : Record} {p : ℕ} {q : Queue} (a : q ≡ queue_of c.doing.served c)
    (b : p ≡ current q) where
  pub flight-high : c.doing.served ≡ High → r ≡ at high p → r ≡ in_flight c high low
  unfolding in_flight
  flight-high h e = rw (e, b, a, row-high _ high low h)

  pub flight-low : c.doing.served ≡ Low → r ≡ at low p → r ≡ in_flight c high low
  unfolding in_flight
  flight-low h e = rw (e, b, a, row_low _ high low h)

module _ (c : Core) (high low : List ℕ) (e : unsound c high low ≡ false) where
  sound-high : sound_in c.ts.0 c.high high ≡ true
  unfolding unsound
  sound-high = is_said (granted _ _ e).0

  sound-low : sound_in c.ts.0 c.low low ≡ true
  unfolding unsound
  sound-low =
      let a = granted _ _ e in
      is_said (granted _ _ a.1).0

-- ---- no refusal
module _ (out first second : ℕ) (c : Core) (masters started : List ℕ) (k : Kept) (high low : Rows)
    (e : refusal_in out first second c masters started k high low ≡ 0) where
  tests : (unlent c.high high ≡ false)
      × ((unlent c.low low ≡ false)
      × ((cramped out first second ≡ false)
      × ((lawless c masters started k ≡ false) × (unsound c high.row low.row ≡ false))))
  unfolding refusal_in
  tests =
      let a = passed _ _ _ (omega arith) e in
      let b = passed _ _ _ (omega arith) a.1 in
      let d = passed _ _ _ (omega arith) b.1 in
      let f = passed _ _ _ (omega arith) d.1 in
      let g = passed _ _ _ (omega arith) f.1 in
      (is_said a.0, (is_said b.0, (is_said d.0, (is_said f.0, is_said g.0))))

  not-lawless : lawless c masters started k ≡ false
  not-lawless = tests.1.1.1.0

  not-unsound : unsound c high.row low.row ≡ false
  not-unsound = tests.1.1.1.1

  pub sited : Sited c high low
  sited =
      record {
        core = lawful c masters started k not-lawless;
        lent_high = lent_rows c.high high tests.0;
        lent_low = lent_rows c.low low tests.1.0;
        sound_high = sound-high c high.row low.row not-unsound;
        sound_low = sound-low c high.row low.row not-unsound;
      }

  -- the buffers and the remembered reply
  pub output-long : 255 ≤ out
  output-long = (roomy out first second tests.1.1.0).0

  pub first_short : first ≤ UPDATE
  first_short = (roomy out first second tests.1.1.0).1.0

  pub second_short : second ≤ UPDATE
  second_short = (roomy out first second tests.1.1.0).1.1

  pub reply-short : k.length ≤ 255
  reply-short = lawful-reply c masters started k not-lawless

  -- a request that is being sent is in the queue
  pub awaited-queued : c.doing.phase ≡ Awaited → 0 < (queue_of c.doing.served c).unconfirmed
  awaited-queued h = lawful-awaited c masters started k not-lawless h

  pub sdn-queued : c.doing.phase ≡ Sdn → 0 < (queue_of c.doing.served c).unconfirmed
  sdn-queued h = lawful-sdn c masters started k not-lawless h

-- ---- 29, by the records, whichever is asked first
either_way : (a b : Bool) {u : Bool} → u ≡ true → true ≡ pick (said a) (pick (said b) u true) true
unfolding pick said
either_way true true e = sym e
either_way true false e = refl
either_way false b e = refl

pub unlike-unsound : (c : Core) (high low : List ℕ) → unlike_in c.doing.phase (in_flight c high low).service ≡ true
    → true ≡ unsound c high low
unfolding unsound
unlike-unsound c high low e = either_way (sound_in c.ts.0 c.high high) (sound_in c.ts.0 c.low low) e
