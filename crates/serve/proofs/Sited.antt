-- What is known of a core and its rows stays known when nothing that it speaks of changes; and what is chosen to be
-- served waits. Assumes nothing.
use Prim.Native.Nat.{ℕ, ◌+◌, ◌<◌}
use mathlib.Core.Bool.{Bool, true, false}
use mathlib.Core.Path.{◌≡◌, refl, ap}
use mathlib.Core.List.{List}
use native.Mathlib.Omega.{arith}
use Rattle.choice.specs.Choice.{pick, less, said}
use Rattle.choice.proofs.Rules.{true-less}
use Rattle.frame.specs.declared.Address.{Address}
use Rattle.request.specs.Record.{unfit}
use Rattle.queue.specs.declared.Queue.{Queue}
use Rattle.queue.specs.Queue.{current}
use Rattle.rows.specs.Rows.{at}
use Rattle.rows.proofs.Check.{is-sound}
use Rattle.state.specs.declared.Core.{Core}
use Rattle.state.specs.declared.Choice.{Choice}
use Rattle.state.specs.declared.Choice.TheVariants.{Serve, PassOn}
use Rattle.state.specs.declared.Priority.{Priority}
use Rattle.state.specs.declared.Priority.TheVariants.{High, Low}
use Rattle.state.specs.World.{Rows, queue_of, with_doing, with_hold, with_stranger, with_ps}
use Rattle.state.specs.Request.{record_in}
use Rattle.state.specs.Hold.{choice, left, beginning}
use Rattle.state.specs.Refusals.{Lawful, Sited, Ready, sound_in}

-- ---- the first request of a queue is fit
first : (ts : ℕ) (q : Queue) (row : List ℕ) → sound_in ts q row ≡ true → 0 < q.unconfirmed
    → unfit ts (at row (current q)) (at row (current q)).length ≡ 0
unfolding sound_in current
first ts q row e h =
    let z : q.confirmed + 0 ≡ q.confirmed = omega arith in
    rw z at ((is-sound ts q row e).fit 0 h)

pub ready-high : {c : Core} {high low : Rows} → Sited c high low → 0 < (queue_of High c).unconfirmed → Ready High c high
unfolding queue_of record_in
ready-high s h = record { core = s.core; lent = s.lent_high; some = h; fit = first _ _ _ s.sound_high h }

pub ready-low : {c : Core} {high low : Rows} → Sited c high low → 0 < (queue_of Low c).unconfirmed → Ready Low c low
unfolding queue_of record_in
ready-low s h = record { core = s.core; lent = s.lent_low; some = h; fit = first _ _ _ s.sound_low h }

-- the queue being served has one
pub served-waits : (c : Core) (p : Priority) → c.doing.served ≡ p → 0 < (queue_of c.doing.served c).unconfirmed
    → 0 < (queue_of p c).unconfirmed
served-waits c p e h = omega (arith, ap (λ (x : Priority). (queue_of x c).unconfirmed) e, h)

-- ---- a core that differs in none of what is known of it
pub lawful-ps : {c : Core} (a : Address) → Lawful c → Lawful (with_ps a c)
unfolding with_ps
lawful-ps a l =
    record { settings = l.settings; retries = l.retries; ts = l.ts; high = l.high; low = l.low }

pub sited-ps : {c : Core} {high low : Rows} (a : Address) → Sited c high low → Sited (with_ps a c) high low
unfolding with_ps
sited-ps a s =
    record {
      core = lawful-ps a s.core;
      lent_high = s.lent_high;
      lent_low = s.lent_low;
      sound_high = s.sound_high;
      sound_low = s.sound_low;
    }

lawful-beginning : {c : Core} (clock : ℕ) → Lawful c → Lawful (beginning clock c)
unfolding beginning with_stranger with_hold with_doing
lawful-beginning clock l =
    record { settings = l.settings; retries = l.retries; ts = l.ts; high = l.high; low = l.low }

pub sited-beginning : {c : Core} {high low : Rows} (clock : ℕ) → Sited c high low → Sited (beginning clock c) high low
unfolding beginning with_stranger with_hold with_doing
sited-beginning clock s =
    record {
      core = lawful-beginning clock s.core;
      lent_high = s.lent_high;
      lent_low = s.lent_low;
      sound_high = s.sound_high;
      sound_low = s.sound_low;
    }

-- ---- a queue that is chosen has a request
abbrev waiting : Core → Choice → ℕ
waiting c (Serve p) = (queue_of p c).unconfirmed
waiting c PassOn = 1

waits : (c : Core) (b starts t m : Bool) → less 0 c.high.unconfirmed ≡ b → less 0 c.low.unconfirmed ≡ m
    → 0 < waiting c
    (pick b (pick starts (Serve High) (pick (said t) (Serve High) PassOn))
    (pick (said t) (pick m (Serve Low) PassOn) PassOn))
unfolding pick said queue_of
waits c true true t m e f = true-less _ _ e
waits c true false true m e f = true-less _ _ e
waits c true false false m e f = omega arith
waits c false starts true true e f = true-less _ _ f
waits c false starts true false e f = omega arith
waits c false starts false m e f = omega arith

some : (starts : Bool) (c : Core) (clock : ℕ) → 0 < waiting c (choice starts c clock)
unfolding choice
some starts c clock = waits c _ starts (left c clock) _ refl refl

pub chosen-waits : (starts : Bool) (c : Core) (clock : ℕ) (p : Priority) → Serve p ≡ choice starts c clock
    → 0 < (queue_of p c).unconfirmed
chosen-waits starts c clock p e =
    let h : 0 < waiting c (Serve p) = rw e (some starts c clock) in
    h
