-- Document 01, "Hold": a token begins a hold or does not, the time that is left, and the choice of what is sent; then
-- what follows a request's end. Assumes nothing.
use Rattle.std.specs.Prelude.{ℕ, ◌+◌, Bool, true, false, List, [], ◌∷◌}
use Rattle.choice.specs.Choice.{pick, less, same, said}
use Rattle.clock.specs.Clock.{time_left}
use Rattle.ring.specs.Ring.{enter}
use Rattle.state.specs.declared.Phase.TheVariants.{Idle}
use Rattle.state.specs.declared.Priority.TheVariants.{High, Low}
use Rattle.state.specs.declared.Doing.{Doing}
use Rattle.state.specs.declared.Hold.{Hold}
use Rattle.state.specs.declared.Core.{Core}
use Rattle.state.specs.declared.Choice.{Choice}
use Rattle.state.specs.declared.Choice.TheVariants.{Serve, PassOn}
use Rattle.state.specs.declared.Outcome.{Outcome}
use Rattle.state.specs.declared.Outcome.TheVariants.{Replied, Lost}
use Rattle.state.specs.declared.Verdict.{Verdict}
use Rattle.state.specs.declared.Verdict.TheVariants.{Plausible, Vain, Foreign}
use Rattle.state.specs.World.{Site, Done, begins, ends, still, done, and_then, with_doing, with_hold, with_stranger}
use Rattle.state.specs.World.{with_ps, with_core, with_masters}
use Rattle.state.specs.Request.{record_of, send, again, close}
use Rattle.state.specs.Pass.{pass}

-- no station: the stranger when no first token is remembered
abbrev pub NOBODY : ℕ
NOBODY = 127

-- "Time is left while (clock - the acceptance before this hold's) modulo 2^32 is below TTR; the first hold after
-- start or reset has no time left"
unfoldable pub left : Core → ℕ → Bool
left c clock =
    pick (less 1 c.hold.begun) (time_left clock c.hold.before.0 c.settings.ttr.0) false

-- "At the start of a hold the first high request is sent if there is one, even with no time left. Otherwise, and at
-- each later choice: with time left, the first high, else the first low; else the token is passed"
unfoldable pub choice : Bool → Core → ℕ → Choice
choice starts c clock =
    pick (less 0 c.high.unconfirmed)
    (pick starts (Serve High) (pick (said (left c clock)) (Serve High) PassOn))
    (pick (said (left c clock)) (pick (less 0 c.low.unconfirmed) (Serve Low) PassOn) PassOn)

-- the hold is over, and the token is passed
unfoldable pub finish : Site → Done
finish s = and_then (done s (ends ∷ [])) pass

unfoldable pub chosen : Choice → Site → Done
chosen (Serve p) s = send p s
chosen PassOn s = finish s

unfoldable pub choose : Bool → ℕ → Site → Done
choose starts clock s = chosen (choice starts s.core clock) s

-- "The acceptance is the clock of the call that begins the hold"
unfoldable pub accepting : ℕ → Hold → Hold
accepting clock h =
    record {
      acceptance = record { 0 = clock };
      before = h.acceptance;
      begun = pick (less h.begun 2) (h.begun + 1) 2;
    }

-- nothing is being sent
unfoldable pub resting : Doing → Doing
resting d = record { phase = Idle; served = d.served; sendings = 0; sdn = false }

unfoldable pub rest : Site → Site
rest s = with_core (with_doing (resting s.core.doing) s.core) s

-- a hold begins; a first token is forgotten
unfoldable pub beginning : ℕ → Core → Core
beginning clock c =
    with_stranger (record { 0 = NOBODY }) (with_hold (accepting clock c.hold) (with_doing (resting c.doing) c))

unfoldable pub begin : ℕ → Site → Done
begin clock s = and_then (done (with_core (beginning clock s.core) s) (begins ∷ [])) (choose true clock)

-- "begins a hold, makes it PS and enters it in the ring"
unfoldable pub admit : ℕ → Site → Site
admit a s =
    with_core (with_ps (record { 0 = a }) s.core) (with_masters (enter s.masters a) s)

-- "A token to TS from PS begins a hold. From another station it is ignored the first time; a second token to TS from
-- that same station, with none to TS from a third (PS included) between, begins a hold .. SA = TS is ignored"
unfoldable pub token : ℕ → ℕ → ℕ → Site → Done
token clock d a s =
    pick (same d s.core.ts.0)
    (pick (same a s.core.ts.0) (still s)
    (pick (same a s.core.ps.0) (begin clock s)
    (pick (same a s.core.stranger.0) (begin clock (admit a s))
    (still (with_core (with_stranger (record { 0 = a }) s.core) s)))))
    (still s)

-- ---- the end of a request
-- it is confirmed, and the hold goes on
unfoldable pub ended : Outcome → List ℕ → ℕ → Site → Done
ended o x clock s = and_then (close o x s) (choose false clock)

-- "A refused frame, any other reply, or slot expiry: the same octets again, up to the retry limit; then confirmation
-- NA and the mark unknown"; of order 6: up to "the record's own limit"
unfoldable pub retry : ℕ → Site → Done
retry clock s =
    pick (less (record_of s.core.doing.served s).limit s.core.doing.sendings) (ended Lost [] clock s) (again s)

-- "A request or token frame: NA, mark unknown, hold over, Idle; that frame has no other effect"
unfoldable pub over : Site → Done
over s = done (rest s) (ends ∷ [])

unfoldable pub given_up : Site → Done
given_up s = and_then (close Lost [] s) over

unfoldable pub concluded : ℕ → List ℕ → Verdict → Site → Done
concluded clock x (Plausible n) s = ended (Replied n) x clock s
concluded clock x Vain s = retry clock s
concluded clock x Foreign s = given_up s
