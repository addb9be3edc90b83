-- What can happen in a call, a thing at a time: moves, which tell nothing, acts, which tell one event, and trails of
-- both. Each carries what the rules saw. Every theorem about runs is shown of these. Assumes nothing.
use Prim.Native.Nat.{ℕ, ◌≤◌, ◌<◌}
use mathlib.Core.Bool.{Bool, true, false}
use mathlib.Core.Path.{◌≡◌}
use mathlib.Core.List.{List, [], ◌∷◌}
use lib.ListN.{length, replicate}
use Rattle.frame.specs.declared.Head.{Head}
use Rattle.frame.specs.declared.Part.{Part}
use Rattle.ring.specs.Ring.{member}
use Rattle.request.specs.declared.Record.{Record}
use Rattle.request.specs.Record.{NA, DS, named}
use Rattle.queue.specs.declared.Queue.{Queue}
use Rattle.queue.specs.Queue.{Taken}
use Rattle.queue.specs.Queue.{AREA, current, freed}
use Rattle.queue.proofs.Laws.{Accepted}
use Rattle.rows.specs.Rows.{Left, left, at, confirm, submitted}
use Rattle.rows.proofs.Submitted.{took}
use Rattle.times.specs.declared.Sending.TheVariants.{Other}
use Rattle.state.specs.declared.Phase.{Phase}
use Rattle.state.specs.declared.Phase.TheVariants.{Awaited, Sdn, Check}
use Rattle.state.specs.declared.Priority.{Priority}
use Rattle.state.specs.declared.Priority.TheVariants.{High, Low}
use Rattle.state.specs.declared.Choice.TheVariants.{Serve, PassOn}
use Rattle.state.specs.declared.Outcome.{Outcome}
use Rattle.state.specs.declared.Outcome.TheVariants.{Replied, Lost, Gone}
use Rattle.state.specs.World.{Site, Event, accepted, begins, ends, sends, confirmed, collected, indicated}
use Rattle.state.specs.World.{resets, a_request, a_token, with_doing, with_stranger, with_queue, queue_of, with_core}
use Rattle.state.specs.World.{rows_of, with_rows}
use Rattle.state.specs.Request.{UNKNOWN, octets_in, record_of, after_last, wait_for, send_core, once, status_of, close_of}
use Rattle.state.specs.Pass.{ns, token_to, pass_core, without}
use Rattle.state.specs.Hold.{choice, rest, beginning, admit}
use Rattle.state.specs.Answering as A
use Rattle.state.specs.Calls.{responder, count_of, fresh_core}
use Rattle.state.proofs.Phases.{flight}

-- where a call stands between two of them
pub data Point : Type 0 where
  -- between calls: the phase says what is being sent
  calm : Point
  -- nothing is being sent, and the phase no longer counts
  free : Point
  -- in a hold, before a choice: at its start, or after a request's end
  choosing : Bool → Point
  -- the token is to be passed
  passing : Point
  -- in a reset: a hold that is on is to be ended; then both queues are emptied, their firsts with these counts
  halting : Point
  clearing : ℕ → ℕ → Point

-- how the request being sent ends, by the phase it is sent in, and the data of its reply
pub data Closing : Phase → Outcome → List ℕ → Type 0 where
  replied : (n : ℕ) (x : List ℕ) → named n ≡ true → n < NA → length x ≤ AREA → Closing Awaited (Replied n) x
  lost : Closing Awaited Lost []
  gone : Closing Sdn Gone []

-- ---- what a site becomes
abbrev pub noted : ℕ → Site → Site
noted a s = with_core (with_stranger (record { 0 = a }) s.core) s

abbrev pub sent_again : Site → Site
sent_again s = with_core (with_doing (once s.core.doing) s.core) s

-- a queue and its rows are another
abbrev pub filled : Priority → Left Queue → Site → Site
filled y l s = with_rows y (record { row = l.row; area = l.area }) (with_core (with_queue y l.answer s.core) s)

abbrev pub taking : Priority → Record → List ℕ → Site → Left Taken
taking y r x s = took (queue_of y s.core) r x (rows_of y s).row (rows_of y s).area

abbrev pub dismissing : Priority → ℕ → Site → Left Queue
dismissing y n s = confirm (queue_of y s.core) DS n [] (rows_of y s).row (rows_of y s).area

abbrev pub anew : List ℕ → Site → Site
anew masters s =
    record {
      core = fresh_core s.core.settings s.core.ts.0 masters s.core.high s.core.low;
      masters = masters;
      marks = replicate 127 UNKNOWN;
      high = s.high;
      low = s.low;
    }

abbrev pub octets_of : Priority → Site → List ℕ
octets_of y s = octets_in s.core.ts y (queue_of y s.core) s.marks (rows_of y s)

-- what is told of a sending: of a request, for the first time and again, and of the token
abbrev pub first_sending : Priority → Site → Event
first_sending y s =
    sends (a_request y (current (queue_of y s.core))) (octets_of y s) (wait_for s.core (after_last s.core))

abbrev pub next_sending : Priority → Site → Event
next_sending y s = sends (a_request y (current (queue_of y s.core))) (octets_of y s) (wait_for s.core Other)

abbrev pub closing : Priority → Outcome → Site → Event
closing y o s = confirmed y (current (queue_of y s.core)) (status_of o) s.core.doing.sendings

abbrev pub sent : Priority → Site → Site
sent y s = with_core (send_core y s.core (rows_of y s)) s

abbrev pub grown_by : Priority → Record → List ℕ → Site → Site
grown_by y r x s = filled y (left (taking y r x s).answer.queue (taking y r x s).row (taking y r x s).area) s

abbrev pub freed_of : Priority → Site → Site
freed_of y s = with_core (with_queue y (freed (queue_of y s.core)) s.core) s

-- ---- moves; k is what makes known what the rules do not test: that the phase fits the call, and what was read
pub data Move (k : Type 0) : Point → Site → Point → Site → Type 0 where
  lets_go : (s : Site) → (k → flight s.core.doing.phase ≡ false) → Move k calm s free s
  rests : (s : Site) → Move k free s calm (rest s)
  notes : (a : ℕ) (s : Site) → (k → a ≤ 126) → (a ≡ s.core.ts.0 → ⊥) → (a ≡ s.core.ps.0 → ⊥)
      → (a ≡ s.core.stranger.0 → ⊥) → Move k calm s calm (noted a s)
  admits : (a : ℕ) (s : Site) → (k → a ≤ 126) → (a ≡ s.core.ts.0 → ⊥) → a ≡ s.core.stranger.0
      → Move k free s free (admit a s)
  drops : (s : Site) → (k → s.core.doing.phase ≡ Check) → 3 ≤ s.core.doing.sendings
      → Move k calm s passing (without s)
  spares : (s : Site) → flight s.core.doing.phase ≡ false
      → Move k halting s (clearing (count_of High s.core) (count_of Low s.core)) s
  renews : (a b : ℕ) (masters : List ℕ) (s : Site) → (k → member masters s.core.ts.0 ≡ true)
      → s.core.high.unconfirmed ≡ 0 → s.core.low.unconfirmed ≡ 0
      → Move k (clearing a b) s calm (anew masters s)

-- ---- acts
pub data Act (k : Type 0) : Point → Site → Event → Point → Site → Type 0 where
  opens : (clock : ℕ) (s : Site) → Act k free s begins (choosing true) (with_core (beginning clock s.core) s)
  serves : (starts : Bool) (clock : ℕ) (y : Priority) (s : Site) → choice starts s.core clock ≡ Serve y
      → Act k (choosing starts) s (first_sending y s) calm (sent y s)
  stops : (starts : Bool) (clock : ℕ) (s : Site) → choice starts s.core clock ≡ PassOn
      → Act k (choosing starts) s ends passing s
  quits : (s : Site) → Act k (choosing false) s ends free s
  passes : (s : Site)
      → Act k passing s (sends a_token (token_to (ns s) s.core) (wait_for s.core (after_last s.core))) calm
      (with_core (pass_core (ns s) s.core) s)
  repasses : (s : Site) → (k → s.core.doing.phase ≡ Check) → s.core.doing.sendings < 3
      → Act k calm s (sends a_token (token_to (ns s) s.core) (wait_for s.core Other)) calm (sent_again s)
  repeats : (y : Priority) (s : Site) → s.core.doing.served ≡ y → (k → s.core.doing.phase ≡ Awaited)
      → s.core.doing.sendings ≤ (record_of y s).limit → Act k calm s (next_sending y s) calm (sent_again s)
  closes : (y : Priority) (p : Phase) (o : Outcome) (x : List ℕ) (s : Site) → s.core.doing.served ≡ y
      → (k → s.core.doing.phase ≡ p) → (k → Closing p o x)
      → Act k calm s (closing y o s) (choosing false) (close_of y o x s).site
  takes : (y : Priority) (r : Record) (x : List ℕ) (s : Site)
      → Accepted s.core.ts.0 (queue_of y s.core) r (length x)
      → taking y r x s ≡ submitted s.core.ts.0 (queue_of y s.core) r x (rows_of y s).row (rows_of y s).area
      → Act k calm s (accepted y (taking y r x s).answer.place) calm (grown_by y r x s)
  hands : (y : Priority) (s : Site) → 0 < (queue_of y s.core).confirmed
      → Act k calm s (collected y (queue_of y s.core).first (at (rows_of y s).row (queue_of y s.core).first))
      calm (freed_of y s)
  replies : (o : List ℕ) (s : Site) → Act k calm s (A.replies (responder s.core) o) calm s
  shows : k → (h : Head) (d : Part) (s : Site) → Act k calm s (indicated h d) calm s
  restarts : (s : Site) → Act k calm s resets halting s
  breaks : (s : Site) → flight s.core.doing.phase ≡ true
      → Act k halting s ends (clearing (count_of High s.core) (count_of Low s.core)) s
  clears-high : (a b : ℕ) (s : Site) → 0 < s.core.high.unconfirmed
      → Act k (clearing a b) s (confirmed High (current s.core.high) DS a) (clearing 0 b)
      (filled High (dismissing High a s) s)
  clears-low : (a b : ℕ) (s : Site) → 0 < s.core.low.unconfirmed
      → Act k (clearing a b) s (confirmed Low (current s.core.low) DS b) (clearing a 0)
      (filled Low (dismissing Low b s) s)

-- ---- moves and acts in a row
pub data Trail (k : Type 0) : Point → Site → List Event → Point → Site → Type 0 where
  stop : {p : Point} {s : Site} → Trail k p s [] p s
  move : {p q r : Point} {s t u : Site} {l : List Event} → Move k p s q t → Trail k q t l r u → Trail k p s l r u
  act : {p q r : Point} {s t u : Site} {e : Event} {l : List Event} → Act k p s e q t → Trail k q t l r u
      → Trail k p s (e ∷ l) r u
