-- What each act makes of one queue and its rows: it leaves them, takes a request, confirms the first unconfirmed one,
-- or frees the first place; with what it tells of that queue. Assumes nothing.
use Prim.Native.Nat.{ℕ, ◌+◌, ◌<◌, ◌≤◌}
use mathlib.Core.Bool.{Bool, false}
use mathlib.Core.Path.{◌≡◌, refl, ap, ◌∙◌}
use mathlib.Core.List.{List, []}
use native.Mathlib.Omega.{arith}
use lib.ListN.{length}
use Rattle.times.specs.declared.Settings.{Settings}
use Rattle.frame.specs.declared.Address.{Address}
use Rattle.request.specs.declared.Record.{Record}
use Rattle.request.specs.Record.{DS}
use Rattle.request.proofs.Laws.{fit-short}
use Rattle.queue.specs.declared.Queue.{Queue}
use Rattle.queue.specs.Queue as Q
use Rattle.queue.specs.Queue.{AREA, place, current, grown, freed, take}
use Rattle.queue.proofs.Laws.{Accepted}
use Rattle.rows.specs.Rows.{at, put, fill, confirm}
use Rattle.state.specs.declared.Priority.{Priority}
use Rattle.state.specs.declared.Priority.TheVariants.{High, Low}
use Rattle.state.specs.declared.Choice.TheVariants.{Serve}
use Rattle.state.specs.declared.Outcome.{Outcome}
use Rattle.state.specs.World.{Rows, Site, What, a_request, a_token, a_reply, Event, accepted, begins, ends, sends}
use Rattle.state.specs.World.{confirmed, collected, indicated, resets, refused, done, with_doing, with_hold}
use Rattle.state.specs.World.{with_stranger, with_ps, with_queue, queue_of, with_core, with_masters, with_marks}
use Rattle.state.specs.World.{rows_of, with_rows}
use Rattle.state.specs.Request.{octets_in, send_core, once, status_of, close_of}
use Rattle.state.specs.Pass.{pass_core, without}
use Rattle.state.specs.Hold.{choice, rest, beginning, admit}
use Rattle.state.specs.Answering as A
use Rattle.state.specs.Calls.{fresh_core}
use Rattle.state.specs.Counts.{alike}
use Rattle.state.proofs.Cases.{Any, any}
use Rattle.state.proofs.Phases.{flight}
use Rattle.state.proofs.Choices.{saw-high, saw-low}
use Rattle.state.proofs.Acts.{Point, Move, lets_go, rests, notes, admits, drops}
use Rattle.state.proofs.Acts.{spares, renews, Act, opens, serves, stops, quits, passes, repasses, repeats}
use Rattle.state.proofs.Acts.{closes, takes, hands, replies, shows, restarts, breaks, clears-high, clears-low}
use Rattle.state.proofs.Acts.{octets_of, grown_by, freed_of, filled, dismissing}
use Rattle.state.proofs.Poise.{queue_by, Poised, poised-apt, served-some, closing-short, closing-flight}
use Rattle.state.proofs.Tally.{rows_by}

-- whether an event is about a request of the queue y
unfoldable pub about_what : Priority → What → Bool
about_what y (a_request q n) = alike y q
about_what y a_token = false
about_what y a_reply = false

unfoldable pub about : Priority → Event → Bool
about y (accepted q n) = alike y q
about y begins = false
about y ends = false
about y (sends x o t) = about_what y x
about y (confirmed q n status k) = alike y q
about y (collected q n r) = alike y q
about y (indicated h d) = false
about y resets = false
about y (refused n) = false

-- what is left of the rows u where the queue q takes a request, and where it confirms one
abbrev pub taken_by : Queue → Rows → Record → List ℕ → Rows
taken_by q u r x =
    record {
      row = put u.row (place q (q.confirmed + q.unconfirmed)) (Q.waiting r (length x));
      area = fill u.area (place q (q.confirmed + q.unconfirmed)) x;
    }

abbrev pub closed_by : Queue → Rows → ℕ → ℕ → List ℕ → Rows
closed_by q u status k x =
    record {
      row = (confirm q status k x u.row u.area).row;
      area = (confirm q status k x u.row u.area).area;
    }

pub data Effect (y : Priority) (ts : Address) (q : Queue) (u : Rows) : Event → Queue → Rows → Type 0 where
  spared : (e : Event) → about y e ≡ false → Effect y ts q u e q u
  sent : (marks : List ℕ) (t : ℕ) → 0 < q.unconfirmed
      → Effect y ts q u (sends (a_request y (current q)) (octets_in ts y q marks u) t) q u
  taken : (r : Record) (x : List ℕ) → q.confirmed + q.unconfirmed < q.places → length x ≤ AREA
      → Effect y ts q u (accepted y (place q (q.confirmed + q.unconfirmed))) (grown q) (taken_by q u r x)
  shut : (status k : ℕ) (x : List ℕ) → 0 < q.unconfirmed → length x ≤ AREA
      → Effect y ts q u (confirmed y (current q) status k) (Q.confirmed q) (closed_by q u status k x)
  handed : 0 < q.confirmed → Effect y ts q u (collected y q.first (at u.row q.first)) (freed q) u

-- a queue of the site with its rows
abbrev pub queue_at : Priority → Site → Queue
queue_at y s = queue_by y s.core.high s.core.low

abbrev pub rows_at : Priority → Site → Rows
rows_at y s = rows_by y s.high s.low

pub queue-by : (y : Priority) (s : Site) → queue_at y s ≡ queue_of y s.core
unfolding queue_by queue_of
queue-by High s = refl
queue-by Low s = refl

pub rows-by : (y : Priority) (s : Site) → rows_at y s ≡ rows_of y s
unfolding rows_by rows_of
rows-by High s = refl
rows-by Low s = refl

abbrev pub EffectAt : Priority → Site → Event → Site → Type 0
EffectAt y s e s' = Effect y s.core.ts (queue_at y s) (rows_at y s) e (queue_at y s') (rows_at y s')

-- ---- moves leave both
pub record Left (y : Priority) (s s' : Site) : Type 0 where
  pub queue : queue_at y s' ≡ queue_at y s
  pub rows : rows_at y s' ≡ rows_at y s

pub left-moved : (y : Priority) {p : Point} {s : Site} {q : Point} {s' : Site} → Move Any p s q s' → Left y s s'
unfolding rest admit without with_core with_masters with_doing with_stranger with_ps fresh_core
left-moved y (lets_go s h) = record { queue = refl; rows = refl }
left-moved y (rests s) = record { queue = refl; rows = refl }
left-moved y (notes a s h i j k) = record { queue = refl; rows = refl }
left-moved y (admits a s h i j) = record { queue = refl; rows = refl }
left-moved y (drops s e h) = record { queue = refl; rows = refl }
left-moved y (spares s h) = record { queue = refl; rows = refl }
left-moved y (renews a b masters s h i j) = record { queue = refl; rows = refl }

-- ---- acts on the queue itself, and on the other
effect-sent : (y z : Priority) (s : Site) (t : ℕ) → 0 < (queue_at z s).unconfirmed
    → Effect y s.core.ts (queue_at y s) (rows_at y s)
    (sends (a_request z (current (queue_of z s.core))) (octets_of z s) t) (queue_at y s) (rows_at y s)
unfolding queue_by rows_by queue_of rows_of about about_what alike
effect-sent High High s t h = sent s.marks t h
effect-sent High Low s t h = spared _ refl
effect-sent Low High s t h = spared _ refl
effect-sent Low Low s t h = sent s.marks t h

effect-closed : (y z : Priority) (o : Outcome) (x : List ℕ) (s : Site) → 0 < (queue_at z s).unconfirmed
    → length x ≤ AREA
    → EffectAt y s (confirmed z (current (queue_of z s.core)) (status_of o) s.core.doing.sendings)
    (close_of z o x s).site
unfolding queue_by rows_by queue_of rows_of about alike close_of done with_rows with_marks with_core with_queue confirm
effect-closed High High o x s h l = shut _ _ x h l
effect-closed High Low o x s h l = spared _ refl
effect-closed Low High o x s h l = spared _ refl
effect-closed Low Low o x s h l = shut _ _ x h l

effect-taken : (y z : Priority) (r : Record) (x : List ℕ) (s : Site)
    → Accepted s.core.ts.0 (queue_of z s.core) r (length x)
    → EffectAt y s (accepted z (take (queue_of z s.core) r (length x)).place) (grown_by z r x s)
unfolding queue_by rows_by queue_of rows_of about alike with_rows with_core with_queue take
effect-taken High High r x s a = taken r x a.room (omega (arith, fit-short _ r _ a.fit))
effect-taken High Low r x s a = spared _ refl
effect-taken Low High r x s a = spared _ refl
effect-taken Low Low r x s a = taken r x a.room (omega (arith, fit-short _ r _ a.fit))

effect-handed : (y z : Priority) (s : Site) → 0 < (queue_of z s.core).confirmed
    → EffectAt y s
    (collected z (queue_of z s.core).first (at (rows_of z s).row (queue_of z s.core).first)) (freed_of z s)
unfolding queue_by rows_by queue_of rows_of about alike with_core with_queue
effect-handed High High s h = handed h
effect-handed High Low s h = spared _ refl
effect-handed Low High s h = spared _ refl
effect-handed Low Low s h = handed h

effect-high : (y : Priority) (a : ℕ) (s : Site) → 0 < s.core.high.unconfirmed
    → EffectAt y s (confirmed High (current s.core.high) DS a) (filled High (dismissing High a s) s)
unfolding queue_by rows_by queue_of rows_of about alike with_rows with_core with_queue confirm
effect-high High a s h = shut DS a [] h (omega arith)
effect-high Low a s h = spared _ refl

effect-low : (y : Priority) (a : ℕ) (s : Site) → 0 < s.core.low.unconfirmed
    → EffectAt y s (confirmed Low (current s.core.low) DS a) (filled Low (dismissing Low a s) s)
unfolding queue_by rows_by queue_of rows_of about alike with_rows with_core with_queue confirm
effect-low High a s h = spared _ refl
effect-low Low a s h = shut DS a [] h (omega arith)

-- a choice to serve a queue saw a request in it
saw : (starts : Bool) (clock : ℕ) (y : Priority) (s : Site)
    → choice starts s.core clock ≡ Serve y → 0 < (queue_at y s).unconfirmed
unfolding queue_by
saw starts clock High s e = saw-high starts _ clock e
saw starts clock Low s e = (saw-low starts _ clock e).0

-- ---- every act
module _ (t : Settings) (ts : ℕ) (y : Priority) where
  pub effect-acted : {p : Point} {s : Site} {q : Point} {s' : Site} {e : Event} → Act Any p s e q s' → Poised t ts p s
      → EffectAt y s e s'
  unfolding about about_what pass_core send_core beginning once with_core with_doing with_hold with_stranger flight A.replies
  effect-acted (opens clock s) g = spared _ refl
  effect-acted (serves starts clock z s e) g = effect-sent y z s _ (saw starts clock z s e)
  effect-acted (stops starts clock s e) g = spared _ refl
  effect-acted (quits s) g = spared _ refl
  effect-acted (passes s) g = spared _ refl
  effect-acted (repasses s e h) g = spared _ refl
  effect-acted (repeats z s i e h) g = effect-sent y z s _ (served-some z s i (ap flight (e any)) (poised-apt g))
  effect-acted (closes z p o x s i e c) g =
      effect-closed y z o x s (served-some z s i (ap flight (e any) ∙ closing-flight (c any)) (poised-apt g))
      (closing-short (c any))
  effect-acted (takes z r x s h e) g = effect-taken y z r x s h
  effect-acted (hands z s h) g = effect-handed y z s h
  effect-acted (replies o s) g = spared _ refl
  effect-acted (shows k h d s) g = spared _ refl
  effect-acted (restarts s) g = spared _ refl
  effect-acted (breaks s h) g = spared _ refl
  effect-acted (clears-high a b s h) g = effect-high y a s h
  effect-acted (clears-low a b s h) g = effect-low y b s h
