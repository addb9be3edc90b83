-- "The same octets again, up to the retry limit": in a run each request, high or low, is sent at most once more than its
-- own limit says, or the station's if it asked for that, and with the standard settings then at most once. Assumes nothing.
use Prim.Native.Nat.{ℕ, ◌+◌, ◌≤◌, ◌<◌}
use mathlib.Core.Bool.{Bool, true, false, true≢false}
use mathlib.Core.Path.{◌≡◌, refl, sym, ap, ◌∙◌}
use mathlib.Core.List.{List, [], ◌∷◌, ◌++◌}
use native.Mathlib.Omega.{arith}
use Rattle.choice.specs.Choice.{pick, same, both}
use Rattle.choice.proofs.Rules.{pick_true, true_same, both_true}
use Rattle.times.specs.declared.Settings.{Settings}
use Rattle.times.specs.Times.{standard}
use Rattle.request.specs.declared.Record.{Record}
use Rattle.request.specs.Record.{limited}
use Rattle.queue.specs.Queue.{current, take}
use Rattle.rows.specs.Rows.{at, confirm}
use Rattle.state.specs.declared.Priority.{Priority}
use Rattle.state.specs.declared.Priority.TheVariants.{High, Low}
use Rattle.state.specs.World.{Site, World, What, a_request, a_token, a_reply, Event, accepted, begins, ends, sends}
use Rattle.state.specs.World.{confirmed, collected, indicated, resets, refused, done, with_doing}
use Rattle.state.specs.World.{with_hold, with_stranger, with_ps, with_queue, queue_of, with_core, with_masters}
use Rattle.state.specs.World.{with_marks, rows_of, with_rows}
use Rattle.state.specs.Request.{record_in, record_of, sending, send_core, once, close_of}
use Rattle.state.specs.Pass.{pass_core, without}
use Rattle.state.specs.Hold.{resting, rest, beginning, admit}
use Rattle.state.specs.Answering as A
use Rattle.state.specs.Calls.{fresh_core}
use Rattle.state.specs.Runs.{Call, submit, call, run, Begun}
use Rattle.state.specs.Counts.{alike}
use Rattle.state.specs.Twelve.{Does, station, retrying}
use Rattle.state.specs.Retries.{sendings_by, sendings_after, sendings_last, unrepeated, submits, go_by_their_limits}
use Rattle.state.specs.Submitted.{collects, never}
use Rattle.state.proofs.Cases.{Any, any}
use Rattle.state.proofs.Phases.{flight}
use Rattle.state.proofs.Acts.{Point, calm, free, choosing, passing, halting, clearing, Move, lets_go, rests}
use Rattle.state.proofs.Acts.{notes, admits, drops, spares, renews, Act, opens, serves, stops, quits, passes}
use Rattle.state.proofs.Acts.{repasses, repeats, closes, takes, hands, replies, shows, restarts, breaks}
use Rattle.state.proofs.Acts.{clears-high, clears-low, sent_again, grown_by, freed_of}
use Rattle.state.proofs.Keeping.{Account, of_sendings, kept_run}
use Rattle.state.proofs.Standing.{sending-flight, sending-served, sending-once, passing-flight}
use Rattle.state.proofs.Poise.{queue_by, FirmAt, Poised, poise, closing-flight}
use Rattle.state.proofs.Ordered.{poised}
use Rattle.state.proofs.Start.{begun-orderly, begun-marks}
use Rattle.state.proofs.Tally.{grown-current, freed-current}
use Rattle.state.proofs.Tally.{rows_by}
use Rattle.state.proofs.Effects.{queue_at, rows_at, queue-by}
use Rattle.state.proofs.Lasting.{met-beside}
use Rattle.state.proofs.Staying.{itself, pending, held_of, holds}
use Rattle.state.proofs.Submitted.{then, orderly, orderly-then, accepted-there}
use Rattle.state.proofs.Opened.{stations}

-- ---- the station counts what the history has, k: the sendings m of a request while one is being sent (f) and it is this one
-- (e), and none otherwise
record Counted (f e : Bool) (m k : ℕ) : Type 0 where
  is : pick (both f e) m 0 ≡ k

module _ {f : Bool} {m k : ℕ} where
  uncounted : {e : Bool} → f ≡ false → k ≡ 0 → Counted f e m k
  unfolding pick
  uncounted h i = record { is = rw h (sym i) }

  counted_none : {e : Bool} → f ≡ false → Counted f e m k → k ≡ 0
  unfolding pick
  counted_none h i = sym (rw h at i.is)

  -- sent for the first time, and again
  counted-first : {e : Bool} → f ≡ true → m ≡ 1 → k ≡ 0 → Counted f e m (pick e (k + 1) k)
  unfolding pick
  counted-first h i j = record { is = rw (h, i, j) }

  counted-again : (e : Bool) → f ≡ true → Counted f e m k → Counted f e (m + 1) (pick e (k + 1) k)
  unfolding pick
  counted-again true h i = record { is = rw h (ap (λ (x : ℕ). x + 1) (rw h at i.is)) }
  counted-again false h i = record { is = rw h (rw h at i.is) }

  counted-within : {e : Bool} {limit : ℕ} → f ≡ true → e ≡ true → Counted f e m k → m ≤ limit → k ≤ limit
  unfolding pick
  counted-within h j i l = rw (rw (h, j) at i.is) at l

  -- the request being sent is confirmed
  counted-closed : (e : Bool) → f ≡ true → Counted f e m k → pick e 0 k ≡ 0
  unfolding pick
  counted-closed true h i = refl
  counted-closed false h i = sym (rw h at i.is)

closed_none : {k : ℕ} (e : Bool) → k ≡ 0 → pick e 0 k ≡ 0
unfolding pick
closed_none true i = refl
closed_none false i = i

-- ---- submit and collect leave the request that is being sent where it is
current-taken : (y z : Priority) (r : Record) (x : List ℕ) (s : Site)
    → current (queue_at z (grown_by y r x s)) ≡ current (queue_at z s)
unfolding with_rows with_core with_queue queue_of rows_of take queue_by
current-taken High High r x s = grown-current s.core.high
current-taken High Low r x s = refl
current-taken Low High r x s = refl
current-taken Low Low r x s = grown-current s.core.low

current-handed : (t : Settings) (ts : ℕ) (y z : Priority) (s : Site) → FirmAt t ts s
    → 0 < (queue_of y s.core).confirmed → current (queue_at z (freed_of y s)) ≡ current (queue_at z s)
unfolding with_core with_queue queue_of queue_by
current-handed t ts High High s f h = freed-current _ f.high.ruled h
current-handed t ts High Low s f h = refl
current-handed t ts Low High s f h = refl
current-handed t ts Low Low s f h = freed-current _ f.low.ruled h

-- ---- how the request at place n of the queue p stands to the history: it is counted while it is being sent, the first
-- unconfirmed one of the queue that is served
module _ (p : Priority) (n : ℕ) where
  unfoldable Stands : Point → Site → ℕ → Type 0
  Stands calm s k =
      Counted (flight s.core.doing.phase)
      (both (alike p s.core.doing.served) (same n (current (queue_at s.core.doing.served s))))
      s.core.doing.sendings k
  Stands free s k = k ≡ 0
  Stands (choosing starts) s k = k ≡ 0
  Stands passing s k = k ≡ 0
  Stands halting s k = k ≡ 0
  Stands (clearing a b) s k = k ≡ 0

  stands-moved : {a : Point} {s : Site} {b : Point} {s' : Site} → Move Any a s b s' → (k : ℕ) → Stands a s k → Stands b s' k
  unfolding Stands rest admit without with_core with_masters with_doing with_stranger with_ps resting fresh_core flight
  stands-moved (lets_go s e) k i = counted_none (e any) i
  stands-moved (rests s) k i = uncounted refl i
  stands-moved (notes a s e f g h) k i = i
  stands-moved (admits a s e f g) k i = i
  stands-moved (drops s e h) k i = counted_none (ap flight (e any)) i
  stands-moved (spares s e) k i = i
  stands-moved (renews a b masters s e f g) k i = uncounted refl i

  -- the first unconfirmed request of the queue y is sent, sent again and confirmed: it is this one, or not
  abbrev ours : Priority → Site → Bool
  ours y s = both (alike p y) (same n (current (queue_of y s.core)))

  stands-sent : (y : Priority) (service : ℕ) (s : Site) {k : ℕ} → k ≡ 0
      → Counted (flight (sending y service).phase)
      (both (alike p (sending y service).served) (same n (current (queue_at (sending y service).served s))))
      (sending y service).sendings (pick (ours y s) (k + 1) k)
  stands-sent y service s i =
      rw (sending-served y service, ← queue-by y s)
      (counted-first (sending-flight y service) (sending-once y service) i)

  module _ (y : Priority) (s : Site) (k : ℕ) (e : s.core.doing.served ≡ y)
      (h : flight s.core.doing.phase ≡ true) (i : Stands calm s k) where
    ours-is : both (alike p s.core.doing.served) (same n (current (queue_at s.core.doing.served s))) ≡ ours y s
    ours-is = ap (λ (z : Priority). both (alike p z) (same n (current (queue_at z s)))) e ∙ rw (queue-by y s)

    going : Counted (flight s.core.doing.phase) (ours y s) s.core.doing.sendings k
    unfolding Stands
    going = rw ours-is at i

    stands-repeats : Stands calm (sent_again s) (pick (ours y s) (k + 1) k)
    unfolding Stands once with_core with_doing
    stands-repeats = rw ours-is (counted-again _ h going)

  module _ (t : Settings) (ts : ℕ) where
    stands-acted : {a : Point} {s : Site} {b : Point} {s' : Site} {e : Event} → Act Any a s e b s' → (k : ℕ) → Poised t ts a s
        → Stands a s k → Stands b s' (sendings_after p n e k)
    unfolding Stands sendings_after sendings_by send_core pass_core beginning close_of done once with_rows with_marks with_core
        with_queue with_doing with_hold with_stranger queue_of rows_of confirm A.replies flight queue_by
    stands-acted (opens clock s) k g i = i
    stands-acted (serves starts clock y s e) k g i = stands-sent y _ s i
    stands-acted (stops starts clock s e) k g i = i
    stands-acted (quits s) k g i = i
    stands-acted (passes s) k g i = uncounted (passing-flight _ _) i
    stands-acted (repasses s e h) k g i = uncounted (ap flight (e any)) (counted_none (ap flight (e any)) i)
    stands-acted (repeats y s f e h) k g i = stands-repeats y s k f (ap flight (e any)) i
    stands-acted (closes y x o d s f e c) k g i =
        let h = ap flight (e any) ∙ closing-flight (c any) in
        counted-closed _ h (going y s k f h i)
    stands-acted (takes High r x s c e) k g i = rw (current-taken High s.core.doing.served r x s) i
    stands-acted (takes Low r x s c e) k g i = rw (current-taken Low s.core.doing.served r x s) i
    stands-acted (hands High s h) k g i = rw (current-handed t ts High s.core.doing.served s g.firm h) i
    stands-acted (hands Low s h) k g i = rw (current-handed t ts Low s.core.doing.served s g.firm h) i
    stands-acted (replies o s) k g i = i
    stands-acted (shows z h d s) k g i = i
    stands-acted (restarts s) k g i = refl
    stands-acted (breaks s h) k g i = i
    stands-acted (clears-high a b s h) k g i = closed_none _ i
    stands-acted (clears-low a b s h) k g i = closed_none _ i

    stands-refused : (m : ℕ) (s : Site) (k : ℕ) → Stands calm s k → Stands calm s (sendings_after p n (refused m) k)
    unfolding sendings_after
    stands-refused m s k i = i

    last_none : (k : ℕ) → sendings_last p n [] k ≡ k
    unfolding sendings_last
    last_none k = refl

    last_more : (e : Event) (l : List Event) (k : ℕ)
        → sendings_last p n (e ∷ l) k ≡ sendings_last p n l (sendings_after p n e k)
    unfolding sendings_last
    last_more e l k = refl

    abbrev counts : (small : ts ≤ 126) → Account (poise t ts small)
    counts small =
        record {
          History = ℕ;
          after = sendings_after p n;
          after_all = sendings_last p n;
          none = last_none;
          more = last_more;
          Meets = λ e k. Any;
          At = Stands;
          moves = λ m k g i. stands-moved m k i;
          acts = λ m k g i. (any, stands-acted m k g i);
          refuses = λ m s k i. (any, stands-refused m s k i);
        }

  stands-begun : (w : World) → Begun w → Stands calm w.site 0
  unfolding Stands flight
  stands-begun w b = uncounted (ap flight (begun-marks w b).1) refl

-- ---- what is asked of each sending of the request: that it was sent before at most as often as its limit says
unfoldable Goes : Priority → ℕ → ℕ → What → List ℕ → ℕ → ℕ → Type 0
Goes p n limit (a_request q m) o t k = both (alike p q) (same n m) ≡ true → k ≤ limit
Goes p n limit a_token o t k = Any
Goes p n limit a_reply o t k = Any

-- the record of the request that is sent is the one at its place
limit-at : (p y : Priority) (n : ℕ) (s : Site) → ours p n y s ≡ true
    → (record_of y s).limit ≡ (at (rows_at p s).row n).limit
unfolding record_of record_in queue_of rows_of rows_by alike
limit-at High High n s e = ap (λ (m : ℕ). (at s.high.row m).limit) (sym (true_same _ _ (both_true _ _ e).1))
limit-at High Low n s e = absurd (true≢false (sym (both_true _ _ e).0))
limit-at Low High n s e = absurd (true≢false (sym (both_true _ _ e).0))
limit-at Low Low n s e = ap (λ (m : ℕ). (at s.low.row m).limit) (sym (true_same _ _ (both_true _ _ e).1))

module _ (t : Settings) (ts : ℕ) (p : Priority) (n limit : ℕ) where
  goes-acted : {a : Point} {s : Site} {b : Point} {s' : Site} {e : Event} → Act Any a s e b s' → (k : ℕ) → Poised t ts a s
      → Stands p n a s k → (at (rows_at p s).row n).limit ≡ limit → of_sendings (Goes p n limit) e k
  unfolding Stands Goes of_sendings A.replies flight
  goes-acted (opens clock s) k g i z = any
  goes-acted (serves starts clock y s e) k g i z = λ h. omega (arith, i)
  goes-acted (stops starts clock s e) k g i z = any
  goes-acted (quits s) k g i z = any
  goes-acted (passes s) k g i z = any
  goes-acted (repasses s e h) k g i z = any
  goes-acted (repeats y s f e h) k g i z =
      let c = ap flight (e any) in
      λ o. counted-within c o (going p n y s k f c i) (rw (limit-at p y n s o ∙ z) at h)
  goes-acted (closes y x o d s f e c) k g i z = any
  goes-acted (takes High r x s c e) k g i z = any
  goes-acted (takes Low r x s c e) k g i z = any
  goes-acted (hands High s h) k g i z = any
  goes-acted (hands Low s h) k g i z = any
  goes-acted (replies o s) k g i z = any
  goes-acted (shows v h d s) k g i z = any
  goes-acted (restarts s) k g i z = any
  goes-acted (breaks s h) k g i z = any
  goes-acted (clears-high a b s h) k g i z = any
  goes-acted (clears-low a b s h) k g i z = any

  goes-refused : (m k : ℕ) → of_sendings (Goes p n limit) (refused m) k
  unfolding of_sendings
  goes-refused m k = any

-- ---- the more it was sent before some events, the more it was sent after them
more_by : (b : Bool) (j k : ℕ) → j ≤ k → pick b (j + 1) j ≤ pick b (k + 1) k
unfolding pick
more_by true j k h = omega arith
more_by false j k h = h

none-by : (b : Bool) (j k : ℕ) → j ≤ k → pick b 0 j ≤ pick b 0 k
unfolding pick
none-by true j k h = omega arith
none-by false j k h = h

module _ (p : Priority) (n : ℕ) where
  more-sent : (x : What) (j k : ℕ) → j ≤ k → sendings_by p n x j ≤ sendings_by p n x k
  unfolding sendings_by
  more-sent (a_request q m) j k h = more_by _ j k h
  more-sent a_token j k h = h
  more-sent a_reply j k h = h

  more-after : (e : Event) (j k : ℕ) → j ≤ k → sendings_after p n e j ≤ sendings_after p n e k
  unfolding sendings_after
  more-after (accepted q m) j k h = h
  more-after begins j k h = h
  more-after ends j k h = h
  more-after (sends x o t) j k h = more-sent x j k h
  more-after (confirmed q m status count) j k h = none-by _ j k h
  more-after (collected q m r) j k h = h
  more-after (indicated f d) j k h = h
  more-after resets j k h = omega arith
  more-after (refused m) j k h = h

  more-last : (l : List Event) (j k : ℕ) → j ≤ k → sendings_last p n l j ≤ sendings_last p n l k
  unfolding sendings_last
  more-last [] j k h = h
  more-last (e ∷ l) j k h = more-last l _ _ (more-after e j k h)

-- ---- the theorems: after a start and any calls, a request is submitted to the queue p with the record r and the data x,
-- and accepted at place n; then come any calls, until its record is collected
module _ (w : World) (b : Begun w) (before : List Call) (p : Priority) (r : Record) (x : List ℕ) (n : ℕ)
    (e : (call (submit p r x) (run before w).world).events ≡ accepted p n ∷ []) (after : List Call)
    (earlier later : List Event) (o : List ℕ) (t : ℕ)
    (i : (run after (then w b before p r x n e after)).events ≡ earlier ++ (sends (a_request p n) o t ∷ later))
    (j : never (collects p n) earlier ≡ true) where
  abbrev now : World
  now = then w b before p r x n e after

  abbrev limit : ℕ
  limit = b.settings.retries.0

  abbrev account : Account (poise b.settings b.ts (begun-orderly w b).small)
  account = counts p n b.settings b.ts (begun-orderly w b).small

  -- how often one was sent from the place, when it is accepted
  abbrev earliest : ℕ
  earliest =
      sendings_last p n (run (submit p r x ∷ []) (run before w).world).events
      (sendings_last p n (run before w).events 0)

  stands-now : Stands p n calm now.site earliest
  unfolding run
  stands-now =
      let k = kept_run account before w 0 (poised b.settings b.ts w (begun-orderly w b)) (stands-begun p n w b) in
      (kept_run account (submit p r x ∷ []) (run before w).world _
      (poised b.settings b.ts (run before w).world (orderly w b before p r x n e after)) k.at).at

  -- each sending of it, high or low, was sent before at most as often as its own limit says, or the station's if it asked
  -- for that: "the same octets again, up to the retry limit"
  pub retries-within : sendings_last p n earlier 0 ≤ (limited limit r).limit
  unfolding Goes of_sendings limited
  retries-within =
      let a = accepted-there w b before p r x n e after in
      let m = met-beside b.settings b.ts (begun-orderly w b).small p (holds p n b.ts limit r x a.1) account
      (record {
        Meets = of_sendings (Goes p n (limited limit r).limit);
        refusal = goes-refused b.settings b.ts p n (limited limit r).limit;
        meets =
            λ c k g s f. goes-acted b.settings b.ts p n _ c k g s (held_of p n b.ts limit r x f).limits;
      })
      after now (orderly-then w b before p r x n e after) earliest stands-now (pending a.0) earlier later
      (sends (a_request p n) o t) i j in
      let h = m (itself p n) in
      let z = more-last p n earlier 0 earliest (omega arith) in
      omega (arith, h, z)

  -- "climate sensors should not be retried at all": with a limit of 0 it was not sent before
  pub unrepeated-zero : (limited limit r).limit ≡ 0 → sendings_last p n earlier 0 ≡ 0
  unrepeated-zero z = let h = retries-within in omega (arith, h, z)

  -- order 8, "No retries unless asked": with the standard settings, where it asks for the station's limit
  pub standard-unrepeated : b.settings ≡ standard → r.asks ≡ true → sendings_last p n earlier 0 ≡ 0
  unfolding standard limited
  standard-unrepeated s a = unrepeated-zero (pick_true _ _ a ∙ ap (λ (c : Settings). c.retries.0) s)

-- ---- and a request whose slot expires is confirmed NA, with count 1
pub lost-unrepeated : (points : List ℕ) (clock : ℕ)
    → Does (unrepeated clock) (station standard 2 (2 ∷ (5 ∷ [])) points)
unfolding stations unrepeated
lost-unrepeated points clock = record { each = refl; whole = refl }

-- ---- requests with limits of their own, with their references
pub own-limits : (points : List ℕ) → Does (submits ++ go_by_their_limits) (station (retrying 1) 2 (2 ∷ (5 ∷ [])) points)
unfolding stations submits go_by_their_limits
own-limits points = record { each = refl; whole = refl }
