-- The requests of each queue are confirmed in the order in which they were accepted. Assumes nothing.
use Prim.Native.Nat.{ℕ, ◌+◌, ◌≤◌, ◌<◌}
use mathlib.Core.Path.{◌≡◌, refl, sym, ap, ◌∙◌}
use mathlib.Core.List.{List, [], ◌∷◌, ◌++◌, append_assoc, append-nil}
use Rattle.times.specs.declared.Settings.{Settings}
use Rattle.queue.specs.declared.Queue.{Queue}
use Rattle.queue.specs.Queue as Q
use Rattle.queue.specs.Queue.{Ruled, place, current, grown, freed, take}
use Rattle.rows.specs.Rows.{confirm}
use Rattle.state.specs.declared.Priority.{Priority}
use Rattle.state.specs.declared.Priority.TheVariants.{High, Low}
use Rattle.state.specs.World.{Site, World, Event, accepted, confirmed, refused, done, with_doing, with_hold}
use Rattle.state.specs.World.{with_stranger, with_ps, with_queue, queue_of, with_core, with_masters, with_marks}
use Rattle.state.specs.World.{rows_of, with_rows}
use Rattle.state.specs.Request.{send_core, close_of}
use Rattle.state.specs.Pass.{pass_core, without}
use Rattle.state.specs.Hold.{rest, beginning, admit}
use Rattle.state.specs.Answering as A
use Rattle.state.specs.Calls.{empty_queue, fresh_core}
use Rattle.state.specs.Runs.{Call, run, Begun}
use Rattle.state.proofs.Cases.{Any, any}
use Rattle.state.proofs.Phases.{flight}
use Rattle.state.proofs.Acts.{Point, Move, lets_go, rests, notes, admits, drops, spares, renews, Act, opens}
use Rattle.state.proofs.Acts.{serves, stops, quits, passes, repasses, repeats, closes, takes, hands, replies}
use Rattle.state.proofs.Acts.{shows, restarts, breaks, clears-high, clears-low}
use Rattle.state.proofs.Keeping.{Account, kept_run}
use Rattle.state.proofs.Poise.{queue_by, Poised, poised-apt, poise, served-some, closing-flight}
use Rattle.state.proofs.Order.{queue-by}
use Rattle.state.proofs.Ordered.{poised}
use Rattle.state.proofs.Start.{begun-orderly, begun-queues}
use Rattle.state.proofs.Turns.{acceptances, confirmations, places_from, line, line-grown, line-confirmed}
use Rattle.state.proofs.Turns.{line-freed, Turns, turns_then, mute, turns-mute, turns-confirmed}
use Rattle.state.proofs.Turns.{turns-accepted, turns-other-confirmed, turns-other-accepted, other}

-- ---- one confirmation, one acceptance, of a queue or of the other
module _ (h l : Queue) where
  high-confirmed : (y : Priority) (s k : ℕ) → 0 < h.unconfirmed
      → Turns y (line (queue_by y h l)) (confirmed High (current h) s k ∷ []) (line (queue_by y (Q.confirmed h) l))
  unfolding queue_by other
  high-confirmed High s k i = rw (line-confirmed h i) (turns-confirmed High _ _ _ _)
  high-confirmed Low s k i = turns-other-confirmed Low _ _ _ _

  low-confirmed : (y : Priority) (s k : ℕ) → 0 < l.unconfirmed
      → Turns y (line (queue_by y h l)) (confirmed Low (current l) s k ∷ []) (line (queue_by y h (Q.confirmed l)))
  unfolding queue_by other
  low-confirmed High s k i = turns-other-confirmed High _ _ _ _
  low-confirmed Low s k i = rw (line-confirmed l i) (turns-confirmed Low _ _ _ _)

  high-accepted : (y : Priority)
      → Turns y (line (queue_by y h l)) (accepted High (place h (h.confirmed + h.unconfirmed)) ∷ [])
      (line (queue_by y (grown h) l))
  unfolding queue_by other
  high-accepted High = rw (line-grown h) (turns-accepted High _ _)
  high-accepted Low = turns-other-accepted Low _ _

  low-accepted : (y : Priority)
      → Turns y (line (queue_by y h l)) (accepted Low (place l (l.confirmed + l.unconfirmed)) ∷ [])
      (line (queue_by y h (grown l)))
  unfolding queue_by other
  low-accepted High = turns-other-accepted High _ _
  low-accepted Low = rw (line-grown l) (turns-accepted Low _ _)

  high-freed : (y : Priority) → Ruled h → 0 < h.confirmed → line (queue_by y (freed h) l) ≡ line (queue_by y h l)
  unfolding queue_by
  high-freed High u i = line-freed h u i
  high-freed Low u i = refl

  low-freed : (y : Priority) → Ruled l → 0 < l.confirmed → line (queue_by y h (freed l)) ≡ line (queue_by y h l)
  unfolding queue_by
  low-freed High u i = refl
  low-freed Low u i = line-freed l u i

module _ (y : Priority) (t : Settings) (ts : ℕ) (small : ts ≤ 126) where
  abbrev line_at : Site → List ℕ
  line_at s = line (queue_by y s.core.high s.core.low)

  -- ---- moves leave both queues
  lined_moved : {p : Point} {s : Site} {q : Point} {s' : Site} → Move Any p s q s' → line_at s' ≡ line_at s
  unfolding rest admit without with_core with_masters with_doing with_stranger with_ps fresh_core
  lined_moved (lets_go s h) = refl
  lined_moved (rests s) = refl
  lined_moved (notes a s h i j k) = refl
  lined_moved (admits a s h i j) = refl
  lined_moved (drops s e h) = refl
  lined_moved (spares s h) = refl
  lined_moved (renews a b masters s h i j) = refl

  -- ---- and so do most acts
  lined-acted : {p : Point} {s : Site} {q : Point} {s' : Site} {e : Event} → Act Any p s e q s' → Poised t ts p s
      → Turns y (line_at s) (e ∷ []) (line_at s')
  unfolding mute send_core pass_core beginning close_of done with_rows with_marks with_core with_queue with_doing with_hold
      with_stranger queue_of rows_of confirm take flight A.replies queue_by
  lined-acted (opens clock s) g = turns-mute y _ _ refl
  lined-acted (serves starts clock z s e) g = turns-mute y _ _ refl
  lined-acted (stops starts clock s e) g = turns-mute y _ _ refl
  lined-acted (quits s) g = turns-mute y _ _ refl
  lined-acted (passes s) g = turns-mute y _ _ refl
  lined-acted (repasses s e h) g = turns-mute y _ _ refl
  lined-acted (repeats z s i e h) g = turns-mute y _ _ refl
  lined-acted (closes High p o x s i e c) g =
      high-confirmed _ _ y _ _ (served-some High s i (ap flight (e any) ∙ closing-flight (c any)) (poised-apt g))
  lined-acted (closes Low p o x s i e c) g =
      low-confirmed _ _ y _ _ (served-some Low s i (ap flight (e any) ∙ closing-flight (c any)) (poised-apt g))
  lined-acted (takes High r x s h e) g = high-accepted _ _ y
  lined-acted (takes Low r x s h e) g = low-accepted _ _ y
  lined-acted (hands High s h) g = rw (high-freed _ _ y g.firm.high.ruled h) (turns-mute y _ _ refl)
  lined-acted (hands Low s h) g = rw (low-freed _ _ y g.firm.low.ruled h) (turns-mute y _ _ refl)
  lined-acted (replies o s) g = turns-mute y _ _ refl
  lined-acted (shows k h d s) g = turns-mute y _ _ refl
  lined-acted (restarts s) g = turns-mute y _ _ refl
  lined-acted (breaks s h) g = turns-mute y _ _ refl
  lined-acted (clears-high a b s h) g = high-confirmed _ _ y _ _ h
  lined-acted (clears-low a b s h) g = low-confirmed _ _ y _ _ h

  -- the account is all that was told
  lined-refused : (n : ℕ) (l : List ℕ) → Turns y l (refused n ∷ []) l
  unfolding mute
  lined-refused n l = turns-mute y _ _ refl

  abbrev service : Account (poise t ts small)
  service =
      record {
        History = List Event;
        after = λ e h. h ++ (e ∷ []);
        after_all = λ l h. h ++ l;
        none = append-nil;
        more = λ e l h. sym (append_assoc h (e ∷ []) l);
        Meets = λ e h. Any;
        At = λ p s h. Turns y [] h (line_at s);
        moves = λ m h g i. rw (lined_moved m) i;
        acts = λ a h g i. (any, turns_then y _ _ _ h _ i (lined-acted a g));
        refuses = λ n s h i. (any, turns_then y _ _ _ h _ i (lined-refused n _));
      }

-- ---- after a start
line-empty : (n : ℕ) → line (empty_queue n) ≡ []
unfolding line empty_queue places_from
line-empty n = refl

begun-line : (y : Priority) (w : World) → Begun w → line (queue_by y w.site.core.high w.site.core.low) ≡ []
unfolding queue_by
begun-line High w b = ap line (begun-queues w b).0 ∙ line-empty _
begun-line Low w b = ap line (begun-queues w b).1 ∙ line-empty _

begun-turns : (y : Priority) (w : World) → Begun w
    → Turns y [] [] (line (queue_by y w.site.core.high w.site.core.low))
unfolding mute
begun-turns y w b = rw (begun-line y w b) (turns-mute y [] [] refl)

-- the places of a queue at which requests were accepted, in turn, are those whose requests were confirmed, in turn, and
-- then those of the requests that still wait: so requests are confirmed in the order in which they were accepted
pub first-come : (y : Priority) (w : World) → Begun w → (l : List Call)
    → acceptances y (run l w).events
    ≡ confirmations y (run l w).events ++ line (queue_of y (run l w).world.site.core)
first-come y w b l =
    let o = begun-orderly w b in
    rw (queue-by y (run l w).world.site.core) at
    (kept_run (service y b.settings b.ts o.small) l w [] (poised b.settings b.ts w o)
    (begun-turns y w b)).at.turns
