-- Holds are real: in a run a hold begins only where none is on and ends only where one is, requests are sent within a
-- hold and the token behind it, and a hold is on after a call exactly if the phase says so. Assumes nothing.
use Prim.Native.Nat.{ℕ}
use mathlib.Core.Bool.{Bool, true, false}
use mathlib.Core.Path.{◌≡◌, refl, sym, ap, ◌∙◌}
use mathlib.Core.List.{List, [], ◌∷◌, ◌++◌}
use Rattle.rows.specs.Rows.{confirm}
use Rattle.state.specs.declared.Priority.{Priority}
use Rattle.state.specs.declared.Priority.TheVariants.{High, Low}
use Rattle.state.specs.declared.Doing.{Doing}
use Rattle.state.specs.World.{Site, World, What, a_request, a_token, a_reply, Event, accepted, begins, ends, sends}
use Rattle.state.specs.World.{confirmed, collected, indicated, resets, refused, done, with_doing, with_hold}
use Rattle.state.specs.World.{with_stranger, with_ps, with_queue, queue_of, with_core, with_masters, with_marks}
use Rattle.state.specs.World.{rows_of, with_rows}
use Rattle.state.specs.Request.{send_core, once, close_of}
use Rattle.state.specs.Pass.{pass_core, without}
use Rattle.state.specs.Hold.{resting, rest, beginning, admit}
use Rattle.state.specs.Answering as A
use Rattle.state.specs.Calls.{fresh_core}
use Rattle.state.specs.Runs.{Call, run, Begun}
use Rattle.state.specs.Holds.{hold_after, hold_last, holding}
use Rattle.state.proofs.Cases.{Any, any}
use Rattle.state.proofs.Phases.{flight, holding-by}
use Rattle.state.proofs.Acts.{Point, calm, free, choosing, passing, halting, clearing, Move, lets_go, rests}
use Rattle.state.proofs.Acts.{notes, admits, drops, spares, renews, Act, opens, serves, stops, quits, passes}
use Rattle.state.proofs.Acts.{repasses, repeats, closes, takes, hands, replies, shows, restarts, breaks}
use Rattle.state.proofs.Acts.{clears-high, clears-low}
use Rattle.state.proofs.Keeping.{ungrounded, Account, kept_run, met}
use Rattle.state.proofs.Standing.{sending-flight, passing-flight}
use Rattle.state.proofs.Poise.{closing-flight}
use Rattle.state.proofs.Start.{begun-marks}

-- ---- what is asked of each event
unfoldable Goes : What → Bool → Type 0
Goes (a_request p n) b = b ≡ true
Goes a_token b = b ≡ false
Goes a_reply b = Any

unfoldable Meets : Event → Bool → Type 0
Meets (accepted p n) b = Any
Meets begins b = b ≡ false
Meets ends b = b ≡ true
Meets (sends x o t) b = Goes x b
Meets (confirmed p n status k) b = Any
Meets (collected p n r) b = Any
Meets (indicated h d) b = Any
Meets resets b = Any
Meets (refused n) b = Any

-- ---- the station is in a hold just where the history is
unfoldable Stands : Point → Doing → Bool → Type 0
Stands calm g b = flight g.phase ≡ b
Stands free g b = b ≡ false
Stands (choosing starts) g b = b ≡ true
Stands passing g b = b ≡ false
Stands halting g b = flight g.phase ≡ b
Stands (clearing m n) g b = b ≡ false

stands-moved : {p : Point} {s : Site} {q : Point} {s' : Site} → Move Any p s q s' → (b : Bool) → Stands p s.core.doing b
    → Stands q s'.core.doing b
unfolding Stands rest admit without with_core with_masters with_doing with_stranger with_ps resting fresh_core flight
stands-moved (lets_go s e) b i = sym i ∙ e any
stands-moved (rests s) b i = sym i
stands-moved (notes a s e f g h) b i = i
stands-moved (admits a s e f g) b i = i
stands-moved (drops s e h) b i = sym i ∙ ap flight (e any)
stands-moved (spares s e) b i = sym i ∙ e
stands-moved (renews m n masters s e f g) b i = sym i

stands-acted : {p : Point} {s : Site} {q : Point} {s' : Site} {e : Event} → Act Any p s e q s' → (b : Bool) → Stands p s.core.doing b
    → Meets e b × Stands q s'.core.doing (hold_after e b)
unfolding Stands Meets Goes hold_after send_core pass_core beginning close_of done once with_rows with_marks with_core with_queue
    with_doing with_hold with_stranger queue_of rows_of confirm A.replies flight
stands-acted (opens clock s) b i = (i, refl)
stands-acted (serves starts clock High s e) b i = (i, sending-flight High _ ∙ sym i)
stands-acted (serves starts clock Low s e) b i = (i, sending-flight Low _ ∙ sym i)
stands-acted (stops starts clock s e) b i = (i, refl)
stands-acted (quits s) b i = (i, refl)
stands-acted (passes s) b i = (i, passing-flight _ _ ∙ sym i)
stands-acted (repasses s e h) b i = (sym i ∙ ap flight (e any), i)
stands-acted (repeats y s j e h) b i = (sym i ∙ ap flight (e any), i)
stands-acted (closes High p o x s j e c) b i = (any, sym i ∙ ap flight (e any) ∙ closing-flight (c any))
stands-acted (closes Low p o x s j e c) b i = (any, sym i ∙ ap flight (e any) ∙ closing-flight (c any))
stands-acted (takes High r x s a e) b i = (any, i)
stands-acted (takes Low r x s a e) b i = (any, i)
stands-acted (hands High s h) b i = (any, i)
stands-acted (hands Low s h) b i = (any, i)
stands-acted (replies o s) b i = (any, i)
stands-acted (shows z h d s) b i = (any, i)
stands-acted (restarts s) b i = (any, i)
stands-acted (breaks s h) b i = (sym i ∙ h, refl)
stands-acted (clears-high m n s h) b i = (any, i)
stands-acted (clears-low m n s h) b i = (any, i)

stands-refused : (n : ℕ) (s : Site) (b : Bool) → Stands calm s.core.doing b
    → Meets (refused n) b × Stands calm s.core.doing (hold_after (refused n) b)
unfolding Meets hold_after
stands-refused n s b i = (any, i)

last_none : (b : Bool) → hold_last [] b ≡ b
unfolding hold_last
last_none b = refl

last_more : (e : Event) (l : List Event) (b : Bool) → hold_last (e ∷ l) b ≡ hold_last l (hold_after e b)
unfolding hold_last
last_more e l b = refl

abbrev holds : Account ungrounded
holds =
    record {
      History = Bool;
      after = hold_after;
      after_all = hold_last;
      none = last_none;
      more = last_more;
      Meets = Meets;
      At = λ p s b. Stands p s.core.doing b;
      moves = λ m b g i. stands-moved m b i;
      acts = λ a b g i. stands-acted a b i;
      refuses = stands-refused;
    }

stands-begun : (w : World) → Begun w → Stands calm w.site.core.doing false
unfolding Stands flight
stands-begun w b = ap flight (begun-marks w b).1

-- ---- the theorems, after a start and any calls
module _ (w : World) (b : Begun w) (l : List Call) where
  module _ (before after : List Event) where
    asked : (e : Event) → (run l w).events ≡ before ++ (e ∷ after) → Meets e (hold_last before false)
    asked e i = met holds l w false any (stands-begun w b) before after e i

    -- a hold begins where none is on, and ends where one is: the two take turns
    pub begins-off : (run l w).events ≡ before ++ (begins ∷ after) → hold_last before false ≡ false
    unfolding Meets
    begins-off i = asked begins i

    pub ends_on : (run l w).events ≡ before ++ (ends ∷ after) → hold_last before false ≡ true
    unfolding Meets
    ends_on i = asked ends i

    -- a request is sent while a hold is on, the token when it is over
    pub request-on : (p : Priority) (n : ℕ) (o : List ℕ) (t : ℕ)
        → (run l w).events ≡ before ++ (sends (a_request p n) o t ∷ after) → hold_last before false ≡ true
    unfolding Meets Goes
    request-on p n o t i = asked (sends (a_request p n) o t) i

    pub token-off : (o : List ℕ) (t : ℕ) → (run l w).events ≡ before ++ (sends a_token o t ∷ after)
        → hold_last before false ≡ false
    unfolding Meets Goes
    token-off o t i = asked (sends a_token o t) i

  -- a hold is on exactly in the phases that document 01 gives it
  pub hold-phase : holding (run l w).world.site.core.doing.phase ≡ hold_last (run l w).events false
  unfolding Stands
  hold-phase = holding-by _ ∙ (kept_run holds l w false any (stands-begun w b)).at
