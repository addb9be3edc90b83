-- Every call of a run keeps how a high request stands, whatever it is given. Assumes nothing.
use Prim.Native.Nat.{ℕ, ◌+◌, ◌<◌}
use mathlib.Core.Bool.{Bool, true, false}
use mathlib.Core.Path.{◌≡◌, refl, ap, ◌∙◌}
use mathlib.Core.List.{List, [], ◌∷◌}
use native.Mathlib.Omega.{arith}
use lib.ListN.{length}
use Rattle.choice.specs.Choice.{same}
use Rattle.choice.proofs.Rules.{true_same, false_same}
use Rattle.request.specs.declared.Record.{Record}
use Rattle.request.specs.Record.{DS}
use Rattle.queue.specs.declared.Queue.{Queue}
use Rattle.queue.specs.Queue as Q
use Rattle.queue.specs.Queue.{place, current, grown, freed, take}
use Rattle.queue.proofs.Laws.{Accepted}
use Rattle.rows.specs.Rows.{at, put, confirm}
use Rattle.state.specs.declared.Priority.TheVariants.{High, Low}
use Rattle.state.specs.declared.Doing.{Doing}
use Rattle.state.specs.World.{Site, World, Event, Called, collected, with_doing, with_hold, with_stranger, with_ps}
use Rattle.state.specs.World.{with_queue, queue_of, with_core, with_masters, rows_of, with_rows}
use Rattle.state.specs.Request.{once}
use Rattle.state.specs.Pass.{pass_core, without}
use Rattle.state.specs.Hold.{rest, resting, beginning, admit}
use Rattle.state.specs.Answering as A
use Rattle.state.specs.Calls.{count_of, fresh_core}
use Rattle.state.specs.Runs.{Call, run}
use Rattle.state.specs.Fate.{Fate, meets, fate, collected_with}
use Rattle.state.proofs.Cases.{Any, any}
use Rattle.state.proofs.Phases.{flight}
use Rattle.state.proofs.Choices.{saw-high, saw-low, saw-none}
use Rattle.state.proofs.Acts.{Point, calm, free, choosing, passing, halting, clearing, Move, lets_go, rests}
use Rattle.state.proofs.Acts.{notes, admits, drops, spares, renews, Act, opens, serves, stops, quits, passes}
use Rattle.state.proofs.Acts.{repasses, repeats, closes, takes, hands, replies, shows, restarts, breaks}
use Rattle.state.proofs.Acts.{clears-high, clears-low, freed_of}
use Rattle.state.proofs.Keeping.{ungrounded, Account, kept_run}
use Rattle.state.proofs.Poise.{closing-flight}
use Rattle.state.proofs.Places.{waiting-grown, waiting-freed, shut_grown, shut-freed, first-waiting}
use Rattle.state.proofs.Places.{rowed-grown, rowed-freed}
use Rattle.state.proofs.Fates.{fate-none, fate-one, fate-append, stays, meets-reply, meets-token, meets-lower}
use Rattle.state.proofs.Fates.{meets-collected, meets-uncollected, meets-low-collected, meets-accepted}
use Rattle.state.proofs.Fates.{meets-indicated, meets-refused, Off, Pausing, gone-now}
use Rattle.state.proofs.Standing.{Afloat, Standing, Opening, waits, shut, gone, StandsAt, BetweenAt, at_rest}
use Rattle.state.proofs.Standing.{rested, passing-flight, still-gone, low-sent, high-sent, after-end, opened}
use Rattle.state.proofs.Standing.{ground-grown, close-high, close-low, again-high, again-low}
use Rattle.state.proofs.Drained.{Emptying, emptying-resets, emptying-ends, emptying-high, emptied}

-- a call keeps how it stands
pub record Holds (p k limit : ℕ) (f : Fate) (d : Called) : Type 0 where
  pub stands : StandsAt p k limit d.world.site (fate p d.events f)

afloat-grown : {g : Doing} {q : Queue} → Afloat g q → Afloat g (grown q)
unfolding grown
afloat-grown a = record { some = λ h e. let s = a.some h e in omega arith }

afloat-freed : {g : Doing} {q : Queue} → Afloat g q → Afloat g (freed q)
unfolding freed
afloat-freed a = record { some = a.some }

unstarted : {p k limit : ℕ} (s : Site) (f : Fate) → s.core.high.unconfirmed ≡ 0 → BetweenAt p limit (Opening k) s f
    → BetweenAt p limit (Pausing k) s f
unstarted s f e (waits d g w o) = absurd (omega (arith, w.within))
unstarted s f e (shut g w o) = shut g w o
unstarted s f e (gone z) = gone z

module _ (p k limit : ℕ) where
  unfoldable Stands : Point → Site → Fate → Type 0
  Stands calm s f = StandsAt p k limit s f
  Stands free s f = BetweenAt p limit (Off k) s f
  Stands (choosing true) s f = BetweenAt p limit (Opening k) s f
  Stands (choosing false) s f = BetweenAt p limit (Pausing k) s f
  Stands passing s f = BetweenAt p limit (Off k) s f
  Stands halting s f = Emptying p limit (count_of High s.core) s.core.high s.high.row f
  Stands (clearing a b) s f = Emptying p limit a s.core.high s.high.row f

  -- one more behind it
  stage-grown : {g : Doing} (ts : ℕ) (q : Queue) (row : List ℕ) (r : Record) (n : ℕ) (f : Fate)
      → Accepted ts q r n → Standing p k limit g q row f
      → Standing p k limit g (grown q) (put row (place q (q.confirmed + q.unconfirmed)) (Q.waiting r n)) f
  stage-grown ts q row r n f a (waits d u w s) =
      waits d (ground-grown q row _ u a.room w) (waiting-grown p d q w) s
  stage-grown ts q row r n f a (shut u w b o) =
      shut (rowed-grown q row _ u a.room) (shut_grown p f.sendings q row u _ a.room w) (afloat-grown b) o
  stage-grown ts q row r n f a (gone z) = gone z

  -- ---- collect
  ours-collected : {g' : Doing} {q' : Queue} {row' : List ℕ} (n : ℕ) (r : Record) (f : Fate) → n ≡ p
      → f.collected ≡ false → Standing p k limit g' q' row' (collected_with r.count f)
      → Standing p k limit g' q' row' (fate p (collected High n r ∷ []) f)
  ours-collected n r f e c h = rw (fate-one p (collected High n r) f c, meets-collected p n r f e) h

  other-collected : {g' : Doing} {q' : Queue} {row' : List ℕ} (n : ℕ) (r : Record) (f : Fate)
      → (n ≡ p → ⊥) → Standing p k limit g' q' row' f
      → Standing p k limit g' q' row' (fate p (collected High n r ∷ []) f)
  other-collected n r f e h = rw (stays p (collected High n r) f (meets-uncollected p n r f e)) h

  -- the oldest confirmed record of the high queue is handed back: its own, or another's
  handed-high : (b : Bool) (s : Site) (f : Fate) → same s.core.high.first p ≡ b → 0 < s.core.high.confirmed
      → StandsAt p k limit s f
      → StandsAt p k limit (freed_of High s)
      (fate p (collected High s.core.high.first (at s.high.row s.core.high.first) ∷ []) f)
  unfolding with_core with_queue queue_of
  handed-high b s f e c (waits d u w g) =
      other-collected _ _ f (first-waiting p d _ u.rowed.ruled c w)
      (waits d (record { rowed = rowed-freed _ _ u.rowed c; limits = u.limits })
      (waiting-freed p d _ u.rowed.ruled c w) g)
  handed-high true s f e c (shut u w a o) =
      let i = true_same _ _ e in
      ours-collected _ _ f i o.collected (gone (gone-now _ limit f o (rw i w.count)))
  handed-high false s f e c (shut u w a o) =
      let i = false_same _ _ e in
      other-collected _ _ f i
      (shut (rowed-freed _ _ u c) (shut-freed p f.sendings _ _ u i w) (afloat-freed a) o)
  handed-high b s f e c (gone z) = still-gone p k limit _ f z

  -- ---- moves and acts
  stands-moved : {x : Point} {s : Site} {y : Point} {s' : Site} → Move Any x s y s' → (f : Fate) → Stands x s f → Stands y s' f
  unfolding Stands rest admit without with_core with_masters with_doing with_stranger with_ps resting fresh_core flight
  stands-moved (lets_go s h) f i = rested p k limit (h any) i
  stands-moved (rests s) f i = at_rest p k limit refl i
  stands-moved (notes a s h j l m) f i = i
  stands-moved (admits a s h j l) f i = i
  stands-moved (drops s e h) f i = rested p k limit (ap flight (e any)) i
  stands-moved (spares s h) f i = i
  stands-moved (renews a b masters s h j l) f i = at_rest p k limit refl (emptied p limit j i)

  -- an event that makes nothing of it
  told : {g : Doing} {q : Queue} {row : List ℕ} (e : Event) (f : Fate) → meets p e f ≡ f
      → Standing p k limit g q row f → Standing p k limit g q row (fate p (e ∷ []) f)
  told e f h i = rw (stays p e f h) i

  opening : (d : ℕ) (f : Fate) → Pausing k d f → Opening k d f
  opening d f o = record { fresh = o.fresh; time = o.time }

  stands-acted : {x : Point} {s : Site} {y : Point} {s' : Site} {e : Event} → Act Any x s e y s' → (f : Fate) → Stands x s f
      → Stands y s' (fate p (e ∷ []) f)
  unfolding Stands pass_core beginning once with_rows with_core with_queue with_doing with_hold with_stranger queue_of rows_of
      confirm take flight A.replies
  stands-acted (opens clock s) f i = opened p k limit f i
  stands-acted (serves true clock High s e) f i =
      high-sent p k limit (Opening k) (λ d f o. o) s f i (saw-high true _ clock e)
  stands-acted (serves false clock High s e) f i =
      high-sent p k limit (Pausing k) opening s f i (saw-high false _ clock e)
  stands-acted (serves true clock Low s e) f i = low-sent p k limit s f (unstarted s f (saw-low true _ clock e).1 i)
  stands-acted (serves false clock Low s e) f i = low-sent p k limit s f i
  stands-acted (stops true clock s e) f i = after-end p k limit s f (unstarted s f (saw-none _ clock e) i)
  stands-acted (stops false clock s e) f i = after-end p k limit s f i
  stands-acted (quits s) f i = after-end p k limit s f i
  stands-acted (passes s) f i = told _ f (meets-token p _ _ f) (at_rest p k limit (passing-flight _ _) i)
  stands-acted (repasses s e h) f i =
      told _ f (meets-token p _ _ f) (at_rest p k limit (ap flight (e any)) (rested p k limit (ap flight (e any)) i))
  stands-acted (repeats High s j e h) f i = again-high p k limit s f (ap flight (e any)) j h i
  stands-acted (repeats Low s j e h) f i = again-low p k limit s f (ap flight (e any)) j i
  stands-acted (closes High x o d s j e c) f i =
      close-high p k limit o d s f (ap flight (e any) ∙ closing-flight (c any)) j i
  stands-acted (closes Low x o d s j e c) f i =
      close-low p k limit o d s f (ap flight (e any) ∙ closing-flight (c any)) j i
  stands-acted (takes High r x s a e) f i =
      told _ f (meets-accepted p High _ f) (stage-grown _ s.core.high s.high.row r (length x) f a i)
  stands-acted (takes Low r x s a e) f i = told _ f (meets-accepted p Low _ f) i
  stands-acted (hands High s h) f i = handed-high _ s f refl h i
  stands-acted (hands Low s h) f i = told _ f (meets-low-collected p _ _ f) i
  stands-acted (replies o s) f i = told _ f (meets-reply p _ _ f) i
  stands-acted (shows z h d s) f i = told _ f (meets-indicated p h d f) i
  stands-acted (restarts s) f i = emptying-resets p limit s.core f i
  stands-acted (breaks s h) f i = emptying-ends p limit f i
  stands-acted (clears-high a b s h) f i = emptying-high p limit a _ _ s.high.area f h i
  stands-acted (clears-low a b s h) f i = rw (stays p _ f (meets-lower p (current s.core.low) DS b f)) i

  abbrev standing : Account ungrounded
  standing =
      record {
        History = Fate;
        after = λ e f. fate p (e ∷ []) f;
        after_all = fate p;
        none = fate-none p;
        more = λ e l f. fate-append p (e ∷ []) l f;
        Meets = λ e f. Any;
        At = Stands;
        moves = λ m f g i. stands-moved m f i;
        acts = λ a f g i. (any, stands-acted a f i);
        refuses = λ n s f i. (any, rw (stays p _ f (meets-refused p n f)) i);
      }

  pub holds-run : (l : List Call) (w : World) (f : Fate) → StandsAt p k limit w.site f → Holds p k limit f (run l w)
  unfolding Stands
  holds-run l w f h = record { stands = (kept_run standing l w f any h).at }
