-- A station refuses no state of its own making: after a start, no call is refused 29. Assumes nothing.
use Prim.Native.Nat.{ℕ, ◌<◌}
use mathlib.Core.Bool.{Bool, true, false, true≢false}
use mathlib.Core.Path.{◌≡◌, refl, sym, ◌∙◌}
use mathlib.Core.List.{List, [], ◌∷◌, ◌++◌, append-nil}
use native.Mathlib.Omega.{arith}
use lib.ListN.{length}
use Rattle.choice.specs.Choice.{pick, same, said}
use Rattle.choice.proofs.Rules.{pick_true, pick-false, same_false, true_same, false_same, unrefused}
use Rattle.choice.proofs.Rules.{is_said}
use Rattle.times.specs.declared.Settings.{Settings}
use Rattle.request.specs.declared.Record.{Record}
use Rattle.request.specs.Record.{unfit, named}
use Rattle.queue.specs.declared.Queue.{Queue}
use Rattle.queue.specs.Queue.{Taken}
use Rattle.queue.specs.Queue.{Collected}
use Rattle.queue.specs.Queue.{Refused as Uncollected, Handed}
use Rattle.queue.specs.Queue as Q
use Rattle.queue.specs.Queue.{taken, take}
use Rattle.rows.specs.Rows.{Left, at, stored, submitted, handed}
use Rattle.state.specs.declared.Priority.{Priority}
use Rattle.state.specs.declared.Priority.TheVariants.{High, Low}
use Rattle.state.specs.World.{Rows, Site, World, Event, Done, Called, accepted, begins, ends, sends, confirmed}
use Rattle.state.specs.World.{collected, indicated, resets, refused, done, queue_of, rows_of}
use Rattle.state.specs.Refusals.{lawless}
use Rattle.state.specs.Calls as Calls
use Rattle.state.specs.Calls.{called, refuse, submitting, collecting}
use Rattle.state.specs.Told.{untold, adds, telling}
use Rattle.state.specs.Runs.{Call, call, run}
use Rattle.state.specs.Runs.Call.{submit, frame, sent, slot, reset, collect}
use Rattle.state.proofs.Cases.{by}
use Rattle.state.proofs.Refused.{refuses, Told, told-carried, told-resetting}
use Rattle.state.proofs.Hearing.{short-updates}
use Rattle.state.proofs.Walk.{carried-heard, carried-sent, carried-slot}
use Rattle.state.proofs.Places.{place-first}
use Rattle.state.proofs.Filed.{Filed}
use Rattle.state.proofs.Order.{Orderly, not-lawless, never-29-in}
use Rattle.state.proofs.Ordered.{call-orderly}

-- a refusal with that number is among the events
unfoldable pub tells : ℕ → List Event → Bool
tells m [] = false
tells m (accepted p n ∷ l) = tells m l
tells m (begins ∷ l) = tells m l
tells m (ends ∷ l) = tells m l
tells m (sends x o t ∷ l) = tells m l
tells m (confirmed p n s k ∷ l) = tells m l
tells m (collected p n r ∷ l) = tells m l
tells m (indicated h d ∷ l) = tells m l
tells m (resets ∷ l) = tells m l
tells m (refused n ∷ l) = pick (same n m) true (tells m l)

tells_none : (m : ℕ) (l : List Event) → refuses l ≡ false → tells m l ≡ false
unfolding tells refuses
tells_none m [] h = refl
tells_none m (accepted p n ∷ l) h = tells_none m l h
tells_none m (begins ∷ l) h = tells_none m l h
tells_none m (ends ∷ l) h = tells_none m l h
tells_none m (sends x o t ∷ l) h = tells_none m l h
tells_none m (confirmed p n s k ∷ l) h = tells_none m l h
tells_none m (collected p n r ∷ l) h = tells_none m l h
tells_none m (indicated i d ∷ l) h = tells_none m l h
tells_none m (resets ∷ l) h = tells_none m l h
tells_none m (refused n ∷ l) h = absurd (true≢false h)

tells-refused : (m n : ℕ) (a b : List Event) → tells m (refused n ∷ a) ≡ false
    → (tells m a ≡ false → tells m (a ++ b) ≡ false) → tells m (refused n ∷ (a ++ b)) ≡ false
unfolding tells
tells-refused m n a b h f = by-test (same n m) refl
  where
    by-test : (c : Bool) → same n m ≡ c → pick (same n m) true (tells m (a ++ b)) ≡ false
    by-test true e = absurd (true≢false (sym (pick_true _ _ e) ∙ h))
    by-test false e = pick-false _ _ e ∙ f (sym (pick-false _ _ e) ∙ h)

tells-append : (m : ℕ) (a b : List Event) → tells m a ≡ false → tells m b ≡ false → tells m (a ++ b) ≡ false
unfolding tells
tells-append m [] b h i = i
tells-append m (accepted p n ∷ a) b h i = tells-append m a b h i
tells-append m (begins ∷ a) b h i = tells-append m a b h i
tells-append m (ends ∷ a) b h i = tells-append m a b h i
tells-append m (sends x o t ∷ a) b h i = tells-append m a b h i
tells-append m (confirmed p n s k ∷ a) b h i = tells-append m a b h i
tells-append m (collected p n r ∷ a) b h i = tells-append m a b h i
tells-append m (indicated e d ∷ a) b h i = tells-append m a b h i
tells-append m (resets ∷ a) b h i = tells-append m a b h i
tells-append m (refused n ∷ a) b h i = tells-refused m n a b h (λ z. tells-append m a b z i)

-- ---- a call that does not tell 29
record Spared (d : Called) : Type 0 where
  spared : tells 29 d.events ≡ false

spared-told : {d : Called} → Told d → Spared d
spared-told t = record { spared = tells_none 29 _ t.told }

spared-one : (n : ℕ) → (n ≡ 29 → ⊥) → tells 29 (refused n ∷ []) ≡ false
unfolding tells
spared-one n h = pick-false _ _ (same_false h)

spared-refuse : (n : ℕ) (w : World) → (n ≡ 29 → ⊥) → Spared (refuse n w)
unfolding refuse
spared-refuse n w h = record { spared = spared-one n h }

spared-refused : (n : ℕ) (s : Site) (w : World) → (n ≡ 29 → ⊥) → Spared (called (done s (refused n ∷ [])) w)
unfolding called done
spared-refused n s w h = record { spared = spared-one n h }

spared-accepted : (p : Priority) (s : Site) (n : ℕ) (w : World) → Spared (called (done s (accepted p n ∷ [])) w)
unfolding called done tells
spared-accepted p s n w = record { spared = refl }

spared-collected : (p : Priority) (n : ℕ) (r : Record) (q : Queue) (w : World)
    → Spared (called (collecting p (Handed n r q) w.site) w)
unfolding called collecting done tells
spared-collected p n r q w = record { spared = refl }

-- ---- submit
unfit-not : (ts : ℕ) (r : Record) (n : ℕ) → unfit ts r n ≡ 29 → ⊥
unfolding unfit
unfit-not ts r n =
    by (λ (m : ℕ). m ≡ 29 → ⊥) _ _ _ (λ e z. omega arith)
    (λ e. by (λ (m : ℕ). m ≡ 29 → ⊥) _ _ _ (λ e z. omega arith)
    (λ e. by (λ (m : ℕ). m ≡ 29 → ⊥) _ _ _ (λ e z. omega arith)
    (λ e. by (λ (m : ℕ). m ≡ 29 → ⊥) _ _ _ (λ e z. omega arith)
    (λ e. by (λ (m : ℕ). m ≡ 29 → ⊥) _ _ _ (λ e z. omega arith) (λ e z. omega arith)))))

taken_not : (ts : ℕ) (q : Queue) (r : Record) (n : ℕ) → (taken ts q r n).refused ≡ 29 → ⊥
unfolding taken take Q.refuse
taken_not ts q r n =
    by (λ (t : Taken). t.refused ≡ 29 → ⊥) _ _ _
    (λ e. by (λ (t : Taken). t.refused ≡ 29 → ⊥) _ _ _ (λ e z. omega arith) (λ e z. omega arith))
    (λ e. unfit-not ts r n)

stored-not : (t : Taken) (x row area : List ℕ) → (t.refused ≡ 29 → ⊥) → (stored t x row area).answer.refused ≡ 29 → ⊥
unfolding stored
stored-not t x row area h = by (λ (l : Left Taken). l.answer.refused ≡ 29 → ⊥) _ _ _ (λ e. h) (λ e. h)

submitted-not : (ts : ℕ) (q : Queue) (r : Record) (x row area : List ℕ)
    → (submitted ts q r x row area).answer.refused ≡ 29 → ⊥
unfolding submitted
submitted-not ts q r x row area = stored-not _ x row area (taken_not ts q r (length x))

spared-submitting : (y : Priority) (l : Left Taken) (w : World) → (l.answer.refused ≡ 29 → ⊥)
    → Spared (called (submitting y l w.site) w)
unfolding submitting
spared-submitting y l w h =
    by (λ (d : Done). Spared (called d w)) _ _ _ (λ e. spared-accepted y _ _ w) (λ e. spared-refused _ _ w h)

-- ---- collect
spared-uncollected : (y : Priority) (n : ℕ) (w : World) → (n ≡ 29 → ⊥)
    → Spared (called (collecting y (Uncollected n) w.site) w)
unfolding collecting
spared-uncollected y n w h = spared-refused n _ w h

first-named : (ts : ℕ) (q : Queue) (r : Rows) → Filed ts q r → (q.confirmed ≡ 0 → ⊥)
    → named (at r.row q.first).status ≡ true
first-named ts q r k h = rw (place-first q k.ruled) at (k.status.name 0 (omega (arith, h)))

spared-collecting : (y : Priority) (ts : ℕ) (q : Queue) (r : Rows) (w : World) → Filed ts q r
    → Spared (called (collecting y (handed q r.row) w.site) w)
unfolding handed Q.collected
spared-collecting y ts q r w k =
    by (λ (c : Collected). Spared (called (collecting y c w.site) w)) _ _ _
    (λ e. spared-uncollected y 28 w (λ z. omega arith))
    (λ e. by (λ (c : Collected). Spared (called (collecting y c w.site) w)) _ _ _ (λ i. spared-collected y _ _ _ w)
    (λ i. absurd (true≢false (sym (first-named ts q r k (false_same _ _ e)) ∙ is_said i))))

-- ---- any call of a station in order
module _ (t : Settings) (ts : ℕ) (w : World) (o : Orderly t ts w) where
  not-21 : Spared (refuse 21 w)
  not-21 = spared-refuse 21 w (λ z. omega arith)

  lawful : {A : Type 0} → said (lawless w.site.core w.site.masters w.started w.memory.kept) ≡ true → A
  lawful e = absurd (true≢false (sym (is_said e) ∙ not-lawless t ts w o))

  spared-submit : (y : Priority) (r : Record) (x : List ℕ) → Spared (Calls.submit y r x w)
  unfolding Calls.submit queue_of rows_of
  spared-submit High r x =
      by Spared _ _ _ (λ e. not-21)
      (λ e. by Spared _ _ _ (λ e. lawful e)
      (λ e. spared-submitting High _ w (submitted-not _ _ _ x _ _)))
  spared-submit Low r x =
      by Spared _ _ _ (λ e. not-21)
      (λ e. by Spared _ _ _ (λ e. lawful e)
      (λ e. spared-submitting Low _ w (submitted-not _ _ _ x _ _)))

  spared-collect : (y : Priority) → Spared (Calls.collect y w)
  unfolding Calls.collect queue_of rows_of
  spared-collect High =
      by Spared _ _ _ (λ e. not-21)
      (λ e. by Spared _ _ _ (λ e. lawful e) (λ e. spared-collecting High _ _ w.site.high w o.firm.high))
  spared-collect Low =
      by Spared _ _ _ (λ e. not-21)
      (λ e. by Spared _ _ _ (λ e. lawful e) (λ e. spared-collecting Low _ _ w.site.low w o.firm.low))

  spared-reset : Spared (Calls.reset w)
  unfolding Calls.reset
  spared-reset =
      by Spared _ _ _ (λ e. not-21)
      (λ e. by Spared _ _ _ (λ e. not-21) (λ e. by Spared _ _ _ (λ e. lawful e) (λ e. spared-told (told-resetting w))))

  spared-frame : (clock : ℕ) (room : Bool) (high low octets : List ℕ) (out : ℕ)
      → Spared (Calls.frame clock room high low octets out w)
  unfolding Calls.frame
  spared-frame clock room high low octets out =
      by Spared _ _ _
      (λ e. let u = short-updates out (length high) (length low) w (true_same _ _ e) in spared-told
      (told-carried (carried-heard clock room high low octets out u.0 u.1 _ w refl)))
      (λ e. spared-refuse _ w (never-29-in t ts w o out _ _))

  spared-sent : (clock out : ℕ) → Spared (Calls.sent clock out w)
  unfolding Calls.sent
  spared-sent clock out =
      by Spared _ _ _ (λ e. spared-told (told-carried (carried-sent clock out w)))
      (λ e. spared-refuse _ w (never-29-in t ts w o out _ _))

  spared-slot : (clock out : ℕ) → Spared (Calls.slot clock out w)
  unfolding Calls.slot
  spared-slot clock out =
      by Spared _ _ _ (λ e. spared-told (told-carried (carried-slot clock out w)))
      (λ e. spared-refuse _ w (never-29-in t ts w o out _ _))

  spared-call : (c : Call) → Spared (call c w)
  unfolding call
  spared-call (submit y r x) = spared-submit y r x
  spared-call (frame clock room high low octets out) = spared-frame clock room high low octets out
  spared-call (sent clock out) = spared-sent clock out
  spared-call (slot clock out) = spared-slot clock out
  spared-call reset = spared-reset
  spared-call (collect y) = spared-collect y

  pub never-29 : (c : Call) → tells 29 (call c w).events ≡ false
  never-29 c = (spared-call c).spared

no-29 : tells 29 [] ≡ false
unfolding tells
no-29 = refl

pub run-never-29 : (t : Settings) (ts : ℕ) (l : List Call) (w : World) → Orderly t ts w
    → tells 29 (run l w).events ≡ false
unfolding run
run-never-29 t ts [] w o = no-29
run-never-29 t ts (c ∷ l) w o =
    tells-append 29 (call c w).events (run l (call c w).world).events (never-29 t ts w o c)
    (run-never-29 t ts l (call c w).world (call-orderly t ts c w o))

-- ---- the last call of a run, and the refusal that its caller is told
tells-behind : (m : ℕ) (a b : List Event) → tells m (a ++ b) ≡ false → tells m b ≡ false
unfolding tells
tells-behind m [] b h = h
tells-behind m (accepted p n ∷ a) b h = tells-behind m a b h
tells-behind m (begins ∷ a) b h = tells-behind m a b h
tells-behind m (ends ∷ a) b h = tells-behind m a b h
tells-behind m (sends x o t ∷ a) b h = tells-behind m a b h
tells-behind m (confirmed p n s k ∷ a) b h = tells-behind m a b h
tells-behind m (collected p n r ∷ a) b h = tells-behind m a b h
tells-behind m (indicated i d ∷ a) b h = tells-behind m a b h
tells-behind m (resets ∷ a) b h = tells-behind m a b h
tells-behind m (refused n ∷ a) b h = tells-behind m a b (unrefused (same n m) (tells m (a ++ b)) h).1

pub tells-last : (m : ℕ) (l : List Call) (c : Call) (w : World) → tells m (run (l ++ (c ∷ [])) w).events ≡ false
    → tells m (call c (run l w).world).events ≡ false
unfolding run
tells-last m [] c w h = rw (append-nil (call c w).events) at h
tells-last m (x ∷ l) c w h = tells-last m l c (call x w).world (tells-behind m (call x w).events _ h)

untold-by : (m : ℕ) → 0 < m → (l : List Event) → tells m l ≡ false → (telling l).refused ≡ m → ⊥
unfolding tells telling untold adds
untold-by m h [] f e = omega (arith, h, e)
untold-by m h (accepted p n ∷ l) f e = untold-by m h l f e
untold-by m h (begins ∷ l) f e = untold-by m h l f e
untold-by m h (ends ∷ l) f e = untold-by m h l f e
untold-by m h (sends x o t ∷ l) f e = untold-by m h l f e
untold-by m h (confirmed p n s k ∷ l) f e = untold-by m h l f e
untold-by m h (collected p n r ∷ l) f e = untold-by m h l f e
untold-by m h (indicated i d ∷ l) f e = untold-by m h l f e
untold-by m h (resets ∷ l) f e = untold-by m h l f e
untold-by m h (refused n ∷ l) f e = false_same n m (unrefused (same n m) (tells m l) f).0 e

pub run-untold : (m : ℕ) → 0 < m → (l : List Call) (c : Call) (w : World) → tells m (run (l ++ (c ∷ [])) w).events ≡ false
    → (telling (call c (run l w).world).events).refused ≡ m → ⊥
run-untold m h l c w f e = untold-by m h _ (tells-last m l c w f) e
