-- A fact of one queue and its rows that every act keeps until an event ends it: it lasts through calls, and what it
-- asks of each event is met. Assumes nothing.
use Prim.Native.Nat.{ℕ, ◌≤◌}
use mathlib.Core.Bool.{Bool, true, false}
use mathlib.Core.Path.{◌≡◌, refl, ap, ◌∙◌}
use mathlib.Core.List.{List, [], ◌∷◌, ◌++◌, append-nil}
use Rattle.choice.specs.Choice.{pick}
use Rattle.choice.proofs.Rules.{pick-false}
use Rattle.times.specs.declared.Settings.{Settings}
use Rattle.frame.specs.declared.Address.{Address}
use Rattle.queue.specs.declared.Queue.{Queue}
use Rattle.state.specs.declared.Priority.{Priority}
use Rattle.state.specs.declared.Priority.TheVariants.{High, Low}
use Rattle.state.specs.World.{Rows, Site, World, Event, refused}
use Rattle.state.specs.Runs.{Call, call, run}
use Rattle.state.specs.Submitted.{never}
use Rattle.state.proofs.Cases.{Any}
use Rattle.state.proofs.Acts.{Point, calm, Move, Act, Trail}
use Rattle.state.proofs.Keeping.{Account, kept-trail, kept_run, met}
use Rattle.state.proofs.Filed.{Filed}
use Rattle.state.proofs.Poise.{queue_by, FirmAt, Poised, poise}
use Rattle.state.proofs.Order.{Orderly}
use Rattle.state.proofs.Ordered.{poised}
use Rattle.state.proofs.Tally.{rows_by}
use Rattle.state.proofs.Spans.{neither, never_first}
use Rattle.state.proofs.Effects.{Effect, queue_at, rows_at, left-moved, effect-acted}

-- ---- none of the events did so, up to here
unfoldable still_by : (Event → Bool) → Event → Bool → Bool
still_by f e b = pick (f e) false b

unfoldable still : (Event → Bool) → List Event → Bool → Bool
still f [] b = b
still f (e ∷ l) b = still f l (still_by f e b)

still-none : (f : Event → Bool) (b : Bool) → still f [] b ≡ b
unfolding still
still-none f b = refl

still-more : (f : Event → Bool) (e : Event) (l : List Event) (b : Bool)
    → still f (e ∷ l) b ≡ still f l (still_by f e b)
unfolding still
still-more f e l b = refl

still_never : (f : Event → Bool) (l : List Event) → never f l ≡ true → still f l true ≡ true
unfolding still still_by
still_never f [] e = refl
still_never f (x ∷ l) e =
    let s = never_first f x l e in
    ap (still f l) (pick-false _ _ s.0) ∙ still_never f l s.1

-- a queue and its rows in order
pub filed-at : (t : Settings) (ts : ℕ) (y : Priority) (s : Site) → FirmAt t ts s
    → Filed s.core.ts.0 (queue_at y s) (rows_at y s)
unfolding queue_by rows_by
filed-at t ts High s f = f.high
filed-at t ts Low s f = f.low

-- ---- the fact, what it asks of events, and which event ends it
pub record Lasts (y : Priority) (ts : ℕ) : Type 1 where
  pub Fact : Queue → Rows → Type 0
  pub Asks : Event → Type 0
  pub ends : Event → Bool
  pub refusal : (n : ℕ) → Asks (refused n)
  pub lasts : {a : Address} {q q' : Queue} {u u' : Rows} {e : Event} → a.0 ≡ ts → Filed a.0 q u
      → Effect y a q u e q' u' → Fact q u → Asks e × (ends e ≡ false → Fact q' u')

module _ (t : Settings) (ts : ℕ) (small : ts ≤ 126) (y : Priority) (f : Lasts y ts) where
  abbrev pub FactAt : Site → Type 0
  FactAt s = f.Fact (queue_at y s) (rows_at y s)

  record Stands (s : Site) (b : Bool) : Type 0 where
    fact : b ≡ true → f.Fact (queue_at y s) (rows_at y s)

  stands-moved : {p : Point} {s : Site} {q : Point} {s' : Site} → Move Any p s q s' → (b : Bool) → Stands s b → Stands s' b
  stands-moved m b i =
      let l = left-moved y m in
      record { fact = λ e. rw (l.queue, l.rows) (i.fact e) }

  stands_by : {s s' : Site} {e : Event} (b : Bool)
      → (FactAt s → f.Asks e × (f.ends e ≡ false → FactAt s')) → Stands s b
      → (b ≡ true → f.Asks e) × Stands s' (still_by f.ends e b)
  unfolding still_by
  stands_by b h i = (
    (λ z. (h (i.fact z)).0),
    record { fact = λ z. let j = neither _ b z in (h (i.fact j.1)).1 j.0 },
  )

  stands-acted : {p : Point} {s : Site} {q : Point} {s' : Site} {e : Event} → Act Any p s e q s' → (b : Bool) → Poised t ts p s
      → Stands s b → (b ≡ true → f.Asks e) × Stands s' (still_by f.ends e b)
  stands-acted {s = s} m b g i =
      stands_by b (f.lasts g.firm.station (filed-at t ts y s g.firm) (effect-acted t ts y m g)) i

  abbrev lasting : Account (poise t ts small)
  lasting =
      record {
        History = Bool;
        after = still_by f.ends;
        after_all = still f.ends;
        none = still-none f.ends;
        more = still-more f.ends;
        Meets = λ e b. b ≡ true → f.Asks e;
        At = λ p s b. Stands s b;
        moves = λ m b g i. stands-moved m b i;
        acts = λ a b g i. stands-acted a b g i;
        refuses = λ n s b i. stands_by b (λ h. (f.refusal n, λ e. h)) i;
      }

  stands-now : (s : Site) → FactAt s → Stands s true
  stands-now s h = record { fact = λ e. h }

  -- ---- through moves and acts
  pub lasts-trail : {p q : Point} {s s' : Site} {l : List Event} → Trail Any p s l q s' → Poised t ts p s
      → FactAt s → never f.ends l ≡ true → FactAt s'
  lasts-trail m g h e = (kept-trail lasting m true g (stands-now _ h)).at.fact (still_never f.ends _ e)

  -- ---- through calls
  module _ (l : List Call) (w : World) (o : Orderly t ts w) (h : FactAt w.site) where
    pub lasts-run : never f.ends (run l w).events ≡ true → FactAt (run l w).world.site
    lasts-run e =
        (kept_run lasting l w true (poised t ts w o) (stands-now w.site h)).at.fact
        (still_never f.ends (run l w).events e)

    pub lasts-met : (earlier later : List Event) (e : Event) → (run l w).events ≡ earlier ++ (e ∷ later)
        → never f.ends earlier ≡ true → f.Asks e
    lasts-met earlier later e i j =
        met lasting l w true (poised t ts w o) (stands-now w.site h) earlier later e i
        (still_never f.ends earlier j)

  -- ---- through one call
  module _ (c : Call) (w : World) (o : Orderly t ts w) (h : FactAt w.site) where
    pub lasts-call : never f.ends (call c w).events ≡ true → FactAt (call c w).world.site
    unfolding run
    lasts-call e = lasts-run (c ∷ []) w o h (rw (append-nil (call c w).events) e)

    pub lasts-told : (earlier later : List Event) (e : Event) → (call c w).events ≡ earlier ++ (e ∷ later)
        → never f.ends earlier ≡ true → f.Asks e
    unfolding run
    lasts-told earlier later e i j =
        lasts-met (c ∷ []) w o h earlier later e (append-nil (call c w).events ∙ i) j

-- ---- what is asked of an event after those before it, by an account of them, where the fact is needed to meet it
pub record Helped (t : Settings) (ts : ℕ) (small : ts ≤ 126) (y : Priority) (f : Lasts y ts)
    (a : Account (poise t ts small)) : Type 1 where
  pub Meets : Event → a.History → Type 0
  pub refusal : (n : ℕ) (h : a.History) → Meets (refused n) h
  pub meets : {p : Point} {s : Site} {q : Point} {s' : Site} {e : Event} → Act Any p s e q s' → (h : a.History) → Poised t ts p s
      → a.At p s h → FactAt t ts small y f s → Meets e h

module _ (t : Settings) (ts : ℕ) (small : ts ≤ 126) (y : Priority) (f : Lasts y ts) (a : Account (poise t ts small))
    (b : Helped t ts small y f a) where
  abbrev beside : Account (poise t ts small)
  beside =
      record {
        History = a.History × Bool;
        after = λ e h. (a.after e h.0, still_by f.ends e h.1);
        after_all = λ l h. (a.after_all l h.0, still f.ends l h.1);
        none = λ h. rw (a.none h.0, still-none f.ends h.1);
        more = λ e l h. rw (a.more e l h.0, still-more f.ends e l h.1);
        Meets = λ e h. h.1 ≡ true → b.Meets e h.0;
        At = λ p s h. a.At p s h.0 × Stands t ts small y f s h.1;
        moves = λ m h g i. (a.moves m h.0 g i.0, stands-moved t ts small y f m h.1 i.1);
        acts =
            λ m h g i. (
              λ z. b.meets m h.0 g i.0 (i.1.fact z),
              ((a.acts m h.0 g i.0).1, (stands-acted t ts small y f m h.1 g i.1).1),
            );
        refuses =
            λ n s h i. (
              λ z. b.refusal n h.0,
              (
                (a.refuses n s h.0 i.0).1,
                (stands_by t ts small y f h.1 (λ z. (f.refusal n, λ e. z)) i.1).1,
              ),
            );
      }

  pub met-beside : (l : List Call) (w : World) (o : Orderly t ts w) (h : a.History) → a.At calm w.site h
      → FactAt t ts small y f w.site → (earlier later : List Event) (e : Event)
      → (run l w).events ≡ earlier ++ (e ∷ later) → never f.ends earlier ≡ true
      → b.Meets e (a.after_all earlier h)
  met-beside l w o h i z earlier later e j k =
      met beside l w (h, true) (poised t ts w o) (i, stands-now t ts small y f w.site z) earlier later e j
      (still_never f.ends earlier k)
