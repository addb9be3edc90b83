-- What every move and every act keeps, every call and every run of calls keeps: the one induction. Assumes nothing.
use Prim.Native.Nat.{ℕ}
use mathlib.Core.Path.{◌≡◌, sym, ap, ◌∙◌}
use mathlib.Core.List.{List, [], ◌∷◌, ◌++◌}
use Rattle.state.specs.World.{Site, World, What, Event, Called, accepted, begins, ends, sends, confirmed}
use Rattle.state.specs.World.{collected, indicated, resets, refused}
use Rattle.state.specs.Calls.{refuse}
use Rattle.state.specs.Runs.{Call, call, run}
use Rattle.state.proofs.Cases.{Any, any}
use Rattle.state.proofs.Acts.{Point, calm, Move, Act, Trail, stop, move, act}
use Rattle.state.proofs.Walk.{Course, declined, carried, course}

-- what is known of the site at each point, whatever was told
pub record Ground : Type 1 where
  pub Given : Point → Site → Type 0
  pub moved : {p : Point} {s : Site} {q : Point} {t : Site} → Move Any p s q t → Given p s → Given q t
  pub acted : {p : Point} {s : Site} {q : Point} {t : Site} {e : Event} → Act Any p s e q t → Given p s → Given q t

abbrev pub ungrounded : Ground
ungrounded = record { Given = λ p s. Any; moved = λ m g. any; acted = λ a g. any }

-- an account of what was told: a fold over the events, what is asked of each event after those before it, and how the
-- account stands to the site at each point
pub record Account (g : Ground) : Type 1 where
  pub History : Type 0
  pub after : Event → History → History
  pub after_all : List Event → History → History
  pub none : (h : History) → after_all [] h ≡ h
  pub more : (e : Event) (l : List Event) (h : History) → after_all (e ∷ l) h ≡ after_all l (after e h)
  pub Meets : Event → History → Type 0
  pub At : Point → Site → History → Type 0
  pub moves : {p : Point} {s : Site} {q : Point} {t : Site} → Move Any p s q t → (h : History) → g.Given p s → At p s h → At q t h
  pub acts : {p : Point} {s : Site} {q : Point} {t : Site} {e : Event} → Act Any p s e q t → (h : History) → g.Given p s → At p s h
      → Meets e h × At q t (after e h)
  pub refuses : (n : ℕ) (s : Site) (h : History) → At calm s h → Meets (refused n) h × At calm s (after (refused n) h)

-- what is asked of sendings alone: of what is sent, its octets and its wait, after the events before it
unfoldable pub of_sendings : {H : Type 0} → (What → List ℕ → ℕ → H → Type 0) → Event → H → Type 0
of_sendings f (accepted p n) h = Any
of_sendings f begins h = Any
of_sendings f ends h = Any
of_sendings f (sends x o t) h = f x o t h
of_sendings f (confirmed p n status k) h = Any
of_sendings f (collected p n r) h = Any
of_sendings f (indicated d p) h = Any
of_sendings f resets h = Any
of_sendings f (refused n) h = Any

module _ {g : Ground} (a : Account g) where
  unfoldable pub Right : a.History → List Event → Type 0
  Right h [] = Any
  Right h (e ∷ l) = a.Meets e h × Right (a.after e h) l

  pub record Kept (h : a.History) (l : List Event) (q : Point) (t : Site) : Type 0 where
    pub right : Right h l
    pub at : a.At q t (a.after_all l h)

  kept-none : (h : a.History) (p : Point) (s : Site) → a.At p s h → Kept h [] p s
  unfolding Right
  kept-none h p s i = record { right = any; at = rw (a.none h) i }

  kept_more : {q : Point} {t : Site} (h : a.History) (e : Event) (l : List Event) → a.Meets e h
      → Kept (a.after e h) l q t → Kept h (e ∷ l) q t
  unfolding Right
  kept_more h e l m k = record { right = (m, k.right); at = rw (a.more e l h) k.at }

  pub kept-trail : {p q : Point} {s t : Site} {l : List Event} → Trail Any p s l q t → (h : a.History) → g.Given p s
      → a.At p s h → Kept h l q t
  kept-trail stop h z i = kept-none h _ _ i
  kept-trail (move m r) h z i = kept-trail r h (g.moved m z) (a.moves m h z i)
  kept-trail (act m r) h z i =
      let k = a.acts m h z i in
      kept_more h _ _ k.0 (kept-trail r _ (g.acted m z) k.1)

  pub kept-course : {c : Call} {w : World} {d : Called} → Course w c d → (h : a.History) → g.Given calm w.site
      → a.At calm w.site h → Kept h d.events calm d.world.site
  unfolding refuse
  kept-course {w = w} (declined n) h z i =
      let k = a.refuses n w.site h i in
      kept_more h _ [] k.0 (kept-none _ calm w.site k.1)
  kept-course (carried c) h z i = kept-trail c.trail h z i

-- ---- the ground
pub given-trail : (g : Ground) {p q : Point} {s t : Site} {l : List Event} → Trail Any p s l q t → g.Given p s
    → g.Given q t
given-trail g stop z = z
given-trail g (move m r) z = given-trail g r (g.moved m z)
given-trail g (act m r) z = given-trail g r (g.acted m z)

pub given-course : (g : Ground) {c : Call} {w : World} {d : Called} → Course w c d → g.Given calm w.site
    → g.Given calm d.world.site
unfolding refuse
given-course g (declined n) z = z
given-course g (carried c) z = given-trail g c.trail z

pub given-call : (g : Ground) (c : Call) (w : World) → g.Given calm w.site → g.Given calm (call c w).world.site
given-call g c w z = given-course g (course c w) z

-- ---- events in a row
module _ {g : Ground} (a : Account g) where
  after-append : (l m : List Event) (h : a.History) → a.after_all (l ++ m) h ≡ a.after_all m (a.after_all l h)
  after-append [] m h = ap (a.after_all m) (sym (a.none h))
  after-append (e ∷ l) m h = a.more e (l ++ m) h ∙ after-append l m _ ∙ ap (a.after_all m) (sym (a.more e l h))

  right-append : (l m : List Event) (h : a.History) → Right a h l → Right a (a.after_all l h) m → Right a h (l ++ m)
  unfolding Right
  right-append [] m h i j = rw (a.none h) at j
  right-append (e ∷ l) m h i j = (i.0, right-append l m _ i.1 (rw (a.more e l h) at j))

  right-split : (l m : List Event) (e : Event) (h : a.History) → Right a h (l ++ (e ∷ m))
      → a.Meets e (a.after_all l h)
  unfolding Right
  right-split [] m e h i = rw (a.none h) i.0
  right-split (x ∷ l) m e h i = rw (a.more x l h) (right-split l m e _ i.1)

  pub kept_run : (l : List Call) (w : World) (h : a.History) → g.Given calm w.site → a.At calm w.site h
      → Kept a h (run l w).events calm (run l w).world.site
  unfolding run
  kept_run [] w h z i = kept-none a h calm w.site i
  kept_run (c ∷ l) w h z i =
      let j = kept-course a (course c w) h z i in
      let k = kept_run l (call c w).world _ (given-call g c w z) j.at in
      record {
        right = right-append (call c w).events (run l (call c w).world).events h j.right k.right;
        at = rw (after-append (call c w).events (run l (call c w).world).events h) k.at;
      }

  -- what is asked of an event is met after those before it
  pub met : (l : List Call) (w : World) (h : a.History) → g.Given calm w.site → a.At calm w.site h
      → (before rest : List Event) (e : Event) → (run l w).events ≡ before ++ (e ∷ rest)
      → a.Meets e (a.after_all before h)
  met l w h z i before rest e j = right-split before rest e h (rw j at (kept_run l w h z i).right)
