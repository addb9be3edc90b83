-- A low request of a run is sent for the first time only while no high one waits. Assumes nothing.
use Prim.Native.Nat.{ℕ, ◌+◌, ◌-◌}
use mathlib.Core.Bool.{Bool, true, false, true≢false}
use mathlib.Core.Path.{◌≡◌, refl, sym, ap, ◌∙◌}
use mathlib.Core.List.{List, [], ◌∷◌, ◌++◌}
use Rattle.queue.specs.declared.Queue.{Queue}
use Rattle.queue.specs.Queue as Q
use Rattle.queue.specs.Queue.{freed, grown, take}
use Rattle.rows.specs.Rows.{confirm}
use Rattle.state.specs.declared.Priority.{Priority}
use Rattle.state.specs.declared.Priority.TheVariants.{High, Low}
use Rattle.state.specs.declared.Doing.{Doing}
use Rattle.state.specs.World.{Site, World, What, a_request, a_token, a_reply, Event, sends}
use Rattle.state.specs.World.{refused, done, with_doing, with_hold}
use Rattle.state.specs.World.{with_stranger, with_ps, with_queue, queue_of, with_core, with_masters, with_marks}
use Rattle.state.specs.World.{rows_of, with_rows}
use Rattle.state.specs.Request.{send_core, once, close_of}
use Rattle.state.specs.Pass.{pass_core, without}
use Rattle.state.specs.Hold.{resting, rest, beginning, admit}
use Rattle.state.specs.Answering as A
use Rattle.state.specs.Calls.{empty_queue, fresh_core}
use Rattle.state.specs.Runs.{Call, run, Begun}
use Rattle.state.specs.Precedence.{Line, nobody, joined, sent_by, served, line_after, line_last}
use Rattle.state.proofs.Cases.{Any, any}
use Rattle.state.proofs.Phases.{flight}
use Rattle.state.proofs.Choices.{saw-low}
use Rattle.state.proofs.Acts.{Point, calm, free, choosing, passing, halting, clearing, Move, lets_go, rests}
use Rattle.state.proofs.Acts.{notes, admits, drops, spares, renews, Act, opens, serves, stops, quits, passes}
use Rattle.state.proofs.Acts.{repasses, repeats, closes, takes, hands, replies, shows, restarts, breaks}
use Rattle.state.proofs.Acts.{clears-high, clears-low}
use Rattle.state.proofs.Keeping.{ungrounded, Account, of_sendings, kept_run, met}
use Rattle.state.proofs.Standing.{sending-served, passing-flight}
use Rattle.state.proofs.Start.{begun-queues, begun-marks}

-- ---- what is asked of each sending: of a low request's, that no high one waits, unless it was sent before
unfoldable Goes : What → List ℕ → ℕ → Line → Type 0
Goes (a_request High n) o k h = Any
Goes (a_request Low n) o k h = h.low ≡ false → h.waiting ≡ 0
Goes a_token o k h = Any
Goes a_reply o k h = Any

abbrev Meets : Event → Line → Type 0
Meets e h = of_sendings Goes e h

-- ---- the station's count of waiting high requests is the history's, and a low request that is being sent is known to it
unfoldable is_low : Priority → Bool
is_low High = false
is_low Low = true

record Knows (g : Doing) (h : Line) : Type 0 where
  low : flight g.phase ≡ true → is_low g.served ≡ true → h.low ≡ true

unfoldable KnowsIn : Point → Doing → Line → Type 0
KnowsIn calm g h = Knows g h
KnowsIn free g h = Any
KnowsIn (choosing b) g h = Any
KnowsIn passing g h = Any
KnowsIn halting g h = Any
KnowsIn (clearing a b) g h = Any

record Placed (p : Point) (s : Site) (h : Line) : Type 0 where
  count : s.core.high.unconfirmed ≡ h.waiting
  knows : KnowsIn p s.core.doing h

unflown : {g : Doing} {h : Line} → flight g.phase ≡ false → Knows g h
unflown e = record { low = λ i. absurd (true≢false (sym i ∙ e)) }

unlow : {g : Doing} {h : Line} → g.served ≡ High → Knows g h
unfolding is_low
unlow e = record { low = λ i j. absurd (true≢false (sym j ∙ ap is_low e)) }

placed-moved : {p : Point} {s : Site} {q : Point} {s' : Site} → Move Any p s q s' → (h : Line) → Placed p s h → Placed q s' h
unfolding KnowsIn rest admit without with_core with_masters with_doing with_stranger with_ps resting fresh_core flight
placed-moved (lets_go s e) h p = record { count = p.count; knows = any }
placed-moved (rests s) h p = record { count = p.count; knows = unflown refl }
placed-moved (notes a s i j k l) h p = record { count = p.count; knows = p.knows }
placed-moved (admits a s i j k) h p = record { count = p.count; knows = any }
placed-moved (drops s e i) h p = record { count = p.count; knows = any }
placed-moved (spares s e) h p = record { count = p.count; knows = any }
placed-moved (renews a b masters s i j k) h p = record { count = p.count; knows = unflown refl }

placed-acted : {p : Point} {s : Site} {q : Point} {s' : Site} {e : Event} → Act Any p s e q s' → (h : Line) → Placed p s h
    → Meets e h × Placed q s' (line_after e h)
unfolding KnowsIn is_low of_sendings Goes line_after sent_by joined served send_core pass_core beginning close_of done once
    with_rows with_marks with_core with_queue with_doing with_hold with_stranger queue_of rows_of confirm Q.confirmed take grown
    freed A.replies flight
placed-acted (opens clock s) h p = (any, record { count = p.count; knows = any })
placed-acted (serves starts clock High s e) h p =
    (any, record { count = p.count; knows = unlow (sending-served High _) })
placed-acted (serves starts clock Low s e) h p = (
  (λ i. sym p.count ∙ (saw-low starts _ clock e).1),
  record { count = p.count; knows = record { low = λ i j. refl } },
)
placed-acted (stops starts clock s e) h p = (any, record { count = p.count; knows = any })
placed-acted (quits s) h p = (any, record { count = p.count; knows = any })
placed-acted (passes s) h p = (any, record { count = p.count; knows = unflown (passing-flight _ _) })
placed-acted (repasses s e i) h p = (any, record { count = p.count; knows = record { low = p.knows.low } })
placed-acted (repeats High s i e j) h p = (any, record { count = p.count; knows = record { low = p.knows.low } })
placed-acted (repeats Low s i e j) h p = (
  (λ k. absurd (true≢false (sym (p.knows.low (ap flight (e any)) (ap is_low i)) ∙ k))),
  record { count = p.count; knows = record { low = λ k l. refl } },
)
placed-acted (closes High x o d s i e c) h p = (any, record { count = ap (λ (n : ℕ). n - 1) p.count; knows = any })
placed-acted (closes Low x o d s i e c) h p = (any, record { count = p.count; knows = any })
placed-acted (takes High r x s i e) h p =
    (any, record { count = ap (λ (n : ℕ). n + 1) p.count; knows = record { low = p.knows.low } })
placed-acted (takes Low r x s i e) h p = (any, record { count = p.count; knows = p.knows })
placed-acted (hands High s i) h p = (any, record { count = p.count; knows = p.knows })
placed-acted (hands Low s i) h p = (any, record { count = p.count; knows = p.knows })
placed-acted (replies o s) h p = (any, p)
placed-acted (shows z f d s) h p = (any, p)
placed-acted (restarts s) h p = (any, record { count = p.count; knows = any })
placed-acted (breaks s i) h p = (any, record { count = p.count; knows = any })
placed-acted (clears-high a b s i) h p = (any, record { count = ap (λ (n : ℕ). n - 1) p.count; knows = any })
placed-acted (clears-low a b s i) h p = (any, record { count = p.count; knows = any })

placed-refused : (n : ℕ) (s : Site) (h : Line) → Placed calm s h
    → Meets (refused n) h × Placed calm s (line_after (refused n) h)
unfolding of_sendings line_after
placed-refused n s h p = (any, p)

last_none : (h : Line) → line_last [] h ≡ h
unfolding line_last
last_none h = refl

last_more : (e : Event) (l : List Event) (h : Line) → line_last (e ∷ l) h ≡ line_last l (line_after e h)
unfolding line_last
last_more e l h = refl

abbrev precedence : Account ungrounded
precedence =
    record {
      History = Line;
      after = line_after;
      after_all = line_last;
      none = last_none;
      more = last_more;
      Meets = Meets;
      At = Placed;
      moves = λ m h g p. placed-moved m h p;
      acts = λ a h g p. placed-acted a h p;
      refuses = placed-refused;
    }

empty-line : (n : ℕ) → (empty_queue n).unconfirmed ≡ nobody.waiting
unfolding empty_queue nobody
empty-line n = refl

placed-begun : (w : World) → Begun w → Placed calm w.site nobody
unfolding KnowsIn flight
placed-begun w b =
    record {
      count = ap (λ (q : Queue). q.unconfirmed) (begun-queues w b).0 ∙ empty-line _;
      knows = unflown (ap flight (begun-marks w b).1);
    }

-- after a start and any calls, the high queue has as many unconfirmed requests as were accepted and not confirmed
pub waiting-is : (w : World) → Begun w → (l : List Call)
    → (run l w).world.site.core.high.unconfirmed ≡ (line_last (run l w).events nobody).waiting
waiting-is w b l = (kept_run precedence l w nobody any (placed-begun w b)).at.count

low_goes : (n : ℕ) (o : List ℕ) (k : ℕ) (h : Line) → Meets (sends (a_request Low n) o k) h → h.low ≡ false
    → h.waiting ≡ 0
unfolding of_sendings Goes
low_goes n o k h i = i

-- the theorem: after a start and any calls, where a low request is sent and none was sent before it that is not
-- confirmed, every high request that was accepted is confirmed
pub high-before-low : (w : World) → Begun w
    → (l : List Call) (before after : List Event) (n : ℕ) (o : List ℕ) (wait : ℕ)
    → (run l w).events ≡ before ++ (sends (a_request Low n) o wait ∷ after) → (line_last before nobody).low ≡ false
    → (line_last before nobody).waiting ≡ 0
high-before-low w b l before after n o wait e =
    low_goes n o wait _ (met precedence l w nobody any (placed-begun w b) before after _ e)
