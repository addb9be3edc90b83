-- Every call, of any world, is refused whole or is a trail of moves and acts: the one walk through the rules. Assumes
-- nothing.
use Prim.Native.Nat.{ℕ, zero, suc, ◌≤◌, ◌<◌}
use mathlib.Core.Bool.{Bool, true, false, true≢false}
use mathlib.Core.Path.{◌≡◌, refl, sym, ap, ◌∙◌}
use mathlib.Core.List.{List, [], ◌∷◌, ◌++◌}
use native.Mathlib.Omega.{arith}
use lib.ListN.{length}
use Rattle.choice.proofs.Rules.{pick_true, pick-false, true_same, false_same, true-less, false-less}
use Rattle.choice.proofs.Rules.{is_said}
use Rattle.frame.specs.declared.Part.{Part}
use Rattle.frame.specs.declared.Fields.{Fields}
use Rattle.frame.specs.declared.Fields.TheVariants.{Token, Short, Frame}
use Rattle.frame.specs.Reading.{Answer as Reading}
use Rattle.frame.specs.Reading.{Refused as Unread, Read}
use Rattle.frame.specs.Reading.{read}
use Rattle.ring.specs.Ring.{member}
use Rattle.request.specs.declared.Record.{Record}
use Rattle.queue.specs.declared.Queue.{Queue}
use Rattle.queue.specs.Queue.{Collected}
use Rattle.queue.specs.Queue.{Refused as Uncollected, Handed}
use Rattle.queue.specs.Queue as Q
use Rattle.queue.specs.Queue.{freed}
use Rattle.rows.specs.Rows.{Left, left, at, confirm, drain, handed}
use Rattle.state.specs.declared.Phase.{Phase}
use Rattle.state.specs.declared.Phase.TheVariants.{Idle, Awaited, Sdn, Check, ToSelf}
use Rattle.state.specs.declared.Priority.{Priority}
use Rattle.state.specs.declared.Priority.TheVariants.{High, Low}
use Rattle.state.specs.declared.Core.{Core}
use Rattle.state.specs.declared.Choice.{Choice}
use Rattle.state.specs.declared.Choice.TheVariants.{Serve, PassOn}
use Rattle.state.specs.declared.Outcome.{Outcome as Ending}
use Rattle.state.specs.declared.Verdict.{Verdict}
use Rattle.state.specs.declared.Verdict.TheVariants.{Plausible, Vain, Foreign}
use Rattle.state.specs.World.{Rows, Site, World, Event, Done, Called, refused, still, done, and_then, with_doing}
use Rattle.state.specs.World.{with_queue, queue_of, with_core, with_masters, with_marks, rows_of, with_rows, with_site}
use Rattle.state.specs.World.{with_memory}
use Rattle.state.specs.Request.{send_events, send, again_events, again_of, again, close_of, close}
use Rattle.state.specs.Pass.{ns, pass_events, pass, pass_again, without, recheck}
use Rattle.state.specs.Hold.{choice, finish, chosen, choose, resting, rest, beginning, begin, admit, token}
use Rattle.state.specs.Hold.{ended, retry, over, given_up, concluded}
use Rattle.state.specs.Answering.{UPDATE, Answered}
use Rattle.state.specs.Refusals.{lawless}
use Rattle.state.specs.Calls as Calls
use Rattle.state.specs.Calls.{called, replying, refuse, nothing, collecting, responder, idle}
use Rattle.state.specs.Calls.{idle_read}
use Rattle.state.specs.Calls.{awaited_read, heard, sent_in, slot_in, dismissed, dismissal, broken, count_of}
use Rattle.state.specs.Calls.{drained, forgotten, fresh_world, resetting}
use Rattle.state.specs.Runs.{Call, call, sending_of, sendings_in}
use Rattle.state.specs.Submitted.{never}
use Rattle.state.specs.Runs.Call.{submit, frame, sent, slot, reset, collect}
use Rattle.state.specs.Masters.{Changed, unchanged, entered, removed, restored}
use Rattle.state.proofs.Cases.{by, Any, any, positive}
use Rattle.state.proofs.Facts.{lawful-kept}
use Rattle.state.proofs.Phases.{flight, checking, broken-by}
use Rattle.state.proofs.Acts.{Point, calm, free, choosing, passing, halting, clearing, Closing, Move, Act, Trail}
use Rattle.state.proofs.Acts.{stop, move, act, filled}
use Rattle.state.proofs.Acts as Acts
use Rattle.state.proofs.Submission.{Submission, declines, admits, submission}
use Rattle.state.proofs.Weights.{weight, weight_in, weights-append, files, Spare, light, solo, spare-sendings}
use Rattle.state.proofs.Weights.{spare-unfiled, spare-beside}
use Rattle.state.proofs.Answers.{Answers, none, replied, shown, Answering, answering-answer, few-answers}
use Rattle.state.proofs.Hearing.{Memorable, Lawful, status_by, Minds, minds-answer, read-token, read-source}
use Rattle.state.proofs.Hearing.{lawful-judged, short-updates}
use Rattle.state.proofs.Places.{fewer}

-- ---- the site; of the set of masters m is known: where it is true of the set that a rule finds, or of the one that it
-- makes by entering or removing, it is true of the set that it leaves
pub record Goes (k : Type 0) (m : List ℕ → Type 0) (p : Point) (s : Site) (q : Point) (d : Done) : Type 0 where
  pub trail : Trail k p s d.events q d.site
  pub few : weight_in d.events ≤ 1
  pub set : m d.site.masters

-- a row that is written is no part of the set
set-rows : (y : Priority) (r : Rows) (s : Site) → (with_rows y r s).masters ≡ s.masters
unfolding with_rows
set-rows High r s = refl
set-rows Low r s = refl

module _ (k : Type 0) (m : List ℕ → Type 0) where
  goes-still : (p : Point) (s : Site) → m s.masters → Goes k m p s p (still s)
  unfolding still weight_in
  goes-still p s i = record { trail = stop; few = omega arith; set = i }

  goes_after : {p q r : Point} {s t : Site} {d : Done} → Move k p s q t → Goes k m q t r d → Goes k m p s r d
  goes_after x g = record { trail = move x g.trail; few = g.few; set = g.set }

  -- ---- the pass and the choice
  goes-pass : (s : Site) → m s.masters → Goes k m passing s calm (pass s)
  unfolding pass pass_events with_core done weight_in weight
  goes-pass s i = record { trail = act (Acts.passes s) stop; few = omega arith; set = i }

  goes-recheck : (s : Site) → (k → s.core.doing.phase ≡ Check) → m s.masters
      → (3 ≤ s.core.doing.sendings → m (without s).masters) → Goes k m calm s calm (recheck s)
  unfolding recheck pass_again with_core done weight_in weight
  goes-recheck s e i j =
      by (Goes k m calm s calm) _ _ _
      (λ h. record { trail = act (Acts.repasses s e (true-less _ _ h)) stop; few = omega arith; set = i })
      (λ h. goes_after (Acts.drops s e (false-less _ _ h)) (goes-pass _ (j (false-less _ _ h))))

  goes-chosen : (starts : Bool) (clock : ℕ) (x : Choice) (s : Site) → choice starts s.core clock ≡ x → m s.masters
      → Goes k m (choosing starts) s calm (chosen x s)
  unfolding chosen send send_events finish and_then with_core done weight_in weight
  goes-chosen starts clock (Serve y) s e i =
      record { trail = act (Acts.serves starts clock y s e) stop; few = omega arith; set = i }
  goes-chosen starts clock PassOn s e i =
      let g = goes-pass s i in
      record { trail = act (Acts.stops starts clock s e) g.trail; few = omega (arith, g.few); set = g.set }

  goes-choose : (starts : Bool) (clock : ℕ) (s : Site) → m s.masters
      → Goes k m (choosing starts) s calm (choose starts clock s)
  unfolding choose
  goes-choose starts clock s i = goes-chosen starts clock _ s refl i

  -- ---- a hold's start
  goes-begin : (clock : ℕ) (s : Site) → m s.masters → Goes k m free s calm (begin clock s)
  unfolding begin and_then with_core done weight_in weight
  goes-begin clock s i =
      let g = goes-choose true clock (with_core (beginning clock s.core) s) i in
      record { trail = act (Acts.opens clock s) g.trail; few = omega (arith, g.few); set = g.set }

  pub goes-token : (clock d a : ℕ) (s : Site) → (k → a ≤ 126) → (k → flight s.core.doing.phase ≡ false)
      → m s.masters
      → (d ≡ s.core.ts.0 → (a ≡ s.core.ts.0 → ⊥) → (a ≡ s.core.ps.0 → ⊥) → a ≡ s.core.stranger.0
      → m (admit a s).masters)
      → Goes k m calm s calm (token clock d a s)
  unfolding token with_core
  goes-token clock d a s h f i j =
      by (Goes k m calm s calm) _ _ _
      (λ c. by (Goes k m calm s calm) _ _ _ (λ e. goes-still calm s i)
      (λ n. by (Goes k m calm s calm) _ _ _ (λ e. goes_after (Acts.lets_go s f) (goes-begin clock s i))
      (λ o. by (Goes k m calm s calm) _ _ _
      (λ e. goes_after (Acts.lets_go s f)
      (goes_after (Acts.admits a s h (false_same _ _ n) (true_same _ _ e))
      (goes-begin clock _ (j (true_same _ _ c) (false_same _ _ n) (false_same _ _ o) (true_same _ _ e)))))
      (λ e. goes_after (Acts.notes a s h (false_same _ _ n) (false_same _ _ o) (false_same _ _ e))
      (goes-still calm _ i)))))
      (λ e. goes-still calm s i)

  -- ---- a request's end
  goes-ended : (x : Phase) (o : Ending) (l : List ℕ) (clock : ℕ) (s : Site) → (k → s.core.doing.phase ≡ x)
      → (k → Closing x o l) → m s.masters → Goes k m calm s calm (ended o l clock s)
  unfolding ended close close_of and_then with_marks with_core done weight_in weight
  goes-ended x o l clock s e c i =
      let g = goes-choose false clock (close o l s).site (rw (set-rows s.core.doing.served _ _) i) in
      record { trail = act (Acts.closes _ x o l s refl e c) g.trail; few = omega (arith, g.few); set = g.set }

  goes-given_up : (s : Site) → (k → s.core.doing.phase ≡ Awaited) → m s.masters
      → Goes k m calm s calm (given_up s)
  unfolding given_up close close_of over and_then rest with_marks with_core done weight_in weight
  goes-given_up s e i =
      record {
        trail = act (Acts.closes _ Awaited _ [] s refl e (λ z. Acts.lost))
            (act (Acts.quits _) (move (Acts.rests _) stop));
        few = omega arith;
        set = rw (set-rows s.core.doing.served _ _) i;
      }

  goes-retry : (clock : ℕ) (s : Site) → (k → s.core.doing.phase ≡ Awaited) → m s.masters
      → Goes k m calm s calm (retry clock s)
  unfolding retry again again_of again_events with_core done weight_in weight
  goes-retry clock s e i =
      by (Goes k m calm s calm) _ _ _ (λ h. goes-ended Awaited _ [] clock s e (λ z. Acts.lost) i)
      (λ h. record { trail = act (Acts.repeats _ s refl e (false-less _ _ h)) stop; few = omega arith; set = i })

  goes-concluded : (clock : ℕ) (x : List ℕ) (v : Verdict) (s : Site) → (k → s.core.doing.phase ≡ Awaited)
      → (k → Lawful x v) → m s.masters → Goes k m calm s calm (concluded clock x v s)
  unfolding concluded status_by
  goes-concluded clock x (Plausible n) s e l i =
      goes-ended Awaited _ x clock s e (λ z. Acts.replied n x (l z).status (l z).low (l z).short) i
  goes-concluded clock x Vain s e l i = goes-retry clock s e i
  goes-concluded clock x Foreign s e l i = goes-given_up s e i

  pub goes-awaited : (clock : ℕ) (octets : List ℕ) (r : Reading) (s : Site) → (k → read octets ≡ r)
      → (k → s.core.doing.phase ≡ Awaited) → m s.masters → Goes k m calm s calm (awaited_read clock octets r s)
  unfolding awaited_read
  goes-awaited clock octets (Unread n) s h e i = goes-retry clock s e i
  goes-awaited clock octets (Read f p) s h e i =
      goes-concluded clock _ _ s e (λ z. lawful-judged octets f p _ _ (h z)) i

  pub goes-sent : (x : Phase) (clock : ℕ) (s : Site) → (k → s.core.doing.phase ≡ x) → m s.masters
      → Goes k m calm s calm (sent_in x clock s)
  unfolding sent_in flight
  goes-sent Idle clock s e i = goes-still calm s i
  goes-sent Awaited clock s e i = goes-still calm s i
  goes-sent Sdn clock s e i = goes-ended Sdn _ [] clock s e (λ z. Acts.gone) i
  goes-sent Check clock s e i = goes-still calm s i
  goes-sent ToSelf clock s e i = goes_after (Acts.lets_go s (λ z. ap flight (e z))) (goes-begin clock s i)

  pub goes-slot : (x : Phase) (clock : ℕ) (s : Site) → (k → s.core.doing.phase ≡ x) → m s.masters
      → ((k → s.core.doing.phase ≡ Check) → 3 ≤ s.core.doing.sendings → m (without s).masters)
      → Goes k m calm s calm (slot_in x clock s)
  unfolding slot_in
  goes-slot Idle clock s e i j = goes-still calm s i
  goes-slot Awaited clock s e i j = goes-retry clock s e i
  goes-slot Sdn clock s e i j = goes-still calm s i
  goes-slot Check clock s e i j = goes-recheck s e i (j e)
  goes-slot ToSelf clock s e i j = goes-still calm s i

-- ---- the answering side
trail-answers : (s : Site) {l : List Event} → Answers (responder s.core) l → Trail Any calm s l calm s
trail-answers s none = stop
trail-answers s (replied o l e a) = act (Acts.replies o s) (trail-answers s a)
trail-answers s (shown h d l a) = act (Acts.shows any h d s) (trail-answers s a)

-- ---- a call that is carried out
-- submit and collect file
unfoldable pub filing : Call → Bool
filing (submit p r x) = true
filing (frame clock room high low octets out) = false
filing (sent clock out) = false
filing (slot clock out) = false
filing reset = false
filing (collect p) = true

-- a set of masters that a call may leave
abbrev Allowed : Call → World → List ℕ → Type 0
Allowed c w l = Changed w.site.core w.started w.site.masters c l

pub record Carried (c : Call) (w : World) (d : Called) : Type 0 where
  pub trail : Trail Any calm w.site d.events calm d.world.site
  pub few : Spare (filing c) d.events
  pub set : Allowed c w d.world.site.masters
  pub started : d.world.started ≡ w.started
  pub memory : Memorable w.memory → Memorable d.world.memory

carried-nothing : (c : Call) (w : World) → Carried c w (nothing w)
unfolding nothing weight_in
carried-nothing c w =
    record { trail = stop; few = light {l = []} (omega arith); set = unchanged c; started = refl; memory = λ m. m }

carried-called : (c : Call) (d : Done) (w : World) → Goes Any (Allowed c w) calm w.site calm d → Carried c w (called d w)
unfolding called with_site
carried-called c d w g =
    record { trail = g.trail; few = light g.few; set = g.set; started = refl; memory = λ m. m }

carried-replying : (c : Call) (a : Answered) (w : World) → Answering (responder w.site.core) a
    → (Memorable w.memory → Minds a) → Carried c w (replying a w)
unfolding replying with_memory
carried-replying c a w t m =
    record {
      trail = trail-answers w.site t.told;
      few = light (few-answers t.told);
      set = unchanged c;
      started = refl;
      memory = λ z. (m z).memory;
    }

-- after the pass's check is let go: what may be made of the set then, might have been before
allowed-rested : {c : Call} {x : Core} {started l r : List ℕ} → Changed (with_doing (resting x.doing) x) started l c r
    → Changed x started l c r
unfolding with_doing resting checking
allowed-rested (unchanged c) = unchanged c
allowed-rested (entered clock room high low octets out d a p e f g h i) =
    entered clock room high low octets out d a p e f g h i
allowed-rested (removed clock out e h) = absurd (true≢false (sym (ap checking e)))
allowed-rested restored = restored

carried-rested : {c : Call} {d : Called} (w : World) → flight w.site.core.doing.phase ≡ false
    → Carried c (with_site (rest w.site) w) d → Carried c w d
unfolding rest with_core with_site
carried-rested w f c =
    record {
      trail = move (Acts.lets_go _ (λ z. f)) (move (Acts.rests _) c.trail);
      few = c.few;
      set = allowed-rested c.set;
      started = c.started;
      memory = c.memory;
    }

-- ---- frame
module _ (clock : ℕ) (room : Bool) (high low octets : List ℕ) (out : ℕ) (u : length high ≤ UPDATE)
    (l : length low ≤ UPDATE) where
  abbrev handed-over : Call
  handed-over = frame clock room high low octets out

  carried-idle : (x : Fields) (d : Part) (w : World) → read octets ≡ Read x d
      → flight w.site.core.doing.phase ≡ false → Carried handed-over w (idle clock room high low x d w)
  unfolding idle admit with_masters with_core
  carried-idle (Token a b) d w e f =
      carried-called _ _ w
      (goes-token Any (Allowed handed-over w) clock _ _ w.site (λ z. read-token octets a b d e) (λ z. f)
      (unchanged _) (entered clock room high low octets out a b d e))
  carried-idle Short d w e f = carried-nothing _ w
  carried-idle (Frame h) d w e f =
      carried-replying _ _ w (answering-answer _ _ _ room high low h d)
      (λ m. minds-answer _ _ _ room high low h d m (read-source octets h d e) u l)

  carried-read : (r : Reading) (w : World) → read octets ≡ r → flight w.site.core.doing.phase ≡ false
      → Carried handed-over w (idle_read clock room high low r w)
  unfolding idle_read
  carried-read (Unread n) w e f = carried-nothing _ w
  carried-read (Read x d) w e f = carried-idle x d w e f

  rest-unflown : (s : Site) → flight (rest s).core.doing.phase ≡ false
  unfolding rest with_core with_doing resting flight
  rest-unflown s = refl

  carried-check : (w : World) → flight w.site.core.doing.phase ≡ false
      → Carried handed-over w (idle_read clock room high low (read octets) (with_site (rest w.site) w))
  unfolding with_site
  carried-check w f = carried-rested w f (carried-read _ _ refl (rest-unflown w.site))

  pub carried-heard : (x : Phase) (w : World) → w.site.core.doing.phase ≡ x
      → Carried handed-over w (heard x clock room high low octets w)
  unfolding heard flight
  carried-heard Idle w e = carried-read _ w refl (ap flight e)
  carried-heard Awaited w e =
      carried-called _ _ w
      (goes-awaited Any (Allowed handed-over w) clock octets _ w.site (λ z. refl) (λ z. e) (unchanged _))
  carried-heard Sdn w e = carried-nothing _ w
  carried-heard Check w e = carried-check w (ap flight e)
  carried-heard ToSelf w e = carried-nothing _ w

pub carried-sent : (clock out : ℕ) (w : World)
    → Carried (sent clock out) w (called (sent_in w.site.core.doing.phase clock w.site) w)
carried-sent clock out w =
    carried-called _ _ w (goes-sent Any (Allowed (sent clock out) w) _ clock w.site (λ z. refl) (unchanged _))

pub carried-slot : (clock out : ℕ) (w : World)
    → Carried (slot clock out) w (called (slot_in w.site.core.doing.phase clock w.site) w)
unfolding without ns with_masters with_core
carried-slot clock out w =
    carried-called _ _ w
    (goes-slot Any (Allowed (slot clock out) w) _ clock w.site (λ z. refl) (unchanged _)
    (λ e. removed clock out (e any)))

-- ---- reset
drain-none : (n m : ℕ) (l : Left Queue) → n ≡ l.answer.unconfirmed → (drain n m l).answer.unconfirmed ≡ 0
unfolding drain confirm
drain-none zero m l e = sym e
drain-none (suc n) m l e = drain-none n 0 _ (fewer n l.answer e)

module _ (k : Type 0) where
  halts : (b : Bool) (s t : Site) (l : List Event) → flight s.core.doing.phase ≡ b
      → Trail k (clearing (count_of High s.core) (count_of Low s.core)) s l calm t
      → Trail k halting s (broken s.core.doing.phase ++ l) calm t
  halts true s t l e i = rw (broken-by s.core.doing.phase ∙ pick_true _ _ e) (act (Acts.breaks s e) i)
  halts false s t l e i = rw (broken-by s.core.doing.phase ∙ pick-false _ _ e) (move (Acts.spares s e) i)

  clears-high : (n a b : ℕ) (s t : Site) (l : List Event) → n ≡ s.core.high.unconfirmed
      → ((c : ℕ)
      → Trail k (clearing c b)
      (filled High (drain n a (left s.core.high s.high.row s.high.area)) s) l calm t)
      → Trail k (clearing a b) s (dismissed High n a s.core.high ++ l) calm t
  unfolding dismissed drain confirm with_rows with_core with_queue queue_of rows_of
  clears-high zero a b s t l e i = i a
  clears-high (suc n) a b s t l e i =
      act (Acts.clears-high a b s (omega arith)) (clears-high n 0 b _ t l (fewer n s.core.high e) i)

  clears-low : (n a b : ℕ) (s t : Site) → n ≡ s.core.low.unconfirmed
      → ((c : ℕ)
      → Trail k (clearing a c) (filled Low (drain n b (left s.core.low s.low.row s.low.area)) s)
      [] calm t)
      → Trail k (clearing a b) s (dismissed Low n b s.core.low) calm t
  unfolding dismissed drain confirm with_rows with_core with_queue queue_of rows_of
  clears-low zero a b s t e i = i b
  clears-low (suc n) a b s t e i =
      act (Acts.clears-low a b s (omega arith)) (clears-low n a 0 _ t (fewer n s.core.low e) i)

  pub trail-resetting : (w : World) → (k → member w.started w.site.core.ts.0 ≡ true)
      → Trail k calm w.site (resetting w).events calm (resetting w).world.site
  unfolding resetting fresh_world dismissal drained queue_of rows_of with_rows with_core with_queue
  trail-resetting w e =
      act (Acts.restarts w.site)
      (halts _ w.site _ _ refl
      (clears-high _ _ _ w.site _ _ refl
      (λ a. clears-low _ _ _ (filled High (drained High w.site) w.site) _ refl
      (λ b. move (Acts.renews a b w.started _ e (drain-none _ _ _ refl) (drain-none _ _ _ refl)) stop))))

reset-rest : (w : World) → ((resetting w).world.started ≡ w.started) × Memorable (resetting w).world.memory
unfolding resetting fresh_world forgotten
reset-rest w = (refl, record { source = omega arith; reply = omega arith })

reset-set : (w : World) → (resetting w).world.site.masters ≡ w.started
unfolding resetting fresh_world
reset-set w = refl

-- a reset sends and files nothing
unsent-broken : (x : Phase) → weight_in (broken x) ≡ 0
unfolding weight_in weight
unsent-broken x =
    rw (broken-by x) (by (λ (l : List Event). weight_in l ≡ 0) _ _ _ (λ e. refl) (λ e. refl))

unsent-dismissed : (y : Priority) (n count : ℕ) (q : Queue) → weight_in (dismissed y n count q) ≡ 0
unfolding dismissed weight_in weight
unsent-dismissed y zero count q = refl
unsent-dismissed y (suc n) count q = omega (arith, unsent-dismissed y n 0 (Q.confirmed q))

few-resetting : (w : World) → weight_in (resetting w).events ≤ 1
unfolding resetting dismissal weight_in weight
few-resetting w =
    let c = w.site.core in
    omega (
      arith,
      weights-append (broken c.doing.phase) (dismissal High c ++ dismissal Low c),
      weights-append (dismissal High c) (dismissal Low c),
      unsent-broken c.doing.phase,
      unsent-dismissed High (queue_of High c).unconfirmed (count_of High c) (queue_of High c),
      unsent-dismissed Low (queue_of Low c).unconfirmed (count_of Low c) (queue_of Low c),
    )

pub carried-resetting : (w : World)
    → lawless w.site.core w.site.masters w.started w.memory.kept ≡ false → Carried reset w (resetting w)
carried-resetting w e =
    record {
      trail = trail-resetting Any w (λ z. lawful-kept w.site.core w.site.masters w.started _ e);
      few = light (few-resetting w);
      set = rw (reset-set w) restored;
      started = (reset-rest w).0;
      memory = λ m. (reset-rest w).1;
    }

-- ---- any call is refused whole, or carried out
pub data Course (w : World) : Call → Called → Type 0 where
  declined : {c : Call} (n : ℕ) → Course w c (refuse n w)
  carried : {c : Call} {d : Called} → Carried c w d → Course w c d

spurned : {c : Call} (n : ℕ) (w : World) → Course w c (called (done w.site (refused n ∷ [])) w)
unfolding called done with_site refuse
spurned n w = declined n

filed : {c : Call} {e : Event} {t : Site} (w : World) → Act Any calm w.site e calm t → sending_of e ≡ 0
    → filing c ≡ true → t.masters ≡ w.site.masters → Course w c (called (done t (e ∷ [])) w)
unfolding called done with_site
filed {c} w a h f i =
    carried {c = c}
    (record { trail = act a stop; few = rw f (solo _ h); set = rw i (unchanged c); started = refl; memory = λ m. m })

-- of a submit that was given a record, by the one that it took
course-submit : {y : Priority} {r : Record} {x : List ℕ} {w : World} {d : Called} (given : Record)
    → Submission y r x w d → Course w (submit y given x) d
unfolding sending_of filing with_core
course-submit given (declines m h) = declined m
course-submit {y} {r} {x} {w} given (admits l g a e) =
    filed w (Acts.takes y r x w.site a e) refl refl (set-rows y _ _)

-- a fact of what a queue hands back: of every refusal, and of its oldest confirmed record
pub handed-back : (P : Collected → Type 0) (q : Queue) (row : List ℕ) → ((n : ℕ) → P (Uncollected n))
    → (0 < q.confirmed → P (Handed q.first (at row q.first) (freed q))) → P (handed q row)
unfolding handed Q.collected
handed-back P q row f g =
    by P _ _ _ (λ e. f 28) (λ e. by P _ _ _ (λ i. g (positive _ (false_same _ _ e))) (λ i. f 29))

pub course-collect : (y : Priority) (w : World)
    → Course w (collect y)
    (called (collecting y (handed (queue_of y w.site.core) (rows_of y w.site).row) w.site) w)
unfolding collecting sending_of filing with_core
course-collect y w =
    handed-back (λ (c : Collected). Course w (collect y) (called (collecting y c w.site) w)) _ _ (λ n. spurned n w)
    (λ h. filed w (Acts.hands y w.site h) refl refl refl)

pub course : (c : Call) (w : World) → Course w c (call c w)
unfolding call Calls.collect Calls.reset Calls.frame Calls.sent Calls.slot
course (submit y r x) w = course-submit r (submission y r x w)
course (frame clock room high low octets out) w =
    by (Course w (frame clock room high low octets out)) _ _ _
    (λ e. let u = short-updates out (length high) (length low) w (true_same _ _ e) in carried
    (carried-heard clock room high low octets out u.0 u.1 _ w refl))
    (λ e. declined _)
course (sent clock out) w =
    by (Course w (sent clock out)) _ _ _ (λ e. carried (carried-sent clock out w)) (λ e. declined _)
course (slot clock out) w =
    by (Course w (slot clock out)) _ _ _ (λ e. carried (carried-slot clock out w)) (λ e. declined _)
course reset w =
    by (Course w reset) _ _ _ (λ e. declined 21)
    (λ e. by (Course w reset) _ _ _ (λ e. declined 21)
    (λ e. by (Course w reset) _ _ _ (λ e. declined 29) (λ e. carried (carried-resetting w (is_said e)))))
course (collect y) w =
    by (Course w (collect y)) _ _ _ (λ e. declined 21)
    (λ e. by (Course w (collect y)) _ _ _ (λ e. declined 29) (λ e. course-collect y w))

spare-course : {c : Call} {w : World} {d : Called} → Course w c d → Spare (filing c) d.events
unfolding refuse weight_in weight
spare-course (declined n) = light {l = refused n ∷ []} (omega arith)
spare-course (carried c) = c.few

-- ---- in every call, of any world, at most one sending is told: the sendings of a history are the octets that callers
-- were told to send
pub one-sending : (c : Call) (w : World) → sendings_in (call c w).events ≤ 1
one-sending c w = spare-sendings (spare-course (course c w))

-- none but submit and collect tells of an acceptance or of a record collected
pub solely : (c : Call) (w : World) → filing c ≡ false → never files (call c w).events ≡ true
solely c w h = spare-unfiled (spare-course (course c w)) h

-- and no call does so beside an event
pub unfiled-beside : (c : Call) (w : World) (former latter : List Event) (e : Event)
    → (call c w).events ≡ former ++ (e ∷ latter) → (never files former ≡ true) × (never files latter ≡ true)
unfiled-beside c w former latter e i = spare-beside (spare-course (course c w)) former latter e i
