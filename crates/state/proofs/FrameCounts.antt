-- Frame counts over a run: every sending of a request has the FCB and FCV that the history's mark of its destination
-- gives, and one that is sent again goes with the same octets. Assumes nothing.
use Prim.Native.Nat.{ℕ, ◌≤◌, ◌<◌}
use mathlib.Core.Bool.{Bool, true, false, true≢false}
use mathlib.Core.Path.{◌≡◌, refl, sym, ap, ◌∙◌}
use mathlib.Core.List.{List, [], ◌∷◌, ◌++◌}
use native.Mathlib.Omega.{arith}
use lib.ListN.{length, replicate}
use Rattle.choice.specs.Choice.{same}
use Rattle.choice.proofs.Rules.{not-turned}
use Rattle.frame.specs.declared.Address.{Address}
use Rattle.times.specs.declared.Settings.{Settings}
use Rattle.request.specs.declared.Record.{Record}
use Rattle.request.specs.Record.{SDN, DS}
use Rattle.request.proofs.Laws.{fit-short}
use Rattle.queue.specs.declared.Queue.{Queue}
use Rattle.queue.specs.Queue.{AREA, take}
use Rattle.queue.proofs.Laws.{Accepted}
use Rattle.state.specs.declared.Phase.{Phase}
use Rattle.state.specs.declared.Phase.TheVariants.{Awaited, Sdn}
use Rattle.state.specs.declared.Priority.{Priority}
use Rattle.state.specs.declared.Priority.TheVariants.{High, Low}
use Rattle.state.specs.declared.Doing.{Doing}
use Rattle.state.specs.declared.Choice.TheVariants.{Serve}
use Rattle.state.specs.declared.Outcome.{Outcome as Ending}
use Rattle.state.specs.World.{Rows, Site, World, Event, a_request, sends, confirmed, refused, done, with_doing}
use Rattle.state.specs.World.{with_stranger, with_ps, with_queue, queue_of, with_core, with_masters, with_marks}
use Rattle.state.specs.World.{rows_of, with_rows}
use Rattle.state.specs.Request.{UNKNOWN, record_in, record_of, send_core, once, status_of, close_of}
use Rattle.state.specs.Pass.{pass_core, without}
use Rattle.state.specs.Hold.{choice, resting, rest, admit}
use Rattle.state.specs.Answering as A
use Rattle.state.specs.Refusals.{row_by, unlike_in}
use Rattle.state.specs.Calls.{fresh_core}
use Rattle.state.specs.Runs.{Call, run, Begun}
use Rattle.state.specs.Counts.{Pending, none, History, unheard, closes as closes_in, goes, heeds, history, Rightly}
use Rattle.state.specs.Counts as C
use Rattle.state.proofs.Cases.{Any, any}
use Rattle.state.proofs.Phases.{flight}
use Rattle.state.proofs.Choices.{saw-high, saw-low}
use Rattle.state.proofs.Acts.{Point, calm, free, choosing, passing, halting, clearing, Closing, Move, lets_go}
use Rattle.state.proofs.Acts.{rests, notes, admits, drops, spares, renews, Act, opens, serves, stops, quits}
use Rattle.state.proofs.Acts.{passes, repasses, repeats, closes, takes, hands, replies, shows, restarts}
use Rattle.state.proofs.Acts.{breaks, clears-high, clears-low, first_sending, next_sending, closing, sent}
use Rattle.state.proofs.Acts.{sent_again, grown_by, freed_of}
use Rattle.state.proofs.Acts as Acts
use Rattle.state.proofs.Keeping.{Account, Right, kept_run, of_sendings}
use Rattle.state.proofs.Standing.{sending-flight, sending-served, passing-flight}
use Rattle.state.proofs.Poise.{queue_by, Loaded, FirmAt, AptAt, Poised, poised-apt, poise, served-some}
use Rattle.state.proofs.Poise.{closing-flight}
use Rattle.state.proofs.Ordered.{poised}
use Rattle.state.proofs.Start.{begun-orderly, begun-marks}
use Rattle.state.proofs.Agreed.{agree-unknown}
use Rattle.state.proofs.Tally.{Sent, Meets, Counts, counts-split, rows_by, going_in, Fits, FitsAt, Rests}
use Rattle.state.proofs.Tally.{at_rest, rested, first-fit, goes-rightly, Suits, gone, lost, replied}
use Rattle.state.proofs.Tally.{closes-own, agree-closed, going-grown, going-freed}

-- ---- how the history stands at each point of a call: between calls as the phase says; within one nothing is pending; and
-- in a reset all is forgotten
unfoldable Stands : Point → Site → History → Type 0
Stands calm s z = FitsAt s z
Stands free s z = Rests s.marks z
Stands (choosing b) s z = Rests s.marks z
Stands passing s z = Rests s.marks z
Stands halting s z = z ≡ unheard
Stands (clearing a b) s z = z ≡ unheard

fits_fresh : {ts : Address} {g : Doing} {h l : Queue} {u v : Rows} → flight g.phase ≡ false
    → Fits ts (replicate 127 UNKNOWN) g h l u v unheard
unfolding unheard
fits_fresh e = rested e (record { agree = agree-unknown; nothing = refl })

stands-moved : {p : Point} {s : Site} {q : Point} {s' : Site} → Move Any p s q s' → (z : History) → Stands p s z → Stands q s' z
unfolding Stands rest admit without with_core with_masters with_doing with_stranger with_ps resting fresh_core flight
stands-moved (lets_go s h) z i = at_rest (h any) i
stands-moved (rests s) z i = rested refl i
stands-moved (notes a s h j k l) z i = i
stands-moved (admits a s h j k) z i = i
stands-moved (drops s e h) z i = at_rest (ap flight (e any)) i
stands-moved (spares s h) z i = i
stands-moved (renews a b masters s h j k) z i = rw i (fits_fresh refl)

-- ---- a sending, for the first time and again
turn-first : {y : Priority} {n : ℕ} {o : List ℕ} {x : Pending} → x ≡ C.none → C.Turn y n o x
turn-first e = rw e C.first

turn-again : {y : Priority} {n : ℕ} {o : List ℕ} {x : Pending} → x ≡ C.sent y n o → C.Turn y n o x
turn-again e = rw e C.again

-- ---- the phase says what is being sent
served-service : (y : Priority) (x : Phase) (s : Site)
    → Loaded x (queue_by y s.core.high s.core.low) (row_by y s.high.row s.low.row)
    → unlike_in x (record_in (queue_by y s.core.high s.core.low) (rows_by y s.high s.low)).service
    ≡ false
unfolding queue_by rows_by row_by record_in
served-service High x s l = l.fits
served-service Low x s l = l.fits

abbrev service_at : Priority → Site → ℕ
service_at y s = (record_in (queue_by y s.core.high s.core.low) (rows_by y s.high s.low)).service

pub awaited-service : (y : Priority) (s : Site) → s.core.doing.served ≡ y → s.core.doing.phase ≡ Awaited
    → AptAt s → same (service_at y s) SDN ≡ false
unfolding unlike_in flight
awaited-service y s i e a = served-service y Awaited s (rw (i, e) at (a.flying (ap flight e)))

sdn-service : (y : Priority) (s : Site) → s.core.doing.served ≡ y → s.core.doing.phase ≡ Sdn → AptAt s
    → same (service_at y s) SDN ≡ true
unfolding unlike_in flight
sdn-service y s i e a = not-turned _ (served-service y Sdn s (rw (i, e) at (a.flying (ap flight e))))

closing-suits : {x : Phase} {o : Ending} {d : List ℕ} (y : Priority) (s : Site) → s.core.doing.served ≡ y
    → s.core.doing.phase ≡ x → AptAt s → Closing x o d → Suits o (service_at y s)
closing-suits y s i e a (Acts.replied n d j k l) = replied n _ (awaited-service y s i e a) (λ z. omega arith)
closing-suits y s i e a Acts.lost = lost _ (awaited-service y s i e a)
closing-suits y s i e a Acts.gone = gone _ (sdn-service y s i e a)

module _ (t : Settings) (ts : ℕ) (s : Site) (z : History) (f : FirmAt t ts s) where
  stands-serves : (starts : Bool) (clock : ℕ) (y : Priority) → choice starts s.core clock ≡ Serve y
      → Rests s.marks z → Meets (first_sending y s) z × FitsAt (sent y s) (heeds (first_sending y s) z)
  unfolding send_core with_core with_doing queue_of rows_of of_sendings Sent heeds goes queue_by rows_by
  stands-serves starts clock High e r = (
    goes-rightly High _ _ _ _ (first-fit _ _ _ f.high (saw-high starts _ clock e)) _ z r.agree
        (turn-first r.nothing),
    record {
      agree = r.agree;
      flying = λ e. rw (sending-served High (record_in s.core.high s.high).service);
      resting = λ e. absurd (true≢false (sym (sending-flight High _) ∙ e));
    },
  )
  stands-serves starts clock Low e r = (
    goes-rightly Low _ _ _ _ (first-fit _ _ _ f.low (saw-low starts _ clock e).0) _ z r.agree
        (turn-first r.nothing),
    record {
      agree = r.agree;
      flying = λ e. rw (sending-served Low (record_in s.core.low s.low).service);
      resting = λ e. absurd (true≢false (sym (sending-flight Low _) ∙ e));
    },
  )

  stands-repeats : (y : Priority) → s.core.doing.served ≡ y → flight s.core.doing.phase ≡ true
      → 0 < (queue_by y s.core.high s.core.low).unconfirmed → FitsAt s z
      → Meets (next_sending y s) z × FitsAt (sent_again s) (heeds (next_sending y s) z)
  unfolding once with_core with_doing queue_of rows_of of_sendings Sent heeds goes queue_by rows_by
  stands-repeats High e h n i = (
    goes-rightly High _ _ _ _ (first-fit _ _ _ f.high n) _ z i.agree (turn-again (rw e at (i.flying h))),
    record { agree = i.agree; flying = λ j. rw e; resting = λ j. absurd (true≢false (sym h ∙ j)) },
  )
  stands-repeats Low e h n i = (
    goes-rightly Low _ _ _ _ (first-fit _ _ _ f.low n) _ z i.agree (turn-again (rw e at (i.flying h))),
    record { agree = i.agree; flying = λ j. rw e; resting = λ j. absurd (true≢false (sym h ∙ j)) },
  )

  -- ---- a confirmation, which leaves nothing pending
  stands-closes : (y : Priority) (o : Ending) (x : List ℕ) → s.core.doing.served ≡ y
      → flight s.core.doing.phase ≡ true → 0 < (queue_by y s.core.high s.core.low).unconfirmed
      → Suits o (service_at y s) → FitsAt s z → Rests (close_of y o x s).site.marks (heeds (closing y o s) z)
  unfolding close_of done with_rows with_marks with_core with_queue queue_of rows_of record_of heeds queue_by rows_by
  stands-closes High o x e h n u i =
      rw (closes-own High _ (status_of o) _ z (rw e at (i.flying h)))
      record { agree = agree-closed High _ _ _ _ (first-fit _ _ _ f.high n) o _ u i.agree; nothing = refl }
  stands-closes Low o x e h n u i =
      rw (closes-own Low _ (status_of o) _ z (rw e at (i.flying h)))
      record { agree = agree-closed Low _ _ _ _ (first-fit _ _ _ f.low n) o _ u i.agree; nothing = refl }

-- ---- submit and collect: what is being sent stays as it is
module _ {ts : Address} {marks : List ℕ} {g : Doing} {h l h' : Queue} {u v u' : Rows} {z : History} where
  refit-high : (y : Priority) → g.served ≡ y → (flight g.phase ≡ true → 0 < (queue_by g.served h l).unconfirmed)
      → (0 < h.unconfirmed → going_in High ts marks h' u' ≡ going_in High ts marks h u) → Fits ts marks g h l u v z
      → Fits ts marks g h' l u' v z
  unfolding queue_by rows_by
  refit-high High e n k i =
      record {
        agree = i.agree;
        flying = λ f. rw e (rw e at (i.flying f) ∙ sym (k (rw e at (n f))));
        resting = i.resting;
      }
  refit-high Low e n k i = record { agree = i.agree; flying = λ f. rw e (rw e at (i.flying f)); resting = i.resting }

  refit-low : (y : Priority) → g.served ≡ y → (flight g.phase ≡ true → 0 < (queue_by g.served l h).unconfirmed)
      → (0 < h.unconfirmed → going_in Low ts marks h' u' ≡ going_in Low ts marks h u) → Fits ts marks g l h v u z
      → Fits ts marks g l h' v u' z
  unfolding queue_by rows_by
  refit-low High e n k i = record { agree = i.agree; flying = λ f. rw e (rw e at (i.flying f)); resting = i.resting }
  refit-low Low e n k i =
      record {
        agree = i.agree;
        flying = λ f. rw e (rw e at (i.flying f) ∙ sym (k (rw e at (n f))));
        resting = i.resting;
      }

taken-short : (ts : ℕ) (q : Queue) (r : Record) (n : ℕ) → Accepted ts q r n → n ≤ AREA
taken-short ts q r n a = let s = fit-short ts r n a.fit in omega (arith, s)

module _ (t : Settings) (ts : ℕ) (s : Site) (z : History) (f : FirmAt t ts s) (a : AptAt s) (i : FitsAt s z) where
  stands-takes : (y : Priority) (r : Record) (x : List ℕ)
      → Accepted s.core.ts.0 (queue_of y s.core) r (length x) → FitsAt (grown_by y r x s) z
  unfolding with_rows with_core with_queue queue_of rows_of take
  stands-takes High r x c =
      refit-high _ refl (λ h. (a.flying h).some)
      (λ h. going-grown High _ _ s.core.high s.high f.high h _ x c.room (taken-short _ _ r _ c)) i
  stands-takes Low r x c =
      refit-low _ refl (λ h. (a.flying h).some)
      (λ h. going-grown Low _ _ s.core.low s.low f.low h _ x c.room (taken-short _ _ r _ c)) i

  stands-hands : (y : Priority) → 0 < (queue_of y s.core).confirmed → FitsAt (freed_of y s) z
  unfolding with_core with_queue queue_of
  stands-hands High c =
      refit-high _ refl (λ h. (a.flying h).some) (λ h. going-freed High _ _ s.core.high s.high f.high h c) i
  stands-hands Low c =
      refit-low _ refl (λ h. (a.flying h).some) (λ h. going-freed Low _ _ s.core.low s.low f.low h c) i

closed-unheard : (y : Priority) (n status k : ℕ) (z : History) → z ≡ unheard
    → heeds (confirmed y n status k) z ≡ unheard
unfolding heeds closes_in unheard
closed-unheard y n status k z e = rw e

stands-acted : (t : Settings) (ts : ℕ) {p : Point} {s : Site} {q : Point} {s' : Site} {e : Event} → Act Any p s e q s' → (z : History)
    → Poised t ts p s → Stands p s z → Meets e z × Stands q s' (heeds e z)
unfolding Stands of_sendings Sent heeds goes pass_core with_core with_doing once flight A.replies
stands-acted t ts (opens clock s) z g i = (any, i)
stands-acted t ts (serves starts clock y s e) z g i = stands-serves t ts s z g.firm starts clock y e i
stands-acted t ts (stops starts clock s e) z g i = (any, i)
stands-acted t ts (quits s) z g i = (any, i)
stands-acted t ts (passes s) z g i = (any, rested (passing-flight _ _) i)
stands-acted t ts (repasses s e h) z g i = (any, rested (ap flight (e any)) (at_rest (ap flight (e any)) i))
stands-acted t ts (repeats y s j e h) z g i =
    stands-repeats t ts s z g.firm y j (ap flight (e any)) (served-some y s j (ap flight (e any)) (poised-apt g)) i
stands-acted t ts (closes y x o d s j e c) z g i =
    let h = ap flight (e any) ∙ closing-flight (c any) in (
      any,
      stands-closes t ts s z g.firm y o d j h (served-some y s j h (poised-apt g))
          (closing-suits y s j (e any) (poised-apt g) (c any)) i,
    )
stands-acted t ts (takes y r x s c e) z g i = (any, stands-takes t ts s z g.firm (poised-apt g) i y r x c)
stands-acted t ts (hands y s c) z g i = (any, stands-hands t ts s z g.firm (poised-apt g) i y c)
stands-acted t ts (replies o s) z g i = (any, i)
stands-acted t ts (shows k h d s) z g i = (any, i)
stands-acted t ts (restarts s) z g i = (any, refl)
stands-acted t ts (breaks s h) z g i = (any, i)
stands-acted t ts (clears-high a b s h) z g i = (any, closed-unheard High _ DS a z i)
stands-acted t ts (clears-low a b s h) z g i = (any, closed-unheard Low _ DS b z i)

stands-refused : (n : ℕ) (s : Site) (z : History) → Stands calm s z
    → Meets (refused n) z × Stands calm s (heeds (refused n) z)
unfolding of_sendings heeds
stands-refused n s z i = (any, i)

history-none : (z : History) → history [] z ≡ z
unfolding history
history-none z = refl

history-more : (e : Event) (l : List Event) (z : History) → history (e ∷ l) z ≡ history l (heeds e z)
unfolding history
history-more e l z = refl

module _ (t : Settings) (ts : ℕ) (small : ts ≤ 126) where
  abbrev tally : Account (poise t ts small)
  tally =
      record {
        History = History;
        after = heeds;
        after_all = history;
        none = history-none;
        more = history-more;
        Meets = Meets;
        At = Stands;
        moves = λ m z g i. stands-moved m z i;
        acts = λ a z g i. stands-acted t ts a z g i;
        refuses = stands-refused;
      }

  counts-right : (l : List Event) (z : History) → Right tally z l → Counts z l
  unfolding Right Counts
  counts-right [] z c = any
  counts-right (e ∷ l) z c = (c.0, counts-right l (heeds e z) c.1)

fits-begun : (w : World) → Begun w → Stands calm w.site unheard
unfolding Stands flight
fits-begun w b =
    let m = begun-marks w b in
    rw m.0 (fits_fresh (ap flight m.1))

pub sends-rightly : (p : Priority) (n : ℕ) (o : List ℕ) (t : ℕ) (z : History) → Meets (sends (a_request p n) o t) z
    → Rightly z p n o
unfolding of_sendings Sent
sends-rightly p n o t z h = h

pub counts-begun : (w : World) → Begun w → (l : List Call) → Counts unheard (run l w).events
counts-begun w b l =
    let o = begun-orderly w b in
    counts-right b.settings b.ts o.small _ unheard
    (kept_run (tally b.settings b.ts o.small) l w unheard (poised b.settings b.ts w o)
    (fits-begun w b)).right

-- the theorem: after a start and any calls, each sending of a request among the events has the control that the
-- history of the events before it gives, and is either the first or "the same octets again"
pub frame-counts : (w : World) → Begun w
    → (l : List Call) (before after : List Event) (p : Priority) (n : ℕ) (o : List ℕ) (wait : ℕ)
    → (run l w).events ≡ before ++ (sends (a_request p n) o wait ∷ after) → Rightly (history before unheard) p n o
frame-counts w b l before after p n o wait e =
    sends-rightly p n o wait _ (counts-split before after _ unheard (rw e at (counts-begun w b l)))
