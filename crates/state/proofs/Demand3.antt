-- Demand 3: "Nothing starves an urgent order." A high request accepted with k high requests unconfirmed ahead of it is
-- served, whatever calls come after. Assumes nothing.
use Prim.Native.Nat.{ℕ, ◌+◌, ◌≤◌, ◌<◌}
use mathlib.Core.Bool.{Bool, true, false, true≢false}
use mathlib.Core.Path.{◌≡◌, refl, sym, ap, ◌∙◌}
use mathlib.Core.List.{List, [], ◌∷◌}
use native.Mathlib.Omega.{arith}
use Rattle.choice.proofs.Rules.{pick_true, false_same}
use Rattle.request.specs.declared.Record.{Record}
use Rattle.request.specs.Record.{limited}
use Rattle.queue.specs.declared.Queue.{Queue}
use Rattle.queue.specs.Queue.{place, closed, waiting, grown, take}
use Rattle.queue.proofs.Laws.{place-below}
use Rattle.rows.specs.Rows.{put}
use Rattle.rows.proofs.Laws.{at-put}
use Rattle.state.specs.declared.Phase.{Phase}
use Rattle.state.specs.declared.Priority.{Priority}
use Rattle.state.specs.declared.Priority.TheVariants.{High, Low}
use Rattle.state.specs.declared.Doing.{Doing}
use Rattle.state.specs.declared.Core.{Core}
use Rattle.state.specs.World.{World, Called, accepted, done, with_queue, queue_of}
use Rattle.state.specs.World.{with_core, rows_of, with_rows, with_site}
use Rattle.state.specs.Refusals.{odd_in}
use Rattle.state.specs.Calls as Calls
use Rattle.state.specs.Calls.{called, refuse, limited_in}
use Rattle.state.specs.Runs.{Call, call, run, Begun}
use Rattle.state.specs.Runs.Call.{submit}
use Rattle.state.specs.Fate.{Fate, newborn, fate, Served}
use Rattle.state.specs.Precedence.{nobody, line_last}
use Rattle.state.proofs.Facts.{lent_rows, lawful, lawful-phase}
use Rattle.state.proofs.Submission.{placed, Submission, declines, admits, submission}
use Rattle.state.proofs.Refused.{refuses}
use Rattle.state.proofs.Precedence.{waiting-is}
use Rattle.state.proofs.Places.{Rowed, waiting-new, rowed-grown}
use Rattle.state.proofs.Fates.{fresh-born, Fresh}
use Rattle.state.proofs.Phases.{flight, odd-by}
use Rattle.state.proofs.Standing.{Ground, Stage, off, ours, ahead, lower, Standing, waits, shut, gone, StandsAt}
use Rattle.state.proofs.Steps.{holds-run}
use Rattle.state.proofs.Ordered.{run-orderly}
use Rattle.state.proofs.Start.{begun-orderly}

-- ---- what its standing says of its fate
unserved : {k limit n : ℕ} {f : Fate} (d : ℕ) → Fresh n f → n ≤ limit + 1 → f.holds + d ≤ k → Served k limit f
unserved d o l t =
    record {
      once = omega (arith, o.confirmations);
      in_time = λ h. absurd (omega arith);
      at_reset = λ h. absurd (true≢false (sym h ∙ o.reset));
      few = omega (arith, o.sendings);
      counted = λ h. absurd (omega (arith, o.confirmations));
      handed_back = λ h. absurd (true≢false (sym h ∙ o.collected));
    }

waiting-served : {k limit : ℕ} (d : ℕ) {g : Doing} {f : Fate} → Stage k limit d g f → Served k limit f
waiting-served d (off h o) = unserved d o.fresh (omega arith) o.time
waiting-served d (ours h e z o l t) = unserved d o l t
waiting-served d (ahead h e z o t) = unserved d o (omega arith) t
waiting-served d (lower h e o) = unserved d o.fresh (omega arith) o.time

standing-served : {p k limit : ℕ} {g : Doing} {q : Queue} {row : List ℕ} {f : Fate}
    → Standing p k limit g q row f → Served k limit f
standing-served (waits d u w s) = waiting-served d s
standing-served (shut u w a o) =
    record {
      once = omega (arith, o.confirmations);
      in_time = λ h. o.confirmations;
      at_reset = λ h. o.confirmations;
      few = o.few;
      counted = λ h. o.count;
      handed_back = λ h. absurd (true≢false (sym h ∙ o.collected));
    }
standing-served (gone o) =
    record {
      once = omega (arith, o.confirmations);
      in_time = λ h. o.confirmations;
      at_reset = λ h. o.confirmations;
      few = o.few;
      counted = λ h. o.count;
      handed_back = λ h. (o.confirmations, o.shown);
    }

-- ---- at its acceptance
-- what is being sent from the high queue is in it
some-sent : (x : Phase) (c : Core) (masters : List ℕ) → odd_in x c masters ≡ false → flight x ≡ true
    → c.doing.served ≡ High → 0 < c.high.unconfirmed
unfolding queue_of
some-sent x c masters o h e =
    let n = false_same _ _ (rw e at (sym (odd-by x c masters ∙ pick_true _ _ h) ∙ o)) in
    omega (arith, n)

stage-new : (k limit : ℕ) (g : Doing) (b : Bool) (y : Priority) → flight g.phase ≡ b → g.served ≡ y
    → (flight g.phase ≡ true → g.served ≡ High → 0 < k) → Stage k limit k g newborn
unfolding newborn
stage-new k limit g false y h e s = off h (record { quiet = refl; fresh = fresh-born; time = omega arith })
stage-new k limit g true High h e s = ahead h e (s h e) fresh-born (omega arith)
stage-new k limit g true Low h e s =
    lower h e (record { fresh = fresh-born; time = omega arith; slack = λ z. absurd (true≢false (sym z)) })

-- its record is at its place, with its limit
ground-new : (q : Queue) (row : List ℕ) (r : Record) (n : ℕ) → Rowed q row → q.confirmed + q.unconfirmed < q.places
    → Ground (place q (q.confirmed + q.unconfirmed)) r.limit (grown q)
    (put row (place q (q.confirmed + q.unconfirmed)) (waiting r n))
unfolding closed
ground-new q row r n u h =
    let b = place-below q (q.confirmed + q.unconfirmed) u.ruled u.ruled.used in
    record {
      rowed = rowed-grown q row _ u h;
      limits = ap (λ (e : Record). e.limit) (at-put row _ (waiting r n) (omega (arith, u.long)));
    }

-- a call that accepts the high request at place p: so it stands then
enters : (p : ℕ) {r : Record} {x : List ℕ} {w : World} {d : Called} → Submission High r x w d
    → d.events ≡ accepted High p ∷ []
    → StandsAt p w.site.core.high.unconfirmed r.limit d.world.site newborn
unfolding called with_site done with_rows with_core with_queue queue_of rows_of take refuse refuses placed
enters p (declines m h) e = absurd (true≢false (ap refuses e))
enters p {w = w} (admits l g a i) e =
    rw (← ap placed e)
    (waits _
    (ground-new _ _ _ _ (record { ruled = (lawful _ _ _ _ g).high; long = (lent_rows _ _ l).places }) a.room)
    (waiting-new _)
    (stage-new _ _ _ _ _ refl refl (some-sent _ w.site.core w.site.masters (lawful-phase _ _ _ _ g))))

-- ---- the theorem, of any world that accepts the request
pub served : (w : World) (r : Record) (x : List ℕ) (p : ℕ) (after : List Call)
    → (call (submit High r x) w).events ≡ accepted High p ∷ []
    → Served w.site.core.high.unconfirmed (limited_in w r).limit
    (fate p (run after (call (submit High r x) w).world).events newborn)
unfolding call
served w r x p after e =
    standing-served
    (holds-run p _ _ after (Calls.submit High r x w).world newborn (enters p (submission High r x w) e)).stands

-- demand 3: "After a start and before any other, if each call is given the station's state and each queue row, data
-- included, just as the call before left them": of all calls before the request and all calls after it. k is how many
-- high requests were accepted before it and not confirmed, by the events before; the limit is the record's own, or the
-- station's if it asked for that
pub demand-3 : (w : World) (b : Begun w) (before after : List Call) (r : Record) (x : List ℕ) (p : ℕ)
    → (call (submit High r x) (run before w).world).events ≡ accepted High p ∷ []
    → Served (line_last (run before w).events nobody).waiting (limited b.settings.retries.0 r).limit
    (fate p (run after (call (submit High r x) (run before w).world).world).events newborn)
demand-3 w b before after r x p e =
    rw (waiting-is w b before, (run-orderly b.settings b.ts before w (begun-orderly w b)).firm.settings) at
    (served (run before w).world r x p after e)
