-- Every request that a run sends was submitted, and carries what was last submitted and accepted at its place; and
-- every record handed back is of that request. Assumes nothing.
use Prim.Native.Nat.{ℕ, ◌+◌, ◌<◌, ◌≤◌}
use mathlib.Core.Bool.{Bool, true, false, true≢false}
use mathlib.Core.Path.{◌≡◌, refl, sym, ap, ◌∙◌}
use mathlib.Core.List.{List, [], ◌∷◌, ◌++◌}
use native.Mathlib.Omega.{arith}
use lib.ListN.{length}
use Rattle.choice.specs.Choice.{pick, same, both}
use Rattle.choice.proofs.Rules.{same_false, pick_true, pick-false}
use Rattle.times.specs.declared.Settings.{Settings}
use Rattle.frame.specs.declared.Address.{Address}
use Rattle.request.specs.declared.Record.{Record}
use Rattle.request.specs.Record.{unfit, limited}
use Rattle.request.proofs.Laws.{fit-short}
use Rattle.queue.specs.declared.Queue.{Queue}
use Rattle.queue.specs.Queue.{Collected}
use Rattle.queue.specs.Queue.{Refused as Uncollected, Handed}
use Rattle.queue.specs.Queue as Q
use Rattle.queue.specs.Queue.{AREA, Ruled, place, current, grown, freed, take}
use Rattle.queue.proofs.Laws.{Accepted, place-apart, place-grown, place-confirmed, place-freed}
use Rattle.rows.specs.Rows.{at}
use Rattle.rows.proofs.Laws.{by_order}
use Rattle.state.specs.declared.Priority.{Priority}
use Rattle.state.specs.declared.Priority.TheVariants.{High, Low}
use Rattle.state.specs.World.{Rows, World, Event, Called, a_request, accepted, begins, ends, sends}
use Rattle.state.specs.World.{confirmed, collected, indicated, resets, refused, done, with_queue, queue_of}
use Rattle.state.specs.World.{with_core, rows_of, with_rows, with_site}
use Rattle.state.specs.Request.{octets_in}
use Rattle.state.specs.Calls as Calls
use Rattle.state.specs.Calls.{called, refuse, collecting, empty_queue}
use Rattle.state.specs.Counts.{alike}
use Rattle.state.specs.Runs.{Call, call, run, Begun}
use Rattle.state.specs.Runs.Call.{submit, frame, sent, slot, reset, collect}
use Rattle.state.specs.Submitted.{accepts, collects, never, Entry, blank, entry, enters, ledger}
use Rattle.state.specs.Submitted.{CarriesEntry, ReadsEntry, OfEntry}
use Rattle.state.proofs.Cases.{by}
use Rattle.state.proofs.Acts.{taking, grown_by}
use Rattle.state.proofs.Filed.{Filed}
use Rattle.state.proofs.Places.{place-first}
use Rattle.state.proofs.Poise.{queue_by}
use Rattle.state.proofs.Order.{Orderly}
use Rattle.state.proofs.Ordered.{call-orderly, run-orderly}
use Rattle.state.proofs.Start.{begun-orderly, begun-queues}
use Rattle.state.proofs.Tally.{rows_by}
use Rattle.state.proofs.Spans.{never-one, never-within}
use Rattle.state.proofs.Effects.{Effect, spared, sent as sent_out, taken, shut, handed, taken_by}
use Rattle.state.proofs.Effects.{queue_at, rows_at}
use Rattle.state.proofs.Lasting.{Lasts, filed-at, lasts-call, lasts-told}
use Rattle.state.proofs.Staying.{alike-itself, Asks, itself, asked-sent, asked-collected, asks-refused}
use Rattle.state.proofs.Staying.{asks-effect, Held, pending, held_of, held-carries, held-lasts}
use Rattle.state.proofs.Weights.{files}
use Rattle.state.proofs.Walk.{filing, solely, unfiled-beside}
use Rattle.state.proofs.Writable.{reads}
use Rattle.state.proofs.Submission.{Submission, declines, admits, submission-by-limit}
use Rattle.state.proofs.Entering.{open-new}

-- an acceptance
unfoldable enrols : Event → Bool
enrols (accepted p n) = true
enrols begins = false
enrols ends = false
enrols (sends x o t) = false
enrols (confirmed p n status k) = false
enrols (collected p n r) = false
enrols (indicated h d) = false
enrols resets = false
enrols (refused n) = false

-- ---- at place n lies a record of the entry's request, and while it waits its data
unfoldable HeldBy : Entry → Priority → ℕ → ℕ → ℕ → Queue → Rows → Type 0
HeldBy blank y n ts limit q u = ⊥
HeldBy (entry r x) y n ts limit q u = (unfit ts (limited limit r) (length x) ≡ 0) × Held y n ts limit r x q u

-- so it is at each place in use
record Booked (y : Priority) (ts limit : ℕ) (l : ℕ → Entry) (q : Queue) (u : Rows) : Type 0 where
  booked : (t : ℕ) → t < q.confirmed + q.unconfirmed → HeldBy (l (place q t)) y (place q t) ts limit q u

module _ (y : Priority) (ts limit : ℕ) where
  by-lasts : {a : Address} {q q' : Queue} {u u' : Rows} {e : Event} (n : ℕ) (f : Entry) → Filed a.0 q u
      → Effect y a q u e q' u' → collects y n e ≡ false → HeldBy f y n ts limit q u → HeldBy f y n ts limit q' u'
  unfolding HeldBy
  by-lasts n blank f h i z = z
  by-lasts n (entry r x) f h i z = (z.0, held-lasts y n ts limit r x z.0 f h z.1 i)

  by-carries : {a : Address} {q : Queue} {u : Rows} (n : ℕ) (f : Entry) (marks : List ℕ) → a.0 ≡ ts
      → Filed a.0 q u → HeldBy f y n ts limit q u → 0 < q.unconfirmed → current q ≡ n
      → CarriesEntry ts limit y f (octets_in a y q marks u)
  unfolding HeldBy CarriesEntry
  by-carries n blank marks s f z i j = z
  by-carries n (entry r x) marks s f z i j = held-carries y n ts limit r x z.0 marks s f z.1 i j

  by-of : (q : Queue) (u : Rows) (n : ℕ) (f : Entry) → HeldBy f y n ts limit q u → OfEntry limit f (at u.row n)
  unfolding HeldBy OfEntry
  by-of q u n blank z = z
  by-of q u n (entry r x) z = held_of y n ts limit r x z.1

  -- the entries as they are
  booked-like : {q : Queue} {u : Rows} (l m : ℕ → Entry) → ((n : ℕ) → m n ≡ l n) → Booked y ts limit l q u
      → Booked y ts limit m q u
  booked-like l m h z = record { booked = λ t i. rw (h _) (z.booked t i) }

  -- ---- every act but an acceptance keeps the books
  elsewhere : (n m : ℕ) → (m ≡ n → ⊥) → both (alike y y) (same n m) ≡ false
  elsewhere n m h = pick_true _ _ (alike-itself y) ∙ same_false (λ i. h (sym i))

  -- the place behind the first is not the first
  not_first : (q : Queue) (t : ℕ) → Ruled q → t + 1 < q.confirmed + q.unconfirmed → q.first ≡ place q (t + 1) → ⊥
  not_first q t u h e =
      let i = place-apart q 0 (t + 1) (omega (arith, u.used)) (omega (arith, u.used)) (place-first q u ∙ e) in
      omega (arith, i)

  booked-lasts : {a : Address} {q q' : Queue} {u u' : Rows} {e : Event} (l : ℕ → Entry) → Filed a.0 q u
      → Effect y a q u e q' u' → Booked y ts limit l q u → enrols e ≡ false → Booked y ts limit l q' u'
  unfolding enrols collects Q.confirmed freed
  booked-lasts l f (spared e h) z i = z
  booked-lasts l f (sent_out marks t h) z i = z
  booked-lasts l f (taken r x h m) z i = absurd (true≢false i)
  booked-lasts {q = q} l f (shut status k x h m) z i =
      record {
        booked =
            λ t j. rw (place-confirmed q t)
            (by-lasts (place q t) _ f (shut status k x h m) refl (z.booked t (omega arith)));
      }
  booked-lasts {q = q} l f (handed h) z i =
      record {
        booked =
            λ t j. rw (place-freed q t f.ruled (omega (arith, f.ruled.used)))
            (by-lasts (place q (t + 1)) _ f (handed h)
            (elsewhere _ _ (not_first q t f.ruled (omega arith))) (z.booked (t + 1) (omega arith)));
      }

  booked-asks : {a : Address} {q q' : Queue} {u u' : Rows} {e : Event} (l : ℕ → Entry) → a.0 ≡ ts
      → Filed a.0 q u → Effect y a q u e q' u' → Booked y ts limit l q u → (n : ℕ)
      → Asks y n (CarriesEntry ts limit y (l n)) (OfEntry limit (l n)) e
  unfolding current
  booked-asks {q = q} l s f h z n =
      asks-effect y n _ _ h
      (λ i j marks. by-carries n (l n) marks s f (rw j at (z.booked q.confirmed (omega arith))) i j)
      (λ i j. by-of q _ n (l n) (rw (place-first q f.ruled ∙ j) at (z.booked 0 (omega arith))))

  abbrev books : (ℕ → Entry) → Lasts y ts
  books l =
      record {
        Fact = Booked y ts limit l;
        Asks = λ e. (n : ℕ) → Asks y n (CarriesEntry ts limit y (l n)) (OfEntry limit (l n)) e;
        ends = enrols;
        refusal = λ m n. asks-refused y n _ _ m;
        lasts = λ s f h z. (booked-asks l s f h z, booked-lasts l f h z);
      }

  -- ---- an acceptance enters what was submitted at its place, and leaves the other entries
  abbrev entering : Record → List ℕ → List Event → (ℕ → Entry) → ℕ → Entry
  entering r x e l n = pick (never (accepts y n) e) (l n) (entry r x)

  spared-by : (n m : ℕ) → (m ≡ n → ⊥) → never (accepts y n) (accepted y m ∷ []) ≡ true
  unfolding accepts
  spared-by n m h = never-one (accepts y n) (accepted y m) (elsewhere n m h)

  met_by : (n : ℕ) → never (accepts y n) (accepted y n ∷ []) ≡ false
  unfolding accepts never
  met_by n = pick_true _ _ (itself y n)

  module _ (a : Address) (i : a.0 ≡ ts) (q : Queue) (u : Rows) (f : Filed a.0 q u) (r : Record) (x : List ℕ)
      (g : Accepted a.0 q (limited limit r) (length x)) (l : ℕ → Entry) (z : Booked y ts limit l q u) where
    abbrev kept : Record
    kept = limited limit r

    abbrev last : ℕ
    last = place q (q.confirmed + q.unconfirmed)

    short : length x ≤ AREA
    short = omega (arith, fit-short a.0 kept _ g.fit)

    old : (t : ℕ) → t < q.confirmed + q.unconfirmed
        → HeldBy (entering r x (accepted y last ∷ []) l (place q t)) y (place q t) ts limit (grown q) (taken_by q u kept x)
    unfolding collects
    old t h =
        rw (pick_true (l (place q t)) (entry r x) (spared-by (place q t) last
        (λ e. let i = place-apart q _ t g.room (omega (arith, g.room)) e in omega (arith, i))))
        (by-lasts (place q t) (l (place q t)) f (taken kept x g.room short) refl (z.booked t h))

    new : HeldBy (entering r x (accepted y last ∷ []) l last) y last ts limit (grown q) (taken_by q u kept x)
    unfolding HeldBy
    new = rw (pick-false (l last) (entry r x) (met_by last)) (rw i at g.fit, pending (open-new q u f kept x g))

    new-at : (t : ℕ) → t ≡ q.confirmed + q.unconfirmed
        → HeldBy (entering r x (accepted y last ∷ []) l (place q t)) y (place q t) ts limit (grown q) (taken_by q u kept x)
    new-at t e = rw e new

    booked-taken : Booked y ts limit (entering r x (accepted y last ∷ []) l) (grown q) (taken_by q u kept x)
    unfolding grown
    booked-taken =
        record {
          booked =
              λ t j. rw (place-grown q t)
              (by_order t (q.confirmed + q.unconfirmed) (old t) (λ h. new-at t (omega arith)));
        }

-- the other queue's acceptances leave all
foreign : (y z : Priority) (n m : ℕ) → alike y z ≡ false → never (accepts y n) (accepted z m ∷ []) ≡ true
unfolding accepts
foreign y z n m h = never-one (accepts y n) (accepted z m) (pick-false _ _ h)

module _ (ts limit : ℕ) (r : Record) (x : List ℕ) (w : World) (i : w.site.core.ts.0 ≡ ts) (l : ℕ → Entry) where
  booked-admitted : (y z : Priority) → Filed w.site.core.ts.0 (queue_at y w.site) (rows_at y w.site)
      → Accepted w.site.core.ts.0 (queue_of z w.site.core) (limited limit r) (length x)
      → Booked y ts limit l (queue_at y w.site) (rows_at y w.site)
      → Booked y ts limit
      (entering y ts limit r x (accepted z (taking z (limited limit r) x w.site).answer.place ∷ []) l)
      (queue_at y (grown_by z (limited limit r) x w.site)) (rows_at y (grown_by z (limited limit r) x w.site))
  unfolding with_rows with_core with_queue queue_of rows_of queue_by rows_by take alike
  booked-admitted High High f g b = booked-taken High ts limit w.site.core.ts i _ _ f r x g l b
  booked-admitted High Low f g b = booked-like High ts limit l _ (λ n. pick_true _ _ (foreign High Low n _ refl)) b
  booked-admitted Low High f g b = booked-like Low ts limit l _ (λ n. pick_true _ _ (foreign Low High n _ refl)) b
  booked-admitted Low Low f g b = booked-taken Low ts limit w.site.core.ts i _ _ f r x g l b

  booked-submission : (y z : Priority) {d : Called}
      → Filed w.site.core.ts.0 (queue_at y w.site) (rows_at y w.site) → Submission z (limited limit r) x w d
      → Booked y ts limit l (queue_at y w.site) (rows_at y w.site)
      → Booked y ts limit (entering y ts limit r x d.events l) (queue_at y d.world.site)
      (rows_at y d.world.site)
  unfolding refuse called done with_site accepts
  booked-submission y z f (declines m h) b =
      booked-like y ts limit l _ (λ n. pick_true _ _ (never-one (accepts y n) (refused m) refl)) b
  booked-submission y z f (admits l k g i) b = booked-admitted y z f g b

-- ---- calls that are no submit accept nothing
unfiled-unenrolled : (e : Event) → files e ≡ false → enrols e ≡ false
unfolding files enrols
unfiled-unenrolled (accepted q m) h = absurd (true≢false h)
unfiled-unenrolled begins h = refl
unfiled-unenrolled ends h = refl
unfiled-unenrolled (sends x o t) h = refl
unfiled-unenrolled (confirmed q m status k) h = refl
unfiled-unenrolled (collected q m r) h = refl
unfiled-unenrolled (indicated f d) h = refl
unfiled-unenrolled resets h = refl
unfiled-unenrolled (refused m) h = refl

record Idle (d : Called) : Type 0 where
  idle : never enrols d.events ≡ true

idle-refused : (n : ℕ) (w : World) → Idle (refuse n w)
unfolding refuse enrols
idle-refused n w = record { idle = never-one enrols _ refl }

idle-collecting : (p : Priority) (c : Collected) (w : World) → Idle (called (collecting p c w.site) w)
unfolding collecting called done enrols
idle-collecting p (Uncollected n) w = record { idle = never-one enrols _ refl }
idle-collecting p (Handed m r q) w = record { idle = never-one enrols _ refl }

idle-collect : (p : Priority) (w : World) → Idle (call (collect p) w)
unfolding call Calls.collect
idle-collect p w =
    by Idle _ _ _ (λ e. idle-refused 21 w)
    (λ e. by Idle _ _ _ (λ e. idle-refused 29 w) (λ e. idle-collecting p _ w))

-- ---- every call keeps the books
module _ (t : Settings) (ts : ℕ) (y : Priority) where
  abbrev BookedAt : (ℕ → Entry) → World → Type 0
  BookedAt l w = Booked y ts t.retries.0 l (queue_at y w.site) (rows_at y w.site)

  booked-other : (c : Call) (w : World) (l : ℕ → Entry) → Orderly t ts w → BookedAt l w
      → never enrols (call c w).events ≡ true → BookedAt l (call c w).world
  booked-other c w l o b h = lasts-call t ts o.small y (books y ts t.retries.0 l) c w o b h

  unenrolled : (c : Call) (w : World) → filing c ≡ false → never enrols (call c w).events ≡ true
  unenrolled c w h = never-within files enrols (call c w).events unfiled-unenrolled (solely c w h)

  booked-call : (c : Call) (w : World) (l : ℕ → Entry) → Orderly t ts w → BookedAt l w
      → BookedAt (λ n. enters y n c (call c w).events (l n)) (call c w).world
  unfolding enters filing
  booked-call (submit z r x) w l o b =
      booked-submission ts t.retries.0 r x w o.firm.station l y z (filed-at t ts y w.site o.firm)
      (submission-by-limit z r x w (ap (λ (s : Settings). s.retries.0) o.firm.settings)) b
  booked-call (frame clock room high low octets out) w l o b =
      booked-other (frame clock room high low octets out) w l o b (unenrolled _ w refl)
  booked-call (sent clock out) w l o b = booked-other (sent clock out) w l o b (unenrolled _ w refl)
  booked-call (slot clock out) w l o b = booked-other (slot clock out) w l o b (unenrolled _ w refl)
  booked-call reset w l o b = booked-other reset w l o b (unenrolled _ w refl)
  booked-call (collect p) w l o b = booked-other (collect p) w l o b (idle-collect p w).idle

  booked-run : (calls : List Call) (w : World) (l : ℕ → Entry) → Orderly t ts w → BookedAt l w
      → BookedAt (λ n. ledger y n calls w (l n)) (run calls w).world
  unfolding run ledger
  booked-run [] w l o b = b
  booked-run (c ∷ calls) w l o b =
      booked-run calls (call c w).world (λ n. enters y n c (call c w).events (l n)) (call-orderly t ts c w o)
      (booked-call c w l o b)

-- after a start no place is in use
booked-begun : (y : Priority) (ts limit : ℕ) (w : World) (l : ℕ → Entry) → Begun w
    → Booked y ts limit l (queue_at y w.site) (rows_at y w.site)
unfolding queue_by empty_queue
booked-begun High ts limit w l b = record { booked = λ t i. absurd (omega (arith, rw (begun-queues w b).0 at i)) }
booked-begun Low ts limit w l b = record { booked = λ t i. absurd (omega (arith, rw (begun-queues w b).1 at i)) }

reads-entry : (ts limit : ℕ) (p : Priority) (e : Entry) (o : List ℕ) → ts ≤ 126 → CarriesEntry ts limit p e o
    → ReadsEntry ts p e o
unfolding CarriesEntry ReadsEntry
reads-entry ts limit p blank o t c = c
reads-entry ts limit p (entry r x) o t c = reads ts limit p r x o t c

-- ---- the theorems: after a start and any calls comes a call
module _ (w : World) (b : Begun w) (before : List Call) (c : Call) (p : Priority) (n : ℕ)
    (earlier later : List Event) where
  -- the station's retry limit
  abbrev limit : ℕ
  limit = b.settings.retries.0

  asked : (e : Event) → (call c (run before w).world).events ≡ earlier ++ (e ∷ later)
      → Asks p n (CarriesEntry b.ts limit p (ledger p n before w blank)) (OfEntry limit (ledger p n before w blank))
      e
  asked e i =
      let o = begun-orderly w b in
      let s = run-orderly b.settings b.ts before w o in
      lasts-told b.settings b.ts o.small p (books p b.ts limit (λ m. ledger p m before w blank)) c
      (run before w).world s
      (booked-run b.settings b.ts p before w (λ m. blank) o (booked-begun p b.ts limit w (λ m. blank) b)) earlier
      later e i
      (never-within files enrols earlier unfiled-unenrolled
      (unfiled-beside c (run before w).world earlier later e i).0) n

  -- where it tells that the request at place n of the queue p is sent, the octets carry what was last submitted and
  -- accepted there
  pub sent-as-entered : (o : List ℕ) (t : ℕ)
      → (call c (run before w).world).events ≡ earlier ++ (sends (a_request p n) o t ∷ later)
      → CarriesEntry b.ts limit p (ledger p n before w blank) o
  sent-as-entered o t i = asked-sent p n _ _ o t (asked (sends (a_request p n) o t) i)

  -- and a reader takes them for the frame that was meant
  pub read-as-entered : (o : List ℕ) (t : ℕ)
      → (call c (run before w).world).events ≡ earlier ++ (sends (a_request p n) o t ∷ later)
      → ReadsEntry b.ts p (ledger p n before w blank) o
  read-as-entered o t i = reads-entry b.ts limit p _ o (begun-orderly w b).small (sent-as-entered o t i)

  -- where it hands back a record of that place, that is of the same request
  pub handed-as-entered : (r : Record)
      → (call c (run before w).world).events ≡ earlier ++ (collected p n r ∷ later)
      → OfEntry limit (ledger p n before w blank) r
  handed-as-entered r i = asked-collected p n _ _ r (asked (collected p n r) i)
