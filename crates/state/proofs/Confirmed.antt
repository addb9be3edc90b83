-- A confirmed record and its data stay as the confirmation left them until the record is collected, and that record
-- is what collect hands back. Assumes nothing.
use Prim.Native.Nat.{ℕ}
use mathlib.Core.Bool.{true, false, true≢false}
use mathlib.Core.Path.{◌≡◌, refl, sym, ap, ◌∙◌}
use mathlib.Core.List.{List, [], ◌∷◌, ◌++◌, cons-ne-nil, head-eq_of_cons-eq, tail-eq_of_cons-eq}
use Rattle.frame.specs.declared.Address.{Address}
use Rattle.request.specs.declared.Record.{Record}
use Rattle.queue.specs.declared.Queue.{Queue}
use Rattle.queue.specs.Queue.{AREA, current, closed}
use Rattle.rows.specs.Rows.{at, content}
use Rattle.state.specs.declared.Priority.{Priority}
use Rattle.state.specs.World.{Rows, Site, World, Event, Called, a_request, accepted, begins, ends, sends}
use Rattle.state.specs.World.{confirmed, collected, indicated, resets, refused, rows_of}
use Rattle.state.specs.Calls.{refuse}
use Rattle.state.specs.Runs.{Call, call, run, Begun}
use Rattle.state.specs.Submitted.{Lies, confirms, collects, never}
use Rattle.state.proofs.Cases.{Any}
use Rattle.state.proofs.Acts.{Point, calm, Move, Act, Trail, stop, move, act}
use Rattle.state.proofs.Walk.{Course, declined, carried, course, unfiled-beside}
use Rattle.state.proofs.Keeping.{Ground, given-trail}
use Rattle.state.proofs.Filed.{Filed}
use Rattle.state.proofs.Poise.{Poised, poised-acted, poise}
use Rattle.state.proofs.Order.{Orderly}
use Rattle.state.proofs.Ordered.{poised, call-orderly, run-orderly}
use Rattle.state.proofs.Start.{begun-orderly}
use Rattle.state.proofs.Effects.{about, Effect, spared, sent, taken, shut, handed, queue_at, rows_at, rows-by, effect-acted}
use Rattle.state.proofs.Entries.{Fixed, fixed-now}
use Rattle.state.proofs.Staying.{alike-itself, Asks, itself, asked-sent, asked-collected, stays}
use Rattle.state.proofs.Spans.{never_first, never-one, never-behind, never-within}
use Rattle.state.proofs.Lasting.{filed-at, lasts-trail, lasts-run, lasts-met}
use Rattle.state.proofs.Weights.{files}

-- ---- a trail with one act among the others: the trail before it, the act, and the trail behind it
record Parted (p : Point) (s : Site) (former : List Event) (e : Event) (latter : List Event) (r : Point) (v : Site) :
    Type 0 where
  from : Point
  to : Point
  found : Site
  left : Site
  first : Trail Any p s former from found
  deed : Act Any from found e to left
  rest : Trail Any to left latter r v

parted-moved : {p q r : Point} {s t v : Site} {former latter : List Event} {e : Event} → Move Any p s q t
    → Parted q t former e latter r v → Parted p s former e latter r v
parted-moved m z =
    record {
      from = z.from;
      to = z.to;
      found = z.found;
      left = z.left;
      first = move m z.first;
      deed = z.deed;
      rest = z.rest;
    }

parted-acted : {p q r : Point} {s t v : Site} {former latter : List Event} {e f : Event} → Act Any p s f q t
    → Parted q t former e latter r v → Parted p s (f ∷ former) e latter r v
parted-acted a z =
    record {
      from = z.from;
      to = z.to;
      found = z.found;
      left = z.left;
      first = act a z.first;
      deed = z.deed;
      rest = z.rest;
    }

parted : {p r : Point} {s v : Site} {l : List Event} (former latter : List Event) (e : Event) → Trail Any p s l r v
    → l ≡ former ++ (e ∷ latter) → Parted p s former e latter r v
parted [] latter e stop i = absurd (cons-ne-nil _ _ (sym i))
parted (f ∷ former) latter e stop i = absurd (cons-ne-nil _ _ (sym i))
parted former latter e (move m z) i = parted-moved m (parted former latter e z i)
parted [] latter e (act a z) i =
    record {
      from = _;
      to = _;
      found = _;
      left = _;
      first = stop;
      deed = rw (head-eq_of_cons-eq i) at a;
      rest = rw (tail-eq_of_cons-eq i) at z;
    }
parted (f ∷ former) latter e (act a z) i =
    parted-acted (rw (head-eq_of_cons-eq i) at a) (parted former latter e z (tail-eq_of_cons-eq i))

-- ---- where a confirmation is told, what it left is at its place, with its status and its count
record Now (n s k : ℕ) (q : Queue) (u : Rows) : Type 0 where
  fixed : Fixed n (at u.row n) (content u.area n AREA) q u
  status : (at u.row n).status ≡ s
  count : (at u.row n).count ≡ k

-- what stays as it is, is as it is there
now : {n status k : ℕ} {e : Record} {d : List ℕ} {q : Queue} {u : Rows} → e.status ≡ status → e.count ≡ k
    → Fixed n e d q u → Now n status k q u
now s c z =
    record {
      fixed = rw (z.lies.entry, z.lies.octets) z;
      status = ap (λ (r : Record). r.status) z.lies.entry ∙ s;
      count = ap (λ (r : Record). r.count) z.lies.entry ∙ c;
    }

now-shut : {own : ℕ} {y : Priority} {a : Address} {q : Queue} {u : Rows} {e : Event} {q' : Queue} {u' : Rows}
    {n status k : ℕ} → Filed own q u → Effect y a q u e q' u' → e ≡ confirmed y n status k → Now n status k q' u'
unfolding about closed
now-shut {y = y} f (spared e h) i = absurd (true≢false (sym (alike-itself y) ∙ (rw i at h)))
now-shut f (sent marks t h) i = absurd (cc)
now-shut f (taken r x h l) i = absurd (cc)
now-shut {q = q} {n = n} {status = status} {k = k} f (shut status' k' x h l) i =
    let place : n ≡ current q = cc in
    let told : status ≡ status' = cc in
    let count : k ≡ k' = cc in
    rw (place, told, count) (now refl refl (fixed-now _ _ f _ status' k' x h refl))
now-shut f (handed h) i = absurd (cc)

unfiled-uncollected : (p : Priority) (n : ℕ) (e : Event) → files e ≡ false → collects p n e ≡ false
unfolding files collects
unfiled-uncollected p n (accepted q m) h = refl
unfiled-uncollected p n begins h = refl
unfiled-uncollected p n ends h = refl
unfiled-uncollected p n (sends x o t) h = refl
unfiled-uncollected p n (confirmed q m status k) h = refl
unfiled-uncollected p n (collected q m r) h = absurd (true≢false h)
unfiled-uncollected p n (indicated f d) h = refl
unfiled-uncollected p n resets h = refl
unfiled-uncollected p n (refused m) h = refl

-- ---- the theorems: after a start and any calls, a call tells that the request at place n of the queue p is
-- confirmed with that status and that count
module _ (w : World) (b : Begun w) (before : List Call) (c : Call) (p : Priority) (n status k : ℕ)
    (former latter : List Event)
    (e : (call c (run before w).world).events ≡ former ++ (confirmed p n status k ∷ latter)) where
  abbrev then : World
  then = (call c (run before w).world).world

  orderly : Orderly b.settings b.ts (run before w).world
  orderly = run-orderly b.settings b.ts before w (begun-orderly w b)

  orderly-then : Orderly b.settings b.ts then
  orderly-then = call-orderly b.settings b.ts c (run before w).world orderly

  abbrev ground : Ground
  ground = poise b.settings b.ts orderly.small

  -- behind the confirmation, what it left stays to the end of its call
  now-parted : {r : Point} {s v : Site} → Poised b.settings b.ts r s
      → Parted r s former (confirmed p n status k) latter calm v → Now n status k (queue_at p v) (rows_at p v)
  now-parted g z =
      let a = given-trail ground z.first g in
      let f = effect-acted b.settings b.ts p z.deed a in
      let m = now-shut (filed-at b.settings b.ts p z.found a.firm) f refl in
      now m.status m.count
      (lasts-trail b.settings b.ts orderly.small p (stays p n b.ts _ _) z.rest
      (poised-acted b.settings b.ts orderly.small z.deed a) m.fixed
      (never-within files (collects p n) latter (unfiled-uncollected p n)
      (unfiled-beside c (run before w).world former latter (confirmed p n status k) e).1))

  now-course : {d : Called} → Course (run before w).world c d
      → d.events ≡ former ++ (confirmed p n status k ∷ latter)
      → Now n status k (queue_at p d.world.site) (rows_at p d.world.site)
  unfolding refuse confirms
  now-course (declined m) i =
      let j = never-behind (confirms p n) former (confirmed p n status k ∷ latter)
      (rw i at (never-one (confirms p n) (refused m) refl)) in
      absurd (true≢false (sym (itself p n) ∙ (never_first (confirms p n) (confirmed p n status k) latter j).0))
  now-course (carried z) i =
      now-parted (poised b.settings b.ts (run before w).world orderly)
      (parted former latter (confirmed p n status k) z.trail i)

  now-then : Now n status k (queue_at p then.site) (rows_at p then.site)
  now-then = now-course (course c (run before w).world) e

  -- its record shows that status and that count
  pub confirmed-shows : ((at (rows_of p then.site).row n).status ≡ status)
      × ((at (rows_of p then.site).row n).count ≡ k)
  confirmed-shows =
      let i = rows-by p then.site in
      (rw i at now-then.status, rw i at now-then.count)

  -- then come any calls: until it is collected,
  module _ (after : List Call) where
    asked : (earlier later : List Event) (f : Event) → (run after then).events ≡ earlier ++ (f ∷ later)
        → never (collects p n) earlier ≡ true
        → Asks p n (λ o. ⊥) (λ (r : Record). r ≡ at (rows_at p then.site).row n) f
    asked earlier later f i j =
        lasts-met b.settings b.ts orderly.small p (stays p n b.ts _ _) after then orderly-then
        now-then.fixed earlier later f i j

    -- its record and all the data of its place are as that call left them;
    pub confirmed-stays : never (collects p n) (run after then).events ≡ true
        → Lies n (at (rows_of p then.site).row n) AREA (content (rows_of p then.site).area n AREA)
        (rows_of p (run after then).world.site)
    confirmed-stays i =
        rw (rows-by p then.site, rows-by p (run after then).world.site) at
        (lasts-run b.settings b.ts orderly.small p (stays p n b.ts _ _) after then orderly-then
        now-then.fixed i).lies

    -- it is not sent again;
    pub confirmed-unsent : (earlier later : List Event) (o : List ℕ) (t : ℕ)
        → (run after then).events ≡ earlier ++ (sends (a_request p n) o t ∷ later) → never (collects p n) earlier ≡ true
        → ⊥
    confirmed-unsent earlier later o t i j =
        asked-sent p n _ _ o t (asked earlier later (sends (a_request p n) o t) i j)

    -- and collect hands back that record
    pub confirmed-handed : (earlier later : List Event) (r : Record)
        → (run after then).events ≡ earlier ++ (collected p n r ∷ later) → never (collects p n) earlier ≡ true
        → r ≡ at (rows_of p then.site).row n
    confirmed-handed earlier later r i j =
        rw (rows-by p then.site) at (asked-collected p n _ _ r (asked earlier later (collected p n r) i j))
