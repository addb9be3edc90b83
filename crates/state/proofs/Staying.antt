-- The record and the data at a request's place as facts that last: those that were submitted until it is confirmed, a
-- record of it until that is collected, and what the confirmation left until then. Assumes nothing.
use Prim.Native.Nat.{ℕ, ◌<◌, ◌≤◌}
use mathlib.Core.Bool.{Bool, true, false, true≢false}
use mathlib.Core.Path.{◌≡◌, refl, sym, ◌∙◌}
use mathlib.Core.List.{List}
use native.Mathlib.Omega.{arith}
use lib.ListN.{length}
use Rattle.choice.specs.Choice.{same, both}
use Rattle.choice.proofs.Rules.{same_true, true_same, false_same, pick_true, both_true}
use Rattle.frame.specs.declared.Address.{Address}
use Rattle.request.specs.declared.Record.{Record}
use Rattle.request.specs.Record.{unfit, limited}
use Rattle.request.proofs.Laws.{fit-short}
use Rattle.queue.specs.declared.Queue.{Queue}
use Rattle.queue.specs.Queue as Q
use Rattle.queue.specs.Queue.{AREA, current, closed}
use Rattle.rows.specs.Rows.{at}
use Rattle.state.specs.declared.Priority.{Priority}
use Rattle.state.specs.declared.Priority.TheVariants.{High, Low}
use Rattle.state.specs.World.{Rows, What, a_request, a_token, a_reply, Event, accepted, begins, ends, sends}
use Rattle.state.specs.World.{confirmed, collected, indicated, resets, refused}
use Rattle.state.specs.Request.{head_for, record_in, data_in, octets_in, mark_of}
use Rattle.state.specs.Counts.{alike}
use Rattle.state.specs.Submitted.{Carries, Of, confirms, collects}
use Rattle.state.proofs.Cases.{Any, any}
use Rattle.state.proofs.Filed.{Filed}
use Rattle.state.proofs.Effects.{about_what, about, Effect, spared, sent, taken, shut, handed, closed_by}
use Rattle.state.proofs.Lasting.{Lasts}
use Rattle.state.proofs.Entries.{Open, Fixed, open-grown, open-freed, open-closed, fixed-now}
use Rattle.state.proofs.Entries.{fixed-grown, fixed-closed, fixed-freed, fixed-current}

pub alike-itself : (y : Priority) → alike y y ≡ true
unfolding alike
alike-itself High = refl
alike-itself Low = refl

-- ---- what is asked of the events of the request at place n of the queue y: of the octets that are sent, and of the
-- record that is collected
unfoldable pub AsksWhat : Priority → ℕ → (List ℕ → Type 0) → What → List ℕ → Type 0
AsksWhat y n F (a_request z m) o = both (alike y z) (same n m) ≡ true → F o
AsksWhat y n F a_token o = Any
AsksWhat y n F a_reply o = Any

unfoldable pub Asks : Priority → ℕ → (List ℕ → Type 0) → (Record → Type 0) → Event → Type 0
Asks y n F G (accepted z m) = Any
Asks y n F G begins = Any
Asks y n F G ends = Any
Asks y n F G (sends x o t) = AsksWhat y n F x o
Asks y n F G (confirmed z m status k) = Any
Asks y n F G (collected z m e) = both (alike y z) (same n m) ≡ true → G e
Asks y n F G (indicated h d) = Any
Asks y n F G resets = Any
Asks y n F G (refused m) = Any

module _ (y : Priority) (n : ℕ) where
  named : (m : ℕ) → both (alike y y) (same n m) ≡ true → m ≡ n
  named m e = sym (true_same _ _ (both_true _ _ e).1)

  unnamed : (m : ℕ) → both (alike y y) (same n m) ≡ false → m ≡ n → ⊥
  unnamed m e i = false_same _ _ (sym (pick_true _ _ (alike-itself y)) ∙ e) (sym i)

  unlike : {A : Type 0} (z : Priority) (m : ℕ) → alike y z ≡ false → both (alike y z) (same n m) ≡ true → A
  unlike z m e i = absurd (true≢false (sym (both_true _ _ i).0 ∙ e))

  pub itself : both (alike y y) (same n n) ≡ true
  itself = pick_true _ _ (alike-itself y) ∙ same_true refl

  module _ (F : List ℕ → Type 0) (G : Record → Type 0) where
    pub asked-sent : (o : List ℕ) (t : ℕ) → Asks y n F G (sends (a_request y n) o t) → F o
    unfolding Asks AsksWhat
    asked-sent o t h = h itself

    pub asked-collected : (e : Record) → Asks y n F G (collected y n e) → G e
    unfolding Asks
    asked-collected e h = h itself

    asks-other : (x : What) (o : List ℕ) → about_what y x ≡ false → AsksWhat y n F x o
    unfolding about_what AsksWhat
    asks-other (a_request z m) o e = λ i. unlike z m e i
    asks-other a_token o e = any
    asks-other a_reply o e = any

    asks-spared : (e : Event) → about y e ≡ false → Asks y n F G e
    unfolding about Asks
    asks-spared (accepted z m) e = any
    asks-spared begins e = any
    asks-spared ends e = any
    asks-spared (sends x o t) e = asks-other x o e
    asks-spared (confirmed z m status k) e = any
    asks-spared (collected z m r) e = λ i. unlike z m e i
    asks-spared (indicated h d) e = any
    asks-spared resets e = any
    asks-spared (refused m) e = any

    pub asks-refused : (m : ℕ) → Asks y n F G (refused m)
    unfolding Asks
    asks-refused m = any

    pub asks-effect : {a : Address} {q q' : Queue} {u u' : Rows} {e : Event} → Effect y a q u e q' u'
        → (0 < q.unconfirmed → current q ≡ n → (marks : List ℕ) → F (octets_in a y q marks u))
        → (0 < q.confirmed → q.first ≡ n → G (at u.row n)) → Asks y n F G e
    unfolding Asks AsksWhat
    asks-effect (spared e h) f g = asks-spared e h
    asks-effect (sent marks t h) f g = λ i. f h (named _ i) marks
    asks-effect (taken r x h l) f g = any
    asks-effect (shut status k x h l) f g = any
    asks-effect {u = u} (handed h) f g = λ i. let j = named _ i in rw j (g h j)

-- ---- the request at place n that was submitted with the record r and the data x to a station with that retry limit
module _ (y : Priority) (n ts limit : ℕ) (r : Record) (x : List ℕ) where
  -- as it was taken
  abbrev kept : Record
  kept = limited limit r

  -- its octets, when it is the first unconfirmed one
  carries : (a : Address) (q : Queue) (u : Rows) (marks : List ℕ) → unfit ts kept (length x) ≡ 0 → a.0 ≡ ts
      → Open n kept x q u → current q ≡ n → Carries ts limit y r x (octets_in a y q marks u)
  unfolding octets_in record_in data_in head_for closed limited
  carries a q u marks g e o i =
      record {
        mark = mark_of marks r.destination.0;
        fit = g;
        is = rw (i, o.lies.entry, o.lies.octets, ← e);
      }

  -- it waits until it is confirmed
  module _ (fit : unfit ts kept (length x) ≡ 0) where
    short : length x ≤ AREA
    short = omega (arith, fit-short ts kept (length x) fit)

    pub open-lasts : {a : Address} {q q' : Queue} {u u' : Rows} {e : Event} → Filed a.0 q u
        → Effect y a q u e q' u' → Open n kept x q u → confirms y n e ≡ false → Open n kept x q' u'
    unfolding confirms
    open-lasts f (spared e h) o i = o
    open-lasts f (sent marks t h) o i = o
    open-lasts f (taken b d h l) o i = open-grown _ _ f short o b d h l
    open-lasts f (shut status k d h l) o i = open-closed _ _ f short o status k d l (unnamed y n _ i)
    open-lasts f (handed h) o i = open-freed _ _ f short o h

    abbrev pub waits : Lasts y ts
    waits =
        record {
          Fact = Open n kept x;
          Asks = λ e. Any;
          ends = confirms y n;
          refusal = λ m. any;
          lasts = λ s f h o. (any, open-lasts f h o);
        }

  -- it waits or is confirmed, and what is there is a record of it, until that is collected
  pub data Held (q : Queue) (u : Rows) : Type 0 where
    pending : Open n kept x q u → Held q u
    settled : (e : Record) (d : List ℕ) → Of limit r e → Fixed n e d q u → Held q u

  of-closed : (b e : Record) (status k many : ℕ) → b ≡ e → Of limit r e → Of limit r (closed b status k many)
  unfolding closed
  of-closed b e status k many i o =
      rw i record {
        service = o.service;
        destination = o.destination;
        to = o.to;
        from = o.from;
        reference = o.reference;
        limits = o.limits;
        asks = o.asks;
      }

  of-waiting : (many : ℕ) → Of limit r (Q.waiting kept many)
  unfolding closed limited
  of-waiting many =
      record {
        service = refl;
        destination = refl;
        to = refl;
        from = refl;
        reference = refl;
        limits = refl;
        asks = refl;
      }

  pub held_of : {q : Queue} {u : Rows} → Held q u → Of limit r (at u.row n)
  held_of (pending o) = rw o.lies.entry (of-waiting (length x))
  held_of (settled e d k z) = rw z.lies.entry k

  module _ (fit : unfit ts kept (length x) ≡ 0) where
    -- it is confirmed, or another is
    held-closed : {own : ℕ} (q : Queue) (u : Rows) (f : Filed own q u) (status k : ℕ) (d : List ℕ)
        → 0 < q.unconfirmed → length d ≤ AREA → (b : Bool) → same (current q) n ≡ b → Open n kept x q u
        → Held (Q.confirmed q) (closed_by q u status k d)
    held-closed q u f status k d h l true e o =
        let i = true_same _ _ e in
        settled _ _ (of-closed _ _ status k (length d) o.lies.entry (of-waiting (length x)))
        (fixed-now q u f n status k d h i)
    held-closed q u f status k d h l false e o =
        pending (open-closed q u f (short fit) o status k d l (false_same _ _ e))

    pub held-lasts : {a : Address} {q q' : Queue} {u u' : Rows} {e : Event} → Filed a.0 q u
        → Effect y a q u e q' u' → Held q u → collects y n e ≡ false → Held q' u'
    unfolding collects
    held-lasts f (spared e h) o i = o
    held-lasts f (sent marks t h) o i = o
    held-lasts f (taken b d h l) (pending o) i = pending (open-grown _ _ f (short fit) o b d h l)
    held-lasts f (taken b d h l) (settled e m j z) i = settled e m j (fixed-grown _ _ f z b d h l)
    held-lasts f (shut status k d h l) (pending o) i = held-closed _ _ f status k d h l _ refl o
    held-lasts f (shut status k d h l) (settled e m j z) i = settled e m j (fixed-closed _ _ f z status k d h l)
    held-lasts f (handed h) (pending o) i = pending (open-freed _ _ f (short fit) o h)
    held-lasts f (handed h) (settled e m j z) i = settled e m j (fixed-freed _ _ f z (unnamed y n _ i))

    pub held-carries : {a : Address} {q : Queue} {u : Rows} (marks : List ℕ) → a.0 ≡ ts → Filed a.0 q u → Held q u
        → 0 < q.unconfirmed → current q ≡ n → Carries ts limit y r x (octets_in a y q marks u)
    held-carries marks s f (pending o) i j = carries _ _ _ marks fit s o j
    held-carries marks s f (settled e d k z) i j = absurd (fixed-current _ _ f z i j)

    pub held_asks : {a : Address} {q q' : Queue} {u u' : Rows} {e : Event} → a.0 ≡ ts → Filed a.0 q u
        → Effect y a q u e q' u' → Held q u → Asks y n (Carries ts limit y r x) (Of limit r) e
    held_asks s f h o = asks-effect y n _ _ h (λ i j marks. held-carries marks s f o i j) (λ i j. held_of o)

    abbrev pub holds : Lasts y ts
    holds =
        record {
          Fact = Held;
          Asks = Asks y n (Carries ts limit y r x) (Of limit r);
          ends = collects y n;
          refusal = asks-refused y n _ _;
          lasts = λ s f h o. (held_asks s f h o, held-lasts f h o);
        }

-- ---- the confirmed request at place n with the record e and the data d of its place: both stay until collected
module _ (y : Priority) (n ts : ℕ) (e : Record) (d : List ℕ) where
  pub fixed-lasts : {a : Address} {q q' : Queue} {u u' : Rows} {v : Event} → Filed a.0 q u → Effect y a q u v q' u'
      → Fixed n e d q u → collects y n v ≡ false → Fixed n e d q' u'
  unfolding collects
  fixed-lasts f (spared v h) z i = z
  fixed-lasts f (sent marks t h) z i = z
  fixed-lasts f (taken b x h l) z i = fixed-grown _ _ f z b x h l
  fixed-lasts f (shut status k x h l) z i = fixed-closed _ _ f z status k x h l
  fixed-lasts f (handed h) z i = fixed-freed _ _ f z (unnamed y n _ i)

  pub fixed-asks : {a : Address} {q q' : Queue} {u u' : Rows} {v : Event} → Filed a.0 q u → Effect y a q u v q' u'
      → Fixed n e d q u → Asks y n (λ o. ⊥) (λ (b : Record). b ≡ e) v
  fixed-asks f h z =
      asks-effect y n _ _ h (λ i j. absurd (fixed-current _ _ f z i j)) (λ i j. z.lies.entry)

  abbrev pub stays : Lasts y ts
  stays =
      record {
        Fact = Fixed n e d;
        Asks = Asks y n (λ o. ⊥) (λ (b : Record). b ≡ e);
        ends = collects y n;
        refusal = asks-refused y n _ _;
        lasts = λ s f h z. (fixed-asks f h z, fixed-lasts f h z);
      }
