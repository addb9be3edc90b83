-- How the history stands between calls and between acts: the station's marks are its marks, and a request that is being
-- sent is the one it has pending, with the octets that the station would send again. Assumes nothing.
use Prim.Native.Nat.{ℕ, ◌+◌, ◌-◌, ◌≤◌, ◌<◌}
use mathlib.Core.Bool.{true, false, true≢false}
use mathlib.Core.Path.{◌≡◌, refl, sym, ap, ◌∙◌}
use mathlib.Core.List.{List, [], ◌∷◌, ◌++◌}
use native.Mathlib.Omega.{arith}
use lib.ListN.{length}
use Rattle.choice.specs.Choice.{pick, same}
use Rattle.choice.proofs.Rules.{pick_true, pick-false, same_true, same_false}
use Rattle.frame.specs.declared.Address.{Address}
use Rattle.request.specs.declared.Record.{Record}
use Rattle.request.specs.Record.{SDN, NA, unfit}
use Rattle.request.proofs.Laws.{fit-short}
use Rattle.queue.specs.declared.Queue.{Queue}
use Rattle.queue.specs.Queue.{AREA, Ruled, place, current, grown, freed}
use Rattle.queue.proofs.Laws.{place-below, place-apart, place-grown, place-freed}
use Rattle.rows.specs.Rows.{at, content, put, fill}
use Rattle.rows.proofs.Laws.{at_other, content-other}
use Rattle.state.specs.declared.Priority.{Priority}
use Rattle.state.specs.declared.Priority.TheVariants.{High, Low}
use Rattle.state.specs.declared.Doing.{Doing}
use Rattle.state.specs.declared.Outcome.{Outcome}
use Rattle.state.specs.declared.Outcome.TheVariants.{Replied, Lost, Gone}
use Rattle.state.specs.World.{Rows, Site, What, a_request, a_token, a_reply, Event}
use Rattle.state.specs.Request.{UNKNOWN, head_for, record_in, data_in, octets_in, service_of, status_of, marks_after}
use Rattle.state.specs.Counts.{Mark, answered, settled, destination_in, control_in, counts, Pending, none, sent}
use Rattle.state.specs.Counts.{History, marks_by, alike, closes, heeds, history, Turn, Rightly}
use Rattle.state.proofs.Phases.{flight}
use Rattle.state.proofs.Cases.{Any}
use Rattle.state.proofs.Keeping.{of_sendings}
use Rattle.state.proofs.Filed.{Filed}
use Rattle.state.proofs.Poise.{queue_by}
use Rattle.state.proofs.Agreed.{Agree, agree-set, agree-like, meaning-unknown, meaning-turned}
use Rattle.state.proofs.Agreed.{destination-octets, control-octets, near, nearer, due-control, counts-control}

-- ---- what is asked of each sending: of a request's, that it goes rightly
unfoldable pub Sent : What → List ℕ → ℕ → History → Type 0
Sent (a_request p n) o t h = Rightly h p n o
Sent a_token o t h = Any
Sent a_reply o t h = Any

abbrev pub Meets : Event → History → Type 0
Meets e h = of_sendings Sent e h

unfoldable pub Counts : History → List Event → Type 0
Counts h [] = Any
Counts h (e ∷ l) = Meets e h × Counts (heeds e h) l

pub counts-split : (a b : List Event) (e : Event) (h : History) → Counts h (a ++ (e ∷ b)) → Meets e (history a h)
unfolding Counts history
counts-split [] b e h c = c.0
counts-split (x ∷ a) b e h c = counts-split a b e (heeds x h) c.1

-- ---- the history between calls, and between acts, where nothing is pending
unfoldable pub rows_by : Priority → Rows → Rows → Rows
rows_by High u v = u
rows_by Low u v = v

-- the request that the station is sending, with the octets it would send again
abbrev pub going : Priority → Address → List ℕ → Queue → Queue → Rows → Rows → Pending
going y ts marks h l u v = sent y (current (queue_by y h l)) (octets_in ts y (queue_by y h l) marks (rows_by y u v))

pub record Fits (ts : Address) (marks : List ℕ) (g : Doing) (h l : Queue) (u v : Rows) (z : History) : Type 0 where
  pub agree : Agree marks z.marks
  pub flying : flight g.phase ≡ true → z.pending ≡ going g.served ts marks h l u v
  pub resting : flight g.phase ≡ false → z.pending ≡ none

abbrev pub FitsAt : Site → History → Type 0
FitsAt s z = Fits s.core.ts s.marks s.core.doing s.core.high s.core.low s.high s.low z

pub record Rests (marks : List ℕ) (z : History) : Type 0 where
  pub agree : Agree marks z.marks
  pub nothing : z.pending ≡ none

pub at_rest : {ts : Address} {marks : List ℕ} {g : Doing} {h l : Queue} {u v : Rows} {z : History}
    → flight g.phase ≡ false → Fits ts marks g h l u v z → Rests marks z
at_rest e f = record { agree = f.agree; nothing = f.resting e }

pub rested : {ts : Address} {marks : List ℕ} {g : Doing} {h l : Queue} {u v : Rows} {z : History}
    → flight g.phase ≡ false → Rests marks z → Fits ts marks g h l u v z
rested e r = record { agree = r.agree; flying = λ f. absurd (true≢false (sym f ∙ e)); resting = λ f. r.nothing }

-- ---- a queue's first unconfirmed record is fit
pub first-fit : (ts : ℕ) (q : Queue) (r : Rows) → Filed ts q r → 0 < q.unconfirmed
    → unfit ts (record_in q r) (record_in q r).length ≡ 0
unfolding record_in current
first-fit ts q r f h =
    let e : q.confirmed + 0 ≡ q.confirmed = omega arith in
    rw e at (f.sound.fit 0 h)

module _ (y : Priority) (ts : Address) (q : Queue) (marks : List ℕ) (r : Rows)
    (e : unfit ts.0 (record_in q r) (record_in q r).length ≡ 0) where
  destination-is : destination_in (octets_in ts y q marks r) ≡ (record_in q r).destination.0
  unfolding octets_in head_for
  destination-is = destination-octets _ _ (near ts.0 (record_in q r) _ e)

  counts-is : counts (control_in (octets_in ts y q marks r)) ≡ pick (same (record_in q r).service SDN) false true
  unfolding octets_in head_for
  counts-is = ap counts (control-octets _ _) ∙ counts-control y _ _

  -- it goes with the bits of its mark
  pub goes-rightly : (n : ℕ) (z : History) → Agree marks z.marks → Turn y n (octets_in ts y q marks r) z.pending
      → Rightly z y n (octets_in ts y q marks r)
  unfolding octets_in head_for
  goes-rightly n z a t =
      record {
        service = service_of y (record_in q r).service;
        control =
            control-octets _ _
            ∙ due-control y _ _ _
            (λ f. a.each _ (nearer ts.0 (record_in q r) _ e f) ∙ ap z.marks (sym destination-is));
        turn = t;
      }

-- ---- a confirmation
-- how the outcome suits the service: an SDN goes out; an SDA or an SRD is lost, or has a reply, whose status is not NA
pub data Suits : Outcome → ℕ → Type 0 where
  gone : (s : ℕ) → same s SDN ≡ true → Suits Gone s
  lost : (s : ℕ) → same s SDN ≡ false → Suits Lost s
  replied : (n s : ℕ) → same s SDN ≡ false → (n ≡ NA → ⊥) → Suits (Replied n) s

pub settled-lost : (m : Mark) → settled NA m ≡ Mark.unknown
unfolding settled
settled-lost m = pick_true _ _ (same_true refl)

pub settled-replied : (n : ℕ) (m : Mark) → (n ≡ NA → ⊥) → settled n m ≡ answered m
unfolding settled
settled-replied n m h = pick-false _ _ (same_false h)

closes-same : (y : Priority) (n status : ℕ) (o : List ℕ) (z : History)
    → closes y n status (sent y n o) z ≡ record { marks = marks_by status o z.marks; pending = none }
unfolding closes alike
closes-same High n status o z = pick_true _ _ refl ∙ pick_true _ _ (same_true refl)
closes-same Low n status o z = pick_true _ _ refl ∙ pick_true _ _ (same_true refl)

pub closes-own : (y : Priority) (n status : ℕ) (o : List ℕ) (z : History) → z.pending ≡ sent y n o
    → closes y n status z.pending z ≡ record { marks = marks_by status o z.marks; pending = none }
closes-own y n status o z e = ap (λ (x : Pending). closes y n status x z) e ∙ closes-same y n status o z

module _ (y : Priority) (ts : Address) (q : Queue) (marks : List ℕ) (r : Rows)
    (e : unfit ts.0 (record_in q r) (record_in q r).length ≡ 0) where
  -- of an SDN, no mark; of another, its destination's
  uncounted : (status : ℕ) (m : ℕ → Mark) → same (record_in q r).service SDN ≡ true → (a : ℕ)
      → m a ≡ marks_by status (octets_in ts y q marks r) m a
  unfolding marks_by
  uncounted status m h a = sym (pick-false _ _ (counts-is y ts q marks r e ∙ pick_true _ _ h))

  recounted : (status : ℕ) (m : ℕ → Mark) → same (record_in q r).service SDN ≡ false → (a : ℕ)
      → pick (same a (record_in q r).destination.0) (settled status (m a)) (m a)
      ≡ marks_by status (octets_in ts y q marks r) m a
  unfolding marks_by
  recounted status m h a =
      ap (λ (d : ℕ). pick (same a d) (settled status (m a)) (m a)) (sym (destination-is y ts q marks r e))
      ∙ sym (pick_true _ _ (counts-is y ts q marks r e ∙ pick-false _ _ h))

  pub agree-closed : (o : Outcome) (m : ℕ → Mark) → Suits o (record_in q r).service → Agree marks m
      → Agree (marks_after o (record_in q r).destination.0 marks) (marks_by (status_of o) (octets_in ts y q marks r) m)
  unfolding marks_after status_of
  agree-closed Gone m (gone s h) a = agree-like marks m _ (uncounted _ m h) a
  agree-closed Lost m (lost s h) a =
      agree-like _ _ _ (recounted NA m h)
      (agree-set marks m _ UNKNOWN (settled NA) (nearer ts.0 (record_in q r) _ e h)
      (meaning-unknown ∙ sym (settled-lost _)) a)
  agree-closed (Replied n) m (replied j s h k) a =
      agree-like _ _ _ (recounted n m h)
      (agree-set marks m _ _ (settled n) (nearer ts.0 (record_in q r) _ e h)
      (meaning-turned _ ∙ ap answered (a.each _ (nearer ts.0 (record_in q r) _ e h)) ∙ sym
      (settled-replied n _ k)) a)

-- ---- what is being sent stays as it is while its queue is changed behind or before it
abbrev pub going_in : Priority → Address → List ℕ → Queue → Rows → Pending
going_in y ts marks q r = sent y (current q) (octets_in ts y q marks r)

same-going : (y : Priority) (ts : Address) (marks : List ℕ) (q q' : Queue) (r r' : Rows) → current q' ≡ current q
    → record_in q' r' ≡ record_in q r → data_in q' r' ≡ data_in q r → going_in y ts marks q' r' ≡ going_in y ts marks q r
unfolding octets_in
same-going y ts marks q q' r r' e f g = rw (e, f, g)

pub grown-current : (q : Queue) → current (grown q) ≡ current q
unfolding current grown
grown-current q = place-grown q q.confirmed

pub freed-current : (q : Queue) → Ruled q → 0 < q.confirmed → current (freed q) ≡ current q
unfolding current freed
freed-current q u h =
    let e : q.confirmed - 1 + 1 ≡ q.confirmed = omega arith in
    place-freed q (q.confirmed - 1) u (omega (arith, u.used)) ∙ ap (place q) e

freed-record : (q : Queue) (r : Rows) → Ruled q → 0 < q.confirmed → record_in (freed q) r ≡ record_in q r
unfolding record_in
freed-record q r u h = ap (at r.row) (freed-current q u h)

freed-data : (q : Queue) (r : Rows) → Ruled q → 0 < q.confirmed → data_in (freed q) r ≡ data_in q r
unfolding data_in
freed-data q r u h = rw (freed-current q u h, freed-record q r u h)

module _ (y : Priority) (ts : Address) (marks : List ℕ) (q : Queue) (r : Rows) (f : Filed ts.0 q r)
    (h : 0 < q.unconfirmed) where
  fits-place : (record_in q r).length ≤ AREA
  fits-place = let s = fit-short ts.0 (record_in q r) _ (first-fit ts.0 q r f h) in omega (arith, s)

  pub going-freed : 0 < q.confirmed → going_in y ts marks (freed q) r ≡ going_in y ts marks q r
  going-freed c =
      same-going y ts marks q (freed q) r r (freed-current q f.ruled c) (freed-record q r f.ruled c)
      (freed-data q r f.ruled c)

  module _ (e : Record) (x : List ℕ) (a : q.confirmed + q.unconfirmed < q.places) (l : length x ≤ AREA) where
    abbrev later : ℕ
    later = place q (q.confirmed + q.unconfirmed)

    abbrev filled : Rows
    filled = record { row = put r.row later e; area = fill r.area later x }

    below : later < q.places
    below = place-below q (q.confirmed + q.unconfirmed) f.ruled f.ruled.used

    apart : later ≡ current q → ⊥
    unfolding current
    apart i = let k = place-apart q _ _ a (omega (arith, f.ruled.used, h)) i in omega (arith, k, h)

    same-record : record_in (grown q) filled ≡ record_in q r
    unfolding record_in
    same-record =
        ap (at (put r.row later e)) (grown-current q) ∙ at_other r.row later (current q) e
        (omega (arith, below, f.lent.places)) apart

    same-data : data_in (grown q) filled ≡ data_in q r
    unfolding data_in
    same-data =
        ap (λ (k : ℕ). content (fill r.area later x) k (record_in (grown q) filled).length) (grown-current q)
        ∙ ap (λ (k : Record). content (fill r.area later x) (current q) k.length) same-record
        ∙ content-other r.area later (current q) x _ (omega (arith, below, f.lent.areas)) l fits-place apart

    pub going-grown : going_in y ts marks (grown q) filled ≡ going_in y ts marks q r
    going-grown = same-going y ts marks q (grown q) r filled (grown-current q) same-record same-data
