-- What follows from the frame counts of a run, with no word of marks: the bits of the next SDA or SRD to an address
-- after a plausible reply, after NA, after a reset and after the start; and that a request is sent again with the
-- same octets. Assumes nothing.
use Prim.Native.Nat.{ℕ}
use mathlib.Core.Bool.{Bool, true, false, true≢false}
use mathlib.Core.Path.{◌≡◌, refl, sym, ap, ◌∙◌}
use mathlib.Core.List.{List, [], ◌∷◌, ◌++◌}
use Rattle.choice.specs.Choice.{pick, same}
use Rattle.choice.proofs.Rules.{pick_true, same_true}
use Rattle.control.specs.declared.Service.{Service}
use Rattle.control.specs.Control.{counted}
use Rattle.request.specs.Record.{NA}
use Rattle.state.specs.declared.Priority.{Priority}
use Rattle.state.specs.World.{World, a_request, a_token, a_reply, Event, accepted, begins, ends, sends, confirmed}
use Rattle.state.specs.World.{collected, indicated, resets, refused}
use Rattle.state.specs.Runs.{Call, run, Begun}
use Rattle.state.specs.Counts.{Mark, unknown, next, bits_for, due, answered, settled, destination_in, control_in}
use Rattle.state.specs.Counts.{counts, Pending, none, sent, History, unheard, marks_by, alike, closes, goes}
use Rattle.state.specs.Counts.{heeds, history, Turn, first, again, Rightly, bits_of, bits_in, following, unclosed}
use Rattle.state.specs.Counts.{aims, unaimed, Succession}
use Rattle.state.proofs.Cases.{by}
use Rattle.state.proofs.Cases.{Any, any}
use Rattle.state.proofs.Keeping.{of_sendings}
use Rattle.state.proofs.Tally.{Sent, Counts, counts-split, settled-lost, settled-replied, closes-own}
use Rattle.state.proofs.FrameCounts.{sends-rightly, counts-begun}

-- ---- events in a row
prefix : (a b : List Event) (h : History) → Counts h (a ++ b) → Counts h a
unfolding Counts
prefix [] b h c = any
prefix (e ∷ a) b h c = (c.0, prefix a b (heeds e h) c.1)

suffix : (a b : List Event) (h : History) → Counts h (a ++ b) → Counts (history a h) b
unfolding Counts history
suffix [] b h c = c
suffix (e ∷ a) b h c = suffix a b (heeds e h) c.1

both_false : (b y : Bool) → pick b false y ≡ true → (b ≡ false) × (y ≡ true)
unfolding pick
both_false true y e = absurd (true≢false (sym e))
both_false false y e = (refl, e)

-- ---- the bits of a counted request are those of its destination's mark
bits-service : (s : Service) (m : Mark) → counted s ≡ true → due s m ≡ bits_for m
unfolding due
bits-service s m e = pick_true _ _ e

bits-right : (h : History) (p : Priority) (n : ℕ) (o : List ℕ) → Rightly h p n o → counts (control_in o) ≡ true
    → bits_in o ≡ bits_for (h.marks (destination_in o))
unfolding bits_in bits_of counts
bits-right h p n o r c =
    ap bits_of r.control ∙ bits-service r.service (h.marks (destination_in o)) (sym (ap counts r.control) ∙ c)

-- ---- while a request is not confirmed, the history stands still
pending-same : (h : History) (x : Pending) → h.pending ≡ x → record { marks = h.marks; pending = x } ≡ h
pending-same h x e = ap (λ (y : Pending). record { marks = h.marks; pending = y }) (sym e)

is_none : Pending → Bool
is_none none = true
is_none (sent p n o) = false

octets-of : Pending → List ℕ
octets-of none = []
octets-of (sent p n o) = o

sent-again : (p q : Priority) (n j : ℕ) (o u : List ℕ) (h : History) (x : Pending) → h.pending ≡ x → x ≡ sent p n o
    → Turn q j u x → record { marks = h.marks; pending = sent q j u } ≡ h
unfolding is_none
sent-again p q n j o u h x e f first = absurd (true≢false (ap is_none f))
sent-again p q n j o u h x e f again = pending-same h _ e

-- the confirmation of another
not-both : (a b y : Bool) → pick a (pick b false y) y ≡ true → (a ≡ true → b ≡ false) × (y ≡ true)
unfolding pick
not-both true true y e = absurd (true≢false (sym e))
not-both true false y e = ((λ f. refl), e)
not-both false b y e = ((λ f. absurd (true≢false (sym f))), e)

closes-other : (q p : Priority) (m n status : ℕ) (o : List ℕ) (h : History) → (alike q p ≡ true → same m n ≡ false)
    → closes q m status (sent p n o) h ≡ h
unfolding closes
closes-other q p m n status o h k =
    by (λ (x : History). x ≡ h) _ _ _
    (λ e. by (λ (x : History). x ≡ h) _ _ _ (λ f. absurd (true≢false (sym f ∙ k e))) (λ f. refl))
    (λ e. refl)

module _ (p : Priority) (n : ℕ) (o : List ℕ) where
  stands : (l : List Event) (h : History) → h.pending ≡ sent p n o → unclosed p n l ≡ true → Counts h l
      → history l h ≡ h
  unfolding history heeds goes unclosed Counts of_sendings Sent
  stands [] h e u c = refl
  stands (accepted q m ∷ l) h e u c = stands l h e u c.1
  stands (begins ∷ l) h e u c = stands l h e u c.1
  stands (ends ∷ l) h e u c = stands l h e u c.1
  stands (sends (a_request q j) x t ∷ l) h e u c =
      let i = sent-again p q n j o x h _ refl e c.0.turn in
      ap (history l) i ∙ stands l h e u (rw i at c.1)
  stands (sends a_token x t ∷ l) h e u c = stands l h e u c.1
  stands (sends a_reply x t ∷ l) h e u c = stands l h e u c.1
  stands (confirmed q m status k ∷ l) h e u c =
      let b = not-both _ _ _ u in
      let i = ap (λ (x : Pending). closes q m status x h) e ∙ closes-other q p m n status o h b.0 in
      ap (history l) i ∙ stands l h e b.1 (rw i at c.1)
  stands (collected q m r ∷ l) h e u c = stands l h e u c.1
  stands (indicated f d ∷ l) h e u c = stands l h e u c.1
  stands (resets ∷ l) h e u c = absurd (true≢false (sym u))
  stands (refused m ∷ l) h e u c = stands l h e u c.1

-- ---- while no SDA or SRD goes to an address, its mark stands
unfoldable Clear : ℕ → Pending → Type 0
Clear a none = Any
Clear a (sent p n o) = aims a (a_request p n) o ≡ false

record Kept (a : ℕ) (h : History) (x : History) : Type 0 where
  mark : x.marks a ≡ h.marks a
  clear : Clear a x.pending

unmarked : (b c : Bool) (x y : Mark) → pick b c false ≡ false → pick b (pick c x y) y ≡ y
unfolding pick
unmarked true true x y e = absurd (true≢false e)
unmarked true false x y e = refl
unmarked false c x y e = refl

kept-closed : (a : ℕ) (q : Priority) (m status : ℕ) (h : History) (x : Pending) → h.pending ≡ x → Clear a x
    → Kept a h (closes q m status x h)
unfolding closes Clear aims marks_by
kept-closed a q m status h none e c = record { mark = refl; clear = rw e any }
kept-closed a q m status h (sent p n o) e c =
    by (Kept a h) _ _ _
    (λ f. by (Kept a h) _ _ _ (λ g. record { mark = unmarked _ _ _ _ c; clear = any })
    (λ g. record { mark = refl; clear = rw e c }))
    (λ f. record { mark = refl; clear = rw e c })

clear-sent : (a : ℕ) (q : Priority) (j : ℕ) (x : List ℕ) → aims a (a_request q j) x ≡ false → Clear a (sent q j x)
unfolding Clear
clear-sent a q j x e = e

clear_none : (a : ℕ) (x : Pending) → x ≡ none → Clear a x
unfolding Clear
clear_none a x e = rw e any

module _ (a : ℕ) where
  kept : (l : List Event) (h : History) → Clear a h.pending → unaimed a l ≡ true → (history l h).marks a ≡ h.marks a
  unfolding history heeds goes unaimed
  kept [] h c u = refl
  kept (accepted q m ∷ l) h c u = kept l h c u
  kept (begins ∷ l) h c u = kept l h c u
  kept (ends ∷ l) h c u = kept l h c u
  kept (sends (a_request q j) x t ∷ l) h c u =
      let b = both_false _ _ u in
      kept l _ (clear-sent a q j x b.0) b.1
  kept (sends a_token x t ∷ l) h c u = kept l h c (both_false _ _ u).1
  kept (sends a_reply x t ∷ l) h c u = kept l h c (both_false _ _ u).1
  kept (confirmed q m status k ∷ l) h c u =
      let i = kept-closed a q m status h _ refl c in
      kept l _ i.clear u ∙ i.mark
  kept (collected q m r ∷ l) h c u = kept l h c u
  kept (indicated f d ∷ l) h c u = kept l h c u
  kept (resets ∷ l) h c u = absurd (true≢false (sym u))
  kept (refused m ∷ l) h c u = kept l h c u

none-unheard : unheard.pending ≡ none
unfolding unheard
none-unheard = refl

unknown-unheard : (a : ℕ) → unheard.marks a ≡ unknown
unfolding unheard
unknown-unheard a = refl

bits-unknown : bits_for unknown ≡ record { fcb = true; fcv = false }
unfolding bits_for
bits-unknown = refl

-- ---- after the start, and after a reset, the first to an address goes with FCB 1, FCV 0
from-unheard : (l after : List Event) (p : Priority) (n : ℕ) (o : List ℕ) (wait : ℕ)
    → Counts unheard (l ++ (sends (a_request p n) o wait ∷ after)) → unaimed (destination_in o) l ≡ true
    → counts (control_in o) ≡ true → bits_in o ≡ record { fcb = true; fcv = false }
from-unheard l after p n o wait c u k =
    bits-right _ p n o (sends-rightly p n o wait _ (counts-split l after _ unheard c)) k
    ∙ ap bits_for (kept _ l unheard (clear_none _ _ none-unheard) u ∙ unknown-unheard (destination_in o))
    ∙ bits-unknown

after-reset : (h : History) (l : List Event) → Counts h (resets ∷ l) → Counts unheard l
unfolding Counts heeds
after-reset h l c = c.1

-- ---- a request sent again
turn-same : (p : Priority) (n : ℕ) (o u : List ℕ) (x : Pending) → x ≡ sent p n o → Turn p n u x → u ≡ o
unfolding is_none octets-of
turn-same p n o u x e first = absurd (true≢false (ap is_none e))
turn-same p n o u x e again = ap octets-of e

sent-then : (h : History) (p : Priority) (n : ℕ) (o : List ℕ) (wait : ℕ) (l : List Event)
    → Counts h (sends (a_request p n) o wait ∷ l)
    → Rightly h p n o × Counts (record { marks = h.marks; pending = sent p n o }) l
unfolding Counts of_sendings Sent heeds goes
sent-then h p n o wait l c = c

repeated : (before between after : List Event) (p : Priority) (n : ℕ) (o u : List ℕ) (wait wait' : ℕ)
    → Counts unheard (before ++ (sends (a_request p n) o wait ∷ (between ++ (sends (a_request p n) u wait' ∷ after))))
    → unclosed p n between ≡ true → u ≡ o
repeated before between after p n o u wait wait' c h =
    let i = (sent-then _ p n o wait _ (suffix before _ unheard c)).1 in
    let j = stands p n o between _ refl h (prefix between _ _ i) in
    turn-same p n o u _ (ap (λ (x : History). x.pending) j)
    (sends-rightly p n u wait' _ (counts-split between after _ _ i)).turn

-- ---- a request, its confirmation, and the next to its address: the bits of the later are those of the mark that the
-- confirmation left, the bits of the earlier those of the mark before
bits-answered : (m : Mark) → bits_for (answered m) ≡ following (bits_for m)
unfolding bits_for answered following pick
bits-answered unknown = refl
bits-answered (next b) = refl

marks-settled : (status : ℕ) (o : List ℕ) (m : ℕ → Mark) (a : ℕ) → counts (control_in o) ≡ true → a ≡ destination_in o
    → marks_by status o m a ≡ settled status (m a)
unfolding marks_by
marks-settled status o m a c e = pick_true _ _ c ∙ pick_true _ _ (same_true e)

closed-then : (h : History) (p : Priority) (n status k : ℕ) (o : List ℕ) (l : List Event) → h.pending ≡ sent p n o
    → Counts h (confirmed p n status k ∷ l)
    → Counts (record { marks = marks_by status o h.marks; pending = none }) l
unfolding Counts heeds
closed-then h p n status k o l e c = rw (closes-own p n status o h e) at c.1

settled-na : (k : ℕ) (m : Mark) → k ≡ NA → settled k m ≡ unknown
settled-na k m e = rw e (settled-lost m)

module _ {e : List Event} (x : Succession e) where
  abbrev start : History
  start = history x.before unheard

  abbrev going : History
  going = record { marks = start.marks; pending = sent x.queue x.place x.earlier }

  abbrev ended : History
  ended = record { marks = marks_by x.status x.earlier start.marks; pending = none }

  successive : Counts unheard e
      → (bits_in x.later ≡ bits_for (settled x.status (start.marks (destination_in x.earlier))))
      × (bits_in x.earlier ≡ bits_for (start.marks (destination_in x.earlier)))
  successive c =
      let i = sent-then start x.queue x.place x.earlier x.earlier_wait _
      (suffix x.before _ unheard (rw x.told at c)) in
      let j = stands x.queue x.place x.earlier x.until going refl x.unanswered
      (prefix x.until _ going i.1) in
      let k = closed-then going x.queue x.place x.status x.count x.earlier _ refl
      (rw j at (suffix x.until _ going i.1)) in (
        bits-right _ _ _ x.later
            (sends-rightly x.next_queue x.next_place x.later x.later_wait _
            (counts-split x.since x.after _ ended k)) x.later_counts
            ∙ ap bits_for
            (kept _ x.since ended (clear_none _ _ refl) x.next ∙ marks-settled x.status x.earlier
            start.marks _ x.earlier_counts x.address ∙ ap
            (λ (a : ℕ). settled x.status (start.marks a)) x.address),
        bits-right start _ _ x.earlier i.0 x.earlier_counts,
      )

module _ (w : World) (b : Begun w) (l : List Call) where
  pub first-bits : (before after : List Event) (p : Priority) (n : ℕ) (o : List ℕ) (wait : ℕ)
      → (run l w).events ≡ before ++ (sends (a_request p n) o wait ∷ after) → unaimed (destination_in o) before ≡ true
      → counts (control_in o) ≡ true → bits_in o ≡ record { fcb = true; fcv = false }
  first-bits before after p n o wait e u k = from-unheard before after p n o wait (rw e at (counts-begun w b l)) u k

  pub reset-bits : (before since after : List Event) (p : Priority) (n : ℕ) (o : List ℕ) (wait : ℕ)
      → (run l w).events ≡ before ++ (resets ∷ (since ++ (sends (a_request p n) o wait ∷ after)))
      → unaimed (destination_in o) since ≡ true → counts (control_in o) ≡ true
      → bits_in o ≡ record { fcb = true; fcv = false }
  reset-bits before since after p n o wait e u k =
      from-unheard since after p n o wait (after-reset _ _ (suffix before _ unheard (rw e at (counts-begun w b l)))) u k

  -- "the same octets again": a request that is sent and not confirmed goes the next time with the same octets
  pub same-octets : (before between after : List Event) (p : Priority) (n : ℕ) (o u : List ℕ) (wait wait' : ℕ)
      → (run l w).events
      ≡ before ++ (sends (a_request p n) o wait ∷ (between ++ (sends (a_request p n) u wait' ∷ after)))
      → unclosed p n between ≡ true → u ≡ o
  same-octets before between after p n o u wait wait' e h =
      repeated before between after p n o u wait wait' (rw e at (counts-begun w b l)) h

  -- after a plausible reply FCV 1 with the other bit, or with 0 after FCV 0; after NA FCB 1, FCV 0
  pub after-reply : (x : Succession (run l w).events) → (x.status ≡ NA → ⊥)
      → bits_in x.later ≡ following (bits_in x.earlier)
  after-reply x h =
      let i = successive x (counts-begun w b l) in
      i.0 ∙ ap bits_for (settled-replied x.status _ h) ∙ bits-answered _ ∙ ap following (sym i.1)

  pub after-na : (x : Succession (run l w).events) → x.status ≡ NA
      → bits_in x.later ≡ record { fcb = true; fcv = false }
  after-na x h =
      let i = successive x (counts-begun w b l) in
      i.0 ∙ ap bits_for (settled-na x.status _ h) ∙ bits-unknown
