-- The site in order: what is true of it whatever is being sent, and that the phase is not at odds with what is being
-- sent; each move and each act keeps both. Assumes nothing.
use Prim.Native.Nat.{ℕ, ◌+◌, ◌-◌, ◌*◌, ◌≤◌, ◌<◌}
use mathlib.Core.Bool.{Bool, true, false, true≢false}
use mathlib.Core.Path.{◌≡◌, refl, sym, ap, ◌∙◌}
use mathlib.Core.List.{List, []}
use native.Mathlib.Omega.{arith}
use lib.ListN.{length}
use Rattle.choice.proofs.Rules.{pick_true, true_same, false_same}
use Rattle.times.specs.declared.Settings.{Settings}
use Rattle.ring.specs.Ring.{member, next_of, previous_of}
use Rattle.ring.proofs.Laws.{member-enter-other, member-remove-other, previous-is}
use Rattle.request.specs.declared.Record.{Record}
use Rattle.request.specs.Record.{SIZE, DS, named}
use Rattle.queue.specs.declared.Queue.{Queue}
use Rattle.queue.specs.Queue.{AREA, Ruled, place, current, grown, freed, take}
use Rattle.queue.proofs.Laws.{Accepted, place-below, place-apart, place-grown, place-freed}
use Rattle.rows.specs.Rows.{at, put, confirm, submitted}
use Rattle.rows.proofs.Laws.{at_other}
use Rattle.state.specs.declared.Phase.{Phase}
use Rattle.state.specs.declared.Phase.TheVariants.{Idle, Awaited, Sdn, Check, ToSelf}
use Rattle.state.specs.declared.Priority.{Priority}
use Rattle.state.specs.declared.Priority.TheVariants.{High, Low}
use Rattle.state.specs.declared.Doing.{Doing}
use Rattle.state.specs.declared.Core.{Core}
use Rattle.state.specs.declared.Choice.TheVariants.{Serve}
use Rattle.state.specs.declared.Outcome.{Outcome}
use Rattle.state.specs.World.{Rows, Site, Event, done, with_doing, with_hold, with_stranger, with_ps, with_queue}
use Rattle.state.specs.World.{queue_of, with_core, with_masters, with_marks, rows_of, with_rows}
use Rattle.state.specs.Request.{record_in, sending, send_core, once, status_of, close_of}
use Rattle.state.specs.Pass.{ns, passing as passing_on, pass_core, ps_without, without}
use Rattle.state.specs.Hold.{choice, resting, rest, beginning, admit}
use Rattle.state.specs.Refusals.{unlike_in, row_by}
use Rattle.state.specs.Calls.{fresh_core}
use Rattle.state.proofs.Cases.{by, Any, any}
use Rattle.state.proofs.Phases.{flight, checking, selfing}
use Rattle.state.proofs.Choices.{saw-high, saw-low}
use Rattle.state.proofs.Acts.{Point, calm, free, choosing, passing, halting, clearing, Closing, replied, lost}
use Rattle.state.proofs.Acts.{gone, Move, lets_go, rests, notes, admits, drops, spares, renews, Act, opens}
use Rattle.state.proofs.Acts.{serves, stops, quits, passes, repasses, repeats, closes, takes, hands, replies}
use Rattle.state.proofs.Acts.{shows, restarts, breaks, clears-high, clears-low, sent, sent_again, taking}
use Rattle.state.proofs.Acts.{grown_by, freed_of}
use Rattle.state.proofs.Keeping.{Ground}
use Rattle.state.proofs.Filed.{Filed, filed-confirmed, filed-taken, filed-freed, named-OK, named-NA, named-DS}

unfoldable pub queue_by : Priority → Queue → Queue → Queue
queue_by High h l = h
queue_by Low h l = l

-- the queue being served has a request, whose service fits the phase
pub record Loaded (x : Phase) (q : Queue) (row : List ℕ) : Type 0 where
  pub some : 0 < q.unconfirmed
  pub fits : unlike_in x (at row (current q)).service ≡ false

-- a phase that is not at odds with what is being sent
pub record Apt (own : ℕ) (masters : List ℕ) (h l : Queue) (u v : List ℕ) (x : Phase) (y : Priority) : Type 0 where
  pub flying : flight x ≡ true → Loaded x (queue_by y h l) (row_by y u v)
  pub check : checking x ≡ true → next_of masters own ≡ own → ⊥
  pub self : selfing x ≡ true → next_of masters own ≡ own

-- settings and TS as started, addresses in range, TS among the masters, both queues in order
pub record Firm (t : Settings) (ts : ℕ) (set : Settings) (own ps stranger : ℕ) (masters : List ℕ) (h l : Queue)
    (u v : Rows) : Type 0 where
  pub settings : set ≡ t
  pub station : own ≡ ts
  pub previous : ps ≤ 126
  pub first : stranger ≤ 127
  pub among : member masters own ≡ true
  pub high : Filed own h u
  pub low : Filed own l v

abbrev pub FirmAt : Settings → ℕ → Site → Type 0
FirmAt t ts s =
    Firm t ts s.core.settings s.core.ts.0 s.core.ps.0 s.core.stranger.0 s.masters
    s.core.high s.core.low s.high s.low

abbrev pub AptAt : Site → Type 0
AptAt s =
    Apt s.core.ts.0 s.masters s.core.high s.core.low s.high.row s.low.row
    s.core.doing.phase s.core.doing.served

-- ---- phases
module _ (own : ℕ) (masters : List ℕ) (h l : Queue) (u v : List ℕ) where
  unflown : (x : Phase) (y : Priority) → flight x ≡ false → (checking x ≡ true → next_of masters own ≡ own → ⊥)
      → (selfing x ≡ true → next_of masters own ≡ own) → Apt own masters h l u v x y
  unflown x y e c s = record { flying = λ z. absurd (true≢false (sym z ∙ e)); check = c; self = s }

  pub apt-idle : (y : Priority) → Apt own masters h l u v Idle y
  unfolding flight checking selfing
  apt-idle y = unflown Idle y refl (λ e. absurd (true≢false (sym e))) (λ e. absurd (true≢false (sym e)))

  -- sent for the first time
  apt-loaded : (x : Phase) (y : Priority) → checking x ≡ false → selfing x ≡ false
      → Loaded x (queue_by y h l) (row_by y u v) → Apt own masters h l u v x y
  apt-loaded x y c s z =
      record {
        flying = λ e. z;
        check = λ e. absurd (true≢false (sym e ∙ c));
        self = λ e. absurd (true≢false (sym e ∙ s));
      }

  apt-sending : (y : Priority) (n : ℕ) → 0 < (queue_by y h l).unconfirmed
      → n ≡ (at (row_by y u v) (current (queue_by y h l))).service
      → Apt own masters h l u v (sending y n).phase (sending y n).served
  unfolding sending checking selfing unlike_in
  apt-sending y n z e =
      by (λ (g : Doing). Apt own masters h l u v g.phase g.served) _ _ _
      (λ i. apt-loaded Sdn y refl refl (record { some = z; fits = pick_true _ _ (rw e at i) }))
      (λ i. apt-loaded Awaited y refl refl (record { some = z; fits = rw e at i }))

  apt-passing : (c : Core) → c.ts.0 ≡ own
      → Apt own masters h l u v (passing_on (next_of masters own) c).phase (passing_on (next_of masters own) c).served
  unfolding passing_on flight checking selfing
  apt-passing c e =
      by (λ (g : Doing). Apt own masters h l u v g.phase g.served) _ _ _
      (λ i. unflown ToSelf _ refl (λ z. absurd (true≢false (sym z))) (λ z. true_same _ _ i ∙ e))
      (λ i. unflown Check _ refl (λ z f. false_same _ _ i (f ∙ sym e)) (λ z. absurd (true≢false (sym z))))

-- ---- what is being sent stays as it is while its queue is changed behind or before it
apart_from : (q : Queue) → 0 < q.unconfirmed → q.confirmed + q.unconfirmed ≡ q.confirmed → ⊥
apart_from q s e = omega arith

loaded-grown : (x : Phase) (q : Queue) (row : List ℕ) (r : Record) → Ruled q → length row ≡ SIZE * q.places
    → q.confirmed + q.unconfirmed < q.places → Loaded x q row
    → Loaded x (grown q) (put row (place q (q.confirmed + q.unconfirmed)) r)
unfolding grown current
loaded-grown x q row r u l h z =
    let b = place-below q (q.confirmed + q.unconfirmed) u u.used in
    record {
      some = omega arith;
      fits =
          rw (
            place-grown q q.confirmed,
            at_other row (place q (q.confirmed + q.unconfirmed)) (place q q.confirmed) r (omega arith)
                (λ e. apart_from q z.some (place-apart q _ _ h (omega (arith, u.used, z.some)) e)),
          ) z.fits;
    }

loaded-freed : (x : Phase) (q : Queue) (row : List ℕ) → Ruled q → 0 < q.confirmed → Loaded x q row
    → Loaded x (freed q) row
unfolding current freed
loaded-freed x q row u h z =
    let e : q.confirmed - 1 + 1 ≡ q.confirmed = omega arith in
    record { some = z.some; fits = rw (place-freed q (q.confirmed - 1) u (omega (arith, u.used)), e) z.fits }

module _ {own : ℕ} {masters : List ℕ} {h l h' : Queue} {u v u' : List ℕ} {x : Phase} where
  apt-high : (y : Priority) → (Loaded x h u → Loaded x h' u') → Apt own masters h l u v x y
      → Apt own masters h' l u' v x y
  unfolding queue_by row_by
  apt-high High f a = record { flying = λ e. f (a.flying e); check = a.check; self = a.self }
  apt-high Low f a = record { flying = a.flying; check = a.check; self = a.self }

  apt-low : (y : Priority) → (Loaded x h u → Loaded x h' u') → Apt own masters l h v u x y
      → Apt own masters l h' v u' x y
  unfolding queue_by row_by
  apt-low High f a = record { flying = a.flying; check = a.check; self = a.self }
  apt-low Low f a = record { flying = λ e. f (a.flying e); check = a.check; self = a.self }

-- ---- what is known at each point of a call: all of it between calls, and all but the phase within one
unfoldable pub AptIn : Point → Site → Type 0
AptIn calm s = AptAt s
AptIn free s = Any
AptIn (choosing b) s = Any
AptIn passing s = Any
AptIn halting s = Any
AptIn (clearing a b) s = Any

pub record Poised (t : Settings) (ts : ℕ) (p : Point) (s : Site) : Type 0 where
  pub firm : FirmAt t ts s
  pub apt : AptIn p s

pub poised-apt : {t : Settings} {ts : ℕ} {s : Site} → Poised t ts calm s → AptAt s
unfolding AptIn
poised-apt g = g.apt

closing-named : {p : Phase} {o : Outcome} {x : List ℕ} → Closing p o x → named (status_of o) ≡ true
unfolding status_of
closing-named (replied n x a b c) = a
closing-named lost = named-NA
closing-named gone = named-OK

pub closing-short : {p : Phase} {o : Outcome} {x : List ℕ} → Closing p o x → length x ≤ AREA
closing-short (replied n x a b c) = c
closing-short lost = omega arith
closing-short gone = omega arith

pub closing-flight : {p : Phase} {o : Outcome} {x : List ℕ} → Closing p o x → flight p ≡ true
unfolding flight
closing-flight (replied n x a b c) = refl
closing-flight lost = refl
closing-flight gone = refl

-- the queue being served has a request
pub served-some : (y : Priority) (s : Site) → s.core.doing.served ≡ y → flight s.core.doing.phase ≡ true
    → AptAt s → 0 < (queue_by y s.core.high s.core.low).unconfirmed
served-some y s e h a = rw e at (a.flying h).some

pub previous-small : (l : List ℕ) (own ts : ℕ) → ts ≤ 126 → own ≡ ts → previous_of l own ≤ 126
previous-small l own ts small e = omega (arith, small, previous-is l own (omega (arith, small)))

module _ (t : Settings) (ts : ℕ) (small : ts ≤ 126) where
  -- ---- the parts of a site that change
  refirm : {set : Settings} {own ps stranger : ℕ} {masters : List ℕ} {h l h' l' : Queue} {u v u' v' : Rows}
      → Firm t ts set own ps stranger masters h l u v → Filed own h' u' → Filed own l' v'
      → Firm t ts set own ps stranger masters h' l' u' v'
  refirm f a b =
      record {
        settings = f.settings;
        station = f.station;
        previous = f.previous;
        first = f.first;
        among = f.among;
        high = a;
        low = b;
      }

  readdress : {set : Settings} {own ps stranger ps' stranger' : ℕ} {masters masters' : List ℕ} {h l : Queue}
      {u v : Rows}
      → Firm t ts set own ps stranger masters h l u v → ps' ≤ 126 → stranger' ≤ 127 → member masters' own ≡ true
      → Firm t ts set own ps' stranger' masters' h l u v
  readdress f a b c =
      record {
        settings = f.settings;
        station = f.station;
        previous = a;
        first = b;
        among = c;
        high = f.high;
        low = f.low;
      }

  ps-small : (n : ℕ) (l : List ℕ) (c : Core) → c.ts.0 ≡ ts → c.ps.0 ≤ 126 → ps_without n l c ≤ 126
  unfolding ps_without
  ps-small n l c e h = by (λ (m : ℕ). m ≤ 126) _ _ _ (λ i. previous-small l _ ts small e) (λ i. h)

  other-next : (s : Site) → s.core.doing.phase ≡ Check → AptAt s → ns s ≡ s.core.ts.0 → ⊥
  unfolding ns checking
  other-next s e a = a.check (ap checking e)

  close-firm : (y : Priority) (o : Outcome) (x : List ℕ) (s : Site)
      → 0 < (queue_by y s.core.high s.core.low).unconfirmed → named (status_of o) ≡ true → length x ≤ AREA
      → FirmAt t ts s → FirmAt t ts (close_of y o x s).site
  unfolding close_of done with_rows with_marks with_core with_queue queue_of rows_of confirm queue_by
  close-firm High o x s h n l f = refirm f (filed-confirmed _ _ s.high f.high _ _ x h n l) f.low
  close-firm Low o x s h n l f = refirm f f.high (filed-confirmed _ _ s.low f.low _ _ x h n l)

  -- ---- moves
  pub poised-moved : {p : Point} {s : Site} {q : Point} {s' : Site} → Move Any p s q s' → Poised t ts p s → Poised t ts q s'
  unfolding AptIn rest admit without with_core with_masters with_doing with_stranger with_ps resting fresh_core
  poised-moved (lets_go s h) g = record { firm = g.firm; apt = any }
  poised-moved (rests s) g = record { firm = g.firm; apt = apt-idle _ _ _ _ _ _ _ }
  poised-moved (notes a s h i j k) g =
      record {
        firm = readdress g.firm g.firm.previous (let l = h any in omega arith) g.firm.among;
        apt = g.apt;
      }
  poised-moved (admits a s h i j) g =
      record {
        firm = readdress g.firm (h any) g.firm.first
            (member-enter-other _ a _ (λ e. i (sym e)) ∙ g.firm.among);
        apt = any;
      }
  poised-moved (drops s e h) g =
      record {
        firm =
            readdress g.firm (ps-small _ _ s.core g.firm.station g.firm.previous) g.firm.first
            (member-remove-other _ _ _ (λ i. other-next s (e any) g.apt (sym i)) ∙ g.firm.among);
        apt = any;
      }
  poised-moved (spares s h) g = record { firm = g.firm; apt = any }
  poised-moved (renews a b masters s h i j) g =
      record {
        firm = readdress g.firm (previous-small masters _ ts small g.firm.station) (omega arith) (h any);
        apt = apt-idle _ _ _ _ _ _ _;
      }

  -- ---- acts
  apt-again : (s : Site) → AptAt s → AptAt (sent_again s)
  unfolding once with_core with_doing
  apt-again s a = a

  poised-serves : (starts : Bool) (clock : ℕ) (y : Priority) (s : Site) → choice starts s.core clock ≡ Serve y
      → FirmAt t ts s → Poised t ts calm (sent y s)
  unfolding AptIn send_core with_core with_doing queue_of rows_of record_in queue_by row_by
  poised-serves starts clock High s e f =
      record { firm = f; apt = apt-sending _ _ _ _ _ _ High _ (saw-high starts _ clock e) refl }
  poised-serves starts clock Low s e f =
      record { firm = f; apt = apt-sending _ _ _ _ _ _ Low _ (saw-low starts _ clock e).0 refl }

  poised-takes : (y : Priority) (r : Record) (x : List ℕ) (s : Site)
      → Accepted s.core.ts.0 (queue_of y s.core) r (length x)
      → taking y r x s ≡ submitted s.core.ts.0 (queue_of y s.core) r x (rows_of y s).row (rows_of y s).area
      → FirmAt t ts s → AptAt s → Poised t ts calm (grown_by y r x s)
  unfolding AptIn with_rows with_core with_queue queue_of rows_of take
  poised-takes High r x s h e f a =
      record {
        firm = refirm f (filed-taken _ _ s.high r x (taking High r x s) e f.high) f.low;
        apt =
            apt-high _
            (loaded-grown _ s.core.high s.high.row _ f.high.ruled f.high.lent.places h.room) a;
      }
  poised-takes Low r x s h e f a =
      record {
        firm = refirm f f.high (filed-taken _ _ s.low r x (taking Low r x s) e f.low);
        apt =
            apt-low _ (loaded-grown _ s.core.low s.low.row _ f.low.ruled f.low.lent.places h.room)
            a;
      }

  poised-hands : (y : Priority) (s : Site) → 0 < (queue_of y s.core).confirmed → FirmAt t ts s → AptAt s
      → Poised t ts calm (freed_of y s)
  unfolding AptIn with_core with_queue queue_of
  poised-hands High s h f a =
      record {
        firm = refirm f (filed-freed _ _ s.high f.high h) f.low;
        apt = apt-high _ (loaded-freed _ s.core.high s.high.row f.high.ruled h) a;
      }
  poised-hands Low s h f a =
      record {
        firm = refirm f f.high (filed-freed _ _ s.low f.low h);
        apt = apt-low _ (loaded-freed _ s.core.low s.low.row f.low.ruled h) a;
      }

  pub poised-acted : {p : Point} {s : Site} {q : Point} {s' : Site} {e : Event} → Act Any p s e q s' → Poised t ts p s → Poised t ts q s'
  unfolding AptIn pass_core ns beginning with_core with_rows with_queue queue_of rows_of confirm with_doing with_hold
      with_stranger once flight
  poised-acted (opens clock s) g =
      record { firm = readdress g.firm g.firm.previous (omega arith) g.firm.among; apt = any }
  poised-acted (serves starts clock y s e) g = poised-serves starts clock y s e g.firm
  poised-acted (stops starts clock s e) g = record { firm = g.firm; apt = any }
  poised-acted (quits s) g = record { firm = g.firm; apt = any }
  poised-acted (passes s) g = record { firm = g.firm; apt = apt-passing _ _ _ _ _ _ s.core refl }
  poised-acted (repasses s e h) g =
      record { firm = g.firm; apt = unflown _ _ _ _ _ _ _ _ (ap flight (e any)) g.apt.check g.apt.self }
  poised-acted (repeats y s i e h) g = record { firm = g.firm; apt = apt-again s g.apt }
  poised-acted (closes y p o x s i e c) g =
      record {
        firm = close-firm y o x s (served-some y s i (ap flight (e any) ∙ closing-flight (c any)) g.apt)
            (closing-named (c any)) (closing-short (c any)) g.firm;
        apt = any;
      }
  poised-acted (takes y r x s h e) g = poised-takes y r x s h e g.firm g.apt
  poised-acted (hands y s h) g = poised-hands y s h g.firm g.apt
  poised-acted (replies o s) g = g
  poised-acted (shows z h d s) g = g
  poised-acted (restarts s) g = record { firm = g.firm; apt = any }
  poised-acted (breaks s h) g = record { firm = g.firm; apt = any }
  poised-acted (clears-high a b s h) g =
      record {
        firm = refirm g.firm (filed-confirmed _ _ s.high g.firm.high DS a [] h named-DS (omega arith))
            g.firm.low;
        apt = any;
      }
  poised-acted (clears-low a b s h) g =
      record {
        firm = refirm g.firm g.firm.high
            (filed-confirmed _ _ s.low g.firm.low DS b [] h named-DS (omega arith));
        apt = any;
      }

  abbrev pub poise : Ground
  poise = record { Given = Poised t ts; moved = poised-moved; acted = poised-acted }
