-- Every request and every token of a run goes after Tid2 if this station's last sending in the hold was an SDN, and
-- after Tid1 otherwise; every reply after min TSDR. Assumes nothing.
use Prim.Native.Nat.{ℕ, ◌≤◌}
use mathlib.Core.Bool.{Bool, true, false, true≢false}
use mathlib.Core.Path.{◌≡◌, refl, sym, ap, ◌∙◌}
use mathlib.Core.List.{List, [], ◌∷◌, ◌++◌}
use Rattle.choice.specs.Choice.{pick, same}
use Rattle.choice.proofs.Rules.{pick-false}
use Rattle.frame.specs.declared.Address.{Address}
use Rattle.times.specs.declared.Settings.{Settings}
use Rattle.times.specs.declared.Sending.TheVariants.{Reply, AfterSdn, Other}
use Rattle.times.specs.Times.{wait_of}
use Rattle.times.specs.Heeding.{Heeds}
use Rattle.times.proofs.Laws.{tid1-heeds}
use Rattle.request.specs.declared.Record.{Record}
use Rattle.request.specs.Record.{SDN}
use Rattle.queue.specs.declared.Queue.{Queue}
use Rattle.state.specs.declared.Priority.{Priority}
use Rattle.state.specs.declared.Priority.TheVariants.{High, Low}
use Rattle.state.specs.declared.Doing.{Doing}
use Rattle.state.specs.declared.Core.{Core}
use Rattle.state.specs.World.{Rows, Site, World, What, a_request, a_token, a_reply, Event}
use Rattle.state.specs.World.{sends, refused, done, with_doing}
use Rattle.state.specs.World.{with_hold, with_stranger, with_ps, with_queue, queue_of, with_core, with_masters}
use Rattle.state.specs.World.{with_marks, rows_of, with_rows}
use Rattle.state.specs.Request.{head_for, record_in, octets_in, after_last, wait_for, sending, send_core, once, close_of}
use Rattle.state.specs.Pass.{passing as passing_on, pass_core, without}
use Rattle.state.specs.Hold.{resting, rest, beginning, admit}
use Rattle.state.specs.Answering as A
use Rattle.state.specs.Calls.{responder, fresh_core}
use Rattle.state.specs.Runs.{Call, run, Begun}
use Rattle.state.specs.Counts.{control_in, counts}
use Rattle.state.specs.Waits.{sdn_by, sdn_after, sdn_last, wait_due}
use Rattle.state.proofs.Cases.{by, Any, any}
use Rattle.state.proofs.Phases.{flight, checking, awaiting}
use Rattle.state.proofs.Acts.{Point, calm, free, choosing, passing, halting, clearing, Move, lets_go, rests}
use Rattle.state.proofs.Acts.{notes, admits, drops, spares, renews, Act, opens, serves, stops, quits, passes}
use Rattle.state.proofs.Acts.{repasses, repeats, closes, takes, hands, replies, shows, restarts, breaks}
use Rattle.state.proofs.Acts.{clears-high, clears-low}
use Rattle.state.proofs.Keeping.{Account, of_sendings, met}
use Rattle.state.proofs.Poise.{queue_by, Poised, poised-apt, poise, closing-flight}
use Rattle.state.proofs.Ordered.{poised}
use Rattle.state.proofs.Start.{begun-orderly, begun-marks}
use Rattle.state.proofs.Agreed.{control-octets, counts-control}
use Rattle.state.proofs.Tally.{rows_by}
use Rattle.state.proofs.FrameCounts.{awaited-service}

-- ---- what is asked of each sending: its wait
unfoldable Goes : Settings → What → List ℕ → ℕ → Bool → Type 0
Goes t (a_request p n) o k b = k ≡ wait_due t b
Goes t a_token o k b = k ≡ wait_due t b
Goes t a_reply o k b = k ≡ wait_of t Reply

abbrev Meets : Settings → Event → Bool → Type 0
Meets t e b = of_sendings (Goes t) e b

-- ---- what the station remembers of its last sending is the history's, where it may send again: while a request is being
-- sent or the pass is checked, before a choice and before a pass
record Paced (g : Doing) (b : Bool) : Type 0 where
  flying : flight g.phase ≡ true → g.sdn ≡ b
  checks : checking g.phase ≡ true → (g.sdn ≡ b) × (g.sdn ≡ false)
  awaits : awaiting g.phase ≡ true → g.sdn ≡ false

unfoldable Stands : Point → Doing → Bool → Type 0
Stands calm g b = Paced g b
Stands free g b = Any
Stands (choosing starts) g b = g.sdn ≡ b
Stands passing g b = g.sdn ≡ b
Stands halting g b = Any
Stands (clearing m n) g b = Any

unmindful : {g : Doing} {b : Bool} → flight g.phase ≡ false → checking g.phase ≡ false
    → awaiting g.phase ≡ false → Paced g b
unmindful e f h =
    record {
      flying = λ i. absurd (true≢false (sym i ∙ e));
      checks = λ i. absurd (true≢false (sym i ∙ f));
      awaits = λ i. absurd (true≢false (sym i ∙ h));
    }

-- ---- an SDN's octets
turned-twice : (d : Bool) → pick (pick d false true) false true ≡ d
unfolding pick
turned-twice true = refl
turned-twice false = refl

sdn-octets : (y : Priority) (ts : Address) (q : Queue) (marks : List ℕ) (r : Rows)
    → pick (counts (control_in (octets_in ts y q marks r))) false true ≡ same (record_in q r).service SDN
unfolding octets_in head_for
sdn-octets y ts q marks r =
    ap (λ (b : Bool). pick b false true) (ap counts (control-octets _ _) ∙ counts-control y _ _) ∙ turned-twice _

paced-sending : (y : Priority) (n : ℕ) → Paced (sending y n) (same n SDN)
unfolding sending flight checking awaiting
paced-sending y n =
    by (λ (g : Doing). Paced g (same n SDN)) _ _ _
    (λ e. record
    { flying = λ i. sym e; checks = λ i. absurd (true≢false (sym i)); awaits = λ i. absurd (true≢false (sym i)) })
    (λ e. record { flying = λ i. sym e; checks = λ i. absurd (true≢false (sym i)); awaits = λ i. refl })

paced-false : {g : Doing} → g.sdn ≡ false → Paced g false
paced-false e = record { flying = λ i. e; checks = λ i. (e, e); awaits = λ i. e }

passing-sdn : (n : ℕ) (c : Core) → (passing_on n c).sdn ≡ false
unfolding passing_on
passing-sdn n c = by (λ (g : Doing). g.sdn ≡ false) _ _ _ (λ e. refl) (λ e. refl)

-- the wait of a sending that follows the last, and of one that follows no SDN
wait-last : (t : Settings) (b : Bool) (c : Core) → c.settings ≡ t → c.doing.sdn ≡ b
    → wait_for c (after_last c) ≡ wait_due t b
unfolding wait_for after_last wait_due
wait-last t b c e f = rw (e, f)

wait-other : (t : Settings) (b : Bool) (c : Core) → c.settings ≡ t → c.doing.sdn ≡ b → c.doing.sdn ≡ false
    → wait_for c Other ≡ wait_due t b
unfolding wait_for wait_due
wait-other t b c e f h = ap (λ (x : Settings). wait_of x Other) e ∙ sym (ap (wait_of t) (pick-false _ _ (sym f ∙ h)))

served-record : (y : Priority) (s : Site)
    → record_in (queue_by y s.core.high s.core.low) (rows_by y s.high s.low)
    ≡ record_in (queue_of y s.core) (rows_of y s)
unfolding queue_by rows_by queue_of rows_of
served-record High s = refl
served-record Low s = refl

-- ---- moves and acts
stands-moved : {p : Point} {s : Site} {q : Point} {s' : Site} → Move Any p s q s' → (b : Bool) → Stands p s.core.doing b
    → Stands q s'.core.doing b
unfolding Stands rest admit without with_core with_masters with_doing with_stranger with_ps resting fresh_core flight
    checking awaiting
stands-moved (lets_go s h) b i = any
stands-moved (rests s) b i = unmindful refl refl refl
stands-moved (notes a s h j k l) b i = i
stands-moved (admits a s h j k) b i = any
stands-moved (drops s e h) b i = (i.checks (ap checking (e any))).0
stands-moved (spares s h) b i = any
stands-moved (renews m n masters s h j k) b i = unmindful refl refl refl

stands-acted : (t : Settings) (ts : ℕ) {p : Point} {s : Site} {q : Point} {s' : Site} {e : Event} → Act Any p s e q s' → (b : Bool)
    → Poised t ts p s → Stands p s.core.doing b → Meets t e b × Stands q s'.core.doing (sdn_after e b)
unfolding Stands of_sendings Goes sdn_after sdn_by send_core pass_core beginning close_of done once resting with_rows
    with_marks with_core with_queue with_doing with_hold with_stranger flight checking awaiting A.replies responder wait_for
stands-acted t ts (opens clock s) b g i = (any, refl)
stands-acted t ts (serves starts clock y s e) b g i = (
  wait-last t b s.core g.firm.settings i,
  rw (sdn-octets y s.core.ts (queue_of y s.core) s.marks (rows_of y s)) (paced-sending y _),
)
stands-acted t ts (stops starts clock s e) b g i = (any, i)
stands-acted t ts (quits s) b g i = (any, any)
stands-acted t ts (passes s) b g i = (wait-last t b s.core g.firm.settings i, paced-false (passing-sdn _ _))
stands-acted t ts (repasses s e h) b g i =
    let j = i.checks (ap checking (e any)) in
    (wait-other t b s.core g.firm.settings j.0 j.1, paced-false j.1)
stands-acted t ts (repeats y s k e h) b g i =
    let j = i.awaits (ap awaiting (e any)) in (
      wait-other t b s.core g.firm.settings (i.flying (ap flight (e any))) j,
      rw (
        sdn-octets y s.core.ts (queue_of y s.core) s.marks (rows_of y s),
        sym (ap (λ (x : Record). same x.service SDN) (served-record y s)) ∙ awaited-service y s k (e any)
            (poised-apt g),
      ) (paced-false j),
    )
stands-acted t ts (closes High p o x s k e c) b g i = (any, i.flying (ap flight (e any) ∙ closing-flight (c any)))
stands-acted t ts (closes Low p o x s k e c) b g i = (any, i.flying (ap flight (e any) ∙ closing-flight (c any)))
stands-acted t ts (takes High r x s h e) b g i = (any, i)
stands-acted t ts (takes Low r x s h e) b g i = (any, i)
stands-acted t ts (hands High s h) b g i = (any, i)
stands-acted t ts (hands Low s h) b g i = (any, i)
stands-acted t ts (replies o s) b g i = (ap (λ (x : Settings). wait_of x Reply) g.firm.settings, i)
stands-acted t ts (shows k h d s) b g i = (any, i)
stands-acted t ts (restarts s) b g i = (any, any)
stands-acted t ts (breaks s h) b g i = (any, any)
stands-acted t ts (clears-high m n s h) b g i = (any, any)
stands-acted t ts (clears-low m n s h) b g i = (any, any)

stands-refused : (t : Settings) (n : ℕ) (s : Site) (b : Bool) → Stands calm s.core.doing b
    → Meets t (refused n) b × Stands calm s.core.doing (sdn_after (refused n) b)
unfolding of_sendings sdn_after
stands-refused t n s b i = (any, i)

last_none : (b : Bool) → sdn_last [] b ≡ b
unfolding sdn_last
last_none b = refl

last_more : (e : Event) (l : List Event) (b : Bool) → sdn_last (e ∷ l) b ≡ sdn_last l (sdn_after e b)
unfolding sdn_last
last_more e l b = refl

abbrev waits : (t : Settings) (ts : ℕ) (small : ts ≤ 126) → Account (poise t ts small)
waits t ts small =
    record {
      History = Bool;
      after = sdn_after;
      after_all = sdn_last;
      none = last_none;
      more = last_more;
      Meets = Meets t;
      At = λ p s b. Stands p s.core.doing b;
      moves = λ m b g i. stands-moved m b i;
      acts = λ a b g i. stands-acted t ts a b g i;
      refuses = stands-refused t;
    }

paced-begun : (w : World) → Begun w → Stands calm w.site.core.doing false
unfolding Stands flight checking awaiting
paced-begun w b =
    let m = begun-marks w b in
    unmindful (ap flight m.1) (ap checking m.1) (ap awaiting m.1)

request-waits : (t : Settings) (p : Priority) (n : ℕ) (o : List ℕ) (k : ℕ) (b : Bool)
    → Meets t (sends (a_request p n) o k) b → k ≡ wait_due t b
unfolding of_sendings Goes
request-waits t p n o k b h = h

token-waits : (t : Settings) (o : List ℕ) (k : ℕ) (b : Bool) → Meets t (sends a_token o k) b → k ≡ wait_due t b
unfolding of_sendings Goes
token-waits t o k b h = h

reply-waits : (t : Settings) (o : List ℕ) (k : ℕ) (b : Bool) → Meets t (sends a_reply o k) b → k ≡ wait_of t Reply
unfolding of_sendings Goes
reply-waits t o k b h = h

heeds-other : (t : Settings) (b : Bool) (k : ℕ) → b ≡ false → k ≡ wait_due t b → Heeds t k
unfolding wait_due wait_of
heeds-other t b k e f = rw (f, pick-false AfterSdn Other e) (tid1-heeds t)

-- the theorem: after a start and any calls, a request and a token have the wait that the last sending in the hold gives
-- them, and a reply has min TSDR
module _ (w : World) (b : Begun w) (l : List Call) (before after : List Event) where
  paces-before : (e : Event) → (run l w).events ≡ before ++ (e ∷ after) → Meets b.settings e (sdn_last before false)
  paces-before e i =
      let o = begun-orderly w b in
      met (waits b.settings b.ts o.small) l w false (poised b.settings b.ts w o) (paced-begun w b)
      before after e i

  pub waits-before-request : (p : Priority) (n : ℕ) (o : List ℕ) (wait : ℕ)
      → (run l w).events ≡ before ++ (sends (a_request p n) o wait ∷ after)
      → wait ≡ wait_due b.settings (sdn_last before false)
  waits-before-request p n o wait e = request-waits _ p n o wait _ (paces-before _ e)

  pub waits-before-token : (o : List ℕ) (wait : ℕ) → (run l w).events ≡ before ++ (sends a_token o wait ∷ after)
      → wait ≡ wait_due b.settings (sdn_last before false)
  waits-before-token o wait e = token-waits _ o wait _ (paces-before _ e)

  pub waits-before-reply : (o : List ℕ) (wait : ℕ) → (run l w).events ≡ before ++ (sends a_reply o wait ∷ after)
      → wait ≡ wait_of b.settings Reply
  waits-before-reply o wait e = reply-waits _ o wait _ (paces-before _ e)

  -- document 02, order 1: what follows no SDN of its hold heeds the line, the responder and the initiator: a request and
  -- a token come no sooner than 33 + TSM, min TSDR and TSDI
  pub request-heeds : (p : Priority) (n : ℕ) (o : List ℕ) (wait : ℕ)
      → (run l w).events ≡ before ++ (sends (a_request p n) o wait ∷ after) → sdn_last before false ≡ false
      → Heeds b.settings wait
  request-heeds p n o wait e f = heeds-other b.settings _ wait f (waits-before-request p n o wait e)

  pub token-heeds : (o : List ℕ) (wait : ℕ) → (run l w).events ≡ before ++ (sends a_token o wait ∷ after)
      → sdn_last before false ≡ false → Heeds b.settings wait
  token-heeds o wait e f = heeds-other b.settings _ wait f (waits-before-token o wait e)
