-- Calls of the station's functions one after the other are a run, and what a caller is answered is what the run's calls
-- tell: so what is proved of runs is proved of callers. Assumes nothing.
use Prim.Native.Nat.{ℕ, ◌<◌}
use mathlib.Core.Bool.{Bool, true, false}
use mathlib.Core.Path.{◌≡◌, refl, sym, ap, ◌∙◌}
use mathlib.Core.List.{List, [], ◌∷◌}
use native.Mathlib.Omega.{arith}
use lib.ListN.{length}
use Rattle.choice.specs.Choice.{pick}
use Rattle.laid.specs.Laid.{laid}
use Rattle.times.specs.declared.Settings.{Settings}
use Rattle.ring.specs.Ring.{member}
use Rattle.request.specs.declared.Record.{Record}
use Rattle.request.specs.Record.{limited}
use Rattle.rows.specs.Rows.{Left, left}
use Rattle.state.specs.declared.Priority.{Priority}
use Rattle.state.specs.declared.Priority.TheVariants.{High, Low}
use Rattle.state.specs.Told.{Accepted}
use Rattle.state.specs.Told.{Answer}
use Rattle.state.specs.Told.{Renewed}
use Rattle.state.specs.Told.{HandedBack}
use Rattle.state.specs.World.{Rows, World, Called, rows, world_of, state_of, rows_of, done, accepted}
use Rattle.state.specs.Told.{Leaves, leaves, told, reset_of, started_of, lent, accepted_of, answer_of, handed_back_of}
use Rattle.state.specs.Told.{submitted_of, adds, telling}
use Rattle.state.specs.Calls.{Started, Unstarted, Station, refuse, called}
use Rattle.state.specs.Calls as Calls
use Rattle.state.specs.Runs.{Call, submit, frame, sent, slot, reset, collect, call, run, Begun}
use Rattle.state.specs.Fate.{Served, fate, newborn}
use Rattle.state.specs.Precedence.{line_last, nobody}
use Rattle.state.specs.Callers.{Chain, Keeps, world_for, keeps_in, row_for, keeping, Reply, takes, turns, renews}
use Rattle.state.specs.Callers.{hands, Makes, Starts, reply_of, refused_by}
use Rattle.state.specs.Callers.Chain.{none, more}
use Rattle.state.specs.Callers.Makes.{by-submit, by-frame, by-sent, by-slot, by-reset, by-collect}
use Rattle.state.proofs.Submission.{Submission, declines, admits, submission}
use Rattle.state.proofs.Beside.{other, beside, Beside, submit-beside, collect-beside, collect-keeps}
use Rattle.state.proofs.Never.{run-untold}
use Rattle.state.proofs.Start.{begun-never-29}
use Rattle.state.proofs.Demand3.{demand-3}
use Rattle.state.proofs.Masters.{ts-stays}

-- ---- calls in a row are a run, if each call does to the world that is meant by what is kept what the rules' call does
pub chain_run : {K R : Type 0} {Makes : K → Call → List ℕ → R → K → Type 0} (meant : K → World)
    → ((k m : K) (c : Call) (out : List ℕ) (a : R) → Makes k c out a m → meant m ≡ (call c (meant k)).world)
    → {k n : K} {l : List Call} → Chain Makes k l n → meant n ≡ (run l (meant k)).world
unfolding run
chain_run meant made none = refl
chain_run meant made (more {k = k} {m = m} {c = c} {out = out} {a = a} {l = l} x y) =
    chain_run meant made y ∙ ap (λ (w : World). (run l w).world) (made k m c out a x)

-- ---- one call: it answers what the rules' call tells, and leaves what that call leaves
pub record Made (k : Keeps) (c : Call) (out : List ℕ) (a : Reply) (m : Keeps) : Type 0 where
  pub answer : a ≡ reply_of c out (call c (world_for k))
  pub left : m ≡ keeps_in (call c (world_for k)).world

-- submit and collect are lent one row; beside the other one they do the same
abbrev lends : Priority → Keeps → World
lends p k = lent p k.state (row_for p k)

abbrev whole : Priority → Keeps → World
whole p k = beside p k.state (row_for p k) (row_for (other p) k)

whole_is : (p : Priority) (k : Keeps) → whole p k ≡ world_for k
unfolding world_for row_for
whole_is High k = refl
whole_is Low k = refl

pub accepted-beside : (p : Priority) (o : Rows) (d e : Called) → Beside p o d e → accepted_of d ≡ accepted_of e
unfolding accepted_of
accepted-beside p o d e b = rw (b.events, b.state)

pub handed-beside : (p : Priority) (o : Rows) (d e : Called) → Beside p o d e → handed_back_of d ≡ handed_back_of e
unfolding handed_back_of
handed-beside p o d e b = rw (b.events, b.state)

kept-beside : (p : Priority) (k : Keeps) (d e : Called) → Beside p (row_for (other p) k) d e
    → keeping p (state_of d.world) (rows_of p d.world.site) k ≡ keeps_in e.world
unfolding keeping keeps_in row_for rows_of
kept-beside High k d e b = rw (b.state, b.own, b.theirs)
kept-beside Low k d e b = rw (b.state, b.own, b.theirs)

made-submit : (p : Priority) (k : Keeps) (r : Record) (x : List ℕ) {a : Accepted} {row area : List ℕ}
    → left a row area ≡ submitted_of p (Calls.submit p r x (lends p k))
    → Made k (submit p r x) [] (takes a) (keeping p a.state (rows row area) k)
unfolding reply_of call submitted_of accepted_of
made-submit p k r x e =
    let b = submit-beside k.state (row_for p k) (row_for (other p) k) p r x in
    record {
      answer =
          rw (← whole_is p k)
          (ap (λ (y : Left Accepted). takes y.answer) e ∙ ap takes (accepted-beside p _ _ _ b));
      left =
          rw (← whole_is p k)
          (ap (λ (y : Left Accepted). keeping p y.answer.state (rows y.row y.area) k) e
          ∙ kept-beside p k _ _ b);
    }

made-collect : (p : Priority) (k : Keeps) {a : HandedBack} → a ≡ handed_back_of (Calls.collect p (lends p k))
    → Made k (collect p) [] (hands a) (keeping p a.state (row_for p k) k)
unfolding reply_of call handed_back_of
made-collect p k e =
    let b = collect-beside k.state (row_for p k) (row_for (other p) k) p in
    record {
      answer = rw (← whole_is p k) (ap hands e ∙ ap hands (handed-beside p _ _ _ b));
      left =
          rw (← whole_is p k)
          (ap (λ (y : HandedBack). keeping p y.state (row_for p k) k) e
          ∙ ap (λ (y : Rows). keeping p (state_of (Calls.collect p (lends p k)).world) y k)
          (sym (collect-keeps k.state (row_for p k) p))
          ∙ kept-beside p k _ _ b);
    }

-- frame, sent, slot and reset are lent both rows
module _ (k : Keeps) (c : Call) (out : List ℕ) {a : Answer} {high low : Rows} {out' : List ℕ} where
  made-turn : reply_of c out (call c (world_for k))
      ≡ turns (answer_of (call c (world_for k))) (laid out 0 (telling (call c (world_for k)).events).octets)
      → leaves a high low out' ≡ told (call c (world_for k)) out
      → Made k c out (turns a out') (record { state = a.state; high = high; low = low })
  unfolding told answer_of keeps_in
  made-turn i e =
      record {
        answer = ap (λ (y : Leaves Answer). turns y.answer y.out) e ∙ sym i;
        left =
            ap (λ (y : Leaves Answer). record { state = y.answer.state; high = y.high; low = y.low }) e;
      }

made-reset : (k : Keeps) {a : Renewed} {high low : Rows} → leaves a high low [] ≡ reset_of (Calls.reset (world_for k))
    → Made k reset [] (renews a) (record { state = a.state; high = high; low = low })
unfolding reply_of call reset_of keeps_in
made-reset k e =
    record {
      answer = ap (λ (y : Leaves Renewed). renews y.answer) e;
      left = ap (λ (y : Leaves Renewed). record { state = y.answer.state; high = y.high; low = y.low }) e;
    }

pub made : {k m : Keeps} {c : Call} {out : List ℕ} {a : Reply} → Makes k c out a m → Made k c out a m
unfolding reply_of call
made {k = k} (by-submit p r x e) = made-submit p k r x e
made {k = k} (by-frame clock room first second octets out e) =
    made-turn k (frame clock room first second octets (length out)) out refl e
made {k = k} (by-sent clock out e) = made-turn k (sent clock (length out)) out refl e
made {k = k} (by-slot clock out e) = made-turn k (slot clock (length out)) out refl e
made {k = k} (by-reset e) = made-reset k e
made {k = k} (by-collect p e) = made-collect p k e

-- ---- one result: any two answers that meet a call's promise, with all that they leave, are equal
pub one-call : {k m n : Keeps} {c : Call} {out : List ℕ} {a b : Reply} → Makes k c out a m → Makes k c out b n
    → (a ≡ b) × (m ≡ n)
one-call x y = ((made x).answer ∙ sym (made y).answer, (made x).left ∙ sym (made y).left)

pub one-start : (t : Settings) (ts : ℕ) (masters points : List ℕ) (high low : ℕ) {a b : Renewed}
    → a ≡ started_of (Calls.start t ts masters points high low)
    → b ≡ started_of (Calls.start t ts masters points high low) → a ≡ b
one-start t ts masters points high low e f = e ∙ sym f

-- ---- an accepted start is a begun world
station-by : (b : Bool) (n : ℕ) (t : Started) → 0 < n → ((started_of t).refused ≡ 0 → t ≡ Station (started_of t).state)
    → (started_of (pick b (Unstarted n) t)).refused ≡ 0
    → pick b (Unstarted n) t ≡ Station (started_of (pick b (Unstarted n) t)).state
unfolding pick started_of
station-by true n t h f e = absurd (omega (arith, h, e))
station-by false n t h f e = f e

pub station-of : (t : Settings) (ts : ℕ) (masters points : List ℕ) (high low : ℕ)
    → (started_of (Calls.start t ts masters points high low)).refused ≡ 0
    → Calls.start t ts masters points high low ≡ Station (started_of (Calls.start t ts masters points high low)).state
unfolding Calls.start started_of
station-of t ts masters points high low =
    station-by _ 20 _ (omega arith)
    (station-by _ 21 _ (omega arith)
    (station-by _ 21 _ (omega arith)
    (station-by _ 21 _ (omega arith)
    (station-by _ 21 _ (omega arith) (λ e. refl)))))

pub starts-begun : (k : Keeps) → Starts k → Begun (world_for k)
unfolding world_for
starts-begun k s =
    record {
      settings = s.settings;
      ts = s.ts;
      masters = s.masters;
      points = s.points;
      high = s.high;
      low = s.low;
      state = k.state;
      started =
          station-of s.settings s.ts s.masters s.points s.high s.low
          (ap (λ (a : Renewed). a.refused) (sym s.promise) ∙ s.accepted)
          ∙ ap (λ (a : Renewed). Station a.state) (sym s.promise)
          ∙ ap Station (sym s.state);
      upper = k.high;
      lower = k.low;
      upper_row = s.upper_row;
      upper_area = s.upper_area;
      lower_row = s.lower_row;
      lower_area = s.lower_area;
      world = refl;
    }

-- ---- so a caller stands where a run left it, and is answered what that run's next call tells
kept-world : {k m : Keeps} {c : Call} {out : List ℕ} {a : Reply} → Makes k c out a m
    → world_for m ≡ (call c (world_for k)).world
unfolding world_for keeps_in world_of state_of
kept-world x = ap world_for (made x).left

pub caller_runs : {k m : Keeps} {l : List Call} → Chain Makes k l m → world_for m ≡ (run l (world_for k)).world
caller_runs c = chain_run world_for (λ k m c out a x. kept-world x) c

pub caller-answered : {k m n : Keeps} {l : List Call} {c : Call} {out : List ℕ} {a : Reply} → Chain Makes k l m
    → Makes m c out a n → a ≡ reply_of c out (call c (run l (world_for k)).world)
caller-answered {c = c} {out = out} x y =
    (made y).answer ∙ ap (λ (w : World). reply_of c out (call c w)) (caller_runs x)

-- ---- demand 3, of callers: a request that submit answered with a place
taken-by : {p : Priority} {r : Record} {x : List ℕ} {w : World} {d : Called} → Submission p r x w d
    → (telling d.events).refused ≡ 0 → d.events ≡ accepted p (telling d.events).place ∷ []
unfolding refuse called done telling adds
taken-by (declines m h) e = absurd (h e)
taken-by (admits l g a i) e = refl

pub accepted-at : (p : Priority) (r : Record) (x : List ℕ) (w : World)
    → (accepted_of (call (submit p r x) w)).refused ≡ 0
    → (call (submit p r x) w).events ≡ accepted p (accepted_of (call (submit p r x) w)).place ∷ []
unfolding call accepted_of
accepted-at p r x w e = taken-by (submission p r x w) e

taken_by : Reply → Accepted → Accepted
taken_by (takes a) b = a
taken_by (turns a out) b = b
taken_by (renews a) b = b
taken_by (hands a) b = b

takes_same : (a b : Accepted) → takes a ≡ takes b → a ≡ b
unfolding taken_by
takes_same a b e = ap (λ (x : Reply). taken_by x a) e

pub caller-demand-3 : {k m n o : Keeps} (s : Starts k) {before after : List Call} {r : Record} {x : List ℕ}
    {a : Accepted} → Chain Makes k before m → Makes m (submit High r x) [] (takes a) n → a.refused ≡ 0
    → Chain Makes n after o
    → Served (line_last (run before (world_for k)).events nobody).waiting (limited s.settings.retries.0 r).limit
    (fate a.place (run after (world_for n)).events newborn)
unfolding reply_of starts-begun
caller-demand-3 {k = k} {m = m} s {before = before} {after = after} {r = r} {x = x} {a = a} c y e d =
    let i = takes_same a _ (made y).answer in
    rw (kept-world y, caller_runs c)
    (demand-3 (world_for k) (starts-begun k s) before after r x a.place
    (rw (← caller_runs c, i) (accepted-at High r x (world_for m) (rw (← i) e))))

-- ---- never 29, of callers
refused-by : (c : Call) (out : List ℕ) (d : Called) → refused_by (reply_of c out d) ≡ (telling d.events).refused
unfolding refused_by reply_of accepted_of answer_of handed_back_of
refused-by (submit p r x) out d = refl
refused-by (frame clock room first second octets n) out d = refl
refused-by (sent clock n) out d = refl
refused-by (slot clock n) out d = refl
refused-by reset out d = refl
refused-by (collect p) out d = refl

pub caller-never-29 : {k m n : Keeps} {l : List Call} {c : Call} {out : List ℕ} {a : Reply} → Starts k
    → Chain Makes k l m → Makes m c out a n → refused_by a ≡ 29 → ⊥
caller-never-29 {k = k} {l = l} {c = c} {out = out} s x y e =
    run-untold 29 (omega arith) l c (world_for k) (begun-never-29 (world_for k) (starts-begun k s) _)
    (sym (refused-by c out _) ∙ ap refused_by (sym (caller-answered x y)) ∙ e)

-- ---- "TS is never removed", of callers
pub caller-ts-stays : {k m : Keeps} {l : List Call} (s : Starts k) → Chain Makes k l m
    → member m.state.masters.0 s.ts ≡ true
unfolding world_for world_of starts-begun
caller-ts-stays {k = k} {l = l} s c =
    ap (λ (w : World). member w.site.masters s.ts) (caller_runs c)
    ∙ ts-stays (world_for k) (starts-begun k s) l
