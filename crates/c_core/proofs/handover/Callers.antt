-- Calls of the C functions one after the other are a run, and what a caller in C is answered is what the run's calls
-- tell. Assumes nothing.
use Prim.Native.Nat.{ℕ}
use mathlib.Core.Bool.{true}
use mathlib.Core.Path.{◌≡◌, refl, sym, ap, ◌∙◌}
use mathlib.Core.List.{List, []}
use native.Mathlib.Decide.{ℕ_discrete}
use native.Mathlib.Omega.{arith}
use lib.ListN.{length}
use Rattle.choice.proofs.Rules.{pick_true, pick-false, same_true, same_false, by-pick}
use Rattle.laid.specs.Laid.{laid}
use Rattle.request.specs.declared.Record.{Record}
use Rattle.request.specs.Record.{limited}
use Rattle.times.specs.Times.{standard}
use Rattle.ring.specs.Ring.{member}
use Rattle.state.specs.declared.Priority.{Priority}
use Rattle.state.specs.declared.Priority.TheVariants.{High, Low}
use Rattle.state.specs.declared.Core.{Core}
use Rattle.state.specs.declared.Kept.{Kept}
use Rattle.state.specs.Told.{Accepted}
use Rattle.state.specs.Told.{HandedBack}
use Rattle.state.specs.Told.{Renewed}
use Rattle.state.specs.World.{Rows, World, Called, rows, world_of, state_of, rows_of}
use Rattle.state.specs.Told.{telling, standing, lent, accepted_of, handed_back_of, heard_of, reset_of}
use Rattle.state.specs.Calls.{Station}
use Rattle.state.specs.Calls as Calls
use Rattle.state.specs.Runs.{Call, submit, frame, sent, slot, reset, collect, call, run, Begun}
use Rattle.state.specs.Fate.{Served, fate, newborn}
use Rattle.state.specs.Precedence.{line_last, nobody}
use Rattle.state.specs.Callers.{Chain}
use Rattle.state.proofs.Refused.{refusal-told, refused-leaves}
use Rattle.state.proofs.Beside.{other, beside, Beside, submit-beside, collect-beside}
use Rattle.state.proofs.Never.{run-untold}
use Rattle.state.proofs.Start.{begun-never-29}
use Rattle.state.proofs.Demand3.{demand-3}
use Rattle.state.proofs.Masters.{ts-stays}
use Rattle.state.proofs.Callers.{chain_run, accepted-beside, handed-beside, station-of, accepted-at}
use Rattle.c_core.specs.declared.numbers.Numbers.{Numbers}
use Rattle.c_core.specs.declared.numbers.FlatSettings.{FlatSettings}
use Rattle.c_core.specs.declared.handover.FlatAccepted.{FlatAccepted}
use Rattle.c_core.specs.declared.handover.FlatCollected.{FlatCollected}
use Rattle.c_core.specs.declared.handover.FlatRenewed.{FlatRenewed}
use Rattle.c_core.specs.declared.handover.FlatAnswer.{FlatAnswer}
use Rattle.c_core.specs.Numbers.{settings_in, settings_of, numbers_of}
use Rattle.c_core.specs.Handover.{state_in, request_from, room_of, numbers_after, flat_accepted, flat_collected}
use Rattle.c_core.specs.Handover.{flat_renewed, flat_answer, flat_started, Lodged, lodged, lodging, submitting}
use Rattle.c_core.specs.Handover.{collecting, Held, held, holding, resetting, Filled, filled, starting}
use Rattle.c_core.specs.Callers.{Keeps, state_for, world_for, row_for, keeps_with, keeping, Reply, takes, turns}
use Rattle.c_core.specs.Callers.{renews, hands, Makes, Starts, reply_of, keeps_after, refused_by}
use Rattle.c_core.specs.Callers.Makes.{by-submit, by-frame, by-sent, by-slot, by-reset, by-collect}
use Rattle.c_core.proofs.numbers.Laws.{core-back, kept_back}

-- ---- one call: it answers what the rules' call tells, and leaves what that call leaves
pub record Made (k : Keeps) (c : Call) (out : List ℕ) (a : Reply) (m : Keeps) : Type 0 where
  pub answer : a ≡ reply_of k.core c out (call c (world_for k))
  pub left : m ≡ keeps_after k.core (call c (world_for k))

-- submit and collect are lent one row; beside the other one they do the same
abbrev lends : Priority → Keeps → World
lends p k = lent p (state_for k) (row_for p k)

abbrev whole : Priority → Keeps → World
whole p k = beside p (state_for k) (row_for p k) (row_for (other p) k)

whole_is : (p : Priority) (k : Keeps) → whole p k ≡ world_for k
unfolding world_for row_for
whole_is High k = refl
whole_is Low k = refl

-- what is kept by what a call on one row hands over, and by what that call is beside the other row
abbrev keeps_by : Priority → Keeps → Numbers → List ℕ → List ℕ → List ℕ → List ℕ → List ℕ → Rows → Keeps
keeps_by High k n masters started marks points memory r =
    record {
      core = n;
      masters = masters;
      started = started;
      marks = marks;
      points = points;
      memory = memory;
      high = r;
      low = k.low;
    }
keeps_by Low k n masters started marks points memory r =
    record {
      core = n;
      masters = masters;
      started = started;
      marks = marks;
      points = points;
      memory = memory;
      high = k.high;
      low = r;
    }

kept-beside : (p : Priority) (k : Keeps) (d e : Called) → Beside p (row_for (other p) k) d e
    → keeps_by p k
    (numbers_after k.core (telling d.events).refused (state_of d.world).core (state_of d.world).memory.kept)
    (state_of d.world).masters.0 (state_of d.world).started.0 (state_of d.world).marks.0
    (state_of d.world).points.0 (state_of d.world).memory.octets (rows_of p d.world.site)
    ≡ keeps_after k.core e
unfolding keeps_after row_for rows_of
kept-beside High k d e b = rw (b.events, b.state, b.own, b.theirs)
kept-beside Low k d e b = rw (b.events, b.state, b.own, b.theirs)

keeping-by : (p : Priority) (n : Numbers) (r : Rows) (k : Keeps)
    → keeping p n r k ≡ keeps_by p k n k.masters k.started k.marks k.points k.memory r
unfolding keeping
keeping-by High n r k = refl
keeping-by Low n r k = refl

lodged-keeps : {A : Type 0} (core : A → Numbers) (p : Priority) (k : Keeps) {a : A} {row area : List ℕ} {l : Lodged A}
    → lodged a k.masters k.started k.marks k.points k.memory row area ≡ l
    → keeping p (core a) (rows row area) k
    ≡ keeps_by p k (core l.answer) l.masters l.started l.marks l.points l.octets
    (rows l.row l.area)
lodged-keeps {A = A} core p k {a = a} {row = row} {area = area} e =
    keeping-by p (core a) (rows row area) k
    ∙ ap
    (λ (y : Lodged A). keeps_by p k (core y.answer) y.masters y.started y.marks y.points y.octets
    (rows y.row y.area)) e

made-submit : (p : Priority) (k : Keeps) (service destination to from reference limit asks : ℕ) (x : List ℕ)
    {a : FlatAccepted} {row area : List ℕ}
    → lodged a k.masters k.started k.marks k.points k.memory row area
    ≡ submitting k.core p (Calls.submit p (request_from service destination to from reference limit asks) x (lends p k))
    → Made k (submit p (request_from service destination to from reference limit asks) x) [] (takes a)
    (keeping p a.core (rows row area) k)
unfolding reply_of call submitting lodging flat_accepted accepted_of state_of
made-submit p k service destination to from reference limit asks x e =
    let b = submit-beside (state_for k) (row_for p k) (row_for (other p) k) p
    (request_from service destination to from reference limit asks) x in
    record {
      answer =
          rw (← whole_is p k)
          (ap (λ (y : Lodged FlatAccepted). takes y.answer) e
          ∙ ap (λ (y : Accepted). takes (flat_accepted k.core y)) (accepted-beside p _ _ _ b));
      left =
          rw (← whole_is p k)
          (lodged-keeps (λ (y : FlatAccepted). y.core) p k e ∙ kept-beside p k _ _ b);
    }

made-collect : (p : Priority) (k : Keeps) {a : FlatCollected}
    → lodged a k.masters k.started k.marks k.points k.memory (row_for p k).row (row_for p k).area
    ≡ collecting k.core p (Calls.collect p (lends p k))
    → Made k (collect p) [] (hands a) (keeping p a.core (row_for p k) k)
unfolding reply_of call collecting lodging flat_collected handed_back_of state_of
made-collect p k e =
    let b = collect-beside (state_for k) (row_for p k) (row_for (other p) k) p in
    record {
      answer =
          rw (← whole_is p k)
          (ap (λ (y : Lodged FlatCollected). hands y.answer) e
          ∙ ap (λ (y : HandedBack). hands (flat_collected k.core y)) (handed-beside p _ _ _ b));
      left =
          rw (← whole_is p k)
          (lodged-keeps (λ (y : FlatCollected). y.core) p k e ∙ kept-beside p k _ _ b);
    }

-- frame, sent, slot and reset are lent both rows
held_keeps : {A : Type 0} (core : A → Numbers) (k : Keeps) {a : A} {masters marks memory : List ℕ} {high low : Rows}
    {out : List ℕ} {l : Held A}
    → held a masters k.started marks k.points memory high low out ≡ l
    → keeps_with k (core a) masters marks memory high low
    ≡ record {
      core = core l.answer;
      masters = l.masters;
      started = l.started;
      marks = l.marks;
      points = l.points;
      memory = l.octets;
      high = l.high;
      low = l.low;
    }
held_keeps {A = A} core k e =
    ap
    (λ (y : Held A). record {
      core = core y.answer;
      masters = y.masters;
      started = y.started;
      marks = y.marks;
      points = y.points;
      memory = y.octets;
      high = y.high;
      low = y.low;
    })
    e

module _ (k : Keeps) (c : Call) (out : List ℕ) {a : FlatAnswer} {masters marks memory : List ℕ} {high low : Rows}
    {out' : List ℕ} where
  made-turn : reply_of k.core c out (call c (world_for k))
      ≡ turns (flat_answer k.core (heard_of (call c (world_for k))))
      (laid out 0 (telling (call c (world_for k)).events).octets)
      → held a masters k.started marks k.points memory high low out'
      ≡ holding k.core (standing (call c (world_for k)) out)
      → Made k c out (turns a out') (keeps_with k a.core masters marks memory high low)
  unfolding holding standing flat_answer heard_of keeps_after state_of
  made-turn i e =
      record {
        answer = ap (λ (y : Held FlatAnswer). turns y.answer y.out) e ∙ sym i;
        left = held_keeps (λ (y : FlatAnswer). y.core) k e;
      }

made-reset : (k : Keeps) {a : FlatRenewed} {masters marks : List ℕ} {high low : Rows}
    → held a masters k.started marks k.points k.memory high low []
    ≡ resetting k.core (reset_of (Calls.reset (world_for k)))
    → Made k reset [] (renews a) (keeps_with k a.core masters marks k.memory high low)
unfolding reply_of call resetting reset_of flat_renewed keeps_after
made-reset k e =
    record {
      answer = ap (λ (y : Held FlatRenewed). renews y.answer) e;
      left = held_keeps (λ (y : FlatRenewed). y.core) k e;
    }

pub made : {k m : Keeps} {c : Call} {out : List ℕ} {a : Reply} → Makes k c out a m → Made k c out a m
unfolding reply_of call world_for state_for world_of state_in
made {k = k} (by-submit p service destination to from reference limit asks x e) =
    made-submit p k service destination to from reference limit asks x e
made {k = k} (by-frame clock room first second octets out e) =
    made-turn k (frame clock (room_of room) first second octets (length out)) out refl e
made {k = k} (by-sent clock out e) = made-turn k (sent clock (length out)) out refl e
made {k = k} (by-slot clock out e) = made-turn k (slot clock (length out)) out refl e
made {k = k} (by-reset e) = made-reset k e
made {k = k} (by-collect p e) = made-collect p k e

-- ---- one result: any two answers that meet a call's promise, with all that they leave, are equal
pub one-call : {k m n : Keeps} {c : Call} {out : List ℕ} {a b : Reply} → Makes k c out a m → Makes k c out b n
    → (a ≡ b) × (m ≡ n)
one-call x y = ((made x).answer ∙ sym (made y).answer, (made x).left ∙ sym (made y).left)

-- and of a start, with the arrays that it fills
pub one-start : {masters points : List ℕ} {f : Filled} {a b : FlatRenewed}
    {started started' marks marks' memory memory' : List ℕ}
    → filled a masters started marks points memory ≡ f → filled b masters started' marks' points memory' ≡ f
    → (a ≡ b) × (started ≡ started') × (marks ≡ marks') × (memory ≡ memory')
one-start e f =
    let g = e ∙ sym f in (
      ap (λ (x : Filled). x.answer) g,
      ap (λ (x : Filled). x.started) g,
      ap (λ (x : Filled). x.marks) g,
      ap (λ (x : Filled). x.octets) g,
    )

-- and of the standard settings
pub one-standard : {a b : FlatSettings} → a ≡ settings_of standard → b ≡ settings_of standard → a ≡ b
one-standard e f = e ∙ sym f

-- ---- the world that is meant by what is kept after a call is the one that the rules' call leaves
numbers-new : (n : Numbers) {m : ℕ} (c : Core) (k : Kept) → m ≡ 0 → numbers_after n m c k ≡ numbers_of c k
unfolding numbers_after
numbers-new n c k e = pick_true _ _ (same_true e)

numbers-old : (n : Numbers) {m : ℕ} (c : Core) (k : Kept) → (m ≡ 0 → ⊥) → numbers_after n m c k ≡ n
unfolding numbers_after
numbers-old n c k h = pick-false _ _ (same_false h)

meant-new : (n : Numbers) (d : Called) → (telling d.events).refused ≡ 0 → world_for (keeps_after n d) ≡ d.world
unfolding keeps_after world_for state_for state_in world_of state_of
meant-new n d e =
    rw (
      numbers-new n d.world.site.core d.world.memory.kept e,
      core-back d.world.site.core d.world.memory.kept,
      kept_back d.world.site.core d.world.memory.kept,
    )

meant-old : (k : Keeps) (d : Called) → ((telling d.events).refused ≡ 0 → ⊥) → d.world ≡ world_for k
    → world_for (keeps_after k.core d) ≡ world_for k
unfolding keeps_after world_for state_for state_in world_of state_of
meant-old k d h e = rw (numbers-old k.core d.world.site.core d.world.memory.kept h, e)

meant-after : (k : Keeps) (c : Call)
    → world_for (keeps_after k.core (call c (world_for k))) ≡ (call c (world_for k)).world
meant-after k c = by (ℕ_discrete (telling (call c (world_for k)).events).refused 0)
  where
    by : Dec ((telling (call c (world_for k)).events).refused ≡ 0)
        → world_for (keeps_after k.core (call c (world_for k))) ≡ (call c (world_for k)).world
    by (yes e) = meant-new k.core (call c (world_for k)) e
    by (no h) =
        let e = refused-leaves c (world_for k) (refusal-told _ h) in meant-old k (call c (world_for k)) h e ∙ sym e

kept-world : {k m : Keeps} {c : Call} {out : List ℕ} {a : Reply} → Makes k c out a m
    → world_for m ≡ (call c (world_for k)).world
kept-world {k = k} {c = c} x = ap world_for (made x).left ∙ meant-after k c

-- ---- an accepted start is a begun world
starting-answer : (a : Renewed) (masters started marks points memory : List ℕ)
    → (starting a masters started marks points memory).answer ≡ flat_started a
unfolding starting
starting-answer a masters started marks points memory =
    by-pick (λ (f : Filled). f.answer ≡ flat_started a) _ refl refl

starting-filled : (a : Renewed) (masters started marks points memory : List ℕ) → a.refused ≡ 0
    → starting a masters started marks points memory
    ≡ filled (flat_started a) a.state.masters.0 a.state.started.0 a.state.marks.0 a.state.points.0
    a.state.memory.octets
unfolding starting
starting-filled a masters started marks points memory e = pick_true _ _ (same_true e)

state-back : (a : Renewed)
    → state_in (flat_started a).core a.state.masters.0 a.state.started.0 a.state.marks.0
    a.state.points.0 a.state.memory.octets
    ≡ a.state
unfolding state_in flat_started
state-back a =
    rw (core-back a.state.core a.state.memory.kept, kept_back a.state.core a.state.memory.kept)

record Begins (k : Keeps) (a : Renewed) : Type 0 where
  accepted : a.refused ≡ 0
  state : state_for k ≡ a.state

begins-by : (k : Keeps) (a : Renewed) (r : FlatRenewed) (started marks memory : List ℕ)
    → filled r k.masters k.started k.marks k.points k.memory
    ≡ starting a k.masters started marks k.points memory
    → r.refused ≡ 0 → k.core ≡ r.core → Begins k a
unfolding state_for flat_started
begins-by k a r started marks memory e h i =
    let z =
    sym
    (ap (λ (f : Filled). f.answer.refused) e
    ∙ ap (λ (f : FlatRenewed). f.refused) (starting-answer a k.masters started marks k.points memory))
    ∙ h in
    record {
      accepted = z;
      state =
          ap (λ (n : Numbers). state_in n k.masters k.started k.marks k.points k.memory) i
          ∙ ap
          (λ (f : Filled). state_in f.answer.core f.masters f.started f.marks f.points f.octets)
          (e ∙ starting-filled a k.masters started marks k.points memory z)
          ∙ state-back a;
    }

pub starts-begun : (k : Keeps) → Starts k → Begun (world_for k)
unfolding world_for
starts-begun k s =
    let b = begins-by k _ s.answer s.started s.marks s.memory s.promise s.accepted s.core in
    record {
      settings = settings_in s.settings;
      ts = s.ts;
      masters = k.masters;
      points = k.points;
      high = s.high;
      low = s.low;
      state = state_for k;
      started =
          station-of (settings_in s.settings) s.ts k.masters k.points s.high s.low b.accepted
          ∙ ap Station (sym b.state);
      upper = k.high;
      lower = k.low;
      upper_row = s.upper_row;
      upper_area = s.upper_area;
      lower_row = s.lower_row;
      lower_area = s.lower_area;
      world = refl;
    }

-- ---- so a caller in C stands where a run left it, and is answered what that run's next call tells
pub caller_runs : {k m : Keeps} {l : List Call} → Chain Makes k l m → world_for m ≡ (run l (world_for k)).world
caller_runs c = chain_run world_for (λ k m c out a x. kept-world x) c

pub caller-answered : {k m n : Keeps} {l : List Call} {c : Call} {out : List ℕ} {a : Reply} → Chain Makes k l m
    → Makes m c out a n → a ≡ reply_of m.core c out (call c (run l (world_for k)).world)
caller-answered {m = m} {c = c} {out = out} x y =
    (made y).answer ∙ ap (λ (w : World). reply_of m.core c out (call c w)) (caller_runs x)

-- ---- demand 3, of callers in C: a request that submit answered with a place
taken_by : Reply → FlatAccepted → FlatAccepted
taken_by (takes a) b = a
taken_by (turns a out) b = b
taken_by (renews a) b = b
taken_by (hands a) b = b

takes_same : (a b : FlatAccepted) → takes a ≡ takes b → a ≡ b
unfolding taken_by
takes_same a b e = ap (λ (x : Reply). taken_by x a) e

pub caller-demand-3 : {k m n o : Keeps} (s : Starts k) {before after : List Call} {r : Record} {x : List ℕ}
    {a : FlatAccepted} → Chain Makes k before m → Makes m (submit High r x) [] (takes a) n → a.refused ≡ 0
    → Chain Makes n after o
    → Served (line_last (run before (world_for k)).events nobody).waiting (limited s.settings.retries r).limit
    (fate a.place (run after (world_for n)).events newborn)
unfolding reply_of flat_accepted settings_in starts-begun
caller-demand-3 {k = k} {m = m} s {before = before} {after = after} {r = r} {x = x} {a = a} c y e d =
    let i = takes_same a _ (made y).answer in
    rw (kept-world y, caller_runs c)
    (demand-3 (world_for k) (starts-begun k s) before after r x a.place
    (rw (← caller_runs c, ap (λ (z : FlatAccepted). z.place) i)
    (accepted-at High r x (world_for m) (sym (ap (λ (z : FlatAccepted). z.refused) i) ∙ e))))

-- ---- never 29, of callers in C
refused-by : (n : Numbers) (c : Call) (out : List ℕ) (d : Called)
    → refused_by (reply_of n c out d) ≡ (telling d.events).refused
unfolding refused_by reply_of flat_accepted flat_answer flat_renewed flat_collected accepted_of heard_of handed_back_of
refused-by n (submit p r x) out d = refl
refused-by n (frame clock room first second octets m) out d = refl
refused-by n (sent clock m) out d = refl
refused-by n (slot clock m) out d = refl
refused-by n reset out d = refl
refused-by n (collect p) out d = refl

pub caller-never-29 : {k m n : Keeps} {l : List Call} {c : Call} {out : List ℕ} {a : Reply} → Starts k
    → Chain Makes k l m → Makes m c out a n → refused_by a ≡ 29 → ⊥
caller-never-29 {k = k} {m = m} {l = l} {c = c} {out = out} s x y e =
    run-untold 29 (omega arith) l c (world_for k) (begun-never-29 (world_for k) (starts-begun k s) _)
    (sym (refused-by m.core c out _) ∙ ap refused_by (sym (caller-answered x y)) ∙ e)

-- ---- "TS is never removed", of callers
pub caller-ts-stays : {k m : Keeps} {l : List Call} (s : Starts k) → Chain Makes k l m
    → member m.masters s.ts ≡ true
unfolding world_for state_for state_in world_of starts-begun
caller-ts-stays {k = k} {l = l} s c =
    ap (λ (w : World). member w.site.masters s.ts) (caller_runs c)
    ∙ ts-stays (world_for k) (starts-begun k s) l
