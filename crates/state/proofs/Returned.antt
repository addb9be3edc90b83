-- Calls of the code's functions one after the other are a run, and what the caller is answered is what the run's calls
-- tell: the theorems on callers (Callers.antt), where each answer is the function's own `Result`. Assumes nothing.
use Rattle.std.specs.Prelude.{ℕ, List, [], Result, Ok, Err}
use mathlib.Core.Bool.{true}
use mathlib.Core.Path.{◌≡◌, refl, sym, ap, ◌∙◌}
use native.Mathlib.Omega.{arith}
use Rattle.refusal.specs.declared.Refusal.{Refusal}
use Rattle.refusal.specs.Refusal.{refused}
use Rattle.ring.specs.Ring.{member}
use Rattle.request.specs.declared.Record.{Record}
use Rattle.request.specs.Record.{limited}
use Rattle.state.specs.declared.Priority.TheVariants.{High}
use Rattle.state.specs.declared.State.{State}
use Rattle.state.specs.declared.Accepted.{Accepted as GivenAccepted}
use Rattle.state.specs.declared.Answer.{Answer as GivenAnswer}
use Rattle.state.specs.Told.{Answer, Accepted, Renewed, HandedBack, answered_by, accepted_by, renewed_by}
use Rattle.state.specs.Told.{handed_back_by, blank}
use Rattle.state.specs.Runs.{Call, submit, call, run, Begun}
use Rattle.state.specs.Fate.{Served, fate, newborn}
use Rattle.state.specs.Precedence.{line_last, nobody}
use Rattle.state.specs.Callers.{Chain, Keeps, world_for, Reply, takes, turns, renews, hands, Makes, Starts, reply_of}
use Rattle.state.specs.Callers.{refused_by}
use Rattle.state.specs.Callers.Chain.{none, more}
use Rattle.state.specs.Callers.Makes.{by-submit, by-frame, by-sent, by-slot, by-reset, by-collect}
use Rattle.state.specs.Returned.{Returned, place, turn, renewal, hand, Gives, GivesStart, reply_by, refused_with}
use Rattle.state.specs.Returned.Gives.{from-submit, from-frame, from-sent, from-slot, from-reset, from-collect}
use Rattle.state.proofs.Callers.{one-call, starts-begun, caller_runs, caller-answered, caller-demand-3}
use Rattle.state.proofs.Callers.{caller-never-29, caller-ts-stays}
use Rattle.state.proofs.Results.{answered-same, accepted-same, renewed-same, handed-same}

-- ---- a call of the code is a call as the definitions answer it
pub gives-makes : {k m : Keeps} {c : Call} {out : List ℕ} {a : Returned} → Gives k c out a m
    → Makes k c out (reply_by k.state a) m
unfolding reply_by
gives-makes (from-submit p r x e) = by-submit p r x e
gives-makes (from-frame clock room first second octets out e) = by-frame clock room first second octets out e
gives-makes (from-sent clock out e) = by-sent clock out e
gives-makes (from-slot clock out e) = by-slot clock out e
gives-makes (from-reset e) = by-reset e
gives-makes (from-collect p e) = by-collect p e

pub gives-chain : {k m : Keeps} {l : List Call} → Chain Gives k l m → Chain Makes k l m
gives-chain none = none
gives-chain (more x y) = more (gives-makes x) (gives-chain y)

pub gives-starts : (k : Keeps) → GivesStart k → Starts k
unfolding renewed_by
gives-starts k s =
    record {
      settings = s.settings;
      ts = s.ts;
      masters = s.masters;
      points = s.points;
      high = s.high;
      low = s.low;
      answer = renewed_by blank s.answer;
      promise = s.promise;
      accepted = ap (λ (a : Result State Refusal). (renewed_by blank a).refused) s.accepted;
      state = ap (λ (a : Result State Refusal). (renewed_by blank a).state) (sym s.accepted);
      upper_row = s.upper_row;
      upper_area = s.upper_area;
      lower_row = s.lower_row;
      lower_area = s.lower_area;
    }

-- ---- what the code answers is told apart by the answer as the definitions have it
case-of : Reply → ℕ
case-of (takes a) = 0
case-of (turns a out) = 1
case-of (renews a) = 2
case-of (hands a) = 3

-- the answer in a reply, or this one where it is of another call
takes-in : Accepted → Reply → Accepted
takes-in d (takes a) = a
takes-in d (turns a out) = d
takes-in d (renews a) = d
takes-in d (hands a) = d

turns-in : Answer → Reply → Answer
turns-in d (takes a) = d
turns-in d (turns a out) = a
turns-in d (renews a) = d
turns-in d (hands a) = d

out-in : Reply → List ℕ
out-in (takes a) = []
out-in (turns a out) = out
out-in (renews a) = []
out-in (hands a) = []

renews-in : Renewed → Reply → Renewed
renews-in d (takes a) = d
renews-in d (turns a out) = d
renews-in d (renews a) = a
renews-in d (hands a) = d

hands-in : HandedBack → Reply → HandedBack
hands-in d (takes a) = d
hands-in d (turns a out) = d
hands-in d (renews a) = d
hands-in d (hands a) = a

pub reply-same : (s : State) (a b : Returned) → reply_by s a ≡ reply_by s b → a ≡ b
unfolding reply_by case-of takes-in turns-in out-in renews-in hands-in
reply-same s (place a) (place b) e = ap place (accepted-same s a b (ap (takes-in (accepted_by s a)) e))
reply-same s (turn a x) (turn b y) e =
    ap (λ (z : Result GivenAnswer Refusal). turn z x) (answered-same s a b (ap (turns-in (answered_by s a)) e))
    ∙ ap (turn b) (ap out-in e)
reply-same s (renewal a) (renewal b) e = ap renewal (renewed-same s a b (ap (renews-in (renewed_by s a)) e))
reply-same s (hand a) (hand b) e = ap hand (handed-same s a b (ap (hands-in (handed_back_by s a)) e))
reply-same s (place a) (turn b y) e = absurd (omega (arith, ap case-of e))
reply-same s (place a) (renewal b) e = absurd (omega (arith, ap case-of e))
reply-same s (place a) (hand b) e = absurd (omega (arith, ap case-of e))
reply-same s (turn a x) (place b) e = absurd (omega (arith, ap case-of e))
reply-same s (turn a x) (renewal b) e = absurd (omega (arith, ap case-of e))
reply-same s (turn a x) (hand b) e = absurd (omega (arith, ap case-of e))
reply-same s (renewal a) (place b) e = absurd (omega (arith, ap case-of e))
reply-same s (renewal a) (turn b y) e = absurd (omega (arith, ap case-of e))
reply-same s (renewal a) (hand b) e = absurd (omega (arith, ap case-of e))
reply-same s (hand a) (place b) e = absurd (omega (arith, ap case-of e))
reply-same s (hand a) (turn b y) e = absurd (omega (arith, ap case-of e))
reply-same s (hand a) (renewal b) e = absurd (omega (arith, ap case-of e))

-- ---- one result: any two answers that meet the contract of a call, with all that they leave, are equal
pub one-call-result : {k m n : Keeps} {c : Call} {out : List ℕ} {a b : Returned} → Gives k c out a m → Gives k c out b n
    → (a ≡ b) × (m ≡ n)
one-call-result {k = k} {a = a} {b = b} x y =
    let w = one-call (gives-makes x) (gives-makes y) in
    (reply-same k.state a b w.0, w.1)

-- ---- a caller of the code stands where a run left it, and is answered what that run's next call tells
pub result-begun : (k : Keeps) → GivesStart k → Begun (world_for k)
result-begun k s = starts-begun k (gives-starts k s)

pub result-runs : {k m : Keeps} {l : List Call} → Chain Gives k l m → world_for m ≡ (run l (world_for k)).world
result-runs c = caller_runs (gives-chain c)

pub result-answered : {k m n : Keeps} {l : List Call} {c : Call} {out : List ℕ} {a : Returned} → Chain Gives k l m
    → Gives m c out a n → reply_by m.state a ≡ reply_of c out (call c (run l (world_for k)).world)
result-answered x y = caller-answered (gives-chain x) (gives-makes y)

-- ---- demand 3, of callers of the code: a request that submit accepted with a place
pub result-demand-3 : {k m n o : Keeps} (s : GivesStart k) {before after : List Call} {r : Record} {x : List ℕ}
    {a : GivenAccepted} → Chain Gives k before m → Gives m (submit High r x) [] (place (Ok a)) n
    → Chain Gives n after o
    → Served (line_last (run before (world_for k)).events nobody).waiting (limited s.settings.retries.0 r).limit
    (fate a.place (run after (world_for n)).events newborn)
unfolding reply_by accepted_by gives-starts
result-demand-3 {k = k} s c y d =
    caller-demand-3 (gives-starts k s) (gives-chain c) (gives-makes y) refl (gives-chain d)

-- ---- never 29, of callers of the code
number-by : (s : State) (a : Returned) → refused_by (reply_by s a) ≡ refused_with a
unfolding refused_by reply_by refused_with refused accepted_by answered_by renewed_by handed_back_by
number-by s (place (Ok a)) = refl
number-by s (place (Err r)) = refl
number-by s (turn (Ok a) out) = refl
number-by s (turn (Err r) out) = refl
number-by s (renewal (Ok a)) = refl
number-by s (renewal (Err r)) = refl
number-by s (hand (Ok a)) = refl
number-by s (hand (Err r)) = refl

pub result-never-29 : {k m n : Keeps} {l : List Call} {c : Call} {out : List ℕ} {a : Returned} → GivesStart k
    → Chain Gives k l m → Gives m c out a n → refused_with a ≡ 29 → ⊥
result-never-29 {k = k} {m = m} {a = a} s x y e =
    caller-never-29 (gives-starts k s) (gives-chain x) (gives-makes y) (number-by m.state a ∙ e)

-- ---- "TS is never removed", of callers of the code
pub result-ts-stays : {k m : Keeps} {l : List Call} (s : GivesStart k) → Chain Gives k l m
    → member m.state.masters.0 s.ts ≡ true
unfolding gives-starts
result-ts-stays {k = k} s c = caller-ts-stays (gives-starts k s) (gives-chain c)
