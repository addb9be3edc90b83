-- Every script is a run of the calls that its lines name, and prints what their events say. Assumes nothing.
use Prim.Native.Nat.{ℕ, zero, ◌*◌}
use mathlib.Core.Bool.{Bool, true, false, true≢false}
use mathlib.Core.List.{List, [], ◌∷◌, ◌++◌, append-nil}
use mathlib.Core.Path.{◌≡◌, refl, sym, ap, ◌∙◌}
use lib.ListN.{length, get_or, length-replicate}
use Rattle.choice.specs.Choice.{pick, less, same, said}
use Rattle.request.specs.Record.{SIZE}
use Rattle.queue.specs.Queue.{AREA}
use Rattle.typed.specs.Places.{LONGEST}
use Rattle.typed_call.specs.declared.script.Call.{Call as Typed}
use Rattle.typed_call.specs.declared.script.Call.TheVariants.{Unknown}
use Rattle.typed_call.specs.Script.{call_of}
use Rattle.typed_call.specs.Operands.{settings_of, ts_of, masters_of, points_of, high_of, low_of}
use Rattle.state.specs.declared.State.{State}
use Rattle.state.specs.World.{World, world_of, state_of}
use Rattle.state.specs.Calls.{Started, Unstarted, Station}
use Rattle.state.specs.Runs.{Call, call, run, Begun}
use Rattle.state.proofs.Never.{tells, tells-last}
use Rattle.state.proofs.Start.{begun-never-29}
use Rattle.printed_lines.specs.Saying.{unknown_line, playing}
use Rattle.play.specs.Play.{start_by, named_by, printed_by, played_by}
use Rattle.desk.specs.Desk.{Desk, Answered, says, cleared, starting, started, starts, answer_other, answer_by}
use Rattle.desk.specs.Desk.{answer}
use Rattle.desk.specs.Scripts.{after, printed, silent, typed, named, Past, renewed, further, next, past}
use Rattle.desk.specs.Scripts.{start_line, other_line, line_of, lines_of, Stands}
use Rattle.desk.specs.Scripts.Past.{unbegun, since}
use Rattle.desk.specs.Scripts.Stands.{idle, ran}

-- ---- a run and calls more
run-further : (l m : List Call) (w : World) → (run (l ++ m) w).world ≡ (run m (run l w).world).world
unfolding run
run-further [] m w = refl
run-further (x ∷ l) m w = run-further l m (call x w).world

-- a world's state with the world's rows is that world
back : (w : World) → world_of (state_of w) w.site.high w.site.low ≡ w
unfolding world_of state_of
back w = refl

-- ---- what a line does and prints, by a past
record Tells (q : Past) (line : List ℕ) (a : Answered) : Type 0 where
  stands : Stands q a.desk
  says : a.line ≡ line

-- a start: the rows are as long as it was told
begun : (l : List ℕ) (s : State) → start_by l ≡ Station s → Begun (world_of s (cleared (high_of l)) (cleared (low_of l)))
unfolding start_by cleared
begun l s e =
    record {
      settings = settings_of l;
      ts = ts_of l;
      masters = masters_of l;
      points = points_of l;
      high = high_of l;
      low = low_of l;
      state = s;
      started = e;
      upper = cleared (high_of l);
      lower = cleared (low_of l);
      upper_row = length-replicate (SIZE * high_of l) zero;
      upper_area = length-replicate (AREA * high_of l) zero;
      lower_row = length-replicate (SIZE * low_of l) zero;
      lower_area = length-replicate (AREA * low_of l) zero;
      world = refl;
    }

start-told : (l : List ℕ) (p : Past) (d : Desk) (t : Started) → start_by l ≡ t → Stands p d
    → Tells (renewed t (high_of l) (low_of l) p) (start_line t) (starting t (high_of l) (low_of l) d)
unfolding starting start_line renewed run
start-told l p d (Unstarted n) e x = record { stands = x; says = refl }
start-told l p d (Station s) e x =
    record {
      stands = ran (world_of s (cleared (high_of l)) (cleared (low_of l))) [] refl (begun l s e) refl refl;
      says = refl;
    }

other-told : (c : Typed) (l : List ℕ) (p : Past) (d : Desk) → Stands p d
    → Tells (further (named_by c l) p) (other_line c l p) (answer_other c l d)
unfolding answer_other other_line further pick played_by started playing
other-told c l p d (idle e b) = rw (e, b) (record { stands = idle refl refl; says = refl })
other-told c l p d (ran w r e g b h) =
    rw (e, b)
    (record {
      stands =
          ran w (r ++ named_by c l) refl g refl
          (back _ ∙ ap (λ (x : World). (run (named_by c l) x).world) h ∙ sym (run-further r (named_by c l) w));
      says = ap (λ (x : World). printed_by c l (run (named_by c l) x)) h;
    })

-- a line that names no call
none-further : (p : Past) → further [] p ≡ p
unfolding further
none-further unbegun = refl
none-further (since w l) = ap (λ (m : List Call). since w m) (append-nil l)

none_said : (l : List ℕ) (p : Past) → other_line Unknown l p ≡ unknown_line
unfolding other_line printed_by
none_said l unbegun = refl
none_said l (since w r) = refl

none_told : (line : List ℕ) (p : Past) (d : Desk) → Stands p d → Tells (further [] p) line (says line d)
none_told line p d x = record { stands = rw (none-further p) x; says = refl }

-- a line by the call that it is, and any line
by-start : (b : Bool) {p q : Past} {m n : List ℕ} {u v : Answered} → Tells p m u → Tells q n v
    → Tells (pick b p q) (pick b m n) (pick (said b) u v)
unfolding pick said
by-start true x y = x
by-start false x y = y

by_tests : (e h x : Bool) (c : Typed) (l : List ℕ) (p : Past) (d : Desk) → Stands p d
    → let t : Typed = pick (pick e true h) Unknown (pick x Unknown c) in
    Tells (pick (starts t) (renewed (start_by l) (high_of l) (low_of l) p) (further (named_by t l) p))
    (pick (pick e true h) [] (pick (starts t) (start_line (start_by l)) (other_line t l p)))
    (pick e (says [] d) (pick h (says [] d) (pick x (says unknown_line d) (answer_by c l d))))
unfolding pick starts named_by answer_by
by_tests true h x c l p d k = none_told [] p d k
by_tests false true x c l p d k = none_told [] p d k
by_tests false false true c l p d k = rw (none_said l p) (none_told unknown_line p d k)
by_tests false false false c l p d k =
    by-start (starts c) (start-told l p d (start_by l) refl k) (other-told c l p d k)

answer-told : (l : List ℕ) (p : Past) (d : Desk) → Stands p d → Tells (next l p) (line_of l p) (answer l d)
unfolding next line_of named typed silent answer
answer-told l p d k =
    by_tests (same (length l) 0) (same (get_or l 0 0) 0x23) (less LONGEST (length l)) (call_of l) l p d k

-- "After a start and before any other, if each call is given the state and each row, data included, as the call
-- before left them": so it is in every script, and the calls are those that its lines name
pub script-runs : (s : List (List ℕ)) (p : Past) (d : Desk) → Stands p d → Stands (past s p) (after s d)
unfolding after past
script-runs [] p d x = x
script-runs (l ∷ s) p d x = script-runs s (next l p) (answer l d).desk (answer-told l p d x).stands

-- and it prints, line for line, what the events of these calls say
pub script-prints : (s : List (List ℕ)) (p : Past) (d : Desk) → Stands p d → printed s d ≡ lines_of s p
unfolding printed lines_of
script-prints [] p d x = refl
script-prints (l ∷ s) p d x =
    let t = answer-told l p d x in
    rw (t.says, script-prints s (next l p) (answer l d).desk t.stands) refl

-- ---- and so no line of a script is refused 29
pub script-never-29 : (p : Past) (d : Desk) → Stands p d → d.begun ≡ true → (c : Call)
    → tells 29 (call c (world_of d.state d.high d.low)).events ≡ false
script-never-29 p d (idle e b) t c = absurd (true≢false (sym t ∙ b))
script-never-29 p d (ran w r e g b h) t c = rw h (tells-last 29 r c w (begun-never-29 w g (r ++ (c ∷ []))))
