-- The rows in their arrays, a start's two ends, and what a call left as what the desk holds. Assumes nothing.
use Prim.Native.Nat.{ℕ, ◌*◌, ◌<◌, ◌≤◌}
use mathlib.Core.Bool.{Bool, true, false}
use mathlib.Core.List.{List, []}
use mathlib.Core.Path.{◌≡◌, refl, sym, ap, subst, ◌∙◌}
use native.Mathlib.Omega.{arith}
use native.Mathlib.Nat.{zero-add}
use lib.ListN.{length, take, replicate, length-replicate, take-append-drop}
use lib.Seq.{length-take-le, take_at}
use borrow.Rule.Slice.PartMut.{put_mid}
use Rattle.choice.specs.Choice.{pick}
use Rattle.choice.proofs.Rules.{pick_true, pick-false, false-less}
use Rattle.laid.specs.Laid.{laid, Lays}
use Rattle.laid.proofs.Laws.{laid_nil, laid-start}
use Rattle.request.specs.Record.{SIZE}
use Rattle.queue.specs.Queue.{AREA}
use Rattle.typed_call.specs.declared.script.Call.{Call}
use Rattle.typed_call.specs.Operands.{settings_of, ts_of, masters_of, points_of, high_of, low_of}
use Rattle.times.specs.declared.Settings.{Settings}
use Rattle.state.specs.declared.State.{State}
use Rattle.state.specs.Told.{Renewed}
use Rattle.state.specs.World.{Rows, rows}
use Rattle.state.specs.Calls.{Started, Unstarted, Station, start}
use Rattle.std.specs.Prelude.{Ok, Err, None, Some}
use Rattle.refusal.specs.declared.Refusal.{Refusal}
use Rattle.refusal.specs.Refusal.{number, refused}
use Rattle.refusal.proofs.Numbers.{above_zero}
use Rattle.state.specs.Told.{Leaves, leaves, started_of, renewed_by, blank}
use Rattle.printed_lines.specs.declared.saying.Played.{Played}
use Rattle.printed_lines.specs.Saying.{unknown_line, plain_line, Plays, printing}
use Rattle.printed_lines.proofs.saying.Lines.{laid-near}
use Rattle.play.specs.Play.{start_by, played_by}
use Rattle.desk.specs.declared.Held.{Held}
use Rattle.desk.specs.Desk.{Arrays, Few, Answers, says, cleared, starting, started, answer_other, begun_of, state_of}
use Rattle.desk.specs.Desk.{desk_of}

-- ---- a row in its array: a part that was lent and is back, and one that was left
row_back : (n : ℕ) (l m : List ℕ) → length m ≡ n → take n (put_mid 0 n l m) ≡ m
row_back n l m e = take_at m _ n e

row_laid : (n : ℕ) (l m : List ℕ) → length m ≡ n → put_mid 0 n l m ≡ laid l 0 m
row_laid n l m e = rw (laid-start l m, e)

row_kept : (n : ℕ) (l : List ℕ) → n ≤ length l → l ≡ laid l 0 (take n l)
row_kept n l h = rw (laid-start l (take n l), length-take-le n l h) (sym (take-append-drop n l))

-- zeros
abbrev pub zeros : ℕ → List ℕ
zeros n = replicate n 0

-- ---- a start gives a number above 0, or a station with rows of at most 64 places
pub data Begins (t : Started) (high low : ℕ) : Type 0 where
  refuses : (n : ℕ) → t ≡ Unstarted n → 0 < n → Begins t high low
  gives : (s : State) → t ≡ Station s → high ≤ 64 → low ≤ 64 → Begins t high low

step : (b : Bool) (n : ℕ) {t : Started} {high low : ℕ} → 0 < n → (b ≡ false → Begins t high low)
    → Begins (pick b (Unstarted n) t) high low
unfolding pick
step true n h f = refuses n refl h
step false n h f = f refl

pub begins : (t : Settings) (ts : ℕ) (masters points : List ℕ) (high low : ℕ)
    → Begins (start t ts masters points high low) high low
unfolding start
begins t ts masters points high low =
    step _ 20 (omega arith)
    (λ _. step _ 21 (omega arith)
    (λ _. step _ 21 (omega arith)
    (λ e. step _ 21 (omega arith)
    (λ _. step _ 21 (omega arith) (λ f. gives _ refl (false-less _ _ e) (false-less _ _ f))))))

-- ---- what a call left, as the desk and what is printed
lays-printed : (x : Plays) (text : List ℕ) {p : Played} {h l : Rows} {text' : List ℕ}
    → leaves p h l text' ≡ printing x text → length text ≡ 8192 → length text' ≡ length text
    → Lays text 0 x.line 8192 p.length text'
unfolding printing
lays-printed x text {text' = text'} e t k =
    let f = ap (λ (y : Leaves Played). y.out) e in
    record {
      place = ap (λ (y : Leaves Played). y.answer.length) e ∙ sym (zero-add _);
      left = f;
      near = omega (arith, t, laid-near text x.line text' f k);
    }

pub goes_on : (c : Call) (line : List ℕ) (h : Held) (s : State) (high harea low larea text : List ℕ) {p : Played}
    {u ua v va text' : List ℕ}
    → Arrays high harea low larea text → Few h → h.state ≡ Some s
    → leaves p (rows u ua) (rows v va) text'
    ≡ printing
    (played_by c line s (rows (take (SIZE * h.high) high) (take (AREA * h.high) harea))
    (rows (take (SIZE * h.low) low) (take (AREA * h.low) larea))) text
    → length u ≡ SIZE * h.high → length ua ≡ AREA * h.high → length v ≡ SIZE * h.low → length va ≡ AREA * h.low
    → length text' ≡ length text
    → Answers (answer_other c line (desk_of h high harea low larea)) high harea low larea text
    (record {
      held = record { high = h.high; low = h.low; state = Some p.state };
      length = p.length;
    }) (put_mid 0 (SIZE * h.high) high u) (put_mid 0 (AREA * h.high) harea ua)
    (put_mid 0 (SIZE * h.low) low v) (put_mid 0 (AREA * h.low) larea va) text'
unfolding answer_other started begun_of state_of desk_of printing
goes_on c line h s high harea low larea text a f b e eu eua ev eva k =
    rw (b, pick_true)
    (record {
      desk =
          rw (row_back _ high _ eu, row_back _ harea _ eua, row_back _ low _ ev, row_back _ larea _ eva)
          (ap (λ (y : Leaves Played). record { begun = true; state = y.answer.state; high = y.high; low = y.low }) e);
      upper = row_laid _ high _ eu ∙ ap (λ (y : Leaves Played). laid high 0 y.high.row) e;
      upper_area = row_laid _ harea _ eua ∙ ap (λ (y : Leaves Played). laid harea 0 y.high.area) e;
      lower = row_laid _ low _ ev ∙ ap (λ (y : Leaves Played). laid low 0 y.low.row) e;
      lower_area = row_laid _ larea _ eva ∙ ap (λ (y : Leaves Played). laid larea 0 y.low.area) e;
      line = lays-printed _ text e a.text k;
      few = record { high = f.high; low = f.low };
    })

-- ---- a line that leaves the desk
pub keeps : (a : List ℕ) (h : Held) (high harea low larea text : List ℕ) {n : ℕ} {text' : List ℕ}
    → Arrays high harea low larea text → Few h → Lays text 0 a 8192 n text'
    → Answers (says a (desk_of h high harea low larea)) high harea low larea text (record { held = h; length = n })
    high harea low larea text'
unfolding desk_of
keeps a h high harea low larea text w f x =
    record {
      desk = refl;
      upper = row_kept (SIZE * h.high) high (omega (arith, w.high, f.high));
      upper_area = row_kept (AREA * h.high) harea (omega (arith, w.harea, f.high));
      lower = row_kept (SIZE * h.low) low (omega (arith, w.low, f.low));
      lower_area = row_kept (AREA * h.low) larea (omega (arith, w.larea, f.low));
      line = x;
      few = f;
    }

pub silent : (h : Held) (high harea low larea text : List ℕ) → Arrays high harea low larea text → Few h
    → Answers (says [] (desk_of h high harea low larea)) high harea low larea text (record { held = h; length = 0 })
    high harea low larea text
silent h high harea low larea text w f =
    keeps [] h high harea low larea text w f
    (record { place = refl; left = sym (laid_nil text 0); near = omega arith })

pub unbegun : (c : Call) (line : List ℕ) (h : Held) (high harea low larea text : List ℕ) {n : ℕ} {text' : List ℕ}
    → h.state ≡ None → Arrays high harea low larea text → Few h → Lays text 0 unknown_line 8192 n text'
    → Answers (answer_other c line (desk_of h high harea low larea)) high harea low larea text
    (record { held = h; length = n }) high harea low larea text'
unfolding answer_other begun_of state_of desk_of
unbegun c line h high harea low larea text b w f x =
    rw (b, pick-false) (rw b at (keeps unknown_line h high harea low larea text w f x))

-- ---- a start
start-begins : (line : List ℕ) → Begins (start_by line) (high_of line) (low_of line)
unfolding start_by
start-begins line = begins (settings_of line) (ts_of line) (masters_of line) (points_of line) (high_of line) (low_of line)

-- the rows of an accepted one fit their arrays
few-by : (t : Started) {a b : ℕ} → Begins t a b → (started_of t).refused ≡ 0 → (a ≤ 64) × (b ≤ 64)
unfolding started_of
few-by t (refuses k e p) r = absurd (omega (arith, p, rw e at r))
few-by t (gives s e u v) r = (u, v)

refused-by : (t : Started) (a b : ℕ) (h : Held) (high harea low larea text : List ℕ) {n : ℕ} {text' : List ℕ}
    → Begins t a b → Arrays high harea low larea text → Few h
    → ((started_of t).refused ≡ 0 → ⊥) → Lays text 0 (plain_line (started_of t).refused) 8192 n text'
    → Answers (starting t a b (desk_of h high harea low larea)) high harea low larea text
    (record { held = h; length = n }) high harea low larea text'
unfolding starting started_of
refused-by t a b h high harea low larea text (refuses k e p) w f r x =
    rw e (keeps (plain_line k) h high harea low larea text w f (rw e at x))
refused-by t a b h high harea low larea text (gives s e u v) w f r x = absurd (r (rw e refl))

row-cleared : (n : ℕ) (l : List ℕ) → take n (laid l 0 (zeros n)) ≡ zeros n
row-cleared n l = rw (laid-start l (zeros n)) (take_at (zeros n) _ n (length-replicate n 0))

given_by : (t : Started) (a b : ℕ) (h : Held) (high harea low larea text : List ℕ) {n : ℕ} {text' : List ℕ}
    → Begins t a b → (started_of t).refused ≡ 0 → Lays text 0 (plain_line (started_of t).refused) 8192 n text'
    → Answers (starting t a b (desk_of h high harea low larea)) high harea low larea text
    (record { held = record { high = a; low = b; state = Some (started_of t).state }; length = n })
    (laid high 0 (zeros (SIZE * a))) (laid harea 0 (zeros (AREA * a))) (laid low 0 (zeros (SIZE * b)))
    (laid larea 0 (zeros (AREA * b))) text'
unfolding starting started_of begun_of state_of desk_of cleared
given_by t a b h high harea low larea text (refuses k e p) r x = absurd (omega (arith, p, rw e at r))
given_by t a b h high harea low larea text (gives s e u v) r x =
    rw e
    (record {
      desk =
          rw (
            row-cleared (SIZE * a) high,
            row-cleared (AREA * a) harea,
            row-cleared (SIZE * b) low,
            row-cleared (AREA * b) larea,
          );
      upper = refl;
      upper_area = refl;
      lower = refl;
      lower_area = refl;
      line = rw e at x;
      few = record { high = u; low = v };
    })

few_in : (line : List ℕ) → (started_of (start_by line)).refused ≡ 0 → (high_of line ≤ 64) × (low_of line ≤ 64)
few_in line e = few-by (start_by line) (start-begins line) e

pub few_high : (line : List ℕ) (s : State) → renewed_by blank (Ok s) ≡ started_of (start_by line) → high_of line ≤ 64
unfolding renewed_by
few_high line s e = (few_in line (ap (λ (r : Renewed). r.refused) (sym e))).0

pub few_low : (line : List ℕ) (s : State) → renewed_by blank (Ok s) ≡ started_of (start_by line) → low_of line ≤ 64
unfolding renewed_by
few_low line s e = (few_in line (ap (λ (r : Renewed). r.refused) (sym e))).1

pub ruleset few_rows = (few_high, few_low)

pub begun-refused : (line : List ℕ) (h : Held) (high harea low larea text : List ℕ) (r : Refusal) {n : ℕ}
    {text' : List ℕ}
    → Arrays high harea low larea text → Few h → renewed_by blank (Err r) ≡ started_of (start_by line)
    → Lays text 0 (plain_line (refused {A = State} (Err r))) 8192 n text'
    → Answers (starting (start_by line) (high_of line) (low_of line) (desk_of h high harea low larea)) high harea low
    larea text (record { held = h; length = n }) high harea low larea text'
unfolding refused renewed_by
begun-refused line h high harea low larea text r {n = n} {text' = text'} w f e x =
    let k : number r ≡ (started_of (start_by line)).refused = ap (λ (y : Renewed). y.refused) e in
    refused-by (start_by line) _ _ h high harea low larea text (start-begins line) w f
    (λ (z : (started_of (start_by line)).refused ≡ 0). omega (arith, above_zero r, k, z))
    (subst (λ (m : ℕ). Lays text 0 (plain_line m) 8192 n text') k x)

pub begun-given : (line : List ℕ) (h : Held) (high harea low larea text : List ℕ) (s : State) {n : ℕ}
    {text' : List ℕ}
    → renewed_by blank (Ok s) ≡ started_of (start_by line)
    → Lays text 0 (plain_line (refused {A = State} (Ok s))) 8192 n text'
    → Answers (starting (start_by line) (high_of line) (low_of line) (desk_of h high harea low larea)) high harea low
    larea text
    (record {
      held = record { high = high_of line; low = low_of line; state = Some s };
      length = n;
    }) (laid high 0 (zeros (SIZE * high_of line))) (laid harea 0 (zeros (AREA * high_of line)))
    (laid low 0 (zeros (SIZE * low_of line))) (laid larea 0 (zeros (AREA * low_of line))) text'
unfolding refused renewed_by
begun-given line h high harea low larea text s {n = n} {text' = text'} e x =
    let k : 0 ≡ (started_of (start_by line)).refused = ap (λ (y : Renewed). y.refused) e in
    let t : s ≡ (started_of (start_by line)).state = ap (λ (y : Renewed). y.state) e in
    rw t
    (given_by (start_by line) _ _ h high harea low larea text (start-begins line) (sym k)
    (subst (λ (m : ℕ). Lays text 0 (plain_line m) 8192 n text') k x))
