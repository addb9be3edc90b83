-- What submit, collect and reset answered, as what is left of the station, the row and the text. Assumes nothing.
use Prim.Native.Nat.{ℕ}
use mathlib.Core.List.{List, []}
use mathlib.Core.Path.{◌≡◌, ap, ◌∙◌}
use lib.ListN.{length}
use Rattle.laid.specs.Laid.{laid, Lays}
use Rattle.rows.specs.Rows.{Left, left}
use Rattle.state.specs.declared.Priority.{Priority}
use Rattle.state.specs.declared.State.{State}
use Rattle.state.specs.Told.{Accepted}
use Rattle.state.specs.Told.{HandedBack}
use Rattle.state.specs.Told.{Renewed}
use Rattle.state.specs.World.{Rows, Called, rows}
use Rattle.state.specs.Calls.{collect}
use Rattle.state.specs.Told.{Leaves, leaves, lent, accepted_of, submitted_of, handed_back_of, reset_of}
use Rattle.state.proofs.Beside.{collect-keeps}
use Rattle.printed_lines.specs.declared.saying.Played.{Played}
use Rattle.printed_lines.specs.Saying.{plain_line, handed_line, plain_of, handed_of, playing, printing, played}
use Rattle.printed_lines.proofs.saying.Lines.{line-length, line-left}
use Rattle.play_queues.specs.Booked.{booked, booked_of}

pub submit-told : (p : Priority) (d : Called) (text : List ℕ) {a : Accepted} {row area text' : List ℕ} {q : Played}
    → left a row area ≡ submitted_of p d → q.state ≡ a.state → Lays text 0 (plain_line a.refused) 8192 q.length text'
    → booked q (rows row area) text' ≡ booked_of p plain_of d text
unfolding submitted_of accepted_of booked_of plain_of
submit-told p d text {row = row} {area = area} {text' = text'} {q = q} e g x =
    let f = ap (λ (y : Left Accepted). plain_line y.answer.refused) e in
    ap (λ (s : State). booked (record { state = s; length = q.length }) (rows row area) text') g
    ∙ rw (line-length x f, line-left x f)
    (ap
    (λ (y : Left Accepted). booked (record { state = y.answer.state; length = length (plain_of d) })
    (rows y.row y.area) (laid text 0 (plain_of d))) e)

-- the line of what collect handed back is that of what it told: the data lie where they lay
handed-told : (p : Priority) (s : State) (r : Rows) {a : HandedBack} → a ≡ handed_back_of (collect p (lent p s r))
    → handed_line a.refused a.place a.entry r.area ≡ handed_of p (collect p (lent p s r))
unfolding handed_back_of handed_of
handed-told p s r e =
    rw (collect-keeps s r p) (ap (λ (y : HandedBack). handed_line y.refused y.place y.entry r.area) e)

pub collect-told : (p : Priority) (s : State) (r : Rows) (text : List ℕ) {a : HandedBack} {text' : List ℕ} {q : Played}
    → a ≡ handed_back_of (collect p (lent p s r)) → q.state ≡ a.state
    → Lays text 0 (handed_line a.refused a.place a.entry r.area) 8192 q.length text'
    → booked q r text' ≡ booked_of p (handed_of p) (collect p (lent p s r)) text
unfolding handed_back_of booked_of
collect-told p s r text {text' = text'} {q = q} e g x =
    let f = handed-told p s r e in
    let l : List ℕ = handed_of p (collect p (lent p s r)) in
    ap (λ (s : State). booked (record { state = s; length = q.length }) r text') g
    ∙ rw (line-length x f, line-left x f, collect-keeps s r p)
    (ap (λ (y : HandedBack). booked (record { state = y.state; length = length l }) r (laid text 0 l)) e)

pub reset-told : (d : Called) (text : List ℕ) {a : Renewed} {high low : Rows} {text' : List ℕ} {q : Played}
    → leaves a high low [] ≡ reset_of d → q.state ≡ a.state → Lays text 0 (plain_line a.refused) 8192 q.length text'
    → leaves q high low text' ≡ played plain_of d text
unfolding reset_of printing playing plain_of
reset-told d text {high = high} {low = low} {text' = text'} {q = q} e g x =
    let f = ap (λ (y : Leaves Renewed). plain_line y.answer.refused) e in
    ap (λ (s : State). leaves {A = Played} (record { state = s; length = q.length }) high low text') g
    ∙ rw (line-length x f, line-left x f)
    (ap
    (λ (y : Leaves Renewed). leaves {A = Played}
    (record { state = y.answer.state; length = length (plain_of d) }) y.high y.low
    (laid text 0 (plain_of d))) e)
