-- What submit and collect left in the row and the text that were lent, beside any row of the other queue. Assumes
-- nothing.
use mathlib.Core.List.{List}
use mathlib.Core.Path.{◌≡◌, ap}
use Prim.Native.Nat.{ℕ}
use Rattle.request.specs.declared.Record.{Record}
use Rattle.state.specs.declared.Priority.{Priority}
use Rattle.state.specs.declared.Priority.TheVariants.{High, Low}
use Rattle.state.specs.declared.State.{State}
use Rattle.state.specs.World.{Rows, Called, rows_of}
use Rattle.state.specs.Calls.{submit, collect}
use Rattle.state.specs.Told.{Leaves, leaves, lent}
use Rattle.state.proofs.Beside.{beside, Beside, submit-beside, collect-beside}
use Rattle.printed_lines.specs.declared.saying.Played.{Played}
use Rattle.printed_lines.specs.Saying.{playing, printing, played, plain_of, handed_of}
use Rattle.play_queues.specs.Booked.{Booked, booked, booked_of}

abbrev pub leaves_at : Priority → Played → Rows → Rows → List ℕ → Leaves Played
leaves_at High a r o text = leaves a r o text
leaves_at Low a r o text = leaves a o r text

played-beside : (p : Priority) (line : Called → List ℕ) (d e : Called) (text : List ℕ) {o : Rows} {a : Played}
    {r : Rows} {text' : List ℕ}
    → Beside p o d e → line e ≡ line d → booked a r text' ≡ booked_of p line d text
    → leaves_at p a r o text' ≡ played line e text
unfolding printing playing booked_of rows_of
played-beside High line d e text {o = o} b l x =
    rw (b.state, l, b.own, b.theirs) (ap (λ (y : Booked). leaves y.answer y.rows o y.text) x)
played-beside Low line d e text {o = o} b l x =
    rw (b.state, l, b.own, b.theirs) (ap (λ (y : Booked). leaves y.answer o y.rows y.text) x)

plain-beside : (p : Priority) (o : Rows) (d e : Called) → Beside p o d e → plain_of e ≡ plain_of d
unfolding plain_of
plain-beside p o d e b = rw b.events

handed-line : (p : Priority) (o : Rows) (d e : Called) → Beside p o d e → handed_of p e ≡ handed_of p d
unfolding handed_of
handed-line p o d e b = rw (b.events, b.own)

pub submitted-beside : (p : Priority) (s : State) (n : Record) (x : List ℕ) (r o : Rows) (text : List ℕ) {a : Played}
    {r' : Rows} {text' : List ℕ}
    → booked a r' text' ≡ booked_of p plain_of (submit p n x (lent p s r)) text
    → leaves_at p a r' o text' ≡ played plain_of (submit p n x (beside p s r o)) text
submitted-beside p s n x r o text h =
    let b = submit-beside s r o p n x in
    played-beside p plain_of _ _ text b (plain-beside p o _ _ b) h

pub collected-beside : (p : Priority) (s : State) (r o : Rows) (text : List ℕ) {a : Played} {text' : List ℕ}
    → booked a r text' ≡ booked_of p (handed_of p) (collect p (lent p s r)) text
    → leaves_at p a r o text' ≡ played (handed_of p) (collect p (beside p s r o)) text
collected-beside p s r o text h =
    let b = collect-beside s r o p in
    played-beside p (handed_of p) _ _ text b (handed-line p o _ _ b) h
