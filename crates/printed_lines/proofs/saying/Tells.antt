-- What a call told, as its line: the octets to send are the first of the output. Assumes nothing.
use Prim.Native.Nat.{ℕ}
use mathlib.Core.List.{List}
use mathlib.Core.Path.{◌≡◌, ap, ◌∙◌}
use native.Mathlib.Omega.{arith}
use lib.ListN.{length, take}
use Rattle.laid.specs.Laid.{laid, Lays}
use Rattle.laid.proofs.Octets.{laid-part}
use Rattle.state.specs.Told.{Answer}
use Rattle.state.specs.declared.State.{State}
use Rattle.state.specs.World.{Rows, Called}
use Rattle.state.specs.Told.{Telling, telling, Leaves, leaves, told, answer_of as answer_to}
use Rattle.printed_lines.specs.declared.saying.Played.{Played}
use Rattle.printed_lines.specs.Saying.{answer_line, answer_of, playing, printing, played}
use Rattle.printed_lines.proofs.saying.Lines.{line-length, line-left}

-- the line of what the call left is that of what it told
line-told : (d : Called) (octets out : List ℕ) {a : Answer} {high low : Rows} {out' : List ℕ}
    → leaves a high low out' ≡ told d out
    → answer_line a.refused a.wait.0 (take a.length out') a.indication octets ≡ answer_of octets d
unfolding told answer_to answer_of
line-told d octets out e =
    let t : Telling = telling d.events in
    ap
    (λ (x : Leaves Answer). answer_line x.answer.refused x.answer.wait.0 (take x.answer.length x.out)
    x.answer.indication octets) e
    ∙ ap (λ (x : List ℕ). answer_line t.refused t.wait x t.indication octets)
    (laid-part out 0 t.octets (omega arith))

pub says-told : (d : Called) (octets out text : List ℕ) {a : Answer} {high low : Rows} {out' text' : List ℕ}
    {p : Played}
    → leaves a high low out' ≡ told d out → p.state ≡ a.state
    → Lays text 0 (answer_line a.refused a.wait.0 (take a.length out') a.indication octets) 8192
    p.length text'
    → leaves p high low text' ≡ played (answer_of octets) d text
unfolding told answer_to printing playing
says-told d octets out text {high = high} {low = low} {text' = text'} {p = p} e f x =
    let g = line-told d octets out e in
    ap (λ (s : State). leaves {A = Played} (record { state = s; length = p.length }) high low text') f
    ∙ rw (line-length x g, line-left x g)
    (ap
    (λ (y : Leaves Answer). leaves {A = Played}
    (record { state = y.answer.state; length = length (answer_of octets d) }) y.high y.low
    (laid text 0 (answer_of octets d))) e)
