-- A line that was laid with nothing else done, a run of one call, and the length of a word's octets. Assumes nothing.
use Prim.Native.Nat.{ℕ, ◌≤◌}
use mathlib.Core.List.{List, [], ◌∷◌, append-nil}
use mathlib.Core.Path.{◌≡◌, refl, ap}
use native.Mathlib.Omega.{arith}
use lib.ListN.{length, take, length-take}
use Rattle.laid.specs.Laid.{Lays}
use Rattle.state.specs.declared.State.{State}
use Rattle.state.specs.World.{Rows, World, Event, Called, world_of, state_of}
use Rattle.state.specs.Runs.{Call, call, run}
use Rattle.state.specs.Told.{Leaves, leaves}
use Rattle.printed_lines.specs.declared.saying.Played.{Played}
use Rattle.printed_lines.specs.Saying.{playing, printing}
use Rattle.printed_lines.proofs.saying.Lines.{line-length, line-left}

pub stays-told : (line : Called → List ℕ) (s : State) (high low : Rows) (text : List ℕ) {n : ℕ} {text' : List ℕ}
    → Lays text 0 (line (run [] (world_of s high low))) 8192 n text'
    → ◌≡◌ {A = Leaves Played} (leaves (record { state = s; length = n }) high low text')
    (printing (playing line (run [] (world_of s high low))) text)
unfolding run playing printing world_of state_of
stays-told line s high low text x = rw (line-length x refl, line-left x refl)

-- a run of one call is that call
pub run-one : (c : Call) (w : World) → run (c ∷ []) w ≡ call c w
unfolding run
run-one c w = ap (λ (e : List Event). record { world = (call c w).world; events = e }) (append-nil (call c w).events)

pub take-near : (k n : ℕ) (l : List ℕ) → length l ≤ n → length (take k l) ≤ n
take-near k n l h = omega (arith, length-take k l)
