-- Scripts: lines one after another. What a script did to the station is the calls of document 01 that its lines name
-- since its last accepted start, and what it prints is what their events say. Assumes nothing.
use Rattle.std.specs.Prelude.{ℕ, Bool, true, false, List, [], ◌∷◌, ◌++◌, ◌≡◌, length, get_or}
use Rattle.choice.specs.Choice.{pick, less, same}
use Rattle.typed.specs.Places.{LONGEST}
use Rattle.typed_call.specs.declared.script.Call.{Call as Typed}
use Rattle.typed_call.specs.declared.script.Call.TheVariants.{Unknown}
use Rattle.typed_call.specs.Script.{call_of}
use Rattle.typed_call.specs.Operands.{high_of, low_of}
use Rattle.state.specs.World.{World, world_of}
use Rattle.state.specs.Calls.{Started, Unstarted, Station}
use Rattle.state.specs.Runs.{Call, Begun, run}
use Rattle.printed_lines.specs.Saying.{unknown_line, plain_line}
use Rattle.play.specs.Play.{start_by, named_by, printed_by}
use Rattle.desk.specs.Desk.{Desk, cleared, starts, answer}

-- ---- as the program does it: what a script leaves on a desk, and what its lines print
unfoldable pub after : List (List ℕ) → Desk → Desk
after [] d = d
after (l ∷ s) d = after s (answer l d).desk

unfoldable pub printed : List (List ℕ) → Desk → List (List ℕ)
printed [] d = []
printed (l ∷ s) d = (answer l d).line ∷ printed s (answer l d).desk

-- ---- a line
-- "Empty lines and lines whose first character is `#` print nothing"
unfoldable pub silent : List ℕ → Bool
silent l = pick (same (length l) 0) true (same (get_or l 0 0) 0x23)

-- the call of the script's table that a line is
unfoldable pub typed : List ℕ → Typed
typed l = pick (silent l) Unknown (pick (less LONGEST (length l)) Unknown (call_of l))

-- the call of document 01 that it names: one, or none
unfoldable pub named : List ℕ → List Call
named l = named_by (typed l) l

-- ---- a script
-- what lines did: no start was accepted yet, or the last accepted one made this world and these calls came since
pub data Past : Type 0 where
  unbegun : Past
  since : World → List Call → Past

-- "An accepted `start` replaces the station and clears the rows; a refused one leaves the old station."
unfoldable pub renewed : Started → ℕ → ℕ → Past → Past
renewed (Unstarted n) high low p = p
renewed (Station s) high low p = since (world_of s (cleared high) (cleared low)) []

-- calls more; before the first accepted start there are none
unfoldable pub further : List Call → Past → Past
further c unbegun = unbegun
further c (since w l) = since w (l ++ c)

unfoldable pub next : List ℕ → Past → Past
next l p = pick (starts (typed l)) (renewed (start_by l) (high_of l) (low_of l) p) (further (named l) p)

unfoldable pub past : List (List ℕ) → Past → Past
past [] p = p
past (l ∷ s) p = past s (next l p)

-- ---- what is printed, by the past
unfoldable pub start_line : Started → List ℕ
start_line (Unstarted n) = plain_line n
start_line (Station s) = plain_line 0

-- a line that is no start: by what its call, if it names one, does to the world that the calls before it left
unfoldable pub other_line : Typed → List ℕ → Past → List ℕ
other_line c l unbegun = unknown_line
other_line c l (since w r) = printed_by c l (run (named_by c l) (run r w).world)

unfoldable pub line_of : List ℕ → Past → List ℕ
line_of l p = pick (silent l) [] (pick (starts (typed l)) (start_line (start_by l)) (other_line (typed l) l p))

unfoldable pub lines_of : List (List ℕ) → Past → List (List ℕ)
lines_of [] p = []
lines_of (l ∷ s) p = line_of l p ∷ lines_of s (next l p)

-- ---- a desk as a past left it: before the first start, or with the station and the rows that a run of just its calls
-- leaves of its world
pub data Stands (p : Past) (d : Desk) : Type 0 where
  idle : p ≡ unbegun → d.begun ≡ false → Stands p d
  ran : (w : World) (c : List Call) → p ≡ since w c → Begun w → d.begun ≡ true
      → world_of d.state d.high d.low ≡ (run c w).world → Stands p d
