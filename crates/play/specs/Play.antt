-- The replay script: what each call of its table does to a station that was started, and the line that it prints. The
-- calls are those of document 01 with what the line's words give them, and an output of 255 octets. Assumes nothing.
use Rattle.std.specs.Prelude.{ℕ, List, [], ◌∷◌}
use Rattle.typed_call.specs.declared.script.Call.{Call}
use Rattle.typed_call.specs.declared.script.Call.TheVariants.{Unknown, Start, Submit, Frame, Sent, Slot, Reset}
use Rattle.typed_call.specs.declared.script.Call.TheVariants.{Collect, Show}
use Rattle.typed_call.specs.Operands.{settings_of, ts_of, masters_of, points_of, high_of, low_of, queue_of, request_of, data_of}
use Rattle.typed_call.specs.Operands.{clock_of, room_of, first_of, second_of, heard_of}
use Rattle.printed.specs.Printed.{shown_line}
use Rattle.state.specs.declared.State.{State}
use Rattle.state.specs.World.{Rows, Called, world_of}
use Rattle.state.specs.Calls.{Started, start}
use Rattle.state.specs.Runs.{run}
use Rattle.state.specs.Runs as Runs
use Rattle.printed_lines.specs.Saying.{unknown_line, plain_of, answer_of, handed_of, Plays, playing}

-- `start`, which is given no station
unfoldable pub start_by : List ℕ → Started
start_by l = start (settings_of l) (ts_of l) (masters_of l) (points_of l) (high_of l) (low_of l)

-- `submit QUEUE SERVICE DA DSAP SSAP DATA`
unfoldable pub submit_by : List ℕ → Runs.Call
submit_by l = Runs.submit (queue_of l) (request_of l) (data_of l)

-- `frame CLOCK ROOM HIGH LOW OCTETS`
unfoldable pub frame_by : List ℕ → Runs.Call
frame_by l = Runs.frame (clock_of l) (room_of l) (first_of l) (second_of l) (heard_of l) 255

-- the call of document 01 that a line names, on a station that was started: one, or none
unfoldable pub named_by : Call → List ℕ → List Runs.Call
named_by Unknown l = []
named_by Start l = []
named_by Submit l = submit_by l ∷ []
named_by Frame l = frame_by l ∷ []
named_by Sent l = Runs.sent (clock_of l) 255 ∷ []
named_by Slot l = Runs.slot (clock_of l) 255 ∷ []
named_by Reset l = Runs.reset ∷ []
named_by Collect l = Runs.collect (queue_of l) ∷ []
named_by Show l = []

-- what the line prints: by the events of its call, for collect with the data that lie at the place; for show by the
-- state; and `?` if it names none
unfoldable pub printed_by : Call → List ℕ → Called → List ℕ
printed_by Unknown l d = unknown_line
printed_by Start l d = unknown_line
printed_by Submit l d = plain_of d
printed_by Frame l d = answer_of (heard_of l) d
printed_by Sent l d = answer_of [] d
printed_by Slot l d = answer_of [] d
printed_by Reset l d = plain_of d
printed_by Collect l d = handed_of (queue_of l) d
printed_by Show l d = shown_line d.world.site.core d.world.site.masters

-- what a line does that is a call and no start
unfoldable pub played_by : Call → List ℕ → State → Rows → Rows → Plays
played_by c l s high low = playing (printed_by c l) (run (named_by c l) (world_of s high low))
