-- The replay script, its table of lines: the word and the count of words of each call, and what fits each place. A line
-- that is no call of the table is Unknown. Assumes nothing.
use Rattle.std.specs.Prelude.{ℕ, Bool, false, List, [], ◌∷◌, is_some}
use Rattle.choice.specs.Choice.{pick, said}
use Rattle.typed.specs.Words.{word}
use Rattle.typed.specs.Digits.{is_octets}
use Rattle.typed.specs.Places.{LONG, SHORT, queue, room, service, access, called, named, numbers}
use Rattle.typed.specs.Places.{is_masters, is_points}
use Rattle.typed_call.specs.Table as Table
use Rattle.typed_call.specs.Pairs.{start_pairs, submit_pairs}
use Rattle.typed_call.specs.declared.script.Call.{Call}
use Rattle.typed_call.specs.declared.script.Call.TheVariants.{Unknown, Start, Submit, Frame, Sent, Slot, Reset}
use Rattle.typed_call.specs.declared.script.Call.TheVariants.{Collect, Show}

-- ---- the words of the table
-- "start"
abbrev pub w-start : List ℕ
w-start = 0x73 ∷ (0x74 ∷ (0x61 ∷ (0x72 ∷ (0x74 ∷ []))))

-- "submit"
abbrev pub w-submit : List ℕ
w-submit = 0x73 ∷ (0x75 ∷ (0x62 ∷ (0x6D ∷ (0x69 ∷ (0x74 ∷ [])))))

-- "frame"
abbrev pub w-frame : List ℕ
w-frame = 0x66 ∷ (0x72 ∷ (0x61 ∷ (0x6D ∷ (0x65 ∷ []))))

-- "sent"
abbrev pub w-sent : List ℕ
w-sent = 0x73 ∷ (0x65 ∷ (0x6E ∷ (0x74 ∷ [])))

-- "slot"
abbrev pub w-slot : List ℕ
w-slot = 0x73 ∷ (0x6C ∷ (0x6F ∷ (0x74 ∷ [])))

-- "reset"
abbrev pub w-reset : List ℕ
w-reset = 0x72 ∷ (0x65 ∷ (0x73 ∷ (0x65 ∷ (0x74 ∷ []))))

-- "collect"
abbrev pub w-collect : List ℕ
w-collect = 0x63 ∷ (0x6F ∷ (0x6C ∷ (0x6C ∷ (0x65 ∷ (0x63 ∷ (0x74 ∷ []))))))

-- "show"
abbrev pub w-show : List ℕ
w-show = 0x73 ∷ (0x68 ∷ (0x6F ∷ (0x77 ∷ [])))

-- ---- the calls
-- `start Tset Tqui minTSDR maxTSDR TTD TTR retry TS masters points high low`, and behind it its pairs. "A pair out of
-- this order, named twice, unknown, or of a request that has not landed" is behind the last pair that is read, and so
-- a word too many
unfoldable pub is_site : List ℕ → Bool
is_site l =
    pick (said (is_masters (word l Table.MASTERS)))
    (pick (said (is_points (word l Table.POINTS))) (numbers l Table.HIGHROW Table.ROWS SHORT) false) false

unfoldable pub is_start : List ℕ → Bool
is_start l =
    pick (said (called l w-start))
    (pick (said (start_pairs l))
    (pick (said (numbers l Table.TSET Table.LONGS LONG)) (is_site l) false) false) false

-- `submit QUEUE SERVICE DA DSAP SSAP DATA`, and behind it its pairs
unfoldable pub is_pointed : List ℕ → Bool
is_pointed l =
    pick (said (is_some (access (word l Table.DSAP))))
    (pick (said (is_some (access (word l Table.SSAP)))) (is_octets (word l Table.DATA)) false) false

unfoldable pub is_request : List ℕ → Bool
is_request l =
    pick (said (is_some (service (word l Table.SERVICE))))
    (pick (said (numbers l Table.DA 1 SHORT)) (is_pointed l) false) false

unfoldable pub is_submit : List ℕ → Bool
is_submit l =
    pick (said (called l w-submit))
    (pick (said (submit_pairs l)) (pick (said (is_some (queue (word l Table.QUEUE)))) (is_request l) false) false) false

-- `frame CLOCK ROOM HIGH LOW OCTETS`
unfoldable pub is_heard : List ℕ → Bool
is_heard l =
    pick (said (is_octets (word l Table.HIGH)))
    (pick (said (is_octets (word l Table.LOW))) (is_octets (word l Table.OCTETS)) false) false

unfoldable pub is_frame : List ℕ → Bool
is_frame l =
    pick (said (named l w-frame Table.FRAMEWORDS))
    (pick (said (numbers l Table.CLOCK 1 LONG))
    (pick (said (is_some (room (word l Table.ROOM)))) (is_heard l) false) false) false

-- `sent CLOCK` and `slot CLOCK`
unfoldable pub is_clocked : List ℕ → List ℕ → Bool
is_clocked l name = pick (said (named l name Table.CLOCKEDWORDS)) (numbers l Table.CLOCK 1 LONG) false

-- `collect QUEUE`
unfoldable pub is_collect : List ℕ → Bool
is_collect l = pick (said (named l w-collect Table.COLLECTWORDS)) (is_some (queue (word l Table.QUEUE))) false

-- the call that a line is: of those given nothing but a queue, of these and those given nothing but a clock, and of all
unfoldable pub plain_of : List ℕ → Call
plain_of l =
    pick (said (named l w-reset Table.ALONE)) Reset
    (pick (said (is_collect l)) Collect (pick (said (named l w-show Table.ALONE)) Show Unknown))

unfoldable pub clocked_of : List ℕ → Call
clocked_of l = pick (said (is_clocked l w-sent)) Sent (pick (said (is_clocked l w-slot)) Slot (plain_of l))

unfoldable pub call_of : List ℕ → Call
call_of l =
    pick (said (is_start l)) Start (pick (said (is_submit l)) Submit (pick (said (is_frame l)) Frame (clocked_of l)))
