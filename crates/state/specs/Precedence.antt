-- Document 01, "Hold": "with time left, the first high, else the first low", by the history: how many high requests
-- were accepted and are not confirmed, and whether a low request was sent and is not confirmed. Assumes nothing.
use Rattle.std.specs.Prelude.{ℕ, ◌+◌, ◌-◌, Bool, true, false, List, [], ◌∷◌}
use Rattle.state.specs.declared.Priority.{Priority}
use Rattle.state.specs.declared.Priority.TheVariants.{High, Low}
use Rattle.state.specs.World.{What, a_request, a_token, a_reply, Event, accepted, begins, ends, sends, confirmed}
use Rattle.state.specs.World.{collected, indicated, resets, refused}

pub record Line : Type 0 where
  pub waiting : ℕ
  pub low : Bool

-- at the start
unfoldable pub nobody : Line
nobody = record { waiting = 0; low = false }

-- a request is accepted, sent, confirmed
unfoldable pub joined : Priority → Line → Line
joined High h = record { waiting = h.waiting + 1; low = h.low }
joined Low h = h

unfoldable pub sent_by : What → Line → Line
sent_by (a_request High n) h = h
sent_by (a_request Low n) h = record { waiting = h.waiting; low = true }
sent_by a_token h = h
sent_by a_reply h = h

unfoldable pub served : Priority → Line → Line
served High h = record { waiting = h.waiting - 1; low = h.low }
served Low h = record { waiting = h.waiting; low = false }

-- what an event makes of it, and events in a row
unfoldable pub line_after : Event → Line → Line
line_after (accepted p n) h = joined p h
line_after begins h = h
line_after ends h = h
line_after (sends x o t) h = sent_by x h
line_after (confirmed p n status k) h = served p h
line_after (collected p n r) h = h
line_after (indicated f d) h = h
line_after resets h = h
line_after (refused n) h = h

unfoldable pub line_last : List Event → Line → Line
line_last [] h = h
line_last (e ∷ l) h = line_last l (line_after e h)
