-- Document 01, "Hold", by the history: a hold is on from the event that begins it to the one that ends it; and the
-- phases in which one is on. Assumes nothing.
use Rattle.std.specs.Prelude.{Bool, true, false, List, [], ◌∷◌}
use Rattle.state.specs.declared.Phase.{Phase}
use Rattle.state.specs.declared.Phase.TheVariants.{Idle, Awaited, Sdn, Check, ToSelf}
use Rattle.state.specs.World.{Event, accepted, begins, ends, sends, confirmed, collected, indicated, resets}
use Rattle.state.specs.World.{refused}

-- whether a hold is on after an event, and after events in a row
unfoldable pub hold_after : Event → Bool → Bool
hold_after (accepted p n) b = b
hold_after begins b = true
hold_after ends b = false
hold_after (sends x o t) b = b
hold_after (confirmed p n status k) b = b
hold_after (collected p n r) b = b
hold_after (indicated h d) b = b
hold_after resets b = b
hold_after (refused n) b = b

unfoldable pub hold_last : List Event → Bool → Bool
hold_last [] b = b
hold_last (e ∷ l) b = hold_last l (hold_after e b)

-- a hold is on while a reply is awaited and while an SDN goes out; it is over when the token is passed, to another or to
-- itself
unfoldable pub holding : Phase → Bool
holding Idle = false
holding Awaited = true
holding Sdn = true
holding Check = false
holding ToSelf = false
