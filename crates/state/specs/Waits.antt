-- Document 01, "Times": "Each sending comes with its wait: Tid2 before a request or token if this station's last
-- sending in the hold was an SDN, Tid1 before others, min TSDR before a reply". By the history: what was sent last in
-- the hold, and the wait that it gives a request or token. Assumes nothing.
use Rattle.std.specs.Prelude.{ℕ, Bool, true, false, List, [], ◌∷◌}
use Rattle.choice.specs.Choice.{pick}
use Rattle.times.specs.declared.Settings.{Settings}
use Rattle.times.specs.declared.Sending.TheVariants.{AfterSdn, Other}
use Rattle.times.specs.Times.{wait_of}
use Rattle.state.specs.World.{What, a_request, a_token, a_reply, Event, accepted, begins, ends, sends, confirmed}
use Rattle.state.specs.World.{collected, indicated, resets, refused}
use Rattle.state.specs.Counts.{control_in, counts}

-- whether the last sending in the hold was an SDN: a request that is neither SDA nor SRD. A reply is no sending in a
-- hold
unfoldable pub sdn_by : What → List ℕ → Bool → Bool
sdn_by (a_request p n) o b = pick (counts (control_in o)) false true
sdn_by a_token o b = false
sdn_by a_reply o b = b

unfoldable pub sdn_after : Event → Bool → Bool
sdn_after (accepted p n) b = b
sdn_after begins b = false
sdn_after ends b = b
sdn_after (sends x o t) b = sdn_by x o b
sdn_after (confirmed p n status k) b = b
sdn_after (collected p n r) b = b
sdn_after (indicated f d) b = b
sdn_after resets b = b
sdn_after (refused n) b = b

unfoldable pub sdn_last : List Event → Bool → Bool
sdn_last [] b = b
sdn_last (e ∷ l) b = sdn_last l (sdn_after e b)

-- Tid2 or Tid1
unfoldable pub wait_due : Settings → Bool → ℕ
wait_due t b = wait_of t (pick b AfterSdn Other)
