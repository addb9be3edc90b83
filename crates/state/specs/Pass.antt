-- Document 01, "Pass": the token goes to NS, and slot expiry while the pass is checked. Assumes nothing.
use Rattle.std.specs.Prelude.{ℕ, false, List, [], ◌∷◌}
use Rattle.choice.specs.Choice.{pick, less, same}
use Rattle.frame.specs.declared.Fields.TheVariants.{Token}
use Rattle.frame.specs.Format.{octets}
use Rattle.ring.specs.Ring.{next_of, previous_of, remove}
use Rattle.times.specs.declared.Sending.TheVariants.{Other}
use Rattle.state.specs.declared.Phase.TheVariants.{Check, ToSelf}
use Rattle.state.specs.declared.Doing.{Doing}
use Rattle.state.specs.declared.Core.{Core}
use Rattle.state.specs.World.{Site, Event, Done, a_token, sends, done, with_doing, with_ps, with_core, with_masters}
use Rattle.state.specs.Request.{once, after_last, wait_for}

-- "To NS, found one address after another, from TS upward, past 126 to 0"
unfoldable pub ns : Site → ℕ
ns s = next_of s.masters s.core.ts.0

unfoldable pub token_to : ℕ → Core → List ℕ
token_to n c = octets (Token (record { 0 = n }) c.ts) []

-- "NS = TS: token to itself"; else the pass is checked
unfoldable pub passing : ℕ → Core → Doing
passing n c =
    pick (same n c.ts.0)
    (record { phase = ToSelf; served = c.doing.served; sendings = 1; sdn = false })
    (record { phase = Check; served = c.doing.served; sendings = 1; sdn = false })

unfoldable pub pass_core : ℕ → Core → Core
pass_core n c = with_doing (passing n c) c

unfoldable pub pass_events : ℕ → Core → List Event
pass_events n c = sends a_token (token_to n c) (wait_for c (after_last c)) ∷ []

unfoldable pub pass : Site → Done
pass s = done (with_core (pass_core (ns s) s.core) s) (pass_events (ns s) s.core)

-- "Slot expiry: the token again, three sendings in all"
unfoldable pub pass_again : Site → Done
pass_again s =
    done (with_core (with_doing (once s.core.doing) s.core) s)
    (sends a_token (token_to (ns s) s.core) (wait_for s.core Other) ∷ [])

-- "then NS leaves the ring and the next is tried; if it was PS too, PS is found anew"
unfoldable pub ps_without : ℕ → List ℕ → Core → ℕ
ps_without n l c = pick (same n c.ps.0) (previous_of l c.ts.0) c.ps.0

unfoldable pub without : Site → Site
without s =
    let l : List ℕ = remove s.masters (ns s) in
    with_core (with_ps (record { 0 = ps_without (ns s) l s.core }) s.core) (with_masters l s)

unfoldable pub recheck : Site → Done
recheck s = pick (less s.core.doing.sendings 3) (pass_again s) (pass (without s))
