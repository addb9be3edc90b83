-- The phases by what they say of the station: a request is being sent, a pass is checked, the token goes to itself.
-- Every other file asks these, so that a new phase is told here. Assumes nothing.
use mathlib.Core.Bool.{Bool, true, false, true≢false}
use mathlib.Core.Path.{◌≡◌, refl}
use mathlib.Core.List.{List, [], ◌∷◌}
use Prim.Native.Nat.{ℕ}
use Rattle.choice.specs.Choice.{pick, same}
use Rattle.ring.specs.Ring.{next_of}
use Rattle.state.specs.declared.Phase.{Phase}
use Rattle.state.specs.declared.Phase.TheVariants.{Idle, Awaited, Sdn, Check, ToSelf}
use Rattle.state.specs.declared.Core.{Core}
use Rattle.state.specs.World.{ends, queue_of}
use Rattle.state.specs.Refusals.{odd_in, unlike_in}
use Rattle.state.specs.Calls.{begun, broken}
use Rattle.state.specs.Holds.{holding}

unfoldable pub flight : Phase → Bool
flight Idle = false
flight Awaited = true
flight Sdn = true
flight Check = false
flight ToSelf = false

unfoldable pub checking : Phase → Bool
checking Idle = false
checking Awaited = false
checking Sdn = false
checking Check = true
checking ToSelf = false

unfoldable pub awaiting : Phase → Bool
awaiting Idle = false
awaiting Awaited = true
awaiting Sdn = false
awaiting Check = false
awaiting ToSelf = false

unfoldable pub selfing : Phase → Bool
selfing Idle = false
selfing Awaited = false
selfing Sdn = false
selfing Check = false
selfing ToSelf = true

-- ---- what the rules tell of a phase is told by these
pub broken-by : (x : Phase) → broken x ≡ pick (flight x) (ends ∷ []) []
unfolding flight broken pick
broken-by Idle = refl
broken-by Awaited = refl
broken-by Sdn = refl
broken-by Check = refl
broken-by ToSelf = refl

pub holding-by : (x : Phase) → holding x ≡ flight x
unfolding flight holding
holding-by Idle = refl
holding-by Awaited = refl
holding-by Sdn = refl
holding-by Check = refl
holding-by ToSelf = refl

pub begun-by : (x : Phase) (n : ℕ) → begun x n ≡ pick (flight x) n 0
unfolding flight begun pick
begun-by Idle n = refl
begun-by Awaited n = refl
begun-by Sdn n = refl
begun-by Check n = refl
begun-by ToSelf n = refl

pub odd-by : (x : Phase) (c : Core) (masters : List ℕ)
    → odd_in x c masters
    ≡ pick (flight x) (same (queue_of c.doing.served c).unconfirmed 0)
    (pick (checking x) (same (next_of masters c.ts.0) c.ts.0)
    (pick (selfing x) (pick (same (next_of masters c.ts.0) c.ts.0) false true) false))
unfolding flight checking selfing odd_in pick
odd-by Idle c masters = refl
odd-by Awaited c masters = refl
odd-by Sdn c masters = refl
odd-by Check c masters = refl
odd-by ToSelf c masters = refl

pub unlike-off : (x : Phase) (service : ℕ) → flight x ≡ false → unlike_in x service ≡ false
unfolding flight unlike_in
unlike-off Idle service e = refl
unlike-off Awaited service e = absurd (true≢false e)
unlike-off Sdn service e = absurd (true≢false e)
unlike-off Check service e = refl
unlike-off ToSelf service e = refl
