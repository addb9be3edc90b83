-- The refusal of reset, by the parts of a state and both lent rows. Assumes nothing.
use Rattle.std.specs.Prelude.{ℕ, List}
use Rattle.choice.specs.Choice.{pick, said}
use Rattle.state.specs.declared.Core.{Core}
use Rattle.state.specs.declared.Kept.{Kept}
use Rattle.state.specs.World.{Rows}
use Rattle.state.specs.Refusals.{unlent, lawless}

-- 21 for either row, 29 for the state; 0 is none
unfoldable pub refusal_of : Core → List ℕ → List ℕ → Kept → Rows → Rows → ℕ
refusal_of c masters started k high low =
    pick (said (unlent c.high high)) 21
    (pick (said (unlent c.low low)) 21
    (pick (said (lawless c masters started k)) 29
    0))
