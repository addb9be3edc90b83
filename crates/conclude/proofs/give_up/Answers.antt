-- `conclude::give_up` meets its contract.
use mathlib.Core.Path.{refl}
use Rattle.conclude.proofs.Ending.{does-given-up, does-over}
use Rattle.conclude.proofs.give_up.Goals as goal

pub returns-clause-does : goal.returns-clause-does
returns-clause-does c =
    does-given-up c.close-core.ensures.closes
    (does-over _ _ _ _ _ _ (cc (c.with_doing.ensures, c.resting.ensures)) refl refl)
