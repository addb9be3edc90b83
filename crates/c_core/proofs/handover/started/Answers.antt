-- `c_core::handover::started` meets its contract.
use mathlib.Core.Path.{◌∙◌}
use Rattle.state.specs.Told.{blank}
use Rattle.c_core.proofs.handover.Standing.{started-renewed}
use Rattle.c_core.proofs.handover.started.Goals as goal

pub returns : goal.returns
returns c = c.renewed.ensures blank ∙ started-renewed _ _ c.blank.ensures
