-- `refusals::unstarted` meets its contract: TS of settings that start takes is an address.
use native.Mathlib.Omega.{arith}
use Rattle.state.proofs.Facts.{startable-ts}
use Rattle.refusals.proofs.unstarted.Goals as goal

pub member-requires : goal.member-requires
member-requires c = grind (arith, startable-ts)
