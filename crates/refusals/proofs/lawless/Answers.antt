-- `refusals::lawless` meets its contract: TS of a state that was started is an address.
use native.Mathlib.Omega.{arith}
use Rattle.state.proofs.Facts.{startable-ts, started-startable}
use Rattle.refusals.proofs.lawless.Goals as goal

pub odd-requires : goal.odd-requires
odd-requires c = grind (arith, startable-ts, started-startable)
