-- What is known of a request that is being sent, where nothing is refused. Assumes nothing.
use Rattle.std.specs.Prelude.{◌<◌, ◌≡◌}
use Rattle.state.specs.declared.Core.{Core}
use Rattle.state.specs.declared.Phase.TheVariants.{Awaited, Sdn}
use Rattle.state.specs.World.{queue_of}

-- it is in the queue being served
pub record Underway (c : Core) : Type 0 where
  pub awaited : c.doing.phase ≡ Awaited → 0 < (queue_of c.doing.served c).unconfirmed
  pub sdn : c.doing.phase ≡ Sdn → 0 < (queue_of c.doing.served c).unconfirmed
