-- What start answers, as a chain of its refusals. Assumes nothing.
use Rattle.state.proofs.Facts.{startable-ts}

pub ruleset start_facts = (startable-ts)
