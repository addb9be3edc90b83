-- `play_turns::frame` meets its contract: what the call told, and its line.
use Rattle.printed_lines.proofs.saying.Tells.{says-told}
use Rattle.play_turns.proofs.frame.Goals as goal

pub returns-clause-played : goal.returns-clause-played
returns-clause-played c =
    says-told _ _ _ _ c.frame-a.ensures.told c.told.ensures.state_value c.told.ensures.lays
