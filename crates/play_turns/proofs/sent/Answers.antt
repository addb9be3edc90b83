-- `play_turns::sent` meets its contract: what the call told, and its line.
use Rattle.printed_lines.proofs.saying.Tells.{says-told}
use Rattle.play_turns.proofs.sent.Goals as goal

pub returns-clause-played : goal.returns-clause-played
returns-clause-played c =
    says-told _ _ _ _ c.sent-a.ensures.told c.told.ensures.state_value c.told.ensures.lays
