-- `hearing::idle::idle` meets its contract.
use Rattle.state.proofs.Refused.{calm-token}
use Rattle.state.proofs.Answers.{answering-answer}
use Rattle.hearing.proofs.idle.Standing.{stands-does, stands-says, heard-moved, heard-spoken}
use Rattle.hearing.proofs.idle.Frames.{idle-token, idle-frame, asked}
use Rattle.hearing.proofs.idle.idle.Goals as goal

pub answer-s-requires : goal.answer-s-requires
answer-s-requires c =
    asked c.requires.0 c.in-Frame.is c.responder-r.ensures c.requires.1

pub returns-in-Token : goal.returns-in-Token
returns-in-Token c =
    record {
      told = λ t.
          rw (idle-token _ _ _ _ _ _ c.in-Token.is)
          (stands-does _ _ _ _ _ _ (calm-token _ _ _ _) c.token-m.ensures (heard-moved _ _ _ _ c.moved.ensures));
    }

pub returns-in-Frame : goal.returns-in-Frame
returns-in-Frame c =
    record {
      told = λ t.
          rw (idle-frame _ _ _ _ _ _ c.in-Frame.is, ← c.responder-r.ensures)
          (stands-says _ _ _ (answering-answer _ _ _ _ _ _ _ _) c.answer-s.ensures.says
          c.answer-s.ensures.octets_after (heard-spoken _ _ _ _ c.spoken.ensures));
    }
