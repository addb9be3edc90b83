-- The desk where the arrays of its rows are lent as one. Assumes nothing.
use Rattle.std.specs.Prelude.{List, ℕ}
use Rattle.state.specs.declared.Rows.{Rows}
use Rattle.desk.specs.declared.Held.{Held}
use Rattle.desk.specs.declared.Said.{Said}
use Rattle.desk.specs.Desk.{Desk, Answered, Arrays, Answers, desk_of}

abbrev pub ArraysIn : Rows → List ℕ → Type 0
ArraysIn l text = Arrays l.high.now l.high_area.now l.low.now l.low_area.now text

abbrev pub desk_in : Held → Rows → Desk
desk_in h l = desk_of h l.high.now l.high_area.now l.low.now l.low_area.now

abbrev pub AnswersIn : Answered → Rows → List ℕ → Said → Rows → List ℕ → Type 0
AnswersIn a l text r m text' =
    Answers a l.high.now l.high_area.now l.low.now l.low_area.now text r m.high.now m.high_area.now m.low.now
    m.low_area.now text'
