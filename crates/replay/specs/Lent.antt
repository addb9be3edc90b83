-- What the program's functions hand each other where the arrays of the rows are lent as one.
use Rattle.std.specs.Prelude.{List, ℕ}
use Rattle.state.specs.declared.Rows.{Rows}
use Rattle.replay.specs.declared.Pending.{Pending}
use Rattle.replay.specs.Replay.{Ready}
use Rattle.replay.specs.Script.{Stand, stand}

abbrev pub ReadyIn : Pending → List ℕ → Rows → List ℕ → Type 0
ReadyIn p line l text = Ready p.held p.count line l.high.now l.high_area.now l.low.now l.low_area.now text

abbrev pub stand_in : Pending → List ℕ → Rows → Stand
stand_in p line l = stand p.held p.count line l.high.now l.high_area.now l.low.now l.low_area.now
