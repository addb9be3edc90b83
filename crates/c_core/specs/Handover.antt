-- What a station's calls take and hand over at the C boundary: a state from numbers and lent arrays, and each answer
-- as a struct of numbers. "The call returns the number and the state it was given": where a call is refused, the core
-- handed over is the one it was given. Assumes nothing.
use Rattle.std.specs.Prelude.{ℕ, Bool, true, false, List}
use Rattle.choice.specs.Choice.{pick, same}
use Rattle.request.specs.declared.Record.{Record}
use Rattle.request.specs.Record.{WAITING, flag_octet, flagged}
use Rattle.state.specs.declared.Priority.{Priority}
use Rattle.state.specs.declared.Core.{Core}
use Rattle.state.specs.declared.Kept.{Kept}
use Rattle.state.specs.declared.State.{State}
use Rattle.state.specs.Told.{Accepted}
use Rattle.state.specs.Told.{HandedBack}
use Rattle.state.specs.Told.{Renewed}
use Rattle.state.specs.Told.{Heard}
use Rattle.state.specs.World.{Rows, Called, rows_of}
use Rattle.state.specs.Told.{Leaves, Stands, accepted_of, handed_back_of}
use Rattle.c_core.specs.declared.numbers.Numbers.{Numbers}
use Rattle.c_core.specs.Numbers.{core_in, kept_in, numbers_of, indication_of}
use Rattle.c_core.specs.declared.handover.FlatAccepted.{FlatAccepted}
use Rattle.c_core.specs.declared.handover.FlatCollected.{FlatCollected}
use Rattle.c_core.specs.declared.handover.FlatRenewed.{FlatRenewed}
use Rattle.c_core.specs.declared.handover.FlatAnswer.{FlatAnswer}

-- ---- what a call takes
-- the state, the request and the room that numbers mean
unfoldable pub state_in : Numbers → List ℕ → List ℕ → List ℕ → List ℕ → List ℕ → State
state_in n masters started marks points octets =
    record {
      core = core_in n;
      masters = record { 0 = masters };
      started = record { 0 = started };
      marks = record { 0 = marks };
      points = record { 0 = points };
      memory = record { kept = kept_in n; octets = octets };
    }

unfoldable pub request_from : ℕ → ℕ → ℕ → ℕ → ℕ → ℕ → ℕ → Record
request_from service destination to from reference limit asks =
    record {
      service = service;
      destination = record { 0 = destination };
      to = record { 0 = to };
      from = record { 0 = from };
      length = 0;
      status = WAITING;
      count = 0;
      reference = reference;
      limit = limit;
      asks = flagged asks;
    }

unfoldable pub room_of : ℕ → Bool
room_of n = pick (same n 0) false true

-- ---- what a call hands over
unfoldable pub numbers_after : Numbers → ℕ → Core → Kept → Numbers
numbers_after n refused c k = pick (same refused 0) (numbers_of c k) n

unfoldable pub flat_accepted : Numbers → Accepted → FlatAccepted
flat_accepted n a =
    record {
      refused = a.refused;
      place = a.place;
      core = numbers_after n a.refused a.state.core a.state.memory.kept;
    }

unfoldable pub flat_collected : Numbers → HandedBack → FlatCollected
flat_collected n a =
    record {
      refused = a.refused;
      place = a.place;
      service = a.entry.service;
      destination = a.entry.destination.0;
      to = a.entry.to.0;
      from = a.entry.from.0;
      length = a.entry.length;
      status = a.entry.status;
      count = a.entry.count;
      limit = a.entry.limit;
      asks = flag_octet a.entry.asks;
      reference = a.entry.reference;
      core = numbers_after n a.refused a.state.core a.state.memory.kept;
    }

unfoldable pub flat_renewed : Numbers → Renewed → FlatRenewed
flat_renewed n a =
    record { refused = a.refused; core = numbers_after n a.refused a.state.core a.state.memory.kept }

-- start is given no core: where it refuses, that of the blank state
unfoldable pub flat_started : Renewed → FlatRenewed
flat_started a = record { refused = a.refused; core = numbers_of a.state.core a.state.memory.kept }

unfoldable pub flat_answer : Numbers → Heard → FlatAnswer
flat_answer n a =
    record {
      refused = a.refused;
      wait = a.wait.0;
      length = a.length;
      indication = indication_of a.indication;
      core = numbers_after n a.refused a.core a.kept;
    }

-- ---- an answer with all that the call leaves in what was lent
-- of submit and collect: the arrays, and one queue's row and data area
pub record Lodged (A : Type 0) : Type 0 where
  pub answer : A
  pub masters : List ℕ
  pub started : List ℕ
  pub marks : List ℕ
  pub points : List ℕ
  pub octets : List ℕ
  pub row : List ℕ
  pub area : List ℕ

abbrev pub lodged : {A : Type 0} → A → List ℕ → List ℕ → List ℕ → List ℕ → List ℕ → List ℕ → List ℕ → Lodged A
lodged a masters started marks points octets row area =
    record {
      answer = a;
      masters = masters;
      started = started;
      marks = marks;
      points = points;
      octets = octets;
      row = row;
      area = area;
    }

unfoldable pub lodging : {A : Type 0} → Priority → A → Called → Lodged A
lodging p a d =
    lodged a d.world.site.masters d.world.started d.world.site.marks d.world.points
    d.world.memory.octets (rows_of p d.world.site).row (rows_of p d.world.site).area

unfoldable pub submitting : Numbers → Priority → Called → Lodged FlatAccepted
submitting n p d = lodging p (flat_accepted n (accepted_of d)) d

unfoldable pub collecting : Numbers → Priority → Called → Lodged FlatCollected
collecting n p d = lodging p (flat_collected n (handed_back_of d)) d

-- of the others: the arrays, both rows with their data areas, and the output
pub record Held (A : Type 0) : Type 0 where
  pub answer : A
  pub masters : List ℕ
  pub started : List ℕ
  pub marks : List ℕ
  pub points : List ℕ
  pub octets : List ℕ
  pub high : Rows
  pub low : Rows
  pub out : List ℕ

abbrev pub held : {A : Type 0} → A → List ℕ → List ℕ → List ℕ → List ℕ → List ℕ → Rows → Rows → List ℕ → Held A
held a masters started marks points octets high low out =
    record {
      answer = a;
      masters = masters;
      started = started;
      marks = marks;
      points = points;
      octets = octets;
      high = high;
      low = low;
      out = out;
    }

unfoldable pub holding : Numbers → Stands → Held FlatAnswer
holding n s =
    held (flat_answer n s.answer) s.masters s.started s.marks s.points s.octets s.high s.low
    s.out

unfoldable pub resetting : Numbers → Leaves Renewed → Held FlatRenewed
resetting n l =
    held (flat_renewed n l.answer) l.answer.state.masters.0 l.answer.state.started.0
    l.answer.state.marks.0 l.answer.state.points.0 l.answer.state.memory.octets l.high l.low
    l.out

-- of start: the arrays; a refused one leaves those that it fills
pub record Filled : Type 0 where
  pub answer : FlatRenewed
  pub masters : List ℕ
  pub started : List ℕ
  pub marks : List ℕ
  pub points : List ℕ
  pub octets : List ℕ

abbrev pub filled : FlatRenewed → List ℕ → List ℕ → List ℕ → List ℕ → List ℕ → Filled
filled a masters started marks points octets =
    record { answer = a; masters = masters; started = started; marks = marks; points = points; octets = octets }

unfoldable pub starting : Renewed → List ℕ → List ℕ → List ℕ → List ℕ → List ℕ → Filled
starting a masters started marks points octets =
    pick (same a.refused 0)
    (filled (flat_started a) a.state.masters.0 a.state.started.0 a.state.marks.0 a.state.points.0
    a.state.memory.octets)
    (filled (flat_started a) masters started marks points octets)
