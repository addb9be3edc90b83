-- What the C functions of a row hand over: answers as structs of numbers, and what each call leaves in the row and the
-- data area, all of it. Assumes nothing.
use Rattle.std.specs.Prelude.{ℕ, List, length, Result, Ok, Err}
use Rattle.choice.specs.Choice.{pick, less, same, said}
use Rattle.refusal.specs.declared.Refusal.{Refusal}
use Rattle.refusal.specs.Refusal.{number}
use Rattle.request.specs.declared.Record.{Record}
use Rattle.request.specs.Record.{SIZE, flag_octet, flagged}
use Rattle.queue.specs.declared.Queue.{Queue}
use Rattle.queue.specs.Queue.{Taken}
use Rattle.queue.specs.Queue.{Collected}
use Rattle.queue.specs.Queue.{Refused, Handed}
use Rattle.queue.specs.Queue.{AREA, misfit, overfull}
use Rattle.rows.specs.Rows.{Left, left, submitted, confirm, drain, handed, sound}
use Rattle.test_parts.specs.declared.row_calls.FlatQueue.{FlatQueue}
use Rattle.test_parts.specs.declared.row_calls.FlatCollected.{FlatCollected}

-- the queue and the request that numbers mean
abbrev pub queue_from : ℕ → ℕ → ℕ → ℕ → Queue
queue_from places first confirmed unconfirmed =
    record { places = places; first = first; confirmed = confirmed; unconfirmed = unconfirmed }

abbrev pub request_from : ℕ → ℕ → ℕ → ℕ → ℕ → ℕ → ℕ → Record
request_from service destination to from reference limit asks =
    record {
      service = service;
      destination = record { 0 = destination };
      to = record { 0 = to };
      from = record { 0 = from };
      length = 0;
      status = 0;
      count = 0;
      reference = reference;
      limit = limit;
      asks = flagged asks;
    }

-- ---- answers
unfoldable pub flat_queue : ℕ → Queue → FlatQueue
flat_queue n q =
    record { refused = n; place = 0; first = q.first; confirmed = q.confirmed; unconfirmed = q.unconfirmed }

-- the answer of a call that was refused or makes a queue
unfoldable pub answered : Queue → Result Queue Refusal → FlatQueue
answered q (Ok made) = flat_queue 0 made
answered q (Err e) = flat_queue (number e) q

unfoldable pub flat_taken : Taken → FlatQueue
flat_taken t =
    record {
      refused = t.refused;
      place = t.place;
      first = t.queue.first;
      confirmed = t.queue.confirmed;
      unconfirmed = t.queue.unconfirmed;
    }

unfoldable pub flat_collected : Queue → Collected → FlatCollected
flat_collected q (Refused n) =
    record {
      refused = n;
      place = 0;
      service = 0;
      destination = 0;
      to = 0;
      from = 0;
      length = 0;
      status = 0;
      count = 0;
      limit = 0;
      asks = 0;
      first = q.first;
      confirmed = q.confirmed;
      unconfirmed = q.unconfirmed;
      reference = 0;
    }
flat_collected q (Handed place r rest) =
    record {
      refused = 0;
      place = place;
      service = r.service;
      destination = r.destination.0;
      to = r.to.0;
      from = r.from.0;
      length = r.length;
      status = r.status;
      count = r.count;
      limit = r.limit;
      asks = flag_octet r.asks;
      first = rest.first;
      confirmed = rest.confirmed;
      unconfirmed = rest.unconfirmed;
      reference = r.reference;
    }

-- 21 and 29 of a queue, by the lengths of its row and data area
unfoldable pub unlent : Queue → ℕ → ℕ → ℕ
unlent q row area = pick (said (misfit q SIZE row area)) 21 (pick (said (overfull q)) 29 0)

-- what submit leaves, with its answer in numbers
unfoldable pub flat_submitted : Left Taken → Left FlatQueue
flat_submitted w = left (flat_taken w.answer) w.row w.area

-- 21 and 29 of the queue, then 23 to 26, 30 and 27; refused, all is as it was
unfoldable pub submits : ℕ → Queue → Record → List ℕ → List ℕ → List ℕ → Left FlatQueue
submits ts q r x row area =
    pick (same (unlent q (length row) (length area)) 0)
    (flat_submitted (submitted ts q r x row area))
    (left (flat_queue (unlent q (length row) (length area)) q) row area)

-- what a confirmation leaves, with its answer in numbers; refused, all is as it was: 28 is given for none
-- unconfirmed, 26 for data over 246
unfoldable pub flat_confirmed : Left Queue → Left FlatQueue
flat_confirmed w = left (flat_queue 0 w.answer) w.row w.area

unfoldable pub confirms : Queue → ℕ → ℕ → List ℕ → List ℕ → List ℕ → Left FlatQueue
confirms q status count x row area =
    pick (same (unlent q (length row) (length area)) 0)
    (pick (same q.unconfirmed 0) (left (flat_queue 28 q) row area)
    (pick (less AREA (length x)) (left (flat_queue 26 q) row area)
    (flat_confirmed (confirm q status count x row area))))
    (left (flat_queue (unlent q (length row) (length area)) q) row area)

unfoldable pub drains : Queue → ℕ → List ℕ → List ℕ → Left FlatQueue
drains q count row area =
    pick (same (unlent q (length row) (length area)) 0)
    (flat_confirmed (drain q.unconfirmed count (left q row area)))
    (left (flat_queue (unlent q (length row) (length area)) q) row area)

-- 21 and 29 of the queue, then 28 and 29
unfoldable pub collects : Queue → List ℕ → List ℕ → FlatCollected
collects q row area =
    pick (same (unlent q (length row) (length area)) 0)
    (flat_collected q (handed q row))
    (flat_collected q (Refused (unlent q (length row) (length area))))

-- 29 is also given for an unconfirmed record that submit would refuse
unfoldable pub sounds : ℕ → Queue → List ℕ → List ℕ → ℕ
sounds ts q row area =
    pick (same (unlent q (length row) (length area)) 0)
    (pick (said (sound ts q row q.unconfirmed)) 0 29)
    (unlent q (length row) (length area))
