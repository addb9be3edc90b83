-- Document 01, "Requests": the octets of a request, its mark, its repeats, what is a plausible reply, and its
-- confirmation. Assumes nothing.
use Rattle.std.specs.Prelude.{ℕ, ◌+◌, Bool, true, false, List, [], ◌∷◌, get_or, set}
use Rattle.choice.specs.Choice.{pick, less, same, said}
use Rattle.control.specs.declared.Service.{Service}
use Rattle.control.specs.declared.Service.TheVariants.{SdaLow, SdnLow, SdaHigh, SdnHigh, SrdLow, SrdHigh}
use Rattle.control.specs.declared.Code.{Code}
use Rattle.control.specs.declared.Code.TheVariants.{Ok, Ue, Rr, Rs, Dl, Nr, Dh, Rdl, Rdh}
use Rattle.control.specs.declared.Control.{Control}
use Rattle.control.specs.declared.Control.TheVariants.{Request, Reply}
use Rattle.control.specs.Control.{code_number}
use Rattle.frame.specs.declared.Address.{Address}
use Rattle.frame.specs.declared.Head.{Head}
use Rattle.frame.specs.declared.Fields.{Fields}
use Rattle.frame.specs.declared.Fields.TheVariants.{Token, Short, Frame}
use Rattle.frame.specs.Access.{access_of, point_of}
use Rattle.frame.specs.Format.{octets}
use Rattle.request.specs.declared.Record.{Record}
use Rattle.request.specs.Record.{SDA, SDN, NA, OK}
use Rattle.queue.specs.declared.Queue.{Queue}
use Rattle.queue.specs.Queue.{current}
use Rattle.rows.specs.Rows.{Left, at, content, confirm}
use Rattle.state.specs.declared.Phase.TheVariants.{Awaited, Sdn}
use Rattle.state.specs.declared.Priority.{Priority}
use Rattle.state.specs.declared.Priority.TheVariants.{High, Low}
use Rattle.state.specs.declared.Doing.{Doing}
use Rattle.state.specs.declared.Core.{Core}
use Rattle.state.specs.declared.Outcome.{Outcome}
use Rattle.state.specs.declared.Outcome.TheVariants.{Replied, Lost, Gone}
use Rattle.state.specs.declared.Verdict.{Verdict}
use Rattle.state.specs.declared.Verdict.TheVariants.{Plausible, Vain, Foreign}
use Rattle.times.specs.declared.Sending.{Sending}
use Rattle.times.specs.declared.Sending.TheVariants.{AfterSdn, Other}
use Rattle.times.specs.Times.{wait_of}
use Rattle.state.specs.World.{Site, Rows, Event, Done, a_request, sends, confirmed, done, with_doing, with_queue}
use Rattle.state.specs.World.{queue_of, with_core, with_marks, rows_of, with_rows}

-- ---- the mark of an address: "unknown, or the next bit"
abbrev pub UNKNOWN : ℕ
UNKNOWN = 2

abbrev pub mark_of : List ℕ → ℕ → ℕ
mark_of l a = get_or l a 0

-- "SDA and SRD to an unknown address go with FCB 1, FCV 0 .. Otherwise FCV 1 with the next bit"; a mark that is no bit
-- counts as unknown
unfoldable pub fcb_of : ℕ → Bool
fcb_of m = pick (same m 0) false true

unfoldable pub fcv_of : ℕ → Bool
fcv_of m = pick (less m 2) true false

-- "a plausible reply makes the next bit 0", and of a known one "turns over"
unfoldable pub turned : ℕ → ℕ
turned m = pick (same m 0) 1 0

-- ---- the request that a record makes
-- its service, by the queue it stands in
unfoldable pub service_of : Priority → ℕ → Service
service_of High s = pick (same s SDA) SdaHigh (pick (same s SDN) SdnHigh SrdHigh)
service_of Low s = pick (same s SDA) SdaLow (pick (same s SDN) SdnLow SrdLow)

-- "SDN goes with 0, 0"
unfoldable pub control_for : Priority → ℕ → ℕ → Control
control_for p s m =
    pick (same s SDN) (Request (service_of p s) false false) (Request (service_of p s) (fcb_of m) (fcv_of m))

unfoldable pub head_for : Address → Priority → Record → ℕ → Head
head_for ts p r m =
    record {
      destination = r.destination;
      to = access_of r.to.0;
      source = ts;
      from = access_of r.from.0;
      control = control_for p r.service m;
    }

-- the record of a queue's first unconfirmed request, its data, and its octets with the mark of its destination
unfoldable pub record_in : Queue → Rows → Record
record_in q r = at r.row (current q)

unfoldable pub data_in : Queue → Rows → List ℕ
data_in q r = content r.area (current q) (record_in q r).length

unfoldable pub octets_in : Address → Priority → Queue → List ℕ → Rows → List ℕ
octets_in ts p q marks r =
    octets (Frame (head_for ts p (record_in q r) (mark_of marks (record_in q r).destination.0))) (data_in q r)

unfoldable pub record_of : Priority → Site → Record
record_of p s = record_in (queue_of p s.core) (rows_of p s)

-- ---- waits
-- "Tid2 before a request or token if this station's last sending in the hold was an SDN, Tid1 before others"
unfoldable pub after_last : Core → Sending
after_last c = pick c.doing.sdn AfterSdn Other

unfoldable pub wait_for : Core → Sending → ℕ
wait_for c s = wait_of c.settings s

-- ---- acts
-- a queue's first unconfirmed request is sent for the first time
unfoldable pub sending : Priority → ℕ → Doing
sending p service =
    pick (same service SDN)
    (record { phase = Sdn; served = p; sendings = 1; sdn = true })
    (record { phase = Awaited; served = p; sendings = 1; sdn = false })

unfoldable pub send_core : Priority → Core → Rows → Core
send_core p c r = with_doing (sending p (record_in (queue_of p c) r).service) c

unfoldable pub send_events : Priority → Core → List ℕ → Rows → List Event
send_events p c marks r =
    sends (a_request p (current (queue_of p c))) (octets_in c.ts p (queue_of p c) marks r) (wait_for c (after_last c)) ∷ []

unfoldable pub send : Priority → Site → Done
send p s = done (with_core (send_core p s.core (rows_of p s)) s) (send_events p s.core s.marks (rows_of p s))

-- "the same octets again"
unfoldable pub once : Doing → Doing
once d = record { phase = d.phase; served = d.served; sendings = d.sendings + 1; sdn = d.sdn }

unfoldable pub again_events : Priority → Core → List ℕ → Rows → List Event
again_events p c marks r =
    sends (a_request p (current (queue_of p c))) (octets_in c.ts p (queue_of p c) marks r) (wait_for c Other) ∷ []

unfoldable pub again_of : Priority → Site → Done
again_of p s =
    done (with_core (with_doing (once s.core.doing) s.core) s) (again_events p s.core s.marks (rows_of p s))

unfoldable pub again : Site → Done
again s = again_of s.core.doing.served s

-- the request being sent is confirmed: with a plausible reply's status, NA when it is lost, OK when an SDN went out;
-- "each confirmation carries the count of sendings"
unfoldable pub status_of : Outcome → ℕ
status_of (Replied n) = n
status_of Lost = NA
status_of Gone = OK

-- what that makes of the mark of its destination: "a plausible reply .. turns over", "then confirmation NA and the mark
-- unknown", and an SDN leaves it
unfoldable pub marks_after : Outcome → ℕ → List ℕ → List ℕ
marks_after (Replied n) a l = set l a (turned (mark_of l a))
marks_after Lost a l = set l a UNKNOWN
marks_after Gone a l = l

unfoldable pub close_of : Priority → Outcome → List ℕ → Site → Done
close_of p o x s =
    let q : Queue = queue_of p s.core in
    let l : Left Queue = confirm q (status_of o) s.core.doing.sendings x (rows_of p s).row (rows_of p s).area in
    done
    (with_rows p (record { row = l.row; area = l.area })
    (with_marks (marks_after o (record_of p s).destination.0 s.marks)
    (with_core (with_queue p l.answer s.core) s)))
    (confirmed p (current q) (status_of o) s.core.doing.sendings ∷ [])

unfoldable pub close : Outcome → List ℕ → Site → Done
close o x s = close_of s.core.doing.served o x s

-- ---- replies
-- "access points swapped"
unfoldable pub swapped : Record → Head → Bool
swapped r h = pick (same (point_of h.to) r.from.0) (pick (same (point_of h.from) r.to.0) true false) false

-- "a reply to TS from the destination"
unfoldable pub returned : ℕ → Record → Head → Bool
returned ts r h =
    pick (same h.destination.0 ts) (pick (same h.source.0 r.destination.0) (swapped r h) false) false

-- "codes OK, UE, RR, RS without data for SDA, codes UE, RR, RS, NR without data or DL, DH, RDL, RDH with data for SRD"
unfoldable pub answers_sda : Code → ℕ → Bool
answers_sda Ok n = same n 0
answers_sda Ue n = same n 0
answers_sda Rr n = same n 0
answers_sda Rs n = same n 0
answers_sda Dl n = false
answers_sda Nr n = false
answers_sda Dh n = false
answers_sda Rdl n = false
answers_sda Rdh n = false

unfoldable pub answers_srd : Code → ℕ → Bool
answers_srd Ok n = false
answers_srd Ue n = same n 0
answers_srd Rr n = same n 0
answers_srd Rs n = same n 0
answers_srd Dl n = less 0 n
answers_srd Nr n = same n 0
answers_srd Dh n = less 0 n
answers_srd Rdl n = less 0 n
answers_srd Rdh n = less 0 n

unfoldable pub answers : ℕ → Code → ℕ → Bool
answers service k n = pick (same service SDA) (answers_sda k n) (answers_srd k n)

-- what a good frame with n octets of data is to a request: a plausible reply with its status, a reply in vain, or a
-- request or token
unfoldable pub judged_by : ℕ → Record → Head → ℕ → Control → Verdict
judged_by ts r h n (Request s b v) = Foreign
judged_by ts r h n (Reply k c) =
    pick (said (returned ts r h)) (pick (said (answers r.service c n)) (Plausible (code_number c)) Vain) Vain

unfoldable pub judged : ℕ → Record → Fields → ℕ → Verdict
judged ts r (Token d s) n = Foreign
judged ts r Short n = Plausible (pick (same r.service SDA) (code_number Ok) (code_number Nr))
judged ts r (Frame h) n = judged_by ts r h n h.control
