-- The definitions are shut; here each layer of them is opened by one name, for the cases that compute with it. Assumes
-- nothing.
use mathlib.Core.Bool.{Bool, true}
use Rattle.choice.specs.Choice as Choice
use Rattle.control.specs.Control as Control
use Rattle.frame.specs.Access as Access
use Rattle.frame.specs.Format as Format
use Rattle.frame.specs.Reading as Reading
use Rattle.clock.specs.Clock as Clock
use Rattle.times.specs.Times as Times
use Rattle.ring.specs.Ring as Ring
use Rattle.laid.specs.Laid as Laid
use Rattle.request.specs.Record as Record
use Rattle.queue.specs.Queue as Queue
use Rattle.rows.specs.Rows as Rows
use Rattle.state.specs.World as World
use Rattle.state.specs.Request as Request
use Rattle.state.specs.Pass as Pass
use Rattle.state.specs.Hold as Hold
use Rattle.state.specs.Answering as Answering
use Rattle.state.specs.Refusals as Refusals
use Rattle.state.specs.Calls as Calls
use Rattle.state.specs.Runs as Runs
use Rattle.state.specs.Twelve as Twelve

-- tests
unfoldable pub tests : Bool
unfolding Choice.pick Choice.less Choice.same Choice.said
tests = true

-- frames, as written and as read
unfoldable pub frames : Bool
unfolding tests Control.service_of Control.code_of Control.type_of Control.bit Control.fc Control.control_of
    Control.lawful Control.listed Control.sdn Format.sum Format.fcs Format.announce Format.extension Format.unit
    Format.addressed Format.body Format.closing Format.sd1 Format.sd2 Format.framed Format.octets Format.outside
    Format.misdirected Format.unwritable_token Format.unwritable_frame Format.unwritable Reading.extensions
    Reading.access_of Reading.data_at Reading.head_of Reading.extended Reading.misnamed Reading.body_refusal Reading.answer
    Reading.body_answer Reading.read_body Reading.mismeasured Reading.read_sd2 Reading.plain Reading.read_token
    Reading.read_short Reading.read Reading.shown Twelve.reading_of Twelve.reading
frames = true

-- times
unfoldable pub times : Bool
unfolding tests Clock.elapsed Clock.time_left Times.outside Times.tsm Times.tid1 Times.tid2 Times.tsl Times.tto
    Times.too_long Times.unruly_delays Times.unruly Times.times_of Times.reckoned Times.wait_of Times.standard
times = true

-- the ring, and rows of records
unfoldable pub rows : Bool
unfolding tests Ring.member Ring.on Ring.seek Ring.next_of Ring.previous_of Ring.enter Laid.laid Record.named
    Access.access_of Access.point_of Record.reference_octets Record.reference_at Record.flag_octet Record.flagged
    Record.octets Record.record_at Record.limited Record.misaddressed Record.beyond Record.mispointed Record.unserved
    Record.extensions Record.overlong Record.overlimit Record.unfit Queue.place Queue.unlike Queue.misfit Queue.above
    Queue.overfull Queue.closed Queue.grown Queue.refuse Queue.take Queue.taken Queue.current Queue.confirmed Queue.freed
    Queue.collected Rows.at Rows.content Rows.put Rows.fill Rows.stored Rows.submitted Rows.confirm Rows.handed
    Rows.sound
rows = true

-- the acts of a station
unfoldable pub acts : Bool
unfolding frames times rows World.done World.and_then World.with_doing World.with_hold World.with_stranger World.with_queue
    World.queue_of World.with_core World.with_marks World.rows_of World.with_rows World.with_site World.with_memory
    World.world_of World.state_of Request.fcb_of Request.fcv_of Request.service_of Request.control_for Request.head_for
    Request.record_in Request.data_in Request.octets_in Request.record_of Request.after_last Request.wait_for Request.sending
    Request.send_core Request.send_events Request.send Request.once Request.again_events Request.again_of Request.again
    Request.status_of Request.marks_after Request.close_of Request.close Request.judged Pass.ns Pass.token_to Pass.passing
    Pass.pass_core Pass.pass_events Pass.pass Hold.left Hold.choice Hold.finish Hold.chosen Hold.choose Hold.accepting
    Hold.resting Hold.rest Hold.beginning Hold.begin Hold.token Hold.ended Hold.retry Hold.concluded Answering.active
    Answering.reserved Answering.new Answering.new_srd Answering.new_answer Answering.reply_head Answering.carries
    Answering.reply_octets Answering.repeated Answering.answered Answering.shows Answering.replies Answering.status_events
    Answering.answer_new Answering.answer_counted Answering.asks Answering.answer_as Answering.answer_to Answering.answer
acts = true

-- its calls
unfoldable pub calls : Bool
unfolding acts Refusals.unstartable Refusals.unlent Refusals.cramped Refusals.unstarted Refusals.misaddressed
    Refusals.overcounted Refusals.odd_in Refusals.lawless Refusals.sound_in Refusals.unlike_in Refusals.row_by
    Refusals.in_flight Refusals.unsound Refusals.refusal_in Refusals.refusal Calls.called Calls.replying Calls.empty_queue
    Calls.first_hold Calls.forgotten Calls.fresh_core Calls.fresh_world Calls.start Calls.submitting Calls.submit
    Calls.collecting Calls.collect Calls.responder Calls.idle Calls.idle_read Calls.awaited_read Calls.heard Calls.frame
    Calls.slot_in
    Calls.slot Runs.call Runs.run
calls = true

-- and the tables of the cases that call it
unfoldable pub stations : Bool
unfolding calls Twelve.calls Twelve.expected Twelve.in_row Twelve.told Twelve.ring Twelve.station Twelve.eleven
    Twelve.retrying Twelve.twelve Twelve.handed Twelve.replied Twelve.acknowledged
stations = true
