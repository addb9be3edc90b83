-- What submit and collect decide by the parts of a state and the lent row, before a state is made of it. Assumes
-- nothing.
use Rattle.std.specs.Prelude.{ℕ, Bool, List}
use Rattle.choice.specs.Choice.{pick, same, said}
use Rattle.request.specs.declared.Record.{Record}
use Rattle.request.specs.Record.{limited}
use Rattle.queue.specs.Queue.{Taken}
use Rattle.queue.specs.Queue.{Collected}
use Rattle.queue.specs.Queue.{Refused}
use Rattle.queue.specs.Queue.{refuse}
use Rattle.rows.specs.Rows.{Left, left, submitted, handed}
use Rattle.state.specs.declared.Priority.{Priority}
use Rattle.state.specs.declared.Core.{Core}
use Rattle.state.specs.declared.Kept.{Kept}
use Rattle.state.specs.declared.State.{State}
use Rattle.state.specs.Told.{Accepted}
use Rattle.state.specs.World.{Rows, queue_of, with_queue, state_with}
use Rattle.state.specs.Refusals.{unlent, lawless}

-- 21 for the row, when it is not the queue's, 29 for the state; 0 is none
unfoldable pub refusal_of : Bool → Core → List ℕ → List ℕ → Kept → ℕ
refusal_of unfit c masters started k =
    pick (said unfit) 21
    (pick (said (lawless c masters started k)) 29
    0)

-- what the row's own submit says of the record with the limit that it goes by, unless that refuses; likewise of collect
unfoldable pub taking : Priority → Core → List ℕ → List ℕ → Kept → Record → List ℕ → Rows → Left Taken
taking p c masters started k r x w =
    pick (same (refusal_of (unlent (queue_of p c) w) c masters started k) 0)
    (submitted c.ts.0 (queue_of p c) (limited c.settings.retries.0 r) x w.row w.area)
    (left (refuse (refusal_of (unlent (queue_of p c) w) c masters started k) (queue_of p c) r) w.row w.area)

unfoldable pub handing : Priority → Core → List ℕ → List ℕ → Kept → Rows → Collected
handing p c masters started k w =
    pick (same (refusal_of (unlent (queue_of p c) w) c masters started k) 0)
    (handed (queue_of p c) w.row)
    (Refused (refusal_of (unlent (queue_of p c) w) c masters started k))

-- what submit answers by what was decided: the refusal, or the place, and the state with the queue
unfoldable pub accepted_for : Priority → Taken → State → Accepted
accepted_for p t s =
    pick (same t.refused 0)
    (record { refused = 0; state = state_with (with_queue p t.queue s.core) s; place = t.place })
    (record { refused = t.refused; state = s; place = 0 })
