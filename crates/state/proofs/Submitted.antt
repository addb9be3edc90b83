-- A request carries what was submitted: from its acceptance until its record is collected, its sendings have the
-- octets of the submitted record and data, and the record at its place, and the one handed back, are of it. Assumes
-- nothing.
use Prim.Native.Nat.{ℕ}
use mathlib.Core.Bool.{true}
use mathlib.Core.Path.{◌≡◌}
use mathlib.Core.List.{List, [], ◌∷◌, ◌++◌}
use lib.ListN.{length}
use Rattle.request.specs.declared.Record.{Record}
use Rattle.request.specs.Record.{unfit, limited}
use Rattle.queue.specs.Queue as Q
use Rattle.rows.specs.Rows.{at}
use Rattle.state.specs.declared.Priority.{Priority}
use Rattle.state.specs.World.{World, Event, a_request, accepted, sends, collected, rows_of}
use Rattle.state.specs.Runs.{Call, call, run, Begun}
use Rattle.state.specs.Runs.Call.{submit}
use Rattle.state.specs.Submitted.{Carries, Reads, Of, Lies, confirms, collects, never}
use Rattle.state.proofs.Order.{Orderly}
use Rattle.state.proofs.Ordered.{call-orderly, run-orderly}
use Rattle.state.proofs.Start.{begun-orderly}
use Rattle.state.proofs.Effects.{queue_at, rows_at, rows-by}
use Rattle.state.proofs.Lasting.{filed-at, lasts-run, lasts-met}
use Rattle.state.proofs.Entries.{Open}
use Rattle.state.proofs.Staying.{Asks, asked-sent, asked-collected, waits, pending, held_of, holds}
use Rattle.state.proofs.Writable.{reads}
use Rattle.state.proofs.Submission.{submission}
use Rattle.state.proofs.Entering.{entered}

-- ---- the theorems: after a start and any calls, a request is submitted to the queue p with the record r and the
-- data x, and accepted at place n; then come any calls
module _ (w : World) (b : Begun w) (before : List Call) (p : Priority) (r : Record) (x : List ℕ) (n : ℕ)
    (e : (call (submit p r x) (run before w).world).events ≡ accepted p n ∷ []) (after : List Call) where
  abbrev pub then : World
  then = (call (submit p r x) (run before w).world).world

  pub orderly : Orderly b.settings b.ts (run before w).world
  orderly = run-orderly b.settings b.ts before w (begun-orderly w b)

  pub orderly-then : Orderly b.settings b.ts then
  orderly-then = call-orderly b.settings b.ts (submit p r x) (run before w).world orderly

  -- the station's retry limit, and the record as it was taken
  abbrev pub limit : ℕ
  limit = b.settings.retries.0

  abbrev pub kept : Record
  kept = limited limit r

  pub accepted-there : Open n kept x (queue_at p then.site) (rows_at p then.site) × (unfit b.ts kept (length x) ≡ 0)
  accepted-there =
      let a = entered n (filed-at b.settings b.ts p (run before w).world.site orderly.firm)
      (submission p r x (run before w).world) e in
      rw (orderly.firm.station, orderly.firm.settings) at a

  asked : (earlier later : List Event) (f : Event) → (run after then).events ≡ earlier ++ (f ∷ later)
      → never (collects p n) earlier ≡ true → Asks p n (Carries b.ts limit p r x) (Of limit r) f
  asked earlier later f i j =
      lasts-met b.settings b.ts orderly-then.small p (holds p n b.ts limit r x accepted-there.1) after then
      orderly-then (pending accepted-there.0) earlier later f i j

  -- until its record is collected, each sending of the request at that place carries what was submitted
  pub sent-as-submitted : (earlier later : List Event) (o : List ℕ) (t : ℕ)
      → (run after then).events ≡ earlier ++ (sends (a_request p n) o t ∷ later) → never (collects p n) earlier ≡ true
      → Carries b.ts limit p r x o
  sent-as-submitted earlier later o t i j =
      asked-sent p n _ _ o t (asked earlier later (sends (a_request p n) o t) i j)

  -- and a reader takes the octets for the frame that was meant
  pub read-as-submitted : (earlier later : List Event) (o : List ℕ) (t : ℕ)
      → (run after then).events ≡ earlier ++ (sends (a_request p n) o t ∷ later) → never (collects p n) earlier ≡ true
      → Reads b.ts p r x o
  read-as-submitted earlier later o t i j =
      reads b.ts limit p r x o orderly.small (sent-as-submitted earlier later o t i j)

  -- while it is not confirmed, there lie the record submitted, waiting, with the length of its data and the limit that it
  -- goes by, and the data
  pub waits-as-submitted : never (confirms p n) (run after then).events ≡ true
      → Lies n (Q.waiting kept (length x)) (length x) x (rows_of p (run after then).world.site)
  waits-as-submitted i =
      rw (rows-by p (run after then).world.site) at
      (lasts-run b.settings b.ts orderly-then.small p (waits p n b.ts limit r x accepted-there.1) after then
      orderly-then accepted-there.0 i).lies

  -- until it is collected, the record there is of the request that was submitted
  pub stays-as-submitted : never (collects p n) (run after then).events ≡ true
      → Of limit r (at (rows_of p (run after then).world.site).row n)
  stays-as-submitted i =
      rw (rows-by p (run after then).world.site) at
      (held_of p n b.ts limit r x
      (lasts-run b.settings b.ts orderly-then.small p (holds p n b.ts limit r x accepted-there.1) after then
      orderly-then (pending accepted-there.0) i))

  -- and so is the record that collect hands back: its reference is the one that submit was given
  pub handed-as-submitted : (earlier later : List Event) (f : Record)
      → (run after then).events ≡ earlier ++ (collected p n f ∷ later) → never (collects p n) earlier ≡ true
      → Of limit r f
  handed-as-submitted earlier later f i j = asked-collected p n _ _ f (asked earlier later (collected p n f) i j)
