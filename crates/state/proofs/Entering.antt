-- An accepted request lies at its place: its record, waiting, and its data. Assumes nothing.
use Prim.Native.Nat.{ℕ, ◌+◌}
use mathlib.Core.Bool.{true≢false}
use mathlib.Core.Path.{◌≡◌, ap}
use mathlib.Core.List.{List, [], ◌∷◌}
use native.Mathlib.Omega.{arith}
use lib.ListN.{length}
use Rattle.request.specs.declared.Record.{Record}
use Rattle.request.specs.Record.{unfit}
use Rattle.queue.specs.declared.Queue.{Queue}
use Rattle.queue.specs.Queue.{place, grown, take}
use Rattle.queue.proofs.Laws.{Accepted, place-below}
use Rattle.rows.proofs.Laws.{at-put, content-fill}
use Rattle.state.specs.declared.Priority.{Priority}
use Rattle.state.specs.declared.Priority.TheVariants.{High, Low}
use Rattle.state.specs.World.{Rows, Site, World, Called, accepted, done, with_queue, queue_of}
use Rattle.state.specs.World.{with_core, rows_of, with_rows, with_site}
use Rattle.state.specs.Calls.{called, refuse}
use Rattle.state.proofs.Submission.{placed, Submission, declines, admits}
use Rattle.state.proofs.Refused.{refuses}
use Rattle.state.proofs.Places.{waiting-new}
use Rattle.state.proofs.Filed.{Filed}
use Rattle.state.proofs.Poise.{queue_by}
use Rattle.state.proofs.Tally.{rows_by}
use Rattle.state.proofs.Acts.{taking, grown_by}
use Rattle.state.proofs.Effects.{taken_by, queue_at, rows_at}
use Rattle.state.proofs.Entries.{Open}

-- ---- at its place
pub open-new : {own : ℕ} (q : Queue) (u : Rows) (f : Filed own q u) (r : Record) (x : List ℕ)
    → Accepted own q r (length x)
    → Open (place q (q.confirmed + q.unconfirmed)) r x (grown q) (taken_by q u r x)
open-new q u f r x a =
    let b = place-below q (q.confirmed + q.unconfirmed) f.ruled f.ruled.used in
    record {
      ahead = q.unconfirmed;
      waits = waiting-new q;
      lies =
          record {
            entry = at-put u.row (place q (q.confirmed + q.unconfirmed)) _ (omega (arith, b, f.lent.places));
            octets =
                content-fill u.area (place q (q.confirmed + q.unconfirmed)) x
                (omega (arith, b, f.lent.areas));
          };
    }

open-there : (y : Priority) (r : Record) (x : List ℕ) (s : Site)
    → Filed s.core.ts.0 (queue_at y s) (rows_at y s) → Accepted s.core.ts.0 (queue_of y s.core) r (length x)
    → Open (taking y r x s).answer.place r x (queue_at y (grown_by y r x s)) (rows_at y (grown_by y r x s))
unfolding with_rows with_core with_queue queue_of rows_of queue_by rows_by take
open-there High r x s f a = open-new _ _ f r x a
open-there Low r x s f a = open-new _ _ f r x a

-- accepted at place n, it waits there, and it is fit
pub entered : {y : Priority} {r : Record} {x : List ℕ} {w : World} {d : Called} (n : ℕ)
    → Filed w.site.core.ts.0 (queue_at y w.site) (rows_at y w.site) → Submission y r x w d
    → d.events ≡ accepted y n ∷ []
    → Open n r x (queue_at y d.world.site) (rows_at y d.world.site)
    × (unfit w.site.core.ts.0 r (length x) ≡ 0)
unfolding called with_site done refuse refuses placed
entered n f (declines m h) e = absurd (true≢false (ap refuses e))
entered {y} {r} {x} {w} n f (admits l g a i) e =
    (rw (← ap placed e) (open-there y r x w.site f a), a.fit)
