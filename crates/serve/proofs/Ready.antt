-- The first request of a queue: its record is in the row, its data are in the area, and they are fit to be laid.
-- Assumes nothing.
use Prim.Native.Nat.{ℕ, ◌+◌, ◌*◌, ◌<◌, ◌≤◌}
use mathlib.Core.Path.{◌≡◌}
use mathlib.Core.List.{List}
use native.Mathlib.Omega.{arith}
use lib.ListN.{length, length-drop}
use lib.Seq.{length-take-le}
use Rattle.frame.specs.declared.Fields.TheVariants.{Frame}
use Rattle.frame.specs.Format.{octets}
use Rattle.frame.specs.Reading.{part}
use Rattle.laid.specs.Laid.{Lays}
use Rattle.request.specs.declared.Record.{Record}
use Rattle.request.specs.Record.{SIZE, unfit}
use Rattle.request.proofs.Laws.{fit-short}
use Rattle.queue.specs.declared.Queue.{Queue}
use Rattle.queue.specs.Queue.{Ruled, current}
use Rattle.rows.specs.Rows.{Lent, at, content}
use Rattle.queue.proofs.Laws.{current-below}
use Rattle.state.specs.declared.Core.{Core}
use Rattle.state.specs.declared.Priority.{Priority}
use Rattle.state.specs.declared.Priority.TheVariants.{High, Low}
use Rattle.state.specs.World.{Rows, queue_of}
use Rattle.state.specs.Request.{mark_of, head_for, record_in, data_in, octets_in}
use Rattle.state.specs.Refusals.{Lawful, Ready}

-- ---- a queue of a lawful core
pub ruled-of : (p : Priority) (c : Core) → Lawful c → Ruled (queue_of p c)
unfolding queue_of
ruled-of High c l = l.high
ruled-of Low c l = l.low

-- its first record is in the row, and its place in the area
pub in_row : {q : Queue} {row area : List ℕ} {k : ℕ} → Lent q row area → k < q.places → SIZE * k + SIZE ≤ length row
in_row l h = omega (arith, l.places, h)

-- ---- its data are as many as its record says
module _ (p : Priority) (c : Core) (r : Rows) (y : Ready p c r) where
  length-data : length (data_in (queue_of p c) r) ≡ (record_in (queue_of p c) r).length
  unfolding data_in content
  length-data =
      let k = current-below (queue_of p c) (ruled-of p c y.core) in
      let n = fit-short c.ts.0 (record_in (queue_of p c) r) (record_in (queue_of p c) r).length y.fit in
      length-take-le _ _ (simp length-drop (omega (arith, k, n, y.lent.areas)))

-- ---- it and its data, by the values that the code comes by
module _ (p : Priority) (c : Core) (r : Rows) {q : Queue} {k : ℕ} {e : Record} (a : q ≡ queue_of p c)
    (b : k ≡ current q) (d : e ≡ at r.row k) where
  pub is-record : e ≡ record_in (queue_of p c) r
  unfolding record_in
  is-record = rw (d, b, a)

  module _ {w n : ℕ} {x : List ℕ} (f : w ≡ k) (g : n ≡ e.length) (h : x ≡ part r.area (246 * w) n) where
    is-data : x ≡ data_in (queue_of p c) r
    unfolding data_in content
    is-data = rw (h, g, is-record, f, b, a)

    pub fit-laid : Ready p c r → unfit c.ts.0 e (length x) ≡ 0
    fit-laid y = rw (is-data, is-record, length-data p c r y) y.fit

    octets-laid : (marks : List ℕ) {m : ℕ} → m ≡ mark_of marks e.destination.0
        → octets (Frame (head_for c.ts p e m)) x ≡ octets_in c.ts p (queue_of p c) marks r
    unfolding octets_in
    octets-laid marks o = rw (o, is-data, is-record)

    pub lays-first : (marks : List ℕ) {m n : ℕ} {l o : List ℕ} → m ≡ mark_of marks e.destination.0
        → Lays l 0 (octets (Frame (head_for c.ts p e m)) x) 255 n o
        → Lays l 0 (octets_in c.ts p (queue_of p c) marks r) 255 n o
    lays-first marks i z = rw (octets-laid marks i) at z
