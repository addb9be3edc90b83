-- A confirmation, by the values that the code comes by; and what is known of the core and the rows stays known. Assumes
-- nothing.
use Prim.Native.Nat.{ℕ, ◌<◌, ◌≤◌}
use mathlib.Core.Path.{◌≡◌, refl, sym, subst}
use mathlib.Core.List.{List, []}
use lib.ListN.{length}
use Rattle.queue.specs.declared.Queue.{Queue}
use Rattle.queue.specs.Queue.{AREA, confirmed}
use Rattle.queue.proofs.Laws.{ruled-confirmed}
use Rattle.rows.specs.Rows.{Left, confirm}
use Rattle.rows.proofs.Check.{is-sound, sound-is}
use Rattle.rows.proofs.Kept.{sound-confirmed}
use Rattle.rows.proofs.Draining.{lent-confirmed}
use Rattle.state.specs.declared.Core.{Core}
use Rattle.state.specs.declared.Outcome.{Outcome}
use Rattle.state.specs.declared.Priority.{Priority}
use Rattle.state.specs.declared.Priority.TheVariants.{High, Low}
use Rattle.state.specs.World.{Rows, Site, rows, site_of, queue_of, with_queue, rows_of, with_rows, with_marks, with_core, done}
use Rattle.state.specs.Request.{record_in, record_of, status_of, marks_after, close_of, close}
use Rattle.state.specs.Refusals.{Lawful, Sited, sound_in}
use Rattle.state.specs.Told.{Closes}

-- what is known, of a site
abbrev SitedAt : Site → Type 0
SitedAt s = Sited s.core s.high s.low

sited-as : {c : Core} {masters marks : List ℕ} {high low : Rows} {s : Site} → site_of c masters marks high low ≡ s
    → SitedAt s → Sited c high low
sited-as {c} {masters} {marks} {high} {low} e y =
    subst (λ (x : Site). SitedAt x) (sym e) y

module _ (o : Outcome) (x : List ℕ) (c : Core) (marks : List ℕ) (high low : Rows) where
  abbrev after : Priority → Rows → Left Queue
  after p r = confirm (queue_of p c) (status_of o) c.doing.sendings x r.row r.area

  site-high : (m : List ℕ)
      → (close_of High o x (site_of c m marks high low)).site
      ≡ site_of (with_queue High (after High high).answer c) m
      (marks_after o (record_in (queue_of High c) high).destination.0 marks)
      (rows (after High high).row (after High high).area) low
  unfolding close_of done with_rows with_marks with_core record_of rows_of
  site-high m = refl

  site-low : (m : List ℕ)
      → (close_of Low o x (site_of c m marks high low)).site
      ≡ site_of (with_queue Low (after Low low).answer c) m
      (marks_after o (record_in (queue_of Low c) low).destination.0 marks) high
      (rows (after Low low).row (after Low low).area)
  unfolding close_of done with_rows with_marks with_core record_of rows_of
  site-low m = refl

  -- ---- what is known stays known
  module _ (s : Sited c high low) (n : length x ≤ AREA) where
    lawful-high : 0 < c.high.unconfirmed → Lawful (with_queue High (confirmed c.high) c)
    unfolding with_queue
    lawful-high h =
        let l = s.core in
        record {
          settings = l.settings;
          retries = l.retries;
          ts = l.ts;
          high = ruled-confirmed c.high h l.high;
          low = l.low;
        }

    lawful-low : 0 < c.low.unconfirmed → Lawful (with_queue Low (confirmed c.low) c)
    unfolding with_queue
    lawful-low h =
        let l = s.core in
        record {
          settings = l.settings;
          retries = l.retries;
          ts = l.ts;
          high = l.high;
          low = ruled-confirmed c.low h l.low;
        }

    kept_high : 0 < (queue_of High c).unconfirmed
        → Sited (with_queue High (after High high).answer c) (rows (after High high).row (after High high).area)
        low
    unfolding queue_of with_queue confirm sound_in
    kept_high h =
        record {
          core = lawful-high h;
          lent_high =
              lent-confirmed c.high (status_of o) c.doing.sendings x high.row high.area s.core.high
              s.lent_high n;
          lent_low = s.lent_low;
          sound_high =
              sound-is c.ts.0 (confirmed c.high) _
              (sound-confirmed c.ts.0 c.high (status_of o) c.doing.sendings x high.row high.area s.core.high h s.lent_high.places (is-sound _ _ _ s.sound_high));
          sound_low = s.sound_low;
        }

    kept_low : 0 < (queue_of Low c).unconfirmed
        → Sited (with_queue Low (after Low low).answer c) high (rows (after Low low).row (after Low low).area)
    unfolding queue_of with_queue confirm sound_in
    kept_low h =
        record {
          core = lawful-low h;
          lent_high = s.lent_high;
          lent_low =
              lent-confirmed c.low (status_of o) c.doing.sendings x low.row low.area s.core.low
              s.lent_low n;
          sound_high = s.sound_high;
          sound_low =
              sound-is c.ts.0 (confirmed c.low) _
              (sound-confirmed c.ts.0 c.low (status_of o) c.doing.sendings x low.row low.area s.core.low h s.lent_low.places (is-sound _ _ _ s.sound_low));
        }

    kept : (p : Priority) (m : List ℕ) → 0 < (queue_of p c).unconfirmed
        → SitedAt (close_of p o x (site_of c m marks high low)).site
    kept High m h = rw (site-high m) (kept_high h)
    kept Low m h = rw (site-low m) (kept_low h)

    kept-served : (m : List ℕ) → 0 < (queue_of c.doing.served c).unconfirmed
        → SitedAt (close o x (site_of c m marks high low)).site
    unfolding close
    kept-served m h = kept c.doing.served m h

    pub sited-closed : {c' : Core} {marks' : List ℕ} {high' low' : Rows}
        → 0 < (queue_of c.doing.served c).unconfirmed → Closes o x c marks high low c' marks' high' low'
        → Sited c' high' low'
    sited-closed h k = sited-as (k.site []) (kept-served [] h)
