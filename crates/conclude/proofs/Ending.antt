-- The end of a request and what follows it, from the confirmation and the act after it. Assumes nothing.
use Prim.Native.Nat.{ℕ, ◌<◌, ◌≤◌}
use mathlib.Core.Bool.{false}
use mathlib.Core.Path.{◌≡◌, refl, ap}
use mathlib.Core.List.{List, []}
use Rattle.request.specs.declared.Record.{Record}
use Rattle.request.proofs.Laws.{fit-limit}
use Rattle.state.specs.declared.Core.{Core}
use Rattle.state.specs.declared.Moved.{Moved}
use Rattle.state.specs.declared.Outcome.{Outcome}
use Rattle.state.specs.declared.Outcome.TheVariants.{Lost}
use Rattle.state.specs.declared.Priority.{Priority}
use Rattle.state.specs.declared.Priority.TheVariants.{High, Low}
use Rattle.state.specs.World.{Rows, Site, Done, site_of, done, and_then, queue_of, with_doing, with_core}
use Rattle.state.specs.Request.{record_in, close_of, close}
use Rattle.state.specs.Hold.{choose, resting, rest, ended, over, given_up}
use Rattle.state.specs.Told.{Closes, Does, telling, adds, untold}
use Rattle.state.specs.Refusals.{Sited, row_by, in_flight}
use Rattle.serve.proofs.Telling.{lays-nothing}
use Rattle.serve.proofs.Sited.{ready-high, ready-low, served-waits}

-- ---- the limit of the record whose reply is awaited is at most 15
limit-by : (p : Priority) (c : Core) (high low : Rows) → c.doing.served ≡ p → Sited c high low
    → 0 < (queue_of c.doing.served c).unconfirmed → (in_flight c high.row low.row).limit ≤ 15
unfolding in_flight row_by record_in queue_of
limit-by High c high low e s h =
    rw e (fit-limit _ _ _ (ready-high s (served-waits c High e h)).fit)
limit-by Low c high low e s h =
    rw e (fit-limit _ _ _ (ready-low s (served-waits c Low e h)).fit)

pub limit-small : (c : Core) (high low : Rows) {r : Record} → r ≡ in_flight c high.row low.row → Sited c high low
    → 0 < (queue_of c.doing.served c).unconfirmed → r.limit ≤ 15
limit-small c high low e s h = rw e (limit-by _ c high low refl s h)

module _ {out out' : List ℕ} {r : Moved} {masters marks : List ℕ} {high low : Rows} where
  -- ---- an act behind a confirmation, which tells nothing
  does-closed-of : (p : Priority) (o : Outcome) (x : List ℕ) (s : Site) (f : Site → Done)
      → Does (f (close_of p o x s).site) out r masters marks high low out'
      → Does (and_then (close_of p o x s) f) out r masters marks high low out'
  unfolding and_then close_of done telling adds
  does-closed-of p o x s f d = record { site = d.site; wait = d.wait; laid = d.laid }

  does-closed : (o : Outcome) (x : List ℕ) (s : Site) (f : Site → Done)
      → Does (f (close o x s).site) out r masters marks high low out'
      → Does (and_then (close o x s) f) out r masters marks high low out'
  unfolding close
  does-closed o x s f d = does-closed-of s.core.doing.served o x s f d

  -- ---- by what the code of the confirmation leaves
  module _ {o : Outcome} {x : List ℕ} {c : Core} {marks₀ : List ℕ} {high₀ low₀ : Rows} {c' : Core}
      (k : Closes o x c marks₀ high₀ low₀ c' marks high low) where
    after : (f : Site → Done) → Does (f (site_of c' masters marks high low)) out r masters marks high low out'
        → Does (f (close o x (site_of c masters marks₀ high₀ low₀)).site) out r masters marks high low out'
    after f d = rw (← k.site masters) d

    pub does-ended : (clock : ℕ)
        → Does (choose false clock (site_of c' masters marks high low)) out r masters marks high low out'
        → Does (ended o x clock (site_of c masters marks₀ high₀ low₀)) out r masters marks high low out'
    unfolding ended
    does-ended clock d =
        does-closed o x (site_of c masters marks₀ high₀ low₀) (choose false clock) (after (choose false clock) d)

    does-after-over : Does (over (site_of c' masters marks high low)) out r masters marks high low out'
        → Does (and_then (close o x (site_of c masters marks₀ high₀ low₀)) over) out r masters marks high low out'
    does-after-over d = does-closed o x (site_of c masters marks₀ high₀ low₀) over (after over d)

  pub does-given-up : {c : Core} {marks₀ : List ℕ} {high₀ low₀ : Rows} {c' : Core}
      → Closes Lost [] c marks₀ high₀ low₀ c' marks high low
      → Does (over (site_of c' masters marks high low)) out r masters marks high low out'
      → Does (given_up (site_of c masters marks₀ high₀ low₀)) out r masters marks high low out'
  unfolding given_up
  does-given-up k d = does-after-over k d

-- the hold is over: nothing is sent
pub does-over : (c : Core) (masters marks : List ℕ) (high low : Rows) (out : List ℕ) {r : Moved}
    → r.core ≡ with_doing (resting c.doing) c → r.length ≡ 0 → r.wait.0 ≡ 0
    → Does (over (site_of c masters marks high low)) out r masters marks high low out
unfolding over rest with_core done telling adds untold
does-over c masters marks high low out e f g =
    record {
      site = ap (λ (y : Core). site_of y masters marks high low) e;
      wait = g;
      laid = rw f (lays-nothing out);
    }
