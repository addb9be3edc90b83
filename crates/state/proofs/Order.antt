-- A station in order: what start leaves and every call keeps, so that none of its states is refused 29. Assumes
-- nothing.
use Prim.Native.Nat.{ℕ, ◌≤◌, ◌<◌}
use mathlib.Core.Bool.{Bool, true, false, true≢false}
use mathlib.Core.Path.{◌≡◌, refl, sym, ap, ◌∙◌}
use mathlib.Core.List.{List}
use native.Mathlib.Omega.{arith}
use Rattle.choice.specs.Choice.{same, said}
use Rattle.choice.proofs.Rules.{pick_true, pick-false, less-false, same_true, same_false, is_said}
use Rattle.times.specs.declared.Settings.{Settings}
use Rattle.times.specs.Times.{unruly}
use Rattle.ring.specs.Ring.{member}
use Rattle.queue.specs.declared.Queue.{Queue}
use Rattle.queue.specs.Queue.{Ruled}
use Rattle.queue.proofs.Laws.{not-overfull}
use Rattle.rows.proofs.Check.{sound-is}
use Rattle.state.specs.declared.Phase.{Phase}
use Rattle.state.specs.declared.Priority.{Priority}
use Rattle.state.specs.declared.Priority.TheVariants.{High, Low}
use Rattle.state.specs.declared.Core.{Core}
use Rattle.state.specs.World.{World, queue_of}
use Rattle.state.specs.Refusals.{unstartable, unstarted, misaddressed, overcounted, odd_in, lawless, sound_in}
use Rattle.state.specs.Refusals.{unlike_in, in_flight, unsound, refusal_in, refusal}
use Rattle.state.proofs.Cases.{by}
use Rattle.state.proofs.Phases.{flight, odd-by, unlike-off}
use Rattle.state.proofs.Hearing.{Memorable}
use Rattle.state.proofs.Poise.{queue_by, Apt, FirmAt, AptAt}

-- a station that was started with the settings t and TS
pub record Orderly (t : Settings) (ts : ℕ) (w : World) : Type 0 where
  pub ruly : unruly t ≡ false
  pub small : ts ≤ 126
  pub firm : FirmAt t ts w.site
  pub apt : AptAt w.site
  pub started : member w.started ts ≡ true
  pub memory : Memorable w.memory

-- ---- such a state is not refused 29
says : {b r : Bool} → b ≡ r → said b ≡ r
unfolding said
says e = e

startable : (t : Settings) (ts : ℕ) (masters : List ℕ) → unruly t ≡ false → ts ≤ 126 → member masters ts ≡ true
    → unstartable t ts masters ≡ false
unfolding unstartable
startable t ts masters r s m =
    pick-false _ _ (says r) ∙ pick-false _ _ (less-false s) ∙ pick_true _ _ (says m)

addressed : (ps stranger source : ℕ) → ps ≤ 126 → stranger ≤ 127 → source ≤ 127
    → misaddressed ps stranger source ≡ false
unfolding misaddressed
addressed ps stranger source a b c =
    pick-false _ _ (less-false a) ∙ pick-false _ _ (less-false b) ∙ pick-false _ _ (less-false c)

within : (h l : Queue) (n : ℕ) → Ruled h → Ruled l → n ≤ 255 → overcounted h l n ≡ false
unfolding overcounted
within h l n a b c =
    pick-false _ _ (says (not-overfull h a)) ∙ pick-false _ _ (says (not-overfull l b)) ∙ pick-false _ _ (less-false c)

pub queue-by : (y : Priority) (c : Core) → queue_by y c.high c.low ≡ queue_of y c
unfolding queue_by queue_of
queue-by High c = refl
queue-by Low c = refl

loaded-some : (y : Priority) (c : Core) → 0 < (queue_by y c.high c.low).unconfirmed
    → same (queue_of y c).unconfirmed 0 ≡ false
loaded-some y c h = same_false (λ e. omega (arith, ap (λ (q : Queue). q.unconfirmed) (queue-by y c)))

even : (x : Phase) (c : Core) (masters u v : List ℕ)
    → Apt c.ts.0 masters c.high c.low u v x c.doing.served → odd_in x c masters ≡ false
even x c masters u v a =
    odd-by x c masters
    ∙ by (λ (b : Bool). b ≡ false) _ _ _ (λ h. loaded-some _ c (a.flying h).some)
    (λ h. by (λ (b : Bool). b ≡ false) _ _ _ (λ h. same_false (a.check h))
    (λ h. by (λ (b : Bool). b ≡ false) _ _ _ (λ h. pick_true _ _ (same_true (a.self h))) (λ h. refl)))

alike : (x : Phase) (c : Core) (masters u v : List ℕ)
    → Apt c.ts.0 masters c.high c.low u v x c.doing.served
    → unlike_in x (in_flight c u v).service ≡ false
unfolding in_flight
alike x c masters u v a = by-flight (flight x) refl
  where
    by-flight : (b : Bool) → flight x ≡ b → unlike_in x (in_flight c u v).service ≡ false
    by-flight true h = rw (queue-by c.doing.served c) at (a.flying h).fits
    by-flight false h = unlike-off x _ h

module _ (t : Settings) (ts : ℕ) (w : World) (o : Orderly t ts w) where
  own-small : w.site.core.ts.0 ≤ 126
  own-small = omega (arith, o.small, o.firm.station)

  ruly-now : unruly w.site.core.settings ≡ false
  ruly-now = rw o.firm.settings o.ruly

  restarted : unstarted w.site.core w.site.masters w.started ≡ false
  unfolding unstarted
  restarted =
      pick-false _ _ (says (startable _ _ _ ruly-now own-small o.firm.among))
      ∙ pick_true _ _ (says (rw o.firm.station o.started))

  pub not-lawless : lawless w.site.core w.site.masters w.started w.memory.kept ≡ false
  unfolding lawless
  not-lawless =
      pick-false _ _ (says restarted)
      ∙ pick-false _ _ (says (addressed _ _ _ o.firm.previous o.firm.first o.memory.source))
      ∙ pick-false _ _ (says (within _ _ _ o.firm.high.ruled o.firm.low.ruled o.memory.reply))
      ∙ even _ w.site.core w.site.masters w.site.high.row w.site.low.row o.apt

  pub not-unsound : unsound w.site.core w.site.high.row w.site.low.row ≡ false
  unfolding unsound sound_in
  not-unsound =
      pick_true _ _ (says (sound-is _ _ _ o.firm.high.sound))
      ∙ pick_true _ _ (says (sound-is _ _ _ o.firm.low.sound))
      ∙ alike _ w.site.core w.site.masters w.site.high.row w.site.low.row o.apt

  -- the refusal of frame, sent and slot is for what they are lent
  pub never-29-in : (out high low : ℕ) → refusal out high low w ≡ 29 → ⊥
  unfolding refusal refusal_in
  never-29-in out high low =
      by (λ (n : ℕ). n ≡ 29 → ⊥) _ _ _ (λ e z. omega arith)
      (λ e. by (λ (n : ℕ). n ≡ 29 → ⊥) _ _ _ (λ e z. omega arith)
      (λ e. by (λ (n : ℕ). n ≡ 29 → ⊥) _ _ _ (λ e z. omega arith)
      (λ e. by (λ (n : ℕ). n ≡ 29 → ⊥) _ _ _ (λ e. absurd (true≢false (sym (is_said e) ∙ not-lawless)))
      (λ e. by (λ (n : ℕ). n ≡ 29 → ⊥) _ _ _ (λ e. absurd (true≢false (sym (is_said e) ∙ not-unsound)))
      (λ e z. omega arith)))))
