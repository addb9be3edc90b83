-- A reset confirms the waiting high request once, with its count of sendings, and leaves a confirmed one as it is.
-- Assumes nothing.
use Prim.Native.Nat.{ℕ, zero, suc, ◌+◌, ◌-◌, ◌≤◌, ◌<◌}
use mathlib.Core.Bool.{false}
use mathlib.Core.Path.{◌≡◌, refl, sym, ap, ◌∙◌}
use mathlib.Core.List.{List, [], ◌∷◌}
use native.Mathlib.Omega.{arith}
use Rattle.choice.proofs.Rules.{pick_true, pick-false}
use Rattle.request.specs.Record.{DS}
use Rattle.queue.specs.declared.Queue.{Queue}
use Rattle.queue.specs.Queue.{current}
use Rattle.queue.specs.Queue as Q
use Rattle.rows.specs.Rows.{confirm}
use Rattle.state.specs.declared.Priority.{Priority}
use Rattle.state.specs.declared.Priority.TheVariants.{High, Low}
use Rattle.state.specs.declared.Core.{Core}
use Rattle.state.specs.World.{Event, ends, confirmed, resets}
use Rattle.state.specs.Calls.{sendings_of, count_of}
use Rattle.state.specs.Fate.{Fate, confirmed_with, hold_ended, was_reset, fate}
use Rattle.state.proofs.Phases.{begun-by}
use Rattle.state.proofs.Places.{current-ours, current-ahead, current-shut, waiting-confirmed, shut-now}
use Rattle.state.proofs.Places.{shut-confirmed, rowed-confirmed}
use Rattle.state.proofs.Fates.{fate-one, stays, meets-ends, meets-resets, meets-confirmed, meets-another}
use Rattle.state.proofs.Fates.{Fresh, Paid, Off}
use Rattle.state.proofs.Standing.{ground-closed, Stage, off, ours, ahead, lower, Standing, Between, waits}
use Rattle.state.proofs.Standing.{shut, gone, stayed-gone}

-- it waits behind d others and is not confirmed; the first of them was sent n times
pub record Dismissible (limit d n : ℕ) (f : Fate) : Type 0 where
  pub confirmations : f.confirmations ≡ 0
  pub collected : f.collected ≡ false
  pub few : f.sendings ≤ limit + 1
  pub first : d ≡ 0 → f.sendings ≡ n
  pub later : 0 < d → f.sendings ≡ 0

paid-dismissed : (limit n : ℕ) (f : Fate) → Dismissible limit 0 n f → Paid limit (confirmed_with n f)
unfolding confirmed_with
paid-dismissed limit n f h =
    record {
      confirmations = ap (λ (m : ℕ). m + 1) h.confirmations;
      count = sym (h.first refl);
      collected = h.collected;
      few = h.few;
    }

sent-dismissed : (limit n : ℕ) (f : Fate) → Dismissible limit 0 n f → (confirmed_with n f).sendings ≡ n
unfolding confirmed_with
sent-dismissed limit n f h = h.first refl

-- those behind the first were never sent
next-dismissed : (limit d n : ℕ) (f : Fate) → Dismissible limit (suc d) n f → Dismissible limit d 0 f
next-dismissed limit d n f h =
    record {
      confirmations = h.confirmations;
      collected = h.collected;
      few = h.few;
      first = λ e. h.later (omega arith);
      later = λ e. h.later (omega arith);
    }

-- ---- how often the first of the high queue was sent
none_of : (y : Priority) → sendings_of y High 0 ≡ 0
unfolding sendings_of
none_of High = refl
none_of Low = refl

of-high : (y : Priority) (n : ℕ) → y ≡ High → sendings_of y High n ≡ n
unfolding sendings_of
of-high y n e = rw e

of_low : (y : Priority) (n : ℕ) → y ≡ Low → sendings_of y High n ≡ 0
unfolding sendings_of
of_low y n e = rw e

unsent : (limit d n : ℕ) (f : Fate) → Fresh 0 f → n ≡ 0 → Dismissible limit d n f
unsent limit d n f h e =
    record {
      confirmations = h.confirmations;
      collected = h.collected;
      few = omega (arith, h.sendings);
      first = λ z. h.sendings ∙ sym e;
      later = λ z. h.sendings;
    }

dismissible : {k limit d : ℕ} (c : Core) {f : Fate} → Stage k limit d c.doing f
    → Dismissible limit d (count_of High c) f
unfolding count_of
dismissible c (off h o) =
    unsent _ _ _ _ o.fresh
    (ap (sendings_of c.doing.served High) (begun-by c.doing.phase _ ∙ pick-false _ _ h) ∙ none_of _)
dismissible c (ours h e z o l t) =
    record {
      confirmations = o.confirmations;
      collected = o.collected;
      few = omega (arith, o.sendings);
      first = λ a. o.sendings ∙ sym (of-high _ _ e ∙ begun-by c.doing.phase _ ∙ pick_true _ _ h);
      later = λ a. absurd (omega arith);
    }
dismissible c (ahead h e z o t) =
    record {
      confirmations = o.confirmations;
      collected = o.collected;
      few = omega (arith, o.sendings);
      first = λ a. absurd (omega arith);
      later = λ a. o.sendings;
    }
dismissible c (lower h e o) = unsent _ _ _ _ o.fresh (of_low _ _ e)

-- ---- the reset, and the end of a hold that is on
record Same (f f' : Fate) : Type 0 where
  confirmations : f'.confirmations ≡ f.confirmations
  count : f'.count ≡ f.count
  collected : f'.collected ≡ f.collected
  sendings : f'.sendings ≡ f.sendings

same-reset : (f : Fate) → Same f (was_reset f)
unfolding was_reset
same-reset f = record { confirmations = refl; count = refl; collected = refl; sendings = refl }

same_ended : (f : Fate) → Same f (hold_ended f)
unfolding hold_ended
same_ended f = record { confirmations = refl; count = refl; collected = refl; sendings = refl }

dismissible-same : {limit d n : ℕ} {f f' : Fate} → Same f f' → Dismissible limit d n f → Dismissible limit d n f'
dismissible-same s h =
    record {
      confirmations = s.confirmations ∙ h.confirmations;
      collected = s.collected ∙ h.collected;
      few = omega (arith, s.sendings, h.few);
      first = λ e. s.sendings ∙ h.first e;
      later = λ e. s.sendings ∙ h.later e;
    }

paid-same : {limit : ℕ} {f f' : Fate} → Same f f' → Paid limit f → Paid limit f'
paid-same s h =
    record {
      confirmations = s.confirmations ∙ h.confirmations;
      count = s.count ∙ h.count ∙ sym s.sendings;
      collected = s.collected ∙ h.collected;
      few = omega (arith, s.sendings, h.few);
    }

-- ---- the acts of a reset
abbrev pub Emptying : ℕ → ℕ → ℕ → Queue → List ℕ → Fate → Type 0
Emptying p limit n q row f = Between p limit (λ d f. Dismissible limit d n f) q row f

module _ (p limit : ℕ) where
  -- an event that leaves it all but the same
  emptying-same : {n : ℕ} {q : Queue} {row : List ℕ} (e : Event) (m : Fate → Fate) (f : Fate)
      → ((f : Fate) → f.collected ≡ false → fate p (e ∷ []) f ≡ m f) → ((f : Fate) → Same f (m f))
      → Emptying p limit n q row f → Emptying p limit n q row (fate p (e ∷ []) f)
  emptying-same e m f h i (waits d g w o) = rw (h f o.collected) (waits d g w (dismissible-same (i f) o))
  emptying-same e m f h i (shut g w o) = rw (h f o.collected) (shut g (rw (i f).sendings w) (paid-same (i f) o))
  emptying-same e m f h i (gone z) = stayed-gone p 0 limit (e ∷ []) f z

  emptying-calm : {k : ℕ} {row : List ℕ} {q : Queue} (c : Core) (f : Fate)
      → Standing p k limit c.doing q row f
      → Emptying p limit (count_of High c) q row f
  emptying-calm c f (waits d g w s) = waits d g w (dismissible c s)
  emptying-calm c f (shut g w a o) = shut g w o
  emptying-calm c f (gone z) = gone z

  pub emptying-resets : {k : ℕ} {row : List ℕ} {q : Queue} (c : Core) (f : Fate)
      → Standing p k limit c.doing q row f
      → Emptying p limit (count_of High c) q row (fate p (resets ∷ []) f)
  emptying-resets c f h =
      emptying-same resets was_reset f (λ f e. fate-one p resets f e ∙ meets-resets p f) same-reset (emptying-calm c f h)

  pub emptying-ends : {n : ℕ} {q : Queue} {row : List ℕ} (f : Fate) → Emptying p limit n q row f
      → Emptying p limit n q row (fate p (ends ∷ []) f)
  emptying-ends f h = emptying-same ends hold_ended f (λ f e. fate-one p ends f e ∙ meets-ends p f) same_ended h

  -- a confirmation of the high queue's first
  pub emptying-high : (n : ℕ) (q : Queue) (row area : List ℕ) (f : Fate) → 0 < q.unconfirmed
      → Emptying p limit n q row f
      → Emptying p limit 0 (Q.confirmed q) (confirm q DS n [] row area).row
      (fate p (confirmed High (current q) DS n ∷ []) f)
  emptying-high n q row area f h (waits zero g w o) =
      rw (
        fate-one p (confirmed High (current q) DS n) f o.collected,
        meets-confirmed p (current q) DS n f (current-ours p q w),
      )
      (shut (rowed-confirmed q row DS n [] area g.rowed h)
      (rw (sent-dismissed limit n f o) (shut-now p n q row g.rowed DS [] area w)) (paid-dismissed limit n f o))
  emptying-high n q row area f h (waits (suc d) g w o) =
      let i : suc d - 1 ≡ d = omega arith in
      rw
      (stays p (confirmed High (current q) DS n) f
      (meets-another p (current q) DS n f (current-ahead p (suc d) q g.rowed.ruled (omega arith) w)))
      (waits d (ground-closed q DS n [] row area g (omega arith) w) (rw i at (waiting-confirmed p (suc d) q (omega arith) w))
      (next-dismissed limit d n f o))
  emptying-high n q row area f h (shut g w o) =
      rw
      (stays p (confirmed High (current q) DS n) f
      (meets-another p (current q) DS n f (current-shut p f.sendings q row g.ruled h w)))
      (shut (rowed-confirmed q row DS n [] area g h) (shut-confirmed p f.sendings q row g DS n [] area h w) o)
  emptying-high n q row area f h (gone z) = stayed-gone p 0 limit _ f z

  -- none is left
  pub emptied : {k n : ℕ} {q : Queue} {row : List ℕ} {f : Fate} → q.unconfirmed ≡ 0
      → Emptying p limit n q row f → Between p limit (Off k) q row f
  emptied e (waits d g w o) = absurd (omega (arith, w.within))
  emptied e (shut g w o) = shut g w o
  emptied e (gone z) = gone z
