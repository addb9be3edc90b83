-- What submit does, walked once: it is refused, with a number, or the request is accepted and its record and data are
-- put at its place. Assumes nothing.
use Prim.Native.Nat.{ℕ}
use mathlib.Core.Bool.{false, true≢false}
use mathlib.Core.Path.{◌≡◌, refl, sym, ◌∙◌, subst}
use mathlib.Core.List.{List, [], ◌∷◌}
use native.Mathlib.Omega.{arith}
use lib.ListN.{length}
use Rattle.choice.proofs.Rules.{same_true, true_same, is_said}
use Rattle.request.specs.declared.Record.{Record}
use Rattle.request.specs.Record.{limited}
use Rattle.queue.specs.Queue.{Taken}
use Rattle.queue.specs.Queue as Q
use Rattle.queue.specs.Queue.{take}
use Rattle.queue.proofs.Laws.{Accepted}
use Rattle.rows.specs.Rows.{Left, submitted}
use Rattle.rows.proofs.Submitted.{Outcome, outcome}
use Rattle.rows.proofs.Submitted.Outcome.{as_it_was, with_it}
use Rattle.state.specs.declared.Priority.{Priority}
use Rattle.state.specs.World.{Site, World, Event, Done, Called, accepted, refused, done, queue_of, rows_of, with_site}
use Rattle.state.specs.Refusals.{unlent, lawless}
use Rattle.state.specs.Calls as Calls
use Rattle.state.specs.Calls.{called, refuse, submitting, limited_in}
use Rattle.state.specs.Runs.{submit, call}
use Rattle.state.proofs.Cases.{by}
use Rattle.state.proofs.Acts.{taking, grown_by}

-- the place in an acceptance
unfoldable pub placed : List Event → ℕ
placed [] = 0
placed (accepted y n ∷ l) = n
placed (Event.begins ∷ l) = 0
placed (Event.ends ∷ l) = 0
placed (Event.sends x o t ∷ l) = 0
placed (Event.confirmed q n s k ∷ l) = 0
placed (Event.collected q n r ∷ l) = 0
placed (Event.indicated h d ∷ l) = 0
placed (Event.resets ∷ l) = 0
placed (refused n ∷ l) = 0

abbrev submitted_to : Priority → Record → List ℕ → Site → Left Taken
submitted_to y r x s = submitted s.core.ts.0 (queue_of y s.core) r x (rows_of y s).row (rows_of y s).area

pub data Submission (y : Priority) (r : Record) (x : List ℕ) (w : World) : Called → Type 0 where
  declines : (m : ℕ) → (m ≡ 0 → ⊥) → Submission y r x w (refuse m w)
  admits : unlent (queue_of y w.site.core) (rows_of y w.site) ≡ false
      → lawless w.site.core w.site.masters w.started w.memory.kept ≡ false
      → Accepted w.site.core.ts.0 (queue_of y w.site.core) r (length x)
      → taking y r x w.site ≡ submitted_to y r x w.site
      → Submission y r x w
      (called (done (grown_by y r x w.site) (accepted y (taking y r x w.site).answer.place ∷ [])) w)

module _ (y : Priority) (r : Record) (x : List ℕ) (w : World) where
  spurned : (m : ℕ) → (m ≡ 0 → ⊥) → Submission y r x w (called (done w.site (refused m ∷ [])) w)
  unfolding called done with_site refuse
  spurned m h = declines m h

  submission-by : unlent (queue_of y w.site.core) (rows_of y w.site) ≡ false
      → lawless w.site.core w.site.masters w.started w.memory.kept ≡ false
      → Outcome w.site.core.ts.0 (queue_of y w.site.core) r x (rows_of y w.site).row
      (rows_of y w.site).area (submitted_to y r x w.site)
      → Submission y r x w (called (submitting y (submitted_to y r x w.site) w.site) w)
  unfolding submitting done take Q.refuse
  submission-by l g (as_it_was m z e) =
      rw (← e)
      (by (λ (d : Done). Submission y r x w (called d w)) _ _ _ (λ b. absurd (z (true_same m 0 b))) (λ b. spurned m z))
  submission-by l g (with_it a e) =
      rw (← e)
      (by (λ (d : Done). Submission y r x w (called d w)) _ _ _ (λ b. admits l g a e)
      (λ b. absurd (true≢false (sym (same_true refl) ∙ b))))

-- the record is the one that was given, with the limit that it goes by
pub submission : (y : Priority) (r : Record) (x : List ℕ) (w : World)
    → Submission y (limited_in w r) x w (call (submit y r x) w)
unfolding call Calls.submit
submission y r x w =
    by (Submission y (limited_in w r) x w) _ _ _ (λ e. declines 21 (λ z. omega (arith, z)))
    (λ l. by (Submission y (limited_in w r) x w) _ _ _ (λ e. declines 29 (λ z. omega (arith, z)))
    (λ g. submission-by y (limited_in w r) x w (is_said l) (is_said g) (outcome _ _ (limited_in w r) x _ _)))

-- likewise by a limit that is the station's
pub submission-by-limit : {limit : ℕ} (y : Priority) (r : Record) (x : List ℕ) (w : World)
    → w.site.core.settings.retries.0 ≡ limit → Submission y (limited limit r) x w (call (submit y r x) w)
submission-by-limit y r x w e =
    subst (λ (n : ℕ). Submission y (limited n r) x w (call (submit y r x) w)) e (submission y r x w)
