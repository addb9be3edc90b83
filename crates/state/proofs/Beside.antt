-- Submit and collect read and change one queue's row: beside any row of the other queue they do the same, and leave it.
-- Assumes nothing.
use Prim.Native.Nat.{ℕ}
use mathlib.Core.Bool.{Bool, true, false}
use mathlib.Core.List.{List, [], ◌∷◌}
use mathlib.Core.Path.{◌≡◌, refl}
use Rattle.choice.specs.Choice.{pick, same}
use Rattle.choice.proofs.Rules.{by-pick}
use Rattle.request.specs.declared.Record.{Record}
use Rattle.queue.specs.Queue.{Taken}
use Rattle.queue.specs.Queue.{Collected}
use Rattle.queue.specs.Queue.{Refused, Handed}
use Rattle.rows.specs.Rows.{Left}
use Rattle.state.specs.declared.Priority.{Priority}
use Rattle.state.specs.declared.Priority.TheVariants.{High, Low}
use Rattle.state.specs.declared.State.{State}
use Rattle.state.specs.World.{Rows, World, Called, Done, world_of, state_of, rows_of, queue_of, with_queue, with_core}
use Rattle.state.specs.World.{with_rows, with_site, done, accepted, refused}
use Rattle.state.specs.Calls.{refuse, called, submitting, collecting, submit, collect}
use Rattle.state.specs.Told.{lent}

-- the other queue, and a state's world with a queue's row and the other's
abbrev pub other : Priority → Priority
other High = Low
other Low = High

abbrev pub beside : Priority → State → Rows → Rows → World
beside High s r o = world_of s r o
beside Low s r o = world_of s o r

-- the same call with the other queue's row lent and not
pub record Beside (p : Priority) (o : Rows) (d e : Called) : Type 0 where
  pub events : e.events ≡ d.events
  pub state : state_of e.world ≡ state_of d.world
  pub own : rows_of p e.world.site ≡ rows_of p d.world.site
  pub theirs : rows_of (other p) e.world.site ≡ o

on-pick : {A : Type 0} (P : A → A → Type 0) (b : Bool) {x x' y y' : A} → P x x' → P y y' → P (pick b x y) (pick b x' y')
unfolding pick
on-pick P true x y = x
on-pick P false x y = y

module _ (s : State) (r o : Rows) where
  refused-beside : (p : Priority) (n : ℕ) → Beside p o (refuse n (lent p s r)) (refuse n (beside p s r o))
  unfolding refuse lent world_of state_of rows_of
  refused-beside High n = record { events = refl; state = refl; own = refl; theirs = refl }
  refused-beside Low n = record { events = refl; state = refl; own = refl; theirs = refl }

  stored-beside : (p : Priority) (t : Left Taken)
      → Beside p o
      (called
      (done
      (with_rows p (record { row = t.row; area = t.area })
      (with_core (with_queue p t.answer.queue (lent p s r).site.core) (lent p s r).site))
      (accepted p t.answer.place ∷ [])) (lent p s r))
      (called
      (done
      (with_rows p (record { row = t.row; area = t.area })
      (with_core (with_queue p t.answer.queue (beside p s r o).site.core)
      (beside p s r o).site)) (accepted p t.answer.place ∷ [])) (beside p s r o))
  unfolding called done with_site with_rows with_core with_queue lent world_of state_of rows_of
  stored-beside High t = record { events = refl; state = refl; own = refl; theirs = refl }
  stored-beside Low t = record { events = refl; state = refl; own = refl; theirs = refl }

  untaken-beside : (p : Priority) (n : ℕ)
      → Beside p o (called (done (lent p s r).site (refused n ∷ [])) (lent p s r))
      (called (done (beside p s r o).site (refused n ∷ [])) (beside p s r o))
  unfolding called done with_site lent world_of state_of rows_of
  untaken-beside High n = record { events = refl; state = refl; own = refl; theirs = refl }
  untaken-beside Low n = record { events = refl; state = refl; own = refl; theirs = refl }

  taken-beside : (p : Priority) (t : Left Taken)
      → Beside p o (called (submitting p t (lent p s r).site) (lent p s r))
      (called (submitting p t (beside p s r o).site) (beside p s r o))
  unfolding submitting
  taken-beside p t =
      on-pick (λ (d e : Done). Beside p o (called d (lent p s r)) (called e (beside p s r o)))
      (same t.answer.refused 0) (stored-beside p t) (untaken-beside p t.answer.refused)

  handed-beside : (p : Priority) (t : Collected)
      → Beside p o (called (collecting p t (lent p s r).site) (lent p s r))
      (called (collecting p t (beside p s r o).site) (beside p s r o))
  unfolding called collecting done with_site with_core with_queue lent world_of state_of rows_of
  handed-beside High (Refused n) = record { events = refl; state = refl; own = refl; theirs = refl }
  handed-beside High (Handed k e q) = record { events = refl; state = refl; own = refl; theirs = refl }
  handed-beside Low (Refused n) = record { events = refl; state = refl; own = refl; theirs = refl }
  handed-beside Low (Handed k e q) = record { events = refl; state = refl; own = refl; theirs = refl }

  pub submit-beside : (p : Priority) (n : Record) (x : List ℕ)
      → Beside p o (submit p n x (lent p s r)) (submit p n x (beside p s r o))
  unfolding submit lent world_of rows_of queue_of
  submit-beside High n x =
      on-pick (Beside High o) _ (refused-beside High 21)
      (on-pick (Beside High o) _ (refused-beside High 29) (taken-beside High _))
  submit-beside Low n x =
      on-pick (Beside Low o) _ (refused-beside Low 21)
      (on-pick (Beside Low o) _ (refused-beside Low 29) (taken-beside Low _))

  pub collect-beside : (p : Priority) → Beside p o (collect p (lent p s r)) (collect p (beside p s r o))
  unfolding collect lent world_of rows_of queue_of
  collect-beside High =
      on-pick (Beside High o) _ (refused-beside High 21)
      (on-pick (Beside High o) _ (refused-beside High 29) (handed-beside High _))
  collect-beside Low =
      on-pick (Beside Low o) _ (refused-beside Low 21)
      (on-pick (Beside Low o) _ (refused-beside Low 29) (handed-beside Low _))

-- collect leaves the row
module _ (s : State) (r : Rows) where
  handed-keeps : (p : Priority) (t : Collected)
      → rows_of p (called (collecting p t (lent p s r).site) (lent p s r)).world.site ≡ r
  unfolding called collecting done with_site with_core lent world_of rows_of
  handed-keeps High (Refused n) = refl
  handed-keeps High (Handed k e q) = refl
  handed-keeps Low (Refused n) = refl
  handed-keeps Low (Handed k e q) = refl

  refused-keeps : (p : Priority) (n : ℕ) → rows_of p (refuse n (lent p s r)).world.site ≡ r
  unfolding refuse lent world_of rows_of
  refused-keeps High n = refl
  refused-keeps Low n = refl

  pub collect-keeps : (p : Priority) → rows_of p (collect p (lent p s r)).world.site ≡ r
  unfolding collect
  collect-keeps p =
      by-pick (λ (d : Called). rows_of p d.world.site ≡ r) _ (refused-keeps p 21)
      (by-pick (λ (d : Called). rows_of p d.world.site ≡ r) _ (refused-keeps p 29) (handed-keeps p _))
