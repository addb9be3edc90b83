-- The fate of a request through events in a row, and what each event makes of it. Assumes nothing.
use Prim.Native.Nat.{ℕ, ◌+◌, ◌≤◌}
use mathlib.Core.Bool.{Bool, true, false}
use mathlib.Core.Path.{◌≡◌, refl, sym, ap, ◌∙◌}
use mathlib.Core.List.{List, [], ◌∷◌, ◌++◌}
use native.Mathlib.Omega.{arith}
use Rattle.choice.proofs.Rules.{pick_true, pick-false, same_true, same_false}
use Rattle.frame.specs.declared.Head.{Head}
use Rattle.frame.specs.declared.Part.{Part}
use Rattle.request.specs.declared.Record.{Record}
use Rattle.state.specs.declared.Priority.{Priority}
use Rattle.state.specs.declared.Priority.TheVariants.{High, Low}
use Rattle.state.specs.World.{a_request, a_token, a_reply, Event, accepted, begins, ends, sends, confirmed}
use Rattle.state.specs.World.{collected, indicated, resets, refused}
use Rattle.state.specs.Fate.{Fate, newborn, sent_once, confirmed_with, hold_begun, hold_ended, was_reset}
use Rattle.state.specs.Fate.{collected_with, of_high, sent_what, meets, fate}
use Rattle.state.proofs.Cases.{by}

-- ---- events in a row
pub frozen : (p : ℕ) (l : List Event) (f : Fate) → f.collected ≡ true → fate p l f ≡ f
unfolding fate
frozen p [] f h = refl
frozen p (e ∷ l) f h = pick_true _ _ h

pub fate-step : (p : ℕ) (e : Event) (l : List Event) (f : Fate) → f.collected ≡ false
    → fate p (e ∷ l) f ≡ fate p l (meets p e f)
unfolding fate
fate-step p e l f h = pick-false _ _ h

pub fate-one : (p : ℕ) (e : Event) (f : Fate) → f.collected ≡ false → fate p (e ∷ []) f ≡ meets p e f
unfolding fate
fate-one p e f h = pick-false _ _ h

append-by : (p : ℕ) (e : Event) (a b : List Event) (f : Fate) (c : Bool) → f.collected ≡ c
    → fate p (a ++ b) (meets p e f) ≡ fate p b (fate p a (meets p e f))
    → fate p (e ∷ (a ++ b)) f ≡ fate p b (fate p (e ∷ a) f)
append-by p e a b f true h i =
    frozen p (e ∷ (a ++ b)) f h ∙ sym (frozen p b f h) ∙ ap (fate p b) (sym (frozen p (e ∷ a) f h))
append-by p e a b f false h i = fate-step p e (a ++ b) f h ∙ i ∙ ap (fate p b) (sym (fate-step p e a f h))

pub fate-none : (p : ℕ) (f : Fate) → fate p [] f ≡ f
unfolding fate
fate-none p f = refl

pub fate-append : (p : ℕ) (a b : List Event) (f : Fate) → fate p (a ++ b) f ≡ fate p b (fate p a f)
fate-append p [] b f = ap (fate p b) (sym (fate-none p f))
fate-append p (e ∷ a) b f = append-by p e a b f _ refl (fate-append p a b (meets p e f))

-- an event that makes nothing of it
pub unmoved : (p : ℕ) (e : Event) (l : List Event) (f : Fate) → meets p e f ≡ f → fate p (e ∷ l) f ≡ fate p l f
unmoved p e l f h = by-collected f.collected refl
  where
    by-collected : (c : Bool) → f.collected ≡ c → fate p (e ∷ l) f ≡ fate p l f
    by-collected true c = frozen p (e ∷ l) f c ∙ sym (frozen p l f c)
    by-collected false c = fate-step p e l f c ∙ ap (fate p l) h

-- ---- one event
pub stays : (p : ℕ) (e : Event) (f : Fate) → meets p e f ≡ f → fate p (e ∷ []) f ≡ f
stays p e f h = unmoved p e [] f h ∙ fate-none p f

pub meets-sent : (p n : ℕ) (o : List ℕ) (t : ℕ) (f : Fate) → n ≡ p
    → meets p (sends (a_request High n) o t) f ≡ sent_once f
unfolding meets sent_what of_high
meets-sent p n o t f e = pick_true _ _ (same_true e)

pub meets-other : (p n : ℕ) (o : List ℕ) (t : ℕ) (f : Fate) → (n ≡ p → ⊥) → meets p (sends (a_request High n) o t) f ≡ f
unfolding meets sent_what of_high
meets-other p n o t f e = pick-false _ _ (same_false e)

pub meets-low : (p n : ℕ) (o : List ℕ) (t : ℕ) (f : Fate) → meets p (sends (a_request Low n) o t) f ≡ f
unfolding meets sent_what of_high
meets-low p n o t f = refl

pub meets-token : (p : ℕ) (o : List ℕ) (t : ℕ) (f : Fate) → meets p (sends a_token o t) f ≡ f
unfolding meets sent_what
meets-token p o t f = refl

pub meets-reply : (p : ℕ) (o : List ℕ) (t : ℕ) (f : Fate) → meets p (sends a_reply o t) f ≡ f
unfolding meets sent_what
meets-reply p o t f = refl

pub meets-begins : (p : ℕ) (f : Fate) → meets p begins f ≡ hold_begun f
unfolding meets
meets-begins p f = refl

pub meets-ends : (p : ℕ) (f : Fate) → meets p ends f ≡ hold_ended f
unfolding meets
meets-ends p f = refl

pub meets-resets : (p : ℕ) (f : Fate) → meets p resets f ≡ was_reset f
unfolding meets
meets-resets p f = refl

pub meets-confirmed : (p n s k : ℕ) (f : Fate) → n ≡ p → meets p (confirmed High n s k) f ≡ confirmed_with k f
unfolding meets of_high
meets-confirmed p n s k f e = pick_true _ _ (same_true e)

pub meets-another : (p n s k : ℕ) (f : Fate) → (n ≡ p → ⊥) → meets p (confirmed High n s k) f ≡ f
unfolding meets of_high
meets-another p n s k f e = pick-false _ _ (same_false e)

pub meets-lower : (p n s k : ℕ) (f : Fate) → meets p (confirmed Low n s k) f ≡ f
unfolding meets of_high
meets-lower p n s k f = refl

pub meets-collected : (p n : ℕ) (r : Record) (f : Fate) → n ≡ p
    → meets p (collected High n r) f ≡ collected_with r.count f
unfolding meets of_high
meets-collected p n r f e = pick_true _ _ (same_true e)

pub meets-uncollected : (p n : ℕ) (r : Record) (f : Fate) → (n ≡ p → ⊥) → meets p (collected High n r) f ≡ f
unfolding meets of_high
meets-uncollected p n r f e = pick-false _ _ (same_false e)

pub meets-low-collected : (p n : ℕ) (r : Record) (f : Fate) → meets p (collected Low n r) f ≡ f
unfolding meets of_high
meets-low-collected p n r f = refl

pub meets-accepted : (p : ℕ) (q : Priority) (n : ℕ) (f : Fate) → meets p (accepted q n) f ≡ f
unfolding meets
meets-accepted p q n f = refl

pub meets-indicated : (p : ℕ) (h : Head) (d : Part) (f : Fate) → meets p (indicated h d) f ≡ f
unfolding meets
meets-indicated p h d f = refl

pub meets-refused : (p n : ℕ) (f : Fate) → meets p (refused n) f ≡ f
unfolding meets
meets-refused p n f = refl

-- ---- what is known of a fate
-- not confirmed, no reset, and sent n times
pub record Fresh (n : ℕ) (f : Fate) : Type 0 where
  pub confirmations : f.confirmations ≡ 0
  pub reset : f.reset ≡ false
  pub collected : f.collected ≡ false
  pub sendings : f.sendings ≡ n

-- confirmed once with its count, and not collected
pub record Paid (limit : ℕ) (f : Fate) : Type 0 where
  pub confirmations : f.confirmations ≡ 1
  pub count : f.count ≡ f.sendings
  pub collected : f.collected ≡ false
  pub few : f.sendings ≤ limit + 1

-- confirmed once and collected, both with its count
pub record Gone (limit : ℕ) (f : Fate) : Type 0 where
  pub confirmations : f.confirmations ≡ 1
  pub count : f.count ≡ f.sendings
  pub collected : f.collected ≡ true
  pub shown : f.shown ≡ f.sendings
  pub few : f.sendings ≤ limit + 1

-- it waits behind d others with no hold on that counts
pub record Off (k d : ℕ) (f : Fate) : Type 0 where
  pub quiet : f.on ≡ false
  pub fresh : Fresh 0 f
  pub time : f.holds + d ≤ k

-- it waits behind d others, and a hold that counts has confirmed another before
pub record Pausing (k d : ℕ) (f : Fate) : Type 0 where
  pub fresh : Fresh 0 f
  pub time : f.holds + d ≤ k
  pub slack : f.on ≡ true → f.holds + d + 1 ≤ k

-- ---- and what becomes of that
pub fresh-born : Fresh 0 newborn
unfolding newborn
fresh-born = record { confirmations = refl; reset = refl; collected = refl; sendings = refl }

pub fresh-sent : (n : ℕ) (f : Fate) → Fresh n f → Fresh (n + 1) (sent_once f)
unfolding sent_once
fresh-sent n f h =
    record {
      confirmations = h.confirmations;
      reset = h.reset;
      collected = h.collected;
      sendings = ap (λ (m : ℕ). m + 1) h.sendings;
    }

pub fresh-begun : (n : ℕ) (f : Fate) → Fresh n f → Fresh n (hold_begun f)
unfolding hold_begun
fresh-begun n f h =
    record { confirmations = h.confirmations; reset = h.reset; collected = h.collected; sendings = h.sendings }

pub fresh-ended : (n : ℕ) (f : Fate) → Fresh n f → Fresh n (hold_ended f)
unfolding hold_ended
fresh-ended n f h =
    record { confirmations = h.confirmations; reset = h.reset; collected = h.collected; sendings = h.sendings }

pub paid-now : (n limit : ℕ) (f : Fate) → Fresh n f → n ≤ limit + 1 → Paid limit (confirmed_with n f)
unfolding confirmed_with
paid-now n limit f h l =
    record {
      confirmations = ap (λ (m : ℕ). m + 1) h.confirmations;
      count = sym h.sendings;
      collected = h.collected;
      few = omega (arith, h.sendings);
    }

pub paid-begun : (limit : ℕ) (f : Fate) → Paid limit f → Paid limit (hold_begun f)
unfolding hold_begun
paid-begun limit f h =
    record { confirmations = h.confirmations; count = h.count; collected = h.collected; few = h.few }

pub paid-ended : (limit : ℕ) (f : Fate) → Paid limit f → Paid limit (hold_ended f)
unfolding hold_ended
paid-ended limit f h =
    record { confirmations = h.confirmations; count = h.count; collected = h.collected; few = h.few }

pub gone-now : (n limit : ℕ) (f : Fate) → Paid limit f → n ≡ f.sendings → Gone limit (collected_with n f)
unfolding collected_with
gone-now n limit f h e =
    record { confirmations = h.confirmations; count = h.count; collected = refl; shown = e; few = h.few }

-- a hold that ends counts if it began after the acceptance
ended-time : (k d : ℕ) (f : Fate) → Pausing k d f → (hold_ended f).holds + d ≤ k
unfolding hold_ended
ended-time k d f h =
    by (λ n. n + d ≤ k) _ _ _
    (λ e. let s = h.slack e in omega arith)
    (λ e. h.time)

pub off-ended : (k d : ℕ) (f : Fate) → Pausing k d f → Off k d (hold_ended f)
unfolding hold_ended
off-ended k d f h = record { quiet = refl; fresh = fresh-ended 0 f h.fresh; time = ended-time k d f h }
