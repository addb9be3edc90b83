-- What submit and collect leave of a state and one queue's row that was lent, by what they decided. Assumes nothing.
use Prim.Native.Nat.{ℕ, ◌≤◌}
use native.Mathlib.Omega.{arith}
use mathlib.Core.Bool.{Bool, true, false}
use mathlib.Core.Path.{◌≡◌, refl, sym, ap, ◌∙◌}
use mathlib.Core.List.{List, [], ◌∷◌}
use Rattle.choice.specs.Choice.{pick, said, same}
use Rattle.std.specs.Prelude.{Result, Err, length}
use Rattle.choice.proofs.Rules.{pick_true, pick-false, same_true, same_false, true_same, false_same, passed}
use Rattle.choice.proofs.Rules.{is_said, if-same, unless-same}
use Rattle.refusal.specs.declared.Refusal.{Refusal}
use Rattle.refusal.specs.Refusal.{number}
use Rattle.refusal.proofs.Numbers.{above_zero}
use Rattle.request.specs.declared.Record.{Record}
use Rattle.request.specs.Record.{SIZE, limited}
use Rattle.queue.specs.declared.Queue.{Queue}
use Rattle.queue.specs.Queue.{Taken}
use Rattle.queue.specs.Queue.{Collected}
use Rattle.queue.specs.Queue.{Refused, Handed}
use Rattle.queue.specs.declared.Taken.{Taken as Takes}
use Rattle.queue.specs.declared.Handed.{Handed as Hands}
use Rattle.queue.specs.Queue.{Ruled, refuse, take, misfit, taken_of, collected_of}
use Rattle.rows.specs.Rows.{Lent, Left, left, submitted, handed}
use Rattle.rows.proofs.Submitted.{Outcome, outcome}
use Rattle.rows.proofs.Submitted.Outcome.{as_it_was, with_it}
use Rattle.state.specs.declared.Priority.{Priority}
use Rattle.state.specs.declared.Priority.TheVariants.{High, Low}
use Rattle.state.specs.declared.Core.{Core}
use Rattle.state.specs.declared.Kept.{Kept}
use Rattle.state.specs.declared.State.{State}
use Rattle.state.specs.Told.{Accepted}
use Rattle.state.specs.declared.Accepted.{Accepted as GivenAccepted}
use Rattle.state.specs.declared.HandedBack.{HandedBack as GivenHandedBack}
use Rattle.state.specs.Told.{accepted_by, handed_back_by}
use Rattle.state.specs.World.{Rows, World, Done, rows, accepted, refused, done, queue_of, rows_of, with_queue, with_core}
use Rattle.state.specs.World.{with_rows, with_site, world_of, state_of, state_with}
use Rattle.state.specs.Refusals.{unlent, lawless}
use Rattle.state.specs.Calls.{no_rows, called, submitting, collecting}
use Rattle.state.specs.Calls as Calls
use Rattle.state.specs.Told.{telling, adds, untold, lent, accepted_of, submitted_of, handed_back_of, hand_of}
use Rattle.state.proofs.Facts.{lent_rows, lawful, ruled-of}
use Rattle.station_queues.specs.Decided.{refusal_of, taking, handing, accepted_for}

-- two refusals and what follows them, each held against what it stands for
both_of : {A B : Type 0} (f : A → B) (g : ℕ → A) (u l : Bool) {x y : B} (z : A) → f (g 21) ≡ x → f (g 29) ≡ y
    → f (pick (same (pick u 21 (pick l 29 0)) 0) z (g (pick u 21 (pick l 29 0)))) ≡ pick u x (pick l y (f z))
unfolding pick same
both_of f g true l z e h = e
both_of f g false true z e h = h
both_of f g false false z e h = refl

-- ---- submit
refusing : (p : Priority) (k : ℕ) (q : Queue) (n : Record) (row area : List ℕ) (w : World) → same k 0 ≡ false
    → called (submitting p (left (refuse k q n) row area) w.site) w ≡ Calls.refuse k w
unfolding called submitting done with_site refuse Calls.refuse
refusing p k q n row area w h = ap (λ (d : Done). called d w) (pick-false _ _ h)

-- the call, by what it decided
module _ (s : State) (n : Record) (x : List ℕ) (r : Rows) where
  submit-by : (p : Priority)
      → called (submitting p (taking p s.core s.masters.0 s.started.0 s.memory.kept n x r)
      (lent p s r).site) (lent p s r) ≡ Calls.submit p n x (lent p s r)
  unfolding Calls.submit taking refusal_of lent world_of rows_of queue_of
  submit-by High =
      both_of (λ (t : Left Taken). called (submitting High t (world_of s r no_rows).site) (world_of s r no_rows))
      (λ (k : ℕ). left (refuse k s.core.high n) r.row r.area) _ _ _
      (refusing High 21 _ n _ _ _ (same_false (omega arith)))
      (refusing High 29 _ n _ _ _ (same_false (omega arith)))
  submit-by Low =
      both_of (λ (t : Left Taken). called (submitting Low t (world_of s no_rows r).site) (world_of s no_rows r))
      (λ (k : ℕ). left (refuse k s.core.low n) r.row r.area) _ _ _
      (refusing Low 21 _ n _ _ _ (same_false (omega arith))) (refusing Low 29 _ n _ _ _ (same_false (omega arith)))

-- a refused one is answered by its number, and the state as it was
pub refused-for : (p : Priority) (s : State) (q : Queue) (n : Record) (k : Refusal)
    → accepted_by s (Err k) ≡ accepted_for p (taken_of q n (Err k)) s
unfolding accepted_by accepted_for taken_of refuse
refused-for p s q n k =
    let pos = above_zero k in
    unless-same _ (λ w. omega arith) refl

-- and leaves the state and the row
left-refused : (p : Priority) (k : ℕ) (s : State) (r : Rows)
    → submitted_of p (called (done (lent p s r).site (refused k ∷ [])) (lent p s r))
    ≡ left (record { refused = k; state = s; place = 0 }) r.row r.area
unfolding submitted_of accepted_of called done with_site lent world_of state_of rows_of telling adds untold
left-refused High k s r = refl
left-refused Low k s r = refl

left-accepted : (p : Priority) (k : ℕ) (q : Queue) (row area : List ℕ) (s : State) (r : Rows)
    → submitted_of p (called
    (done (with_rows p (record { row = row; area = area })
    (with_core (with_queue p q (lent p s r).site.core) (lent p s r).site)) (accepted p k ∷ [])) (lent p s r))
    ≡ left (record { refused = 0; state = state_with (with_queue p q s.core) s; place = k }) row area
unfolding submitted_of accepted_of called done with_site with_rows with_core with_queue lent world_of state_of state_with
    rows_of telling adds untold
left-accepted High k q row area s r = refl
left-accepted Low k q row area s r = refl

-- what was decided leaves the row and the data area where it refuses
submitted-kept : (ts : ℕ) (q : Queue) (n : Record) (x row area : List ℕ) {w : Left Taken}
    → Outcome ts q n x row area w → (w.answer.refused ≡ 0 → ⊥) → (w.row ≡ row) × (w.area ≡ area)
unfolding take
submitted-kept ts q n x row area (as_it_was k z e) h = rw (← e) (refl, refl)
submitted-kept ts q n x row area (with_it a e) h = absurd (h (rw (← e)))

module _ (p : Priority) (c : Core) (masters started : List ℕ) (k : Kept) (n : Record) (x : List ℕ) (r : Rows) where
  abbrev own : Record
  own = limited c.settings.retries.0 n

  taking-kept-by : (u l : Bool) → unlent (queue_of p c) r ≡ u → lawless c masters started k ≡ l
      → ((taking p c masters started k n x r).answer.refused ≡ 0 → ⊥)
      → ((taking p c masters started k n x r).row ≡ r.row) × ((taking p c masters started k n x r).area ≡ r.area)
  unfolding taking refusal_of pick same said
  taking-kept-by true l e f h = rw e (refl, refl)
  taking-kept-by false true e f h = rw (e, f) (refl, refl)
  taking-kept-by false false e f h =
      rw (e, f) (submitted-kept _ _ own x _ _ (outcome _ _ own x _ _) (rw (e, f) at h))

  taking-kept : ((taking p c masters started k n x r).answer.refused ≡ 0 → ⊥)
      → ((taking p c masters started k n x r).row ≡ r.row) × ((taking p c masters started k n x r).area ≡ r.area)
  taking-kept h = taking-kept-by _ _ refl refl h

-- where neither refuses, the queue's counts are in order, the row and the data area are its own, and the station's
-- retry limit is in its rule
pub record Ready (p : Priority) (c : Core) (r : Rows) : Type 0 where
  pub ruled : Ruled (queue_of p c)
  pub lent : Lent (queue_of p c) r.row r.area
  pub limit : c.settings.retries.0 ≤ 15

pub unrefused : (p : Priority) (c : Core) (masters started : List ℕ) (k : Kept) (r : Rows)
    → 0 ≡ refusal_of (unlent (queue_of p c) r) c masters started k → Ready p c r
unfolding refusal_of
unrefused p c masters started k r e =
    let u = passed _ 21 _ (omega arith) (sym e) in
    let l = passed _ 29 _ (omega arith) u.1 in
    let w = lawful c masters started k (is_said l.0) in
    record { ruled = ruled-of c p w; lent = lent_rows (queue_of p c) r (is_said u.0); limit = w.retries }

-- the refusal as the code finds it, of the queue and the lengths of what is lent
module _ (s : State) (p : Priority) (row area : List ℕ) {q : Queue} {m : ℕ} (b : q ≡ queue_of p s.core)
    (e : m ≡ refusal_of (misfit q SIZE (length row) (length area)) s.core s.masters.0 s.started.0 s.memory.kept) where
  found : m ≡ refusal_of (unlent (queue_of p s.core) (rows row area)) s.core s.masters.0 s.started.0 s.memory.kept
  unfolding unlent
  found = rw b at e

  pub ready : m ≡ 0 → Ready p s.core (rows row area)
  ready z = unrefused _ _ _ _ _ _ (rw z at found)

-- the call, refused and carried out, by what the code finds
module _ (s : State) (p : Priority) (n : Record) (x row area : List ℕ) {t : Taken} {row' area' : List ℕ}
    (e : left t row' area'
    ≡ taking p s.core s.masters.0 s.started.0 s.memory.kept n x (rows row area)) where
  by-decision : submitted_of p
      (called (submitting p (left t row' area') (lent p s (rows row area)).site) (lent p s (rows row area)))
      ≡ submitted_of p (Calls.submit p n x (lent p s (rows row area)))
  by-decision = rw e (ap (submitted_of p) (submit-by s n x (rows row area) p))

  submit-refused : (t.refused ≡ 0 → ⊥)
      → left (record { refused = t.refused; state = s; place = 0 }) row' area'
      ≡ submitted_of p (Calls.submit p n x (lent p s (rows row area)))
  unfolding submitting
  submit-refused h =
      let k = taking-kept p s.core s.masters.0 s.started.0 s.memory.kept n x (rows row area)
      (rw (← e) h) in
      rw (ap (λ (l : Left Taken). l.row) e ∙ k.0, ap (λ (l : Left Taken). l.area) e ∙ k.1)
      (sym (left-refused p t.refused s (rows row area))
      ∙ ap (λ (d : Done). submitted_of p (called d (lent p s (rows row area)))) (sym (pick-false _ _ (same_false h)))
      ∙ by-decision)

  submit-taken : t.refused ≡ 0
      → left (record { refused = 0; state = state_with (with_queue p t.queue s.core) s; place = t.place }) row'
      area' ≡ submitted_of p (Calls.submit p n x (lent p s (rows row area)))
  unfolding submitting
  submit-taken h =
      sym (left-accepted p t.place t.queue row' area' s (rows row area))
      ∙ ap (λ (d : Done). submitted_of p (called d (lent p s (rows row area)))) (sym (pick_true _ _ (same_true h)))
      ∙ by-decision

  submit-either : (b : Bool) → same t.refused 0 ≡ b
      → left (accepted_for p t s) row' area' ≡ submitted_of p (Calls.submit p n x (lent p s (rows row area)))
  unfolding accepted_for
  submit-either true f =
      ap (λ (a : Accepted). left a row' area') (pick_true _ _ f) ∙ submit-taken (true_same _ _ f)
  submit-either false f =
      ap (λ (a : Accepted). left a row' area') (pick-false _ _ f) ∙ submit-refused (false_same _ _ f)

  pub submit-by-decision : left (accepted_for p t s) row' area'
      ≡ submitted_of p (Calls.submit p n x (lent p s (rows row area)))
  submit-by-decision = submit-either _ refl

-- the call, by what the code finds: the queue and its refusal, and then what the row's own submit answers
module _ (s : State) (p : Priority) (n : Record) (x row area : List ℕ) {q : Queue} {m : ℕ} (b : q ≡ queue_of p s.core)
    (e : m ≡ refusal_of (misfit q SIZE (length row) (length area)) s.core s.masters.0 s.started.0 s.memory.kept) where
  pub submit-declined : (k : Refusal) {a : Result GivenAccepted Refusal} → a ≡ Err k → m ≡ number k
      → left (accepted_by s a) row area ≡ submitted_of p (Calls.submit p n x (lent p s (rows row area)))
  unfolding accepted_by accepted_for taking refuse
  submit-declined k h z =
      let pos = above_zero k in
      let f = rw z at (found s p row area b e) in
      rw h
      (ap (λ (a : Accepted). left a row area) (unless-same _ (λ w. omega arith) refl)
      ∙ submit-by-decision s p n x row area {t = refuse (number k) (queue_of p s.core) n}
      (rw (← f) (unless-same _ (λ w. omega arith) refl)))

  abbrev said_of : Result Takes Refusal → Taken
  said_of t = taken_of q (limited s.core.settings.retries.0 n) t

  decided_as : m ≡ 0 → {t : Taken} {row' area' : List ℕ}
      → left t row' area' ≡ submitted s.core.ts.0 q (limited s.core.settings.retries.0 n) x row area
      → left t row' area' ≡ taking p s.core s.masters.0 s.started.0 s.memory.kept n x (rows row area)
  unfolding taking
  decided_as z g = rw (← found s p row area b e) (if-same _ z (rw b at g))

  pub submit-done : m ≡ 0 → (t : Result Takes Refusal) (a : Result GivenAccepted Refusal) {row' area' : List ℕ}
      → accepted_by s a ≡ accepted_for p (said_of t) s
      → left (said_of t) row' area' ≡ submitted s.core.ts.0 q (limited s.core.settings.retries.0 n) x row area
      → left (accepted_by s a) row' area' ≡ submitted_of p (Calls.submit p n x (lent p s (rows row area)))
  submit-done z t a h g = rw h (submit-by-decision s p n x row area (decided_as z g))

-- ---- collect
uncollecting : (p : Priority) (k : ℕ) (w : World) → called (collecting p (Refused k) w.site) w ≡ Calls.refuse k w
unfolding called collecting done with_site Calls.refuse
uncollecting p k w = refl

module _ (s : State) (r : Rows) where
  collect-by : (p : Priority)
      → called (collecting p (handing p s.core s.masters.0 s.started.0 s.memory.kept r)
      (lent p s r).site) (lent p s r) ≡ Calls.collect p (lent p s r)
  unfolding Calls.collect handing refusal_of lent world_of rows_of queue_of
  collect-by High =
      both_of (λ (c : Collected). called (collecting High c (world_of s r no_rows).site)
      (world_of s r no_rows)) Refused _ _ _ (uncollecting High 21 _) (uncollecting High 29 _)
  collect-by Low =
      both_of (λ (c : Collected). called (collecting Low c (world_of s no_rows r).site)
      (world_of s no_rows r)) Refused _ _ _ (uncollecting Low 21 _) (uncollecting Low 29 _)

handed-by : (p : Priority) (c : Collected) (s : State) (r : Rows)
    → hand_of p c s ≡ handed_back_of (called (collecting p c (lent p s r).site) (lent p s r))
unfolding hand_of handed_back_of called collecting done with_site with_core with_queue lent world_of state_of state_with
    telling adds untold
handed-by High (Refused k) s r = refl
handed-by High (Handed k n q) s r = refl
handed-by Low (Refused k) s r = refl
handed-by Low (Handed k n q) s r = refl

-- the call, by what was decided
module _ (s : State) (p : Priority) (row area : List ℕ) {c : Collected}
    (e : c ≡ handing p s.core s.masters.0 s.started.0 s.memory.kept (rows row area)) where
  pub collect-hand : hand_of p c s ≡ handed_back_of (Calls.collect p (lent p s (rows row area)))
  collect-hand = rw e (handed-by p _ s (rows row area) ∙ ap handed_back_of (collect-by s (rows row area) p))

-- the call, by what the code finds
module _ (s : State) (p : Priority) (row area : List ℕ) {q : Queue} {m : ℕ} (b : q ≡ queue_of p s.core)
    (e : m ≡ refusal_of (misfit q SIZE (length row) (length area)) s.core s.masters.0 s.started.0 s.memory.kept) where
  pub collect-declined : (k : Refusal) {a : Result GivenHandedBack Refusal} → a ≡ Err k → m ≡ number k
      → handed_back_by s a ≡ handed_back_of (Calls.collect p (lent p s (rows row area)))
  unfolding handed_back_by hand_of handing
  collect-declined k h z =
      let pos = above_zero k in
      let f = rw z at (found s p row area b e) in
      rw h (collect-hand s p row area {c = Refused (number k)} (rw (← f) (unless-same _ (λ w. omega arith) refl)))

  found_as : m ≡ 0 → {c : Collected} → c ≡ handed q row
      → c ≡ handing p s.core s.masters.0 s.started.0 s.memory.kept (rows row area)
  unfolding handing
  found_as z g = rw (← found s p row area b e) (if-same _ z (rw b at g))

  pub collect-done : m ≡ 0 → (t : Result Hands Refusal) (a : Result GivenHandedBack Refusal)
      → handed_back_by s a ≡ hand_of p (collected_of t) s → collected_of t ≡ handed q row
      → handed_back_by s a ≡ handed_back_of (Calls.collect p (lent p s (rows row area)))
  collect-done z t a h g = rw h (collect-hand s p row area (found_as z g))
