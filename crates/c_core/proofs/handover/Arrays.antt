-- Submit and collect leave the arrays of a station as they were, so their answers and the lent row are all that they
-- hand over. Assumes nothing.
use Prim.Native.Nat.{ℕ}
use mathlib.Core.Bool.{Bool, true, false}
use mathlib.Core.List.{List}
use mathlib.Core.Path.{◌≡◌, refl, ap}
use Rattle.choice.specs.Choice.{pick}
use Rattle.request.specs.declared.Record.{Record}
use Rattle.queue.specs.Queue.{Taken}
use Rattle.queue.specs.Queue.{Collected}
use Rattle.queue.specs.Queue.{Refused, Handed}
use Rattle.rows.specs.Rows.{Left, left}
use Rattle.state.specs.declared.Priority.{Priority}
use Rattle.state.specs.declared.Priority.TheVariants.{High, Low}
use Rattle.state.specs.declared.Core.{Core}
use Rattle.state.specs.declared.State.{State}
use Rattle.state.specs.Told.{Accepted}
use Rattle.state.specs.Told.{HandedBack}
use Rattle.state.specs.World.{Rows, World, Event, Done, Called, rows, rows_of, done, with_core, with_rows, with_site}
use Rattle.state.specs.World.{world_of}
use Rattle.state.specs.Calls.{called, refuse, submit, collect}
use Rattle.state.specs.Calls as Calls
use Rattle.state.specs.Told.{lent, handed_back_of, submitted_of}
use Rattle.state.proofs.Beside.{collect-keeps}
use Rattle.c_core.specs.declared.numbers.Numbers.{Numbers}
use Rattle.c_core.specs.Handover.{flat_accepted, flat_collected, lodged, lodging, submitting, collecting}

-- the arrays that a call leaves are those of a state
pub record Same (s : State) (d : Called) : Type 0 where
  pub masters : d.world.site.masters ≡ s.masters.0
  pub started : d.world.started ≡ s.started.0
  pub marks : d.world.site.marks ≡ s.marks.0
  pub points : d.world.points ≡ s.points.0
  pub octets : d.world.memory.octets ≡ s.memory.octets

same-pick : {s : State} (b : Bool) {x y : Called} → Same s x → Same s y → Same s (pick b x y)
unfolding pick
same-pick true e f = e
same-pick false e f = f

same-refused : (p : Priority) (k : ℕ) (s : State) (r : Rows) → Same s (refuse k (lent p s r))
unfolding refuse lent world_of
same-refused High k s r = record { masters = refl; started = refl; marks = refl; points = refl; octets = refl }
same-refused Low k s r = record { masters = refl; started = refl; marks = refl; points = refl; octets = refl }

-- ---- submit
same-done : (b : Bool) (x y : Done) (w : World) {s : State} → Same s (called x w) → Same s (called y w)
    → Same s (called (pick b x y) w)
unfolding pick
same-done true x y w e f = e
same-done false x y w e f = f

same-still : (p : Priority) (e : List Event) (s : State) (r : Rows)
    → Same s (called (done (lent p s r).site e) (lent p s r))
unfolding called done with_site lent world_of
same-still High e s r = record { masters = refl; started = refl; marks = refl; points = refl; octets = refl }
same-still Low e s r = record { masters = refl; started = refl; marks = refl; points = refl; octets = refl }

same_taken : (p : Priority) (c : Core) (t : Rows) (e : List Event) (s : State) (r : Rows)
    → Same s (called (done (with_rows p t (with_core c (lent p s r).site)) e) (lent p s r))
unfolding called done with_rows with_core with_site lent world_of
same_taken High c t e s r = record { masters = refl; started = refl; marks = refl; points = refl; octets = refl }
same_taken Low c t e s r = record { masters = refl; started = refl; marks = refl; points = refl; octets = refl }

same-submitted : (p : Priority) (l : Left Taken) (s : State) (r : Rows)
    → Same s (called (Calls.submitting p l (lent p s r).site) (lent p s r))
unfolding Calls.submitting
same-submitted p l s r = same-done _ _ _ _ (same_taken p _ _ _ s r) (same-still p _ s r)

submit-same : (p : Priority) (q : Record) (x : List ℕ) (s : State) (r : Rows) → Same s (submit p q x (lent p s r))
unfolding submit
submit-same p q x s r =
    same-pick _ (same-refused p 21 s r) (same-pick _ (same-refused p 29 s r) (same-submitted p _ s r))

-- ---- collect
same-collected : (p : Priority) (c : Collected) (s : State) (r : Rows)
    → Same s (called (Calls.collecting p c (lent p s r).site) (lent p s r))
unfolding Calls.collecting called done with_core with_site lent world_of
same-collected High (Refused n) s r =
    record { masters = refl; started = refl; marks = refl; points = refl; octets = refl }
same-collected High (Handed n e q) s r =
    record { masters = refl; started = refl; marks = refl; points = refl; octets = refl }
same-collected Low (Refused n) s r =
    record { masters = refl; started = refl; marks = refl; points = refl; octets = refl }
same-collected Low (Handed n e q) s r =
    record { masters = refl; started = refl; marks = refl; points = refl; octets = refl }

collect-same : (p : Priority) (s : State) (r : Rows) → Same s (collect p (lent p s r))
unfolding collect
collect-same p s r =
    same-pick _ (same-refused p 21 s r) (same-pick _ (same-refused p 29 s r) (same-collected p _ s r))

-- ---- what they hand over, by what the code finds
lodging-same : {A : Type 0} (p : Priority) (a : A) {s : State} {d : Called} → Same s d
    → lodged a s.masters.0 s.started.0 s.marks.0 s.points.0 s.memory.octets
    (rows_of p d.world.site).row (rows_of p d.world.site).area
    ≡ lodging p a d
unfolding lodging
lodging-same p a k = rw (k.masters, k.started, k.marks, k.points, k.octets)

module _ (n : Numbers) (p : Priority) (s : State) (row area : List ℕ) where
  pub submit-lodged : (q : Record) (x : List ℕ) {a : Accepted} {row' area' : List ℕ}
      → left a row' area' ≡ submitted_of p (submit p q x (lent p s (rows row area)))
      → lodged (flat_accepted n a) s.masters.0 s.started.0 s.marks.0 s.points.0
      s.memory.octets row' area'
      ≡ submitting n p (submit p q x (lent p s (rows row area)))
  unfolding submitted_of submitting
  submit-lodged q x e =
      rw (
        ap (λ (l : Left Accepted). l.answer) e,
        ap (λ (l : Left Accepted). l.row) e,
        ap (λ (l : Left Accepted). l.area) e,
      )
      (lodging-same p _ (submit-same p q x s (rows row area)))

  pub collect-lodged : {a : HandedBack} → a ≡ handed_back_of (collect p (lent p s (rows row area)))
      → lodged (flat_collected n a) s.masters.0 s.started.0 s.marks.0 s.points.0
      s.memory.octets row area
      ≡ collecting n p (collect p (lent p s (rows row area)))
  unfolding collecting
  collect-lodged e =
      rw e
      (rw (collect-keeps s (rows row area) p) at
      (lodging-same p (flat_collected n (handed_back_of (collect p (lent p s (rows row area)))))
      (collect-same p s (rows row area))))
