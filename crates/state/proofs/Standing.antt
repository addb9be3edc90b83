-- How a high request stands between calls: waiting, with the holds that may still pass it over, or shut, or collected;
-- and each act keeps that. Assumes nothing.
use Prim.Native.Nat.{ℕ, zero, suc, ◌+◌, ◌-◌, ◌≤◌, ◌<◌}
use mathlib.Core.Bool.{Bool, true, false, true≢false}
use mathlib.Core.Path.{◌≡◌, refl, sym, ap, ◌∙◌}
use mathlib.Core.List.{List, [], ◌∷◌}
use native.Mathlib.Omega.{arith}
use Rattle.request.specs.declared.Record.{Record}
use Rattle.queue.specs.declared.Queue.{Queue}
use Rattle.queue.specs.Queue as Q
use Rattle.queue.specs.Queue.{place, grown}
use Rattle.rows.specs.Rows.{at, put, confirm}
use Rattle.state.specs.declared.Priority.{Priority}
use Rattle.state.specs.declared.Priority.TheVariants.{High, Low}
use Rattle.state.specs.declared.Doing.{Doing}
use Rattle.state.specs.declared.Core.{Core}
use Rattle.state.specs.declared.Outcome.{Outcome}
use Rattle.state.specs.World.{Site, Event, a_request, sends, confirmed, begins, ends, done, with_doing, with_queue}
use Rattle.state.specs.World.{queue_of, with_core, with_marks, rows_of, with_rows}
use Rattle.state.specs.Request.{record_in, record_of, sending, send_core, once, status_of, close_of}
use Rattle.state.specs.Pass.{passing as passing_on}
use Rattle.state.specs.Fate.{Fate, sent_once, confirmed_with, hold_begun, hold_ended, fate}
use Rattle.state.proofs.Cases.{by}
use Rattle.state.proofs.Phases.{flight}
use Rattle.state.proofs.Acts.{first_sending, next_sending, closing, sent, sent_again}
use Rattle.state.proofs.Places.{Waiting, Shut, Rowed, current-ours, current-ahead, current-shut}
use Rattle.state.proofs.Places.{waiting-confirmed, shut-now, shut-confirmed, rowed-confirmed, rowed-grown}
use Rattle.state.proofs.Places.{ahead-kept, behind-kept}
use Rattle.state.proofs.Fates.{frozen, fate-one, stays, meets-sent, meets-other, meets-low, meets-begins}
use Rattle.state.proofs.Fates.{meets-ends, meets-confirmed, meets-another, meets-lower, Fresh, Paid, Gone, Off}
use Rattle.state.proofs.Fates.{Pausing, fresh-sent, fresh-begun, paid-now, paid-begun, paid-ended, off-ended}

-- the high queue with its row in order, and the request's own limit in its record at place p
pub record Ground (p limit : ℕ) (q : Queue) (row : List ℕ) : Type 0 where
  pub rowed : Rowed q row
  pub limits : (at row p).limit ≡ limit

-- what the station does, while the request waits behind d others: nothing is being sent; it is itself being sent; one
-- ahead of it is; or a low request is
pub data Stage (k limit d : ℕ) (g : Doing) (f : Fate) : Type 0 where
  off : flight g.phase ≡ false → Off k d f → Stage k limit d g f
  ours : flight g.phase ≡ true → g.served ≡ High → d ≡ 0 → Fresh g.sendings f → g.sendings ≤ limit + 1
      → f.holds + d ≤ k → Stage k limit d g f
  ahead : flight g.phase ≡ true → g.served ≡ High → 0 < d → Fresh 0 f → f.holds + d ≤ k → Stage k limit d g f
  lower : flight g.phase ≡ true → g.served ≡ Low → Pausing k d f → Stage k limit d g f

-- what is being sent from the high queue is in it
pub record Afloat (g : Doing) (q : Queue) : Type 0 where
  pub some : flight g.phase ≡ true → g.served ≡ High → 0 < q.unconfirmed

-- between calls
pub data Standing (p k limit : ℕ) (g : Doing) (q : Queue) (row : List ℕ) (f : Fate) : Type 0 where
  waits : (d : ℕ) → Ground p limit q row → Waiting p d q → Stage k limit d g f → Standing p k limit g q row f
  shut : Rowed q row → Shut p f.sendings q row → Afloat g q → Paid limit f → Standing p k limit g q row f
  gone : Gone limit f → Standing p k limit g q row f

-- between acts, where it waits with X
pub data Between (p limit : ℕ) (X : ℕ → Fate → Type 0) (q : Queue) (row : List ℕ) (f : Fate) : Type 0 where
  waits : (d : ℕ) → Ground p limit q row → Waiting p d q → X d f → Between p limit X q row f
  shut : Rowed q row → Shut p f.sendings q row → Paid limit f → Between p limit X q row f
  gone : Gone limit f → Between p limit X q row f

-- at a hold's start
pub record Opening (k d : ℕ) (f : Fate) : Type 0 where
  pub fresh : Fresh 0 f
  pub time : f.holds + d ≤ k

abbrev pub StandsAt : ℕ → ℕ → ℕ → Site → Fate → Type 0
StandsAt p k limit s f = Standing p k limit s.core.doing s.core.high s.high.row f

abbrev pub BetweenAt : ℕ → ℕ → (ℕ → Fate → Type 0) → Site → Fate → Type 0
BetweenAt p limit X s f = Between p limit X s.core.high s.high.row f

clash : {A : Type 0} {b : Bool} → b ≡ true → b ≡ false → A
clash e h = absurd (true≢false (sym e ∙ h))

high-low : High ≡ Low → ⊥
high-low e = true≢false (ap is-high e)
  where
    is-high : Priority → Bool
    is-high High = true
    is-high Low = false

-- ---- what the acts make of what the station does
pub sending-flight : (x : Priority) (n : ℕ) → flight (sending x n).phase ≡ true
unfolding sending flight
sending-flight x n = by (λ (g : Doing). flight g.phase ≡ true) _ _ _ (λ e. refl) (λ e. refl)

pub sending-served : (x : Priority) (n : ℕ) → (sending x n).served ≡ x
unfolding sending
sending-served x n = by (λ (g : Doing). g.served ≡ x) _ _ _ (λ e. refl) (λ e. refl)

pub sending-once : (x : Priority) (n : ℕ) → (sending x n).sendings ≡ 1
unfolding sending
sending-once x n = by (λ (g : Doing). g.sendings ≡ 1) _ _ _ (λ e. refl) (λ e. refl)

pub passing-flight : (n : ℕ) (c : Core) → flight (passing_on n c).phase ≡ false
unfolding passing_on flight
passing-flight n c = by (λ (g : Doing). flight g.phase ≡ false) _ _ _ (λ e. refl) (λ e. refl)

held-sent : (k d : ℕ) (f : Fate) → f.holds + d ≤ k → (sent_once f).holds + d ≤ k
unfolding sent_once
held-sent k d f h = h

shut-ended : {p : ℕ} {q : Queue} {row : List ℕ} (f : Fate) → Shut p f.sendings q row
    → Shut p (hold_ended f).sendings q row
unfolding hold_ended
shut-ended f w = w

shut-begun : {p : ℕ} {q : Queue} {row : List ℕ} (f : Fate) → Shut p f.sendings q row
    → Shut p (hold_begun f).sendings q row
unfolding hold_begun
shut-begun f w = w

opening-begun : (k d : ℕ) (f : Fate) → Off k d f → Opening k d (hold_begun f)
unfolding hold_begun
opening-begun k d f o = record { fresh = fresh-begun 0 f o.fresh; time = o.time }

sent-count : (f : Fate) (n : ℕ) → f.sendings ≡ n → (confirmed_with n f).sendings ≡ n
unfolding confirmed_with
sent-count f n e = e

pausing-closed : (k d : ℕ) (f : Fate) → 0 < d → Fresh 0 f → f.holds + d ≤ k → Pausing k (d - 1) f
pausing-closed k d f h z t = record { fresh = z; time = omega arith; slack = λ e. omega arith }

-- one ahead of it is confirmed, and one is taken behind it: its record stays as it is
pub ground-closed : {p limit d : ℕ} (q : Queue) (status m : ℕ) (x row area : List ℕ) → Ground p limit q row → 0 < d
    → Waiting p d q → Ground p limit (Q.confirmed q) (confirm q status m x row area).row
ground-closed q status m x row area g h w =
    record {
      rowed = rowed-confirmed q row status m x area g.rowed (omega (arith, w.within));
      limits = ap (λ (r : Record). r.limit) (ahead-kept q row status m x area g.rowed h w) ∙ g.limits;
    }

pub ground-grown : {p limit d : ℕ} (q : Queue) (row : List ℕ) (r : Record) → Ground p limit q row
    → q.confirmed + q.unconfirmed < q.places → Waiting p d q
    → Ground p limit (grown q) (put row (place q (q.confirmed + q.unconfirmed)) r)
ground-grown q row r g h w =
    record {
      rowed = rowed-grown q row r g.rowed h;
      limits = ap (λ (e : Record). e.limit) (behind-kept q row r g.rowed h w) ∙ g.limits;
    }

module _ (p k limit : ℕ) where
  -- once collected, nothing changes its fate
  pub still-gone : {g : Doing} {q : Queue} {row : List ℕ} (l : List Event) (f : Fate) → Gone limit f
      → Standing p k limit g q row (fate p l f)
  still-gone l f h = gone (rw (frozen p l f h.collected) h)

  pub stayed-gone : {X : ℕ → Fate → Type 0} {q : Queue} {row : List ℕ} (l : List Event) (f : Fate)
      → Gone limit f → Between p limit X q row (fate p l f)
  stayed-gone l f h = gone (rw (frozen p l f h.collected) h)

  -- ---- a sending
  ours-sent : {g' : Doing} {q' : Queue} {row' : List ℕ} (n : ℕ) (o : List ℕ) (t : ℕ) (f : Fate)
      → n ≡ p → f.collected ≡ false → Standing p k limit g' q' row' (sent_once f)
      → Standing p k limit g' q' row' (fate p (sends (a_request High n) o t ∷ []) f)
  ours-sent n o t f e c h = rw (fate-one p (sends (a_request High n) o t) f c, meets-sent p n o t f e) h

  other-sent : {g' : Doing} {q' : Queue} {row' : List ℕ} (n : ℕ) (o : List ℕ) (t : ℕ) (f : Fate)
      → (n ≡ p → ⊥) → Standing p k limit g' q' row' f
      → Standing p k limit g' q' row' (fate p (sends (a_request High n) o t ∷ []) f)
  other-sent n o t f e h = rw (stays p (sends (a_request High n) o t) f (meets-other p n o t f e)) h

  lower-sent : {g' : Doing} {q' : Queue} {row' : List ℕ} (n : ℕ) (o : List ℕ) (t : ℕ) (f : Fate)
      → Standing p k limit g' q' row' f
      → Standing p k limit g' q' row' (fate p (sends (a_request Low n) o t ∷ []) f)
  lower-sent n o t f h = rw (stays p (sends (a_request Low n) o t) f (meets-low p n o t f)) h

  -- ---- send
  our-first : (n : ℕ) (f : Fate) → Opening k 0 f → Stage k limit 0 (sending High n) (sent_once f)
  our-first n f o =
      let e = sending-once High n in
      ours (sending-flight High n) (sending-served High n) refl (rw e (fresh-sent 0 f o.fresh))
      (rw e (omega arith)) (held-sent k 0 f o.time)

  first-sent : (d : ℕ) (s : Site) (f : Fate) → Ground p limit s.core.high s.high.row
      → Waiting p d s.core.high → Opening k d f
      → StandsAt p k limit (sent High s) (fate p (first_sending High s ∷ []) f)
  unfolding send_core with_core with_doing queue_of rows_of
  first-sent zero s f g w o =
      ours-sent _ _ _ f (current-ours p _ w) o.fresh.collected (waits zero g w (our-first _ f o))
  first-sent (suc d) s f g w o =
      other-sent _ _ _ f (current-ahead p (suc d) _ g.rowed.ruled (omega arith) w)
      (waits (suc d) g w (ahead (sending-flight High _) (sending-served High _) (omega arith) o.fresh o.time))

  shut-sent : (s : Site) (f : Fate) → Rowed s.core.high s.high.row
      → Shut p f.sendings s.core.high s.high.row → Paid limit f → 0 < s.core.high.unconfirmed
      → StandsAt p k limit (sent High s) (fate p (first_sending High s ∷ []) f)
  unfolding send_core with_core with_doing queue_of rows_of
  shut-sent s f g w o h =
      other-sent _ _ _ f (current-shut p _ _ _ g.ruled h w) (shut g w (record { some = λ a b. h }) o)

  pub low-sent : (s : Site) (f : Fate) → BetweenAt p limit (Pausing k) s f
      → StandsAt p k limit (sent Low s) (fate p (first_sending Low s ∷ []) f)
  unfolding send_core with_core with_doing queue_of rows_of
  low-sent s f (waits d g w o) =
      lower-sent _ _ _ f (waits d g w (lower (sending-flight Low _) (sending-served Low _) o))
  low-sent s f (shut g w o) =
      lower-sent _ _ _ f (shut g w (record { some = λ a b. absurd (high-low (sym b ∙ sending-served Low _)) }) o)
  low-sent s f (gone h) = still-gone _ f h

  pub high-sent : (X : ℕ → Fate → Type 0) → ((d : ℕ) (f : Fate) → X d f → Opening k d f) → (s : Site) (f : Fate)
      → BetweenAt p limit X s f → 0 < s.core.high.unconfirmed
      → StandsAt p k limit (sent High s) (fate p (first_sending High s ∷ []) f)
  high-sent X x s f (waits d g w o) h = first-sent d s f g w (x d f o)
  high-sent X x s f (shut g w o) h = shut-sent s f g w o h
  high-sent X x s f (gone z) h = still-gone _ f z

  -- ---- nothing is being sent
  unflown : {g : Doing} {q : Queue} → flight g.phase ≡ false → Afloat g q
  unflown h = record { some = λ a b. clash a h }

  -- with nothing being sent, the request stands as between acts
  pub at_rest : {g : Doing} {q : Queue} {row : List ℕ} {f : Fate} → flight g.phase ≡ false
      → Between p limit (Off k) q row f → Standing p k limit g q row f
  at_rest h (waits d g w o) = waits d g w (off h o)
  at_rest h (shut g w o) = shut g w (unflown h) o
  at_rest h (gone z) = gone z

  pub rested : {g : Doing} {q : Queue} {row : List ℕ} {f : Fate} → flight g.phase ≡ false
      → Standing p k limit g q row f → Between p limit (Off k) q row f
  rested h (waits d g w (off a o)) = waits d g w o
  rested h (waits d g w (ours a b c e i j)) = clash a h
  rested h (waits d g w (ahead a b c e i)) = clash a h
  rested h (waits d g w (lower a b c)) = clash a h
  rested h (shut g w a o) = shut g w o
  rested h (gone z) = gone z

  -- ---- a hold ends, a hold begins
  pub after-end : (s : Site) (f : Fate) → BetweenAt p limit (Pausing k) s f
      → BetweenAt p limit (Off k) s (fate p (ends ∷ []) f)
  after-end s f (waits d g w o) =
      rw (fate-one p ends f o.fresh.collected, meets-ends p f) (waits d g w (off-ended k d f o))
  after-end s f (shut g w o) =
      rw (fate-one p ends f o.collected, meets-ends p f) (shut g (shut-ended f w) (paid-ended limit f o))
  after-end s f (gone z) = rw (frozen p (ends ∷ []) f z.collected) (gone z)

  pub opened : {q : Queue} {row : List ℕ} (f : Fate) → Between p limit (Off k) q row f
      → Between p limit (Opening k) q row (fate p (begins ∷ []) f)
  opened f (waits d g w o) =
      rw (fate-one p begins f o.fresh.collected, meets-begins p f) (waits d g w (opening-begun k d f o))
  opened f (shut g w o) =
      rw (fate-one p begins f o.collected, meets-begins p f) (shut g (shut-begun f w) (paid-begun limit f o))
  opened f (gone z) = rw (frozen p (begins ∷ []) f z.collected) (gone z)

  -- ---- a confirmation
  closes-ours : {q' : Queue} {row' : List ℕ} (n m c : ℕ) (f : Fate) → n ≡ p → f.collected ≡ false
      → Between p limit (Pausing k) q' row' (confirmed_with c f)
      → Between p limit (Pausing k) q' row' (fate p (confirmed High n m c ∷ []) f)
  closes-ours n m c f e z h = rw (fate-one p (confirmed High n m c) f z, meets-confirmed p n m c f e) h

  closes-other : {q' : Queue} {row' : List ℕ} (n m c : ℕ) (f : Fate) → (n ≡ p → ⊥)
      → Between p limit (Pausing k) q' row' f
      → Between p limit (Pausing k) q' row' (fate p (confirmed High n m c ∷ []) f)
  closes-other n m c f e h = rw (stays p (confirmed High n m c) f (meets-another p n m c f e)) h

  closes-low : {q' : Queue} {row' : List ℕ} (n m c : ℕ) (f : Fate)
      → Between p limit (Pausing k) q' row' f
      → Between p limit (Pausing k) q' row' (fate p (confirmed Low n m c ∷ []) f)
  closes-low n m c f h = rw (stays p (confirmed Low n m c) f (meets-lower p n m c f)) h

  -- of the high queue
  pub close-high : (o : Outcome) (x : List ℕ) (s : Site) (f : Fate) → flight s.core.doing.phase ≡ true
      → s.core.doing.served ≡ High → StandsAt p k limit s f
      → BetweenAt p limit (Pausing k) (close_of High o x s).site (fate p (closing High o s ∷ []) f)
  unfolding close_of done with_rows with_marks with_core with_queue queue_of rows_of confirm
  close-high o x s f h e (waits d g w (off a z)) = clash h a
  close-high o x s f h e (waits d g w (ours a b c z i j)) =
      let w0 : Waiting p 0 s.core.high = rw c at w in
      closes-ours _ _ _ f (current-ours p _ w0) z.collected
      (shut
      (rowed-confirmed s.core.high s.high.row (status_of o) s.core.doing.sendings x s.high.area
      g.rowed (omega (arith, w0.within)))
      (rw (sent-count f s.core.doing.sendings z.sendings)
      (shut-now p s.core.doing.sendings s.core.high s.high.row g.rowed (status_of o) x
      s.high.area w0))
      (paid-now _ limit f z i))
  close-high o x s f h e (waits d g w (ahead a b c z i)) =
      closes-other _ _ _ f (current-ahead p d _ g.rowed.ruled c w)
      (waits (d - 1)
      (ground-closed s.core.high (status_of o) s.core.doing.sendings x s.high.row s.high.area g c w)
      (waiting-confirmed p d _ c w) (pausing-closed k d f c z i))
  close-high o x s f h e (waits d g w (lower a b c)) = absurd (high-low (sym e ∙ b))
  close-high o x s f h e (shut g w a z) =
      let n = a.some h e in
      closes-other _ _ _ f (current-shut p _ _ _ g.ruled n w)
      (shut
      (rowed-confirmed s.core.high s.high.row (status_of o) s.core.doing.sendings x s.high.area g n)
      (shut-confirmed p f.sendings s.core.high s.high.row g (status_of o)
      s.core.doing.sendings x s.high.area n w) z)
  close-high o x s f h e (gone z) = stayed-gone _ f z

  -- of the low queue
  pub close-low : (o : Outcome) (x : List ℕ) (s : Site) (f : Fate) → flight s.core.doing.phase ≡ true
      → s.core.doing.served ≡ Low → StandsAt p k limit s f
      → BetweenAt p limit (Pausing k) (close_of Low o x s).site (fate p (closing Low o s ∷ []) f)
  unfolding close_of done with_rows with_marks with_core with_queue queue_of rows_of confirm
  close-low o x s f h e (waits d g w (off a z)) = clash h a
  close-low o x s f h e (waits d g w (ours a b c z i j)) = absurd (high-low (sym b ∙ e))
  close-low o x s f h e (waits d g w (ahead a b c z i)) = absurd (high-low (sym b ∙ e))
  close-low o x s f h e (waits d g w (lower a b c)) = closes-low _ _ _ f (waits d g w c)
  close-low o x s f h e (shut g w a z) = closes-low _ _ _ f (shut g w z)
  close-low o x s f h e (gone z) = stayed-gone _ f z

  -- ---- "the same octets again"
  pub again-high : (s : Site) (f : Fate) → flight s.core.doing.phase ≡ true → s.core.doing.served ≡ High
      → s.core.doing.sendings ≤ (record_of High s).limit → StandsAt p k limit s f
      → StandsAt p k limit (sent_again s) (fate p (next_sending High s ∷ []) f)
  unfolding once with_core with_doing queue_of rows_of record_of record_in
  again-high s f h e l (waits d g w (off a z)) = clash h a
  again-high s f h e l (waits d g w (ours a b c z i j)) =
      let now = current-ours p _ (rw c at w) in
      let m = rw now at l in
      ours-sent _ _ _ f now z.collected
      (waits d g w (ours a b c (fresh-sent _ f z) (omega (arith, g.limits, m)) (held-sent k d f j)))
  again-high s f h e l (waits d g w (ahead a b c z i)) =
      other-sent _ _ _ f (current-ahead p d _ g.rowed.ruled c w) (waits d g w (ahead a b c z i))
  again-high s f h e l (waits d g w (lower a b c)) = absurd (high-low (sym e ∙ b))
  again-high s f h e l (shut g w a z) =
      other-sent _ _ _ f (current-shut p _ _ _ g.ruled (a.some h e) w)
      (shut g w (record { some = a.some }) z)
  again-high s f h e l (gone z) = still-gone _ f z

  pub again-low : (s : Site) (f : Fate) → flight s.core.doing.phase ≡ true → s.core.doing.served ≡ Low
      → StandsAt p k limit s f → StandsAt p k limit (sent_again s) (fate p (next_sending Low s ∷ []) f)
  unfolding once with_core with_doing queue_of rows_of
  again-low s f h e (waits d g w (off a z)) = clash h a
  again-low s f h e (waits d g w (ours a b c z i j)) = absurd (high-low (sym b ∙ e))
  again-low s f h e (waits d g w (ahead a b c z i)) = absurd (high-low (sym b ∙ e))
  again-low s f h e (waits d g w (lower a b c)) = lower-sent _ _ _ f (waits d g w (lower a b c))
  again-low s f h e (shut g w a z) = lower-sent _ _ _ f (shut g w (record { some = a.some }) z)
  again-low s f h e (gone z) = still-gone _ f z
