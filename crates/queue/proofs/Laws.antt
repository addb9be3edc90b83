-- The laws of a queue's places: they go round the row, no two in use are one, and each act on the queue keeps them and
-- its counts in order; and what submit decides, case by case. Assumes nothing.
use Prim.Native.Nat.{ℕ, ◌+◌, ◌-◌, ◌*◌, ◌<◌, ◌≤◌}
use mathlib.Core.Bool.{Bool, true, false}
use mathlib.Core.Path.{◌≡◌, refl, sym, ap, ◌∙◌}
use native.Mathlib.Nat.{mul-le-mul}
use native.Mathlib.Omega.{arith}
use Rattle.choice.specs.Choice.{pick, less, same}
use Rattle.choice.proofs.Rules.{true-less, false-less, true_same, false_same, pick_true, pick-false, pick-itself}
use Rattle.choice.proofs.Rules.{flag_true, flag-false, if-less, unless-less, unrefused, granted}
use Rattle.request.specs.declared.Record.{Record}
use Rattle.request.specs.Record.{unfit}
use Rattle.request.proofs.Laws.{fit-short}
use Rattle.queue.specs.declared.Queue.{Queue}
use Rattle.queue.specs.Queue.{Taken}
use Rattle.queue.specs.Queue.{Ruled, place, current, above, overfull, refuse, take, taken, grown}
use Rattle.queue.specs.Queue.{confirmed, freed}

-- ---- a queue that is not overfull, both ways
pub ruled : (q : Queue) → overfull q ≡ false → Ruled q
unfolding overfull above
ruled q e =
    let a = unrefused _ _ e in
    let b = granted _ _ a.1 in
    record
    { few = false-less _ _ a.0; turn = true-less _ _ b.0; used = false-less _ _ (sym (pick-itself _) ∙ b.1) }

pub not-overfull : (q : Queue) → Ruled q → overfull q ≡ false
unfolding overfull above
not-overfull q r =
    sym (unless-less _ r.few (if-less _ r.turn (unless-less _ r.used refl)))

-- ---- a place is short of the row's end, or past it and begins again
data Turned (q : Queue) (k p : ℕ) : Type 0 where
  short : q.first + k < q.places → p ≡ q.first + k → Turned q k p
  past : q.places ≤ q.first + k → p ≡ q.first + k - q.places → Turned q k p

turned_by : (q : Queue) (k : ℕ) (b : Bool) → less (q.first + k) q.places ≡ b → Turned q k (place q k)
unfolding place
turned_by q k true e = short (true-less _ _ e) (pick_true _ _ e)
turned_by q k false e = past (false-less _ _ e) (pick-false _ _ e)

turned : (q : Queue) (k : ℕ) → Turned q k (place q k)
turned q k = turned_by q k _ refl

-- a place is in the row
below : {q : Queue} {k p : ℕ} → Ruled q → k ≤ q.places → Turned q k p → p < q.places
below r h (short a e) = omega arith
below r h (past a e) = omega (arith, r.turn)

pub place-below : (q : Queue) (k : ℕ) → Ruled q → k ≤ q.places → place q k < q.places
place-below q k r h = below r h (turned q k)

-- so is the place of the first unconfirmed request
pub current-below : (q : Queue) → Ruled q → current q < q.places
unfolding current
current-below q r = place-below q q.confirmed r (omega (arith, r.used))

-- no two places in use are one
apart : {q : Queue} {k j p s : ℕ} → k < q.places → j < q.places → Turned q k p → Turned q j s → p ≡ s → k ≡ j
apart h i (short a e) (short b f) g = omega arith
apart h i (short a e) (past b f) g = omega arith
apart h i (past a e) (short b f) g = omega arith
apart h i (past a e) (past b f) g = omega arith

pub place-apart : (q : Queue) (k j : ℕ) → k < q.places → j < q.places → place q k ≡ place q j → k ≡ j
place-apart q k j h i e = apart h i (turned q k) (turned q j) e

-- the next place is one on, and behind the row's last comes its first
turn : {q : Queue} {k p s : ℕ} → Ruled q → k < q.places → Turned q k p → Turned q (k + 1) s
    → s ≡ pick (less (p + 1) q.places) (p + 1) 0
turn r h (short a e) (short b f) = if-less _ (omega arith) (omega arith)
turn r h (short a e) (past b f) = unless-less _ (omega arith) (omega arith)
turn r h (past a e) (short b f) = absurd (omega arith)
turn r h (past a e) (past b f) = if-less _ (omega (arith, r.turn)) (omega arith)

pub place-turn : (q : Queue) (k : ℕ) → Ruled q → k < q.places
    → place q (k + 1) ≡ pick (less (place q k + 1) q.places) (place q k + 1) 0
place-turn q k r h = turn r h (turned q k) (turned q (k + 1))

-- ---- the acts
pub ruled-grown : (q : Queue) → q.confirmed + q.unconfirmed < q.places → Ruled q → Ruled (grown q)
unfolding grown
ruled-grown q h r = record { few = r.few; turn = r.turn; used = omega arith }

pub ruled-confirmed : (q : Queue) → 0 < q.unconfirmed → Ruled q → Ruled (confirmed q)
unfolding confirmed
ruled-confirmed q h r = record { few = r.few; turn = r.turn; used = omega (arith, r.used) }

pub ruled-freed : (q : Queue) → 0 < q.confirmed → Ruled q → Ruled (freed q)
unfolding freed
ruled-freed q h r =
    record { few = r.few; turn = place-below q 1 r (omega (arith, r.turn)); used = omega (arith, r.used) }

pub place-grown : (q : Queue) (k : ℕ) → place (grown q) k ≡ place q k
unfolding place grown
place-grown q k = refl

pub place-confirmed : (q : Queue) (k : ℕ) → place (confirmed q) k ≡ place q k
unfolding place confirmed
place-confirmed q k = refl

-- the queue that begins one place on counts its places from there
shifted : {q : Queue} {k p s : ℕ} → Ruled q → k < q.places → Turned (freed q) k p → Turned q 1 (freed q).first
    → Turned q (k + 1) s → p ≡ s
unfolding freed
shifted r h (short a e) (short b f) (short d g) = omega arith
shifted r h (short a e) (short b f) (past d g) = omega arith
shifted r h (past a e) (short b f) (short d g) = omega arith
shifted r h (past a e) (short b f) (past d g) = omega arith
shifted r h (short a e) (past b f) (short d g) = omega (arith, r.turn)
shifted r h (short a e) (past b f) (past d g) = omega (arith, r.turn)
shifted r h (past a e) (past b f) (short d g) = omega (arith, r.turn)
shifted r h (past a e) (past b f) (past d g) = omega (arith, r.turn)

pub place-freed : (q : Queue) (k : ℕ) → Ruled q → k < q.places → place (freed q) k ≡ place q (k + 1)
unfolding freed
place-freed q k r h = shifted r h (turned (freed q) k) (turned q 1) (turned q (k + 1))

-- ---- what submit decides: a refusal, or the request's place
pub record Accepted (ts : ℕ) (q : Queue) (r : Record) (n : ℕ) : Type 0 where
  pub fit : unfit ts r n ≡ 0
  pub room : q.confirmed + q.unconfirmed < q.places
  pub is : take q r n ≡ taken ts q r n

pub data Decided (ts : ℕ) (q : Queue) (r : Record) (n : ℕ) : Type 0 where
  refused : (m : ℕ) → (m ≡ 0 → ⊥) → refuse m q r ≡ taken ts q r n → Decided ts q r n
  accepted : Accepted ts q r n → Decided ts q r n

decided-by : (ts : ℕ) (q : Queue) (r : Record) (n : ℕ) (a b : Bool) → same (unfit ts r n) 0 ≡ a
    → less (q.confirmed + q.unconfirmed) q.places ≡ b → Decided ts q r n
unfolding taken
decided-by ts q r n true true e f =
    accepted record { fit = true_same _ _ e; room = true-less _ _ f; is = flag_true _ e (flag_true _ f refl) }
decided-by ts q r n true false e f = refused 27 (λ z. omega arith) (flag_true _ e (flag-false _ f refl))
decided-by ts q r n false b e f = refused (unfit ts r n) (false_same _ _ e) (flag-false _ e refl)

pub decided : (ts : ℕ) (q : Queue) (r : Record) (n : ℕ) → Decided ts q r n
decided ts q r n = decided-by ts q r n _ _ refl refl

-- not refused, it is accepted
accepting : {ts : ℕ} {q : Queue} {r : Record} {n : ℕ} → (taken ts q r n).refused ≡ 0 → Decided ts q r n
    → Accepted ts q r n
unfolding refuse
accepting h (accepted a) = a
accepting h (refused m z e) = absurd (z (ap (λ (t : Taken). t.refused) e ∙ h))

pub not-refused : (ts : ℕ) (q : Queue) (r : Record) (n : ℕ) → (taken ts q r n).refused ≡ 0 → Accepted ts q r n
not-refused ts q r n h = accepting h (decided ts q r n)

-- a row of at most 255 for each of at most 255 places is small; and the data of a fit request
pub small_row : (each places : ℕ) → each ≤ 255 → places ≤ 255 → each * places ≤ 65025
small_row each places e p = mul-le-mul {n₁ = each} {m₁ = places} {n₂ = 255} {m₂ = 255} e p

pub ruleset fits = (fit-short)
