-- The check of the unconfirmed records, one by one, and what it says of them all. Assumes nothing.
use Prim.Native.Nat.{ℕ, zero, suc, ◌<◌}
use mathlib.Core.Bool.{Bool, true, false}
use mathlib.Core.Path.{◌≡◌, refl, sym, ◌∙◌}
use mathlib.Core.List.{List}
use native.Mathlib.Omega.{arith}
use lib.ListN.{length, get_or}
use Rattle.std.specs.Bool.{MatchBool}
use Rattle.std.specs.List.{range_with_len, AllWithin, HoldsAt}
use Rattle.std.proofs.lemmas.List.FromFn.{length-range_with_len, get_or-range_with_len}
use Rattle.choice.specs.Choice.{same}
use Rattle.choice.proofs.Rules.{pick_true, same_true, true_same, false_same, both_true}
use Rattle.refusal.proofs.Numbers.{above_zero}
use Rattle.request.specs.Record.{unfit}
use Rattle.queue.specs.declared.Queue.{Queue}
use Rattle.rows.specs.Rows.{pending, sound}
use Rattle.rows.proofs.Laws.{by_order}

-- the refusal of the record k places behind the first unconfirmed one
abbrev pub fault : ℕ → Queue → List ℕ → ℕ → ℕ
fault ts q row k = unfit ts (pending row q k) (pending row q k).length

-- ---- what the check says: every unconfirmed record is one that submit would take
pub record Sound (ts : ℕ) (q : Queue) (row : List ℕ) : Type 0 where
  pub fit : (k : ℕ) → k < q.unconfirmed → fault ts q row k ≡ 0

each : (ts : ℕ) (q : Queue) (row : List ℕ) (n : ℕ) → sound ts q row n ≡ true → (k : ℕ) → k < n → fault ts q row k ≡ 0
unfolding sound
each ts q row zero e k h = absurd (omega arith)
each ts q row (suc n) e k h =
    let b = both_true _ _ e in
    let last : fault ts q row n ≡ 0 = true_same _ 0 b.0 in
    by_order k n (λ l. each ts q row n b.1 k l) (λ l. let i : k ≡ n = omega arith in rw i last)

all : (ts : ℕ) (q : Queue) (row : List ℕ) (n : ℕ) → ((k : ℕ) → k < n → fault ts q row k ≡ 0) → sound ts q row n ≡ true
unfolding sound
all ts q row zero h = refl
all ts q row (suc n) h =
    pick_true _ _ (same_true (h n (omega arith))) ∙ all ts q row n (λ k l. h k (omega arith))

pub is-sound : (ts : ℕ) (q : Queue) (row : List ℕ) → sound ts q row q.unconfirmed ≡ true → Sound ts q row
is-sound ts q row e = record { fit = each ts q row q.unconfirmed e }

pub sound-is : (ts : ℕ) (q : Queue) (row : List ℕ) → Sound ts q row → sound ts q row q.unconfirmed ≡ true
sound-is ts q row s = all ts q row q.unconfirmed s.fit

-- a queue without unconfirmed requests passes it
pub sound_empty : (ts : ℕ) (q : Queue) (row : List ℕ) → q.unconfirmed ≡ 0 → Sound ts q row
sound_empty ts q row e = record { fit = λ k h. absurd (omega arith) }

-- ---- the check as the code makes it, of all the records at once
-- the k-th of the numbers below n
kth : (n k : ℕ) → k < n → get_or (range_with_len 0 n) k 0 ≡ k
kth n k h = omega (arith, get_or-range_with_len 0 n k 0 h)

pub all-sound : (ts : ℕ) (q : Queue) (row : List ℕ) (n : ℕ) (r : Bool)
    → MatchBool r
    (AllWithin (λ k. same (fault ts q row k) 0 ≡ true) (range_with_len 0 n) 0 (length (range_with_len 0 n)))
    ((k : ℕ) × (k < length (range_with_len 0 n)) × HoldsAt (λ k. same (fault ts q row k) 0 ≡ false) (range_with_len 0 n) k)
    → r ≡ sound ts q row n
all-sound ts q row n true a =
    sym
    (all ts q row n
    (λ k h. true_same _ 0 (rw (kth n k h) at (a k 0 (omega arith) (omega (arith, length-range_with_len 0 n))))))
all-sound ts q row n false (k, h, a) = by (sound ts q row n) refl
  where
    by : (b : Bool) → sound ts q row n ≡ b → false ≡ b
    by false e = refl
    by true e =
        let m : k < n = omega (arith, h, length-range_with_len 0 n) in
        absurd (false_same _ 0 (rw (kth n k m) at (a 0)) (each ts q row n e k m))

-- no refusal has the number 0
pub ruleset some_refusal = (above_zero)
