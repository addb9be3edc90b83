-- The laws of `Adds`: nothing laid, one octet, steps in a row, and the closing behind a whole body. Assumes nothing.
use Rattle.std.proofs.Common.{◌≡◌, ℕ, ◌+◌, ◌%◌, ◌<◌, ◌≤◌, List, [], ◌∷◌, ◌++◌, length, get_or, take, set, sym, refl, add-one, arith, length-append, length-take-le, take-suc}
use Rattle.frame.specs.Format.{ED, sum as format_sum, fcs, closing}
use Rattle.frame.proofs.Sum.{sum-append}
use Rattle.laid.specs.Laid.{laid}
use Rattle.laid.proofs.Laws.{laid_nil, laid-behind, lays-room, lays-then, lays-within, lays-sets}
use Rattle.write.specs.declared.Tally.{Tally}
use Rattle.write.specs.Adding.{Adds}

-- nothing laid, and one octet
pub adds-nil : (l : List ℕ) (t r : Tally) → t.sum < 256 → r.at ≡ t.at → r.sum ≡ t.sum → Adds l t [] r l
unfolding format_sum
adds-nil l t r h p s =
    record {
      lays = record { place = omega arith; left = sym (laid_nil l t.at); near = omega arith };
      sum = omega arith;
    }

pub adds_one : (l : List ℕ) (t r : Tally) (x : ℕ) → t.at < length l → r.at ≡ t.at + 1 → r.sum ≡ (t.sum + x) % 256
    → Adds l t (x ∷ []) r (set l t.at x)
unfolding format_sum
adds_one l t r x h p s =
    record { lays = lays-sets l t.at (x ∷ []) 1 _ _ (omega arith) (omega arith) p refl; sum = omega arith }

-- a step behind a step is one step
pub adds_then : {l u m w n : List ℕ} {t r q : Tally} → t.at + (length u + length w) ≤ length l
    → Adds l t u r m → Adds m r w q n → Adds l t (u ++ w) q n
adds_then {l} {u} {m} {w} {n} {t} {r} {q} h x y =
    record {
      lays = lays-within (length (u ++ w)) (simp length-append (omega arith)) (lays-then h x.lays y.lays);
      sum = rw (sum-append u w) (omega (arith, x.sum, y.sum));
    }

-- behind the first i octets of x, the next one
pub adds-more : {l m : List ℕ} {t : Tally} (x : List ℕ) (i s y : ℕ) → t.at + length x ≤ length l → i < length x
    → Adds l t (take i x) (record { at = t.at + i; sum = s }) m → y ≡ (s + get_or x i 0) % 256
    → Adds l t (take (i + 1) x) (record { at = t.at + (i + 1); sum = y }) (set m (t.at + i) (get_or x i 0))
adds-more {l} {m} {t} x i s y h n a e =
    let k : length (take i x) ≡ i = length-take-le i x (omega arith) in
    let f : t.at + (length (take i x) + 1) ≤ length l = omega (arith, k) in
    rw (add-one i, take-suc x i 0 n)
    (adds_then f a
    (adds_one m (record { at = t.at + i; sum = s }) _ (get_or x i 0) (omega (arith, lays-room 1 f a.lays))
    (omega arith) e))

-- the sum of a body and the end octet, laid behind it, are its closing
pub adds-closed : {l m b : List ℕ} {at : ℕ} {r : Tally} → at + length b ≤ length l
    → Adds l (record { at = at; sum = 0 }) b r m → laid m r.at (r.sum ∷ (ED ∷ [])) ≡ laid l at (b ++ closing b)
unfolding closing fcs
adds-closed {l} {m} {b} {at} {r} h x =
    let e : r.sum ≡ format_sum b % 256 = omega (arith, x.sum) in
    rw e (laid-behind l m at r.at b (closing b) h x.lays.place x.lays.left)
