-- What stands in a list that a piece was laid over: the octets inside the piece, and those before and behind it, one by
-- one and as parts. Assumes nothing.
use Prim.Native.Nat.{ℕ, ◌+◌, ◌-◌, ◌<◌, ◌≤◌}
use mathlib.Core.Path.{◌≡◌, sym, ap, ◌∙◌}
use mathlib.Core.List.{List, ◌++◌}
use native.Mathlib.Omega.{arith}
use lib.ListN.{length, take, drop, get_or, length-drop, take-append-drop, get_or-append}
use lib.Seq.{length-take-le, drop_at, drop-drop, take-append_seam, take-append-le, drop-append-le, get_or-take}
use lib.Seq.{get_or-drop, get_or-append-add}
use Rattle.laid.specs.Laid.{laid}
use Rattle.laid.proofs.Laws.{drop-laid}

-- ---- inside the piece
pub laid-octet : (l : List ℕ) (i : ℕ) (u : List ℕ) (k : ℕ) → i ≤ length l → k < length u
    → get_or (laid l i u) (i + k) 0 ≡ get_or u k 0
unfolding laid
laid-octet l i u k h n =
    rw (length-take-le i l h) at (get_or-append-add (take i l) (u ++ drop (i + length u) l) k 0) ∙ get_or-append u _
    0 k n

pub laid-part : (l : List ℕ) (i : ℕ) (u : List ℕ) → i ≤ length l → take (length u) (drop i (laid l i u)) ≡ u
unfolding laid
laid-part l i u h =
    let q : List ℕ = drop (i + length u) l in
    rw (drop_at (take i l) (u ++ q) i (length-take-le i l h)) (take-append_seam u q)

-- ---- before it
pub before-octet : (l : List ℕ) (i : ℕ) (u : List ℕ) (j : ℕ) → i ≤ length l → j < i → get_or (laid l i u) j 0 ≡ get_or l j 0
unfolding laid
before-octet l i u j h n =
    get_or-append (take i l) _ 0 j (omega (arith, length-take-le i l h)) ∙ get_or-take i l j 0 n

-- a part of the first of two lists is a part of both in a row
part-append : (p w : List ℕ) (j n : ℕ) → j + n ≤ length p → take n (drop j (p ++ w)) ≡ take n (drop j p)
part-append p w j n h =
    rw (drop-append-le j p w (omega arith)) (take-append-le n (drop j p) w (simp length-drop (omega arith)))

pub before-part : (l : List ℕ) (i : ℕ) (u : List ℕ) (j n : ℕ) → i ≤ length l → j + n ≤ i
    → take n (drop j (laid l i u)) ≡ take n (drop j l)
unfolding laid
before-part l i u j n h m =
    let e : j + n ≤ length (take i l) = omega (arith, length-take-le i l h) in
    part-append (take i l) _ j n e
    ∙ sym
    (ap (λ (x : List ℕ). take n (drop j x)) (sym (take-append-drop i l)) ∙ part-append (take i l) (drop i l) j n e)

-- ---- behind it
behind : (l : List ℕ) (i : ℕ) (u : List ℕ) (j : ℕ) → i + length u ≤ length l → i + length u ≤ j
    → drop j (laid l i u) ≡ drop j l
behind l i u j h n =
    let k : ℕ = i + length u in
    let e : k + (j - k) ≡ j = omega arith in
    rw e at (sym (drop-drop (j - k) k (laid l i u)) ∙ ap (drop (j - k)) (drop-laid l i u h) ∙ drop-drop (j - k) k l)

pub behind-octet : (l : List ℕ) (i : ℕ) (u : List ℕ) (j : ℕ) → i + length u ≤ length l → i + length u ≤ j
    → get_or (laid l i u) j 0 ≡ get_or l j 0
behind-octet l i u j h n =
    let e : j + 0 ≡ j = omega arith in
    rw e at
    (sym (get_or-drop j (laid l i u) 0 0) ∙ ap (λ (x : List ℕ). get_or x 0 0) (behind l i u j h n) ∙ get_or-drop j l 0 0)

pub behind-part : (l : List ℕ) (i : ℕ) (u : List ℕ) (j n : ℕ) → i + length u ≤ length l → i + length u ≤ j
    → take n (drop j (laid l i u)) ≡ take n (drop j l)
behind-part l i u j n h m = ap (take n) (behind l i u j h m)
