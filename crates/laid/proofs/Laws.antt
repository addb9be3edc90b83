-- The laws of `laid`: stores in a row, a piece behind a piece, a copied piece. Assumes nothing.
use Prim.Native.Nat.{ℕ, ◌+◌, ◌-◌, ◌≤◌}
use mathlib.Core.Path.{◌≡◌, ap, ◌∙◌}
use mathlib.Core.List.{List, [], ◌++◌, append_assoc}
use native.Mathlib.Omega.{arith}
use native.Mathlib.Nat.{zero-add, add-zero, add_assoc}
use lib.ListN.{length, take, drop, length-append, length-drop, take-append-drop}
use lib.Seq.{length-take-le, take_at, drop_at, drop-drop, sets, sets-eq}
use borrow.Rule.Slice.PartMut.{put_mid, Post-is}
use Rattle.laid.specs.Laid.{laid, Lays}

-- nothing laid, and a piece laid at the start
pub laid_nil : (l : List ℕ) (i : ℕ) → laid l i [] ≡ l
unfolding laid
laid_nil l i = rw (add-zero i) (take-append-drop i l)

pub laid-start : (l u : List ℕ) → laid l 0 u ≡ u ++ drop (length u) l
unfolding laid
laid-start l u = rw (zero-add (length u))

-- stores in a row lay their values
pub laid-sets : (l : List ℕ) (i : ℕ) (u : List ℕ) → i + length u ≤ length l → sets l i u ≡ laid l i u
unfolding laid
laid-sets l i u h = sets-eq u l i h ∙ append_assoc (take i l) u (drop (i + length u) l)

-- a piece behind a piece is one piece
pub laid-laid : (l : List ℕ) (i : ℕ) (u w : List ℕ)
    → i + length u ≤ length l → laid (laid l i u) (i + length u) w ≡ laid l i (u ++ w)
unfolding laid
laid-laid l i u w h =
    let k : ℕ = i + length u in
    let p : List ℕ = take i l ++ u in
    let q : List ℕ = drop k l in
    let e : length p ≡ k = length-append (take i l) u ∙ ap (λ (n : ℕ). n + length u)
    (length-take-le i l (omega arith)) in
    rw (← append_assoc (take i l) u q, take_at p q k e)
    (rw (← drop-drop (length w) k (p ++ q), drop_at p q k e, drop-drop (length w) k l)
    (rw (append_assoc (take i l) u, append_assoc u w, length-append u w, add_assoc i (length u) (length w))))

pub laid-behind : (l m : List ℕ) (i j : ℕ) (u w : List ℕ)
    → i + length u ≤ length l → j ≡ i + length u → m ≡ laid l i u → laid m j w ≡ laid l i (u ++ w)
laid-behind l m i j u w h e f = rw (e, f) (laid-laid l i u w h)

-- x copied over the part of its length from i on
pub laid-copied : (l : List ℕ) (i : ℕ) (x : List ℕ) → put_mid i (i + length x - i) l x ≡ laid l i x
unfolding laid
laid-copied l i x = ap (λ (q : List ℕ). take i l ++ (x ++ q)) (Post-is i (i + length x) l (omega arith))

-- laying keeps the length
pub length-laid : (l : List ℕ) (i : ℕ) (u : List ℕ) → i + length u ≤ length l → length (laid l i u) ≡ length l
unfolding laid
length-laid l i u h =
    simp (length-append, length-drop) (omega (arith, length-take-le i l (omega arith)))

-- what stands before and behind the piece
pub take-laid : (l : List ℕ) (i : ℕ) (u : List ℕ) → i + length u ≤ length l
    → take (i + length u) (laid l i u) ≡ take i l ++ u
unfolding laid
take-laid l i u h =
    rw (← append_assoc (take i l) u (drop (i + length u) l))
    (take_at (take i l ++ u) _ (i + length u) (simp length-append (omega (arith, length-take-le i l (omega arith)))))

pub drop-laid : (l : List ℕ) (i : ℕ) (u : List ℕ) → i + length u ≤ length l
    → drop (i + length u) (laid l i u) ≡ drop (i + length u) l
unfolding laid
drop-laid l i u h =
    rw (← append_assoc (take i l) u (drop (i + length u) l))
    (drop_at (take i l ++ u) _ (i + length u) (simp length-append (omega (arith, length-take-le i l (omega arith)))))

-- ---- steps in a row
-- behind a step the output is as long, and has room for the next
pub lays-room : {l u m : List ℕ} {at a r : ℕ} (b : ℕ) → at + (a + b) ≤ length l → Lays l at u a r m → r + b ≤ length m
lays-room {l} {u} {m} {at} {a} {r} b h x =
    let e : length m ≡ length l = ap length x.left ∙ length-laid l at u (omega (arith, x.near)) in
    omega (arith, x.place, x.near)

-- a step behind a step is one step
pub lays-then : {l u m w n : List ℕ} {at a b r q : ℕ} → at + (a + b) ≤ length l → Lays l at u a r m → Lays m r w b q n
    → Lays l at (u ++ w) (a + b) q n
lays-then {l} {u} {m} {w} {n} {at} {a} {b} {r} {q} h x y =
    record {
      place = simp length-append (omega (arith, x.place, y.place));
      left = y.left ∙ laid-behind l m at r u w (omega (arith, x.near)) x.place x.left;
      near = simp length-append (omega (arith, x.near, y.near));
    }

-- a step of fewer octets is one of more
pub lays-within : {l u m : List ℕ} {at a r : ℕ} (b : ℕ) → a ≤ b → Lays l at u a r m → Lays l at u b r m
lays-within b h x = record { place = x.place; left = x.left; near = omega (arith, x.near) }

-- stores in a row are a step
pub lays-sets : (l : List ℕ) (at : ℕ) (u : List ℕ) (a r : ℕ) (m : List ℕ) → at + length u ≤ length l → length u ≤ a
    → r ≡ at + length u → m ≡ sets l at u → Lays l at u a r m
lays-sets l at u a r m h n p e = record { place = p; left = e ∙ laid-sets l at u h; near = n }

-- three steps in a row
pub lays-three : {l u m w n x o : List ℕ} {at a b c r q p : ℕ} → at + (a + (b + c)) ≤ length l
    → Lays l at u a r m → Lays m r w b q n → Lays n q x c p o → Lays l at (u ++ (w ++ x)) (a + (b + c)) p o
lays-three {b = b} {c = c} h x y z = lays-then h x (lays-then (lays-room (b + c) h x) y z)
