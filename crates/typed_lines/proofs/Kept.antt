-- What is kept of a line does not depend on where its blocks end, and the walk over a block, one step on or at an end.
-- Assumes nothing.
use Prim.Native.Nat.{ℕ, zero, suc, ◌+◌, ◌-◌, ◌<◌, ◌≤◌}
use mathlib.Core.Bool.{Bool, true, false}
use mathlib.Core.List.{List, [], ◌∷◌, ◌++◌, append_assoc}
use mathlib.Core.Path.{◌≡◌, refl, sym, ap, ◌∙◌}
use native.Mathlib.Omega.{arith}
use native.Mathlib.Nat.{add-zero}
use lib.ListN.{length, take, drop, length-append, length-take, length-drop}
use lib.Seq.{length-take-le, take_all, take-append-add}
use Rattle.choice.specs.Choice.{pick, less, same}
use Rattle.choice.proofs.Rules.{false-less}
use Rattle.laid.specs.Laid.{laid, Lays}
use Rattle.laid.proofs.Laws.{laid-start}
use Rattle.std.proofs.Common.{eqb, ltb, not, min}
use Rattle.std.specs.Int.{from_bool}
use Rattle.std.specs.List.{prefix_len}
use Rattle.typed_lines.specs.declared.Gathered.{Gathered}
use Rattle.typed_lines.specs.Intake.{ROOM, before, kept, more, place_behind, gathered, Gathers}

-- ---- what is kept
keep : (n : ℕ) (a b : List ℕ) → take n (take n a ++ b) ≡ take n (a ++ b)
keep zero a b = refl
keep (suc n) [] b = refl
keep (suc n) (x ∷ a) b = ap (λ (l : List ℕ). x ∷ l) (keep n a b)

-- the law: where a block ends makes no difference
pub kept-kept : (a b : List ℕ) → kept (kept a ++ b) ≡ kept (a ++ b)
unfolding kept
kept-kept a b = keep ROOM a b

kept-all : (l : List ℕ) → length l ≤ ROOM → kept l ≡ l
unfolding kept
kept-all l h = take_all ROOM l h

-- ---- what is put behind those that are kept: as many as there is room for
before-counted : (l : List ℕ) → before l ≡ prefix_len (λ c. not (eqb c 10)) l
unfolding before pick same
before-counted [] = refl
before-counted (c ∷ l) = grind (arith, before-counted l)

take-least : (n m : ℕ) (l : List ℕ) → take n (take m l) ≡ take (min m n) l
take-least zero m l = let e : min m 0 ≡ 0 = omega arith in rw e refl
take-least (suc n) zero l = let e : min 0 (suc n) ≡ 0 = omega arith in rw e refl
take-least (suc n) (suc m) [] = let e : min (suc m) (suc n) ≡ suc (min m n) = omega arith in rw e refl
take-least (suc n) (suc m) (x ∷ l) =
    let e : min (suc m) (suc n) ≡ suc (min m n) = omega arith in
    rw e (ap (λ (r : List ℕ). x ∷ r) (take-least n m l))

take-room : (m : ℕ) (u r : List ℕ) (n k : ℕ) → length u ≤ m → k ≡ min n (m - length u)
    → take m (u ++ take n r) ≡ u ++ take k r
take-room m u r n k h q =
    let e : length u + (m - length u) ≡ m = omega arith in
    rw e at (take-append-add u (take n r) (m - length u))
    ∙ ap (λ p. u ++ p) (take-least (m - length u) n r ∙ ap (λ j. take j r) (sym q))

laid-behind-start : (l w : List ℕ) (k : ℕ) → k ≤ length l → laid l 0 (take k l ++ w) ≡ laid l k w
unfolding laid
laid-behind-start l w k h =
    let e : length (take k l ++ w) ≡ k + length w = simp length-append (omega (arith, length-take-le k l h)) in
    laid-start l (take k l ++ w) ∙ rw e (append_assoc (take k l) w (drop (k + length w) l))

same-test : (block : List ℕ) (from n : ℕ) → ltb (from + n) (length block) ≡ ltb n (length (drop from block))
same-test block from n = grind (arith, length-drop from block)

answered : (e m : ℕ) (b : Bool) → ◌≡◌ {A = Gathered} (record { next = e + from_bool b; count = m; whole = b })
    (pick b (record { next = e + 1; count = m; whole = true }) (record { next = e; count = m; whole = false }))
unfolding pick
answered e m true = refl
answered e m false = rw (add-zero e) refl

-- all that gathering leaves
pub gathers : {line line' rest : List ℕ} {block : List ℕ} {from count n k f r v : ℕ} {b : Bool} → length line ≡ ROOM
    → count ≤ ROOM → rest ≡ drop from block → n ≡ prefix_len (λ c. not (eqb c 10)) rest → k ≡ min n (ROOM - count)
    → Lays line count (take k rest) v r line' → b ≡ ltb n (length rest) → f ≡ from_bool b
    → Gathers line block from count (record { next = from + n + f; count = r; whole = b }) line'
unfolding gathered more kept place_behind less
gathers {line} {line'} {rest} {block} {from} {count} {n} {k} {f} {r} {v} {b} e h d p q x s t =
    let u : List ℕ = take count line in
    let g : length u ≡ count = length-take-le count line (omega arith) in
    let m : take ROOM (u ++ take n rest) ≡ u ++ take k rest =
    take-room ROOM u rest n k (omega arith) (rw g q) in
    let c : length (u ++ take k rest) ≡ r = simp length-append (omega (arith, x.place)) in
    let o : before rest ≡ n = before-counted rest ∙ sym p in
    record {
      answer = rw (← d, o, m, c, same-test block from n, ← d, ← s, t) (answered (from + n) r b);
      left = rw (← d, o, m) (x.left ∙ sym (laid-behind-start line (take k rest) count (omega arith)));
    }

-- ---- what was gathered fits the line, and lies behind the place where it began
gathered_next : (line block : List ℕ) (from : ℕ) (b : Bool) → less (place_behind block from) (length block) ≡ b
    → from < length block → from < (gathered line block from).next
unfolding gathered pick place_behind
gathered_next line block from true e h = rw e (omega arith)
gathered_next line block from false e h = rw e (omega (arith, false-less _ _ e))

pub gathered-on : (line block : List ℕ) (from : ℕ) → from < length block → from < (gathered line block from).next
gathered-on line block from h = gathered_next line block from (less (place_behind block from) (length block)) refl h

more-few : (line block : List ℕ) (from : ℕ) → length (more line block from) ≤ ROOM
unfolding more kept
more-few line block from = omega (arith, length-take ROOM (line ++ take (before (drop from block)) (drop from block)))

gathered-count : (line block : List ℕ) (from : ℕ) (b : Bool) → less (place_behind block from) (length block) ≡ b
    → (gathered line block from).count ≤ ROOM
unfolding gathered pick
gathered-count line block from true e = rw e (more-few line block from)
gathered-count line block from false e = rw e (more-few line block from)

pub gathered-few : (line block : List ℕ) (from : ℕ) → (gathered line block from).count ≤ ROOM
gathered-few line block from = gathered-count line block from (less (place_behind block from) (length block)) refl

-- ---- what gathering leaves is one: two answers with their lines that keep to the contract are the same
pub one-gathered : (line block : List ℕ) (from count : ℕ) {r s : Gathered} {l m : List ℕ}
    → Gathers line block from count r l → Gathers line block from count s m → (r ≡ s) × (l ≡ m)
one-gathered line block from count x y = (x.answer ∙ sym y.answer, x.left ∙ sym y.left)
