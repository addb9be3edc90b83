-- The stores of a frame: two in a row, and a whole frame: how it is laid, and how long it is. Assumes nothing.
use Rattle.std.proofs.Common.{◌≡◌, ℕ, zero, suc, ◌+◌, ◌≤◌, Bool, true, false, List, [], ◌∷◌, ◌++◌, length, drop, set, sym, refl, ap, ◌∙◌, add-one, arith, length-append}
use Rattle.choice.specs.Choice.{pick, same}
use Rattle.choice.proofs.Rules.{same_false}
use Rattle.frame.specs.Format.{SD1, SD2, ED, sd1, sd2, closing, framed}
use Rattle.laid.specs.Laid.{laid, Lays}
use Rattle.laid.proofs.Laws.{laid-sets, laid-behind, lays-sets, length-laid}
use Rattle.write.specs.declared.Tally.{Tally}
use Rattle.write.specs.Adding.{Adds}
use Rattle.write.proofs.Adding.{adds-closed}

-- two stores in a row
pub laid-two : (l : List ℕ) (i a b : ℕ) → i + 2 ≤ length l → set (set l i a) (i + 1) b ≡ laid l i (a ∷ (b ∷ []))
laid-two l i a b h = rw (add-one i) (laid-sets l i (a ∷ (b ∷ [])) h)

-- ---- a frame: the start octets of a body of n octets, then the body, then its closing
abbrev pub start : ℕ → List ℕ
start n = pick (same n 3) (SD1 ∷ []) (SD2 ∷ (n ∷ (n ∷ (SD2 ∷ []))))

pick-append : (t : Bool) (s r w : List ℕ) → pick t (s ++ w) (r ++ w) ≡ pick t s r ++ w
unfolding pick
pick-append true s r w = refl
pick-append false s r w = refl

framed-start : (b : List ℕ) → framed b ≡ start (length b) ++ (b ++ closing b)
unfolding framed sd1 sd2
framed-start b = pick-append (same (length b) 3) _ _ (b ++ closing b)

pub laid-frame : {l m k : List ℕ} {at : ℕ} {r : Tally} (b : List ℕ) (n : ℕ) → at + n ≤ length l → length b ≡ n
    → Lays l 0 (start n) 4 at m → Adds m (record { at = at; sum = 0 }) b r k
    → laid k r.at (r.sum ∷ (ED ∷ [])) ≡ laid l 0 (framed b)
laid-frame {l} {m} {k} {at} {r} b n h e s x =
    let fits : 0 + length (start n) ≤ length l = omega (arith, s.place) in
    let kept : length m ≡ length l = ap length s.left ∙ length-laid l 0 (start n) fits in
    adds-closed (omega arith) x
    ∙ laid-behind l m 0 at (start n) (b ++ closing b) fits s.place s.left
    ∙ ap (laid l 0) (rw (← e) (sym (framed-start b)))

-- how long it is, of n octets behind the first three of its body
pub length-framed : (b : List ℕ) (n : ℕ) → length b ≡ n + 3 → length (framed b) ≡ length (start (n + 3)) + (n + 5)
unfolding closing
length-framed b n e = rw (framed-start b, e) (simp length-append (omega arith))

pub length-start : (n : ℕ) → pick (same n 0) 6 (n + 9) ≡ length (start (n + 3)) + (n + 5)
unfolding pick same
length-start zero = refl
length-start (suc n) =
    rw (same_false {a = suc n} {b = 0} (λ q. omega arith), same_false {a = suc n + 3} {b = 3} (λ q. omega arith))
    (omega arith)

-- one store at the start, and three
pub first_stored : (l : List ℕ) (a : ℕ) → 1 ≤ length l → set l 0 a ≡ a ∷ drop 1 l
first_stored [] a h = absurd (omega arith)
first_stored (x ∷ l) a h = refl

pub three_stored : (l : List ℕ) (a b c : ℕ) → 3 ≤ length l
    → set (set (set l 0 a) 1 b) 2 c ≡ a ∷ (b ∷ (c ∷ drop 3 l))
three_stored [] a b c h = absurd (omega arith)
three_stored (x ∷ []) a b c h = absurd (omega arith)
three_stored (x ∷ (y ∷ [])) a b c h = absurd (omega arith)
three_stored (x ∷ (y ∷ (z ∷ l))) a b c h = refl

-- the start octets
pub start_one : (l : List ℕ) (a : ℕ) → 4 ≤ length l → Lays l 0 (a ∷ []) 4 1 (set l 0 a)
start_one l a h = lays-sets l 0 (a ∷ []) 4 1 _ (omega arith) (omega arith) refl refl

pub start_four : (l : List ℕ) (a b c d : ℕ) → 4 ≤ length l
    → Lays l 0 (a ∷ (b ∷ (c ∷ (d ∷ [])))) 4 4 (set (set (set (set l 0 a) 1 b) 2 c) 3 d)
start_four l a b c d h = lays-sets l 0 (a ∷ (b ∷ (c ∷ (d ∷ [])))) 4 4 _ (omega arith) (omega arith) refl refl

-- what the functions use by this name
pub ruleset stores = (laid-two, first_stored, three_stored)
