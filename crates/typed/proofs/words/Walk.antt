-- What the iterators over a line count: the spaces and the letters that it begins with, the words that begin in it; what
-- is left of it ahead of a word; and whether two words are the same. Assumes nothing.
use Rattle.std.proofs.Common.{◌≡◌, ℕ, zero, suc, ◌+◌, ◌-◌, ◌<◌, ◌≤◌, Bool, true, not, ◌&&◌, eqb, List, [], ◌∷◌, length, get_or, take, drop, length-drop, refl, sym, ap, ◌∙◌, add-one, arith, drop-cons, drop_of_length-le}
use Rattle.std.proofs.Math.Seq.{drop-drop, take-length}
use Rattle.std.specs.List.{prefix_len}
use Rattle.std.specs.Cmp.Lexicographic.{pointwise}
use Rattle.choice.specs.Choice.{pick, same}
use Rattle.typed.specs.Words.{SPACE, spaces, letters, begins, ends, behind, ahead, begin_of, begun, words_behind, word, equal}

-- what is left of a line, from a place inside it
pub left-cons : (l : List ℕ) (i : ℕ) → i < length l → drop i l ≡ get_or l i 0 ∷ drop (i + 1) l
left-cons l i h = rw (add-one i) (drop-cons l i 0 h)

-- ---- the spaces and the letters that a list begins with
pub spaces_counted : (l : List ℕ) → spaces l ≡ prefix_len (λ c. eqb c 32) l
unfolding spaces pick same
spaces_counted [] = refl
spaces_counted (c ∷ l) = grind (arith, spaces_counted l)

pub letters_counted : (l : List ℕ) → letters l ≡ prefix_len (λ c. not (eqb c 32)) l
unfolding letters pick same
letters_counted [] = refl
letters_counted (c ∷ l) = grind (arith, letters_counted l)

-- what is left behind them
pub left_all : (l : List ℕ) (n : ℕ) → take (length l - n) (drop n l) ≡ drop n l
left_all l n = rw (← length-drop n l) (take-length (drop n l))

-- ---- the words ahead
-- what is left where the word begins that is k words ahead
pub rest : List ℕ → ℕ → List ℕ
rest r zero = r
rest r (suc k) = rest (behind r) k

pub next-left : (l : List ℕ) (at : ℕ) → drop (begins l (ends l at)) l ≡ behind (drop at l)
unfolding begins ends behind
next-left l at =
    let e = drop-drop (letters (drop at l)) at l in
    sym (drop-drop (spaces (drop (at + letters (drop at l)) l)) (at + letters (drop at l)) l)
    ∙ ap (λ (r : List ℕ). drop (spaces r) r) (sym e)

rest-ahead : (k : ℕ) (l : List ℕ) (at : ℕ) → drop (ahead l at k) l ≡ rest (drop at l) k
unfolding ahead rest
rest-ahead zero l at = refl
rest-ahead (suc k) l at = rest-ahead k l (begins l (ends l at)) ∙ ap (λ r. rest r k) (next-left l at)

pub rest_more : (r : List ℕ) (k i : ℕ) → i < k
    → rest (behind r) (k - (i + 1)) ≡ rest r (k - i)
unfolding rest
rest_more r k i h = rw less
  where
    less : k - i ≡ suc (k - (i + 1))
    less = omega arith

pub rest_none : (r : List ℕ) (k i : ℕ) → k ≤ i → rest r (k - i) ≡ r
unfolding rest
rest_none r k i h = let e : k - i ≡ 0 = omega arith in rw e

pub word_left : (l : List ℕ) (k : ℕ)
    → word l k ≡ take (letters (rest (drop (spaces l) l) k)) (rest (drop (spaces l) l) k)
unfolding word begin_of begins
word_left l k =
    let e : 0 + spaces l ≡ spaces l = omega arith in rw e (ap (λ r. take (letters r) r) (rest-ahead k l (spaces l)))

-- ---- how many words begin
pub behind_more : (l : List ℕ) (i : ℕ) (space : Bool) → i < length l
    → words_behind space (drop i l) ≡ begun space (get_or l i 0) + words_behind (same (get_or l i 0) SPACE) (drop (i + 1) l)
unfolding words_behind
behind_more l i space h = rw (left-cons l i h)

pub behind_last : (l : List ℕ) (i : ℕ) (space : Bool) → length l ≤ i → words_behind space (drop i l) ≡ 0
unfolding words_behind
behind_last l i space h = rw (drop_of_length-le l h)

-- ---- whether two lists are the same
pub equal_pointwise : (l m : List ℕ) → pointwise eqb l m ≡ equal l m
unfolding equal pick same
equal_pointwise [] [] = refl
equal_pointwise [] (y ∷ m) = refl
equal_pointwise (x ∷ l) [] = refl
equal_pointwise (x ∷ l) (y ∷ m) = grind (arith, equal_pointwise l m)

-- a word that is compared octet by octet
abbrev pub bytes : List ℕ → ℕ → List ℕ → Bool
bytes w i [] = true
bytes w i (c ∷ t) = eqb (get_or w i 0) c && bytes w (suc i) t

bytes-on : (x : ℕ) (w : List ℕ) (i : ℕ) (t : List ℕ) → bytes (x ∷ w) (suc i) t ≡ bytes w i t
bytes-on x w i [] = refl
bytes-on x w i (c ∷ t) = ap (λ b. eqb (get_or w i 0) c && b) (bytes-on x w (suc i) t)

pub equal_reads : (w t : List ℕ) → equal w t ≡ (eqb (length w) (length t) && bytes w 0 t)
unfolding equal pick same
equal_reads [] [] = refl
equal_reads [] (y ∷ t) = grind arith
equal_reads (x ∷ w) [] = grind arith
equal_reads (x ∷ w) (y ∷ t) = grind (arith, equal_reads w t, bytes-on x w 0 t)

-- what a loop over the words of a line, and one over its characters, does
pub ruleset words_steps = (rest_more, rest_none, letters_counted, word_left)

pub ruleset begun_steps = (behind_more, behind_last)
