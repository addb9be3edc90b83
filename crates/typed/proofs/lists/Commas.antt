-- The entries of a list are its parts between commas, and the bound of an entry's place. Assumes nothing.
use Rattle.std.proofs.Common.{◌≡◌, ℕ, suc, ◌+◌, ◌<◌, ◌≤◌, Bool, true, false, eqb, List, [], ◌∷◌, ◌++◌, length, drop, Some, refl, sym, ap, ◌∙◌, append_assoc, append-nil, arith, cond, get_or, add-one, drop-cons, drop_of_length-le}
use Rattle.std.specs.List.{slice_split, onto_first}
use Rattle.std.proofs.lemmas.List.Splits.{length-slice_split}
use Rattle.choice.specs.Choice.{pick, same, said}
use Rattle.typed.proofs.digits.Numbers.{decimal_most}
use Rattle.typed.specs.Lists.{Listed, greatest, entry, listed, closing, list_on}

-- ---- an entry's place
pub entry_most : (points : Bool) (e : List ℕ) (n : ℕ) → entry points e ≡ Some n → n ≤ greatest points
unfolding entry greatest pick said
entry_most true e n h = grind (arith, decimal_most)
entry_most false e n h = grind (arith, decimal_most)

-- ---- entries in a row, up to a bad one
pub closes : Bool → List (List ℕ) → List ℕ → Listed
closes points [] marks = listed true marks
closes points (e ∷ l) marks =
    pick (closing points e marks).good (closes points l (closing points e marks).marks) (closing points e marks)

-- a list's parts between commas, where the first began with characters before it
front : List ℕ → List (List ℕ) → List (List ℕ)
front e [] = e ∷ []
front e (x ∷ l) = (e ++ x) ∷ l

parts : List ℕ → List (List ℕ)
parts l = slice_split (λ c. eqb c 44) l

front-on : (e : List ℕ) (c : ℕ) (l : List (List ℕ)) → front e (onto_first c l) ≡ front (e ++ (c ∷ [])) l
unfolding front
front-on e c [] = refl
front-on e c (x ∷ l) = ap (λ r. r ∷ l) (sym (append_assoc e (c ∷ []) x))

front-none : (l : List (List ℕ)) → 0 < length l → front [] l ≡ l
unfolding front
front-none [] h = absurd (omega arith)
front-none (x ∷ l) h = refl

-- one entry, and no more
one-closed : (points : Bool) (e m : List ℕ) → closing points e m ≡ closes points (e ∷ []) m
unfolding closes closing listed pick
one-closed points e m = grind arith

-- one character on
step : (b points : Bool) (e : List ℕ) (c : ℕ) (l : List (List ℕ)) (m : List ℕ) (x y : Listed)
    → x ≡ closes points l (closing points e m).marks → y ≡ closes points (front (e ++ (c ∷ [])) l) m
    → pick b (pick (closing points e m).good x (closing points e m)) y
    ≡ closes points (front e (cond b ([] ∷ l) (onto_first c l))) m
unfolding closes front pick
step true points e c l m x y p q = rw (append-nil e, p)
step false points e c l m x y p q = q ∙ ap (λ r. closes points r m) (sym (front-on e c l))

some : (l : List ℕ) → 0 < length (parts l)
unfolding parts
some l = omega (arith, length-slice_split (λ c. eqb c 44) l)

list-parts : (points : Bool) (e l m : List ℕ) → list_on points e l m ≡ closes points (front e (parts l)) m
unfolding list_on front parts same
list-parts points e [] m = rw (append-nil e) (one-closed points e m)
list-parts points e (c ∷ l) m =
    step (eqb c 44) points e c (parts l) m _ _
    (list-parts points [] l _ ∙ ap (λ p. closes points p (closing points e m).marks) (front-none (parts l) (some l)))
    (list-parts points (e ++ (c ∷ [])) l m)

pub list_parts : (points : Bool) (l m : List ℕ) → list_on points [] l m ≡ closes points (slice_split (λ c. eqb c 44) l) m
unfolding parts
list_parts points l m = list-parts points [] l m ∙ ap (λ p. closes points p m) (front-none (parts l) (some l))

-- ---- one entry on, of the entries from one on, and no more
parts-on : (l : List (List ℕ)) (i : ℕ) (e : List ℕ) → (i < length l) × (e ≡ get_or l i e)
    → drop i l ≡ e ∷ drop (i + 1) l
parts-on l i e h = rw (add-one i) (drop-cons l i e h.0 ∙ ap (λ x. x ∷ drop (suc i) l) (sym h.1))

pub closes_good : (points g : Bool) (e : List ℕ) (l : List (List ℕ)) (i j : ℕ) (m n : List ℕ) (x : Listed)
    → (i < length l) × (e ≡ get_or l i e) → j ≡ i + 1 → g ≡ true → listed g n ≡ closing points e m
    → closes points (drop i l) m ≡ x → closes points (drop j l) n ≡ x
unfolding closes listed pick
closes_good points g e l i j m n x h k t s f = rw k (rw (parts-on l i e h, ← s, t) at f)

pub closes_bad : (points g : Bool) (e : List ℕ) (l : List (List ℕ)) (i : ℕ) (m n : List ℕ) (x : Listed)
    → (i < length l) × (e ≡ get_or l i e) → g ≡ false → listed g n ≡ closing points e m
    → closes points (drop i l) m ≡ x → listed false n ≡ x
unfolding closes listed pick
closes_bad points g e l i m n x h t s f = rw (parts-on l i e h, ← s, t) at f

pub closes_none : (points : Bool) (l : List (List ℕ)) (i : ℕ) (m : List ℕ) (x : Listed) → i ≡ length l
    → closes points (drop i l) m ≡ x → listed true m ≡ x
unfolding closes
closes_none points l i m x h f = let q : length l ≤ i = omega arith in rw (drop_of_length-le l q) at f
