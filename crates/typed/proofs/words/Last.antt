-- A line has no word behind its last: word k is empty where the line has at most k words. Assumes nothing.
use Prim.Native.Nat.{ℕ, zero, suc, ◌≤◌}
use mathlib.Core.Bool.{Bool, true, false}
use mathlib.Core.List.{List, [], ◌∷◌}
use mathlib.Core.Path.{◌≡◌, refl, sym, ◌∙◌}
use native.Mathlib.Nat.{zero-add}
use native.Mathlib.Omega.{arith}
use lib.ListN.{take, drop}
use Rattle.choice.specs.Choice.{pick, same}
use Rattle.typed.specs.Words.{SPACE, spaces, letters, begins, ends, behind, ahead, begin_of, begun, words_behind, words}
use Rattle.typed.specs.Words.{word}
use Rattle.typed.proofs.words.Walk.{next-left}

-- ---- a list whose first character is a space, and one whose first is a letter
record Spaced (c : ℕ) (r : List ℕ) : Type 0 where
  spaces-more : spaces (c ∷ r) ≡ suc (spaces r)
  letters-none : letters (c ∷ r) ≡ 0
  words_same : (space : Bool) → words_behind space (c ∷ r) ≡ words_behind true r

record Lettered (c : ℕ) (r : List ℕ) : Type 0 where
  spaces-none : spaces (c ∷ r) ≡ 0
  letters-more : letters (c ∷ r) ≡ suc (letters r)
  words-one : words_behind true (c ∷ r) ≡ suc (words_behind false r)
  words-on : words_behind false (c ∷ r) ≡ words_behind false r

spaced : (c : ℕ) (r : List ℕ) → same c SPACE ≡ true → Spaced c r
unfolding spaces letters words_behind begun pick
spaced c r e =
    record { spaces-more = rw e; letters-none = rw e; words_same = λ space. rw e (zero-add (words_behind true r)) }

lettered : (c : ℕ) (r : List ℕ) → same c SPACE ≡ false → Lettered c r
unfolding spaces letters words_behind begun pick
lettered c r e =
    record {
      spaces-none = rw e;
      letters-more = rw e;
      words-one = rw e (omega arith);
      words-on = rw e (zero-add (words_behind false r));
    }

-- what holds of both holds of every list that is not empty
by-test : {A : Type 0} (c : ℕ) (r : List ℕ) (b : Bool) → same c SPACE ≡ b → (Spaced c r → A) → (Lettered c r → A) → A
by-test c r true e f g = f (spaced c r e)
by-test c r false e f g = g (lettered c r e)

by_first : {A : Type 0} (c : ℕ) (r : List ℕ) → (Spaced c r → A) → (Lettered c r → A) → A
by_first c r f g = by-test c r (same c SPACE) refl f g

-- and the empty list
spaces-empty : spaces [] ≡ 0
unfolding spaces
spaces-empty = refl

letters-empty : letters [] ≡ 0
unfolding letters
letters-empty = refl

words-empty : (space : Bool) → words_behind space [] ≡ 0
unfolding words_behind
words-empty space = refl

-- ---- the words of a list are those behind its first spaces, and behind the letters of a word that is counted already
spaces-passed : (r : List ℕ) → words_behind true r ≡ words_behind true (drop (spaces r) r)
spaces-passed [] = rw spaces-empty refl
spaces-passed (c ∷ r) =
    let h = spaces-passed r in
    by_first c r (λ s. rw s.spaces-more (s.words_same true ∙ h)) (λ t. rw t.spaces-none refl)

letters-passed : (r : List ℕ) → words_behind false r ≡ words_behind true (drop (letters r) r)
letters-passed [] = rw letters-empty (words-empty false ∙ sym (words-empty true))
letters-passed (c ∷ r) =
    let h = letters-passed r in
    by_first c r (λ s. rw s.letters-none (s.words_same false ∙ sym (s.words_same true)))
    (λ t. rw t.letters-more (t.words-on ∙ h))

-- behind the spaces that a list begins with stands no space
spaces-over : (r : List ℕ) → spaces (drop (spaces r) r) ≡ 0
spaces-over [] = rw spaces-empty spaces-empty
spaces-over (c ∷ r) =
    let h = spaces-over r in
    by_first c r (λ s. rw s.spaces-more h) (λ t. rw t.spaces-none t.spaces-none)

-- ---- of a list that begins with no space: behind its first word are fewer words, and if it has none it is empty
suc-zero : {n : ℕ} → suc n ≡ 0 → ⊥
suc-zero e = omega (arith, e)

one_less : (r : List ℕ) (k : ℕ) → spaces r ≡ 0 → words_behind true r ≤ suc k → words_behind true (drop (letters r) r) ≤ k
one_less [] k s h = rw letters-empty (omega (arith, words-empty true))
one_less (c ∷ r) k s h =
    by_first c r (λ x. absurd (suc-zero (sym x.spaces-more ∙ s)))
    (λ t. rw (t.letters-more, ← letters-passed r) (omega (arith, rw t.words-one at h)))

none-empty : (r : List ℕ) → spaces r ≡ 0 → words_behind true r ≤ 0 → r ≡ []
none-empty [] s h = refl
none-empty (c ∷ r) s h =
    by_first c r (λ x. absurd (suc-zero (sym x.spaces-more ∙ s)))
    (λ t. absurd (omega (arith, rw t.words-one at h)))

-- ---- the words ahead
ahead-over : (k : ℕ) (l : List ℕ) (at : ℕ) → spaces (drop at l) ≡ 0 → words_behind true (drop at l) ≤ k
    → drop (ahead l at k) l ≡ []
unfolding ahead behind
ahead-over zero l at s h = none-empty _ s h
ahead-over (suc k) l at s h =
    let e = next-left l at in
    let r : List ℕ = drop (letters (drop at l)) (drop at l) in
    ahead-over k l (begins l (ends l at)) (rw e (spaces-over r))
    (rw (e, ← spaces-passed r) (one_less (drop at l) k s h))

first-left : (l : List ℕ) → spaces (drop (begins l 0) l) ≡ 0
unfolding begins
first-left l = rw (zero-add (spaces l)) (spaces-over l)

first-words : (l : List ℕ) → words l ≡ words_behind true (drop (begins l 0) l)
unfolding begins
first-words l = rw (zero-add (spaces l)) (spaces-passed l)

none-taken : (n : ℕ) → take {A = ℕ} n [] ≡ []
none-taken zero = refl
none-taken (suc n) = refl

-- a line of at most k words has no word k
pub no_word : (l : List ℕ) (k : ℕ) → words l ≤ k → word l k ≡ []
unfolding word begin_of
no_word l k h =
    let e = ahead-over k l (begins l 0) (first-left l) (omega (arith, h, first-words l)) in
    rw e (none-taken (letters []))
