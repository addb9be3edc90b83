-- What the functions of a line use: stores in a row lay their values, and a step of fewer octets is one of more.
-- Assumes nothing.
use Rattle.std.proofs.Common.{ℕ, ◌+◌, ◌≤◌, List, [], ◌∷◌, length, set, refl, arith, add-one}
use native.Mathlib.Numerals.{add-two, add-three}
use Rattle.laid.specs.Laid.{Lays}
use Rattle.laid.proofs.Laws.{lays-within, lays-sets}

pub ruleset steps = (lays-within)

pub one_stored : (l : List ℕ) (at a : ℕ) → at + 4 ≤ length l → Lays l at (a ∷ []) 4 (at + 1) (set l at a)
one_stored l at a h = lays-sets l at (a ∷ []) 4 (at + 1) _ (omega arith) (omega arith) refl refl

pub two_stored : (l : List ℕ) (at a b : ℕ) → at + 4 ≤ length l
    → Lays l at (a ∷ (b ∷ [])) 4 (at + 2) (set (set l at a) (at + 1) b)
two_stored l at a b h =
    lays-sets l at (a ∷ (b ∷ [])) 4 (at + 2) _ (omega arith) (omega arith) refl (rw (add-one at))

pub three_stored : (l : List ℕ) (at a b d : ℕ) → at + 4 ≤ length l
    → Lays l at (a ∷ (b ∷ (d ∷ []))) 4 (at + 3) (set (set (set l at a) (at + 1) b) (at + 2) d)
three_stored l at a b d h =
    lays-sets l at (a ∷ (b ∷ (d ∷ []))) 4 (at + 3) _ (omega arith) (omega arith) refl (rw (add-one at, add-two at))

pub four_stored : (l : List ℕ) (at a b d e : ℕ) → at + 4 ≤ length l
    → Lays l at (a ∷ (b ∷ (d ∷ (e ∷ [])))) 4 (at + 4) (set (set (set (set l at a) (at + 1) b) (at + 2) d) (at + 3) e)
four_stored l at a b d e h =
    lays-sets l at (a ∷ (b ∷ (d ∷ (e ∷ [])))) 4 (at + 4) _ (omega arith) (omega arith) refl
    (rw (add-one at, add-two at, add-three at))

pub ruleset stores = (one_stored, two_stored, three_stored, four_stored)
