-- Document 02, order 11, "Laws of the ring list", where they are equations between lists: of any length, with any content.
-- Assumes nothing.
use Prim.Native.Nat.{ℕ}
use mathlib.Core.List.{List, [], ◌∷◌}
use mathlib.Core.Path.{◌≡◌, refl, ap, ◌∙◌}
use native.Mathlib.Decide.{ℕ_discrete}
use native.Mathlib.Omega.{arith}
use lib.ListN.{get_or, set}
use lib.Seq.{set-set, set_comm, set-get_or}
use Rattle.ring.specs.Ring.{enter, remove}

-- "entering a station twice is entering it once"
pub enter-twice : (l : List ℕ) (a : ℕ) → enter (enter l a) a ≡ enter l a
unfolding enter
enter-twice l a = set-set l a _ _

-- one number laid at two places, or twice at one
either_order : (l : List ℕ) (a b n : ℕ) → set (set l a n) b n ≡ set (set l b n) a n
either_order l a b n = by (ℕ_discrete a b)
  where
    by : Dec (a ≡ b) → set (set l a n) b n ≡ set (set l b n) a n
    by (yes e) = rw e refl
    by (no f) = set_comm l a b n n f

-- "two entries go in either order, and so do two removals"
pub enter-enter : (l : List ℕ) (a b : ℕ) → enter (enter l a) b ≡ enter (enter l b) a
unfolding enter
enter-enter l a b = either_order l a b _

pub remove-remove : (l : List ℕ) (a b : ℕ) → remove (remove l a) b ≡ remove (remove l b) a
unfolding remove
remove-remove l a b = either_order l a b _

-- "entering one station and removing another go in either order"
pub enter-remove : (l : List ℕ) (a b : ℕ) → (a ≡ b → ⊥) → remove (enter l a) b ≡ enter (remove l b) a
unfolding enter remove
enter-remove l a b n = set_comm l a b _ _ n

-- "removing a station just entered gives the old list if it was absent", where its place held 0
pub remove-entered : (l : List ℕ) (a : ℕ) → get_or l a 0 ≡ 0 → remove (enter l a) a ≡ l
unfolding enter remove
remove-entered l a e = set-set l a _ _ ∙ rw e at (set-get_or l a 0)

-- a place that holds neither 0 nor 1 is absent too, and comes back as 0: there it is the old set (`absent-back` in
-- RingSet) and not the old list
pub not-the-list : remove (enter (2 ∷ []) 0) 0 ≡ 2 ∷ [] → ⊥
unfolding enter remove
not-the-list e = zero-two (ap (λ (l : List ℕ). get_or l 0 0) e)
  where
    zero-two : ◌≡◌ {A = ℕ} 0 2 → ⊥
    zero-two q = omega arith
