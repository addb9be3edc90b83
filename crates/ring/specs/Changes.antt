-- Document 02, order 11, "Laws of the ring list": when two lists are the same set, and enterings and removals in a row.
-- Assumes nothing.
use Rattle.std.specs.Prelude.{ℕ, ◌<◌, Bool, true, false, ◌≡◌, List, [], ◌∷◌}
use Rattle.choice.specs.Choice.{pick, same}
use Rattle.ring.specs.Ring.{member, enter, remove}

-- the same set: each address is in both lists or in neither, whatever else their places hold
pub record SameSet (l m : List ℕ) : Type 0 where
  pub each : (a : ℕ) → a < 127 → member l a ≡ member m a

-- one entering or one removal, and some in a row, the first one first
pub data Change : Type 0 where
  entering : ℕ → Change
  removing : ℕ → Change

unfoldable pub changed : List Change → List ℕ → List ℕ
changed [] l = l
changed (entering a ∷ r) l = changed r (enter l a)
changed (removing a ∷ r) l = changed r (remove l a)

-- whether a station is in the set after the changes, by those alone that name it: the last of them counts, and without
-- one it is in the set if it was before
unfoldable pub lastly : List Change → ℕ → Bool → Bool
lastly [] a before = before
lastly (entering c ∷ r) a before = lastly r a (pick (same a c) true before)
lastly (removing c ∷ r) a before = lastly r a (pick (same a c) false before)
