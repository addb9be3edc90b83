-- What the steps of a line share: how long a part of octets is, a piece behind a piece, and what a choice comes to.
-- Assumes nothing.
use Prim.Native.Nat.{ℕ, ◌+◌, ◌≤◌}
use mathlib.Core.List.{List, ◌++◌}
use mathlib.Core.Path.{◌≡◌, refl}
use native.Mathlib.Omega.{arith}
use lib.ListN.{length, drop, length-append, length-take, length-drop}
use Rattle.choice.proofs.Rules.{pick_true, pick-false, same_true, same_false}
use Rattle.frame.specs.declared.Part.{Part}
use Rattle.frame.specs.Reading.{part, shown}
use Rattle.laid.specs.Laid.{laid}
use Rattle.laid.proofs.Laws.{laid_nil, laid-laid, length-laid}

-- a part is at most as long as its count says, and as the whole
pub part_count : (s : List ℕ) (start n : ℕ) → length (part s start n) ≤ n
part_count s start n = omega (arith, length-take n (drop start s))

pub part-whole : (s : List ℕ) (start n : ℕ) → length (part s start n) ≤ length s
part-whole s start n = omega (arith, length-take n (drop start s), length-drop start s)

-- the data shown are that part of the octets
pub shown_part : (s : List ℕ) (p : Part) → shown s p ≡ part s p.start p.count
unfolding shown
shown_part s p = refl

-- a piece behind a piece is one piece
pub laid_on : (l : List ℕ) (i j : ℕ) (u w : List ℕ) → j ≡ i + length u → i + length u ≤ length l
    → laid (laid l i u) j w ≡ laid l i (u ++ w)
laid_on l i j u w e h = rw e (laid-laid l i u w h)

pub ruleset pieces = (laid_on, length-laid, laid_nil, length-append, part_count, part-whole)

pub ruleset choices = (pick_true, pick-false, same_true, same_false, shown_part)

-- what follows of steps in a row
pub ruleset laying = (pieces, choices)
