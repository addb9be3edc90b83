-- Octets laid over a list from a place on: what every step of the writer leaves in the output. Assumes nothing.
use Rattle.std.specs.Prelude.{ℕ, ◌+◌, ◌≤◌, ◌≡◌, List, ◌++◌, length, take, drop}

-- the octets u from place i on, and all else as it was
unfoldable pub laid : List ℕ → ℕ → List ℕ → List ℕ
laid l i u = take i l ++ (u ++ drop (i + length u) l)

-- what a step leaves that lays the piece u, of at most room octets, from a place on: the place behind it, and the
-- output
pub record Lays (l : List ℕ) (at : ℕ) (u : List ℕ) (room r : ℕ) (m : List ℕ) : Type 0 where
  pub place : r ≡ at + length u
  pub left : m ≡ laid l at u
  pub near : length u ≤ room
