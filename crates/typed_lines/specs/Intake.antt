-- The replay script, "one call a line": a line gathered from blocks of input, in memory that does not grow. Of a line
-- that is longer than any call the first 4097 octets are kept. Assumes nothing.
use Rattle.std.specs.Prelude.{ℕ, suc, ◌+◌, ◌≡◌, true, false, List, [], ◌∷◌, ◌++◌, length, take, drop}
use Rattle.choice.specs.Choice.{pick, less, same}
use Rattle.laid.specs.Laid.{laid}
use Rattle.typed_lines.specs.declared.Gathered.{Gathered}

-- the line end
abbrev pub NEWLINE : ℕ
NEWLINE = 0x0A

-- "at most 4096 characters", and one more
abbrev pub ROOM : ℕ
ROOM = 4097

-- how many octets stand before the first line end, or in all
unfoldable pub before : List ℕ → ℕ
before [] = 0
before (c ∷ l) = pick (same c NEWLINE) 0 (suc (before l))

-- what is kept of a line
unfoldable pub kept : List ℕ → List ℕ
kept l = take ROOM l

-- a line with the octets of a block from a place on, up to a line end
unfoldable pub more : List ℕ → List ℕ → ℕ → List ℕ
more line block from = kept (line ++ take (before (drop from block)) (drop from block))

-- the place behind those octets, and the line end if there is one
unfoldable pub place_behind : List ℕ → ℕ → ℕ
place_behind block from = from + before (drop from block)

unfoldable pub gathered : List ℕ → List ℕ → ℕ → Gathered
gathered line block from =
    let e : ℕ = place_behind block from in
    pick (less e (length block))
    (record { next = e + 1; count = length (more line block from); whole = true })
    (record { next = e; count = length (more line block from); whole = false })

-- all that gathering leaves: the answer, and the line with what is kept at its start and all behind that as it was
pub record Gathers (line block : List ℕ) (from count : ℕ) (r : Gathered) (line' : List ℕ) : Type 0 where
  pub answer : r ≡ gathered (take count line) block from
  pub left : line' ≡ laid line 0 (more (take count line) block from)
