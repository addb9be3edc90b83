-- The replay script, "Words are separated by one or more spaces; spaces before the first and after the last word do no
-- harm, and a tab or a carriage return belongs to the word it stands at". Assumes nothing.
use Rattle.std.specs.Prelude.{ℕ, zero, suc, ◌+◌, Bool, true, false, List, [], ◌∷◌, drop}
use Rattle.choice.specs.Choice.{pick, same}
use Rattle.frame.specs.Reading.{part}

-- the one character that stands between words
abbrev pub SPACE : ℕ
SPACE = 0x20

-- how many spaces a list begins with
unfoldable pub spaces : List ℕ → ℕ
spaces [] = 0
spaces (c ∷ l) = pick (same c SPACE) (suc (spaces l)) 0

-- how many characters a list begins with that are no spaces
unfoldable pub letters : List ℕ → ℕ
letters [] = 0
letters (c ∷ l) = pick (same c SPACE) 0 (suc (letters l))

-- where the first word from a place on begins, and where it ends; both the end of the line if there is none
unfoldable pub begins : List ℕ → ℕ → ℕ
begins l from = from + spaces (drop from l)

unfoldable pub ends : List ℕ → ℕ → ℕ
ends l from = from + letters (drop from l)

-- what is left of a list behind its first word, from the next word on
unfoldable pub behind : List ℕ → List ℕ
behind l = let r : List ℕ = drop (letters l) l in drop (spaces r) r

-- where the word begins that is k words ahead of the one that begins at a place
unfoldable pub ahead : List ℕ → ℕ → ℕ → ℕ
ahead l at zero = at
ahead l at (suc k) = ahead l (begins l (ends l at)) k

-- where word k begins, counted from 0
unfoldable pub begin_of : List ℕ → ℕ → ℕ
begin_of l k = ahead l (begins l 0) k

-- a word begins at a letter that is the first character or stands behind a space
unfoldable pub begun : Bool → ℕ → ℕ
begun space c = pick (same c SPACE) 0 (pick space 1 0)

-- how many words begin in a list that stands at the start or behind a space, or behind a letter
unfoldable pub words_behind : Bool → List ℕ → ℕ
words_behind space [] = 0
words_behind space (c ∷ l) = begun space c + words_behind (same c SPACE) l

-- how many words there are
abbrev pub words : List ℕ → ℕ
words l = words_behind true l

-- word k's characters; none if there are fewer words
unfoldable pub word : List ℕ → ℕ → List ℕ
word l k = let at : ℕ = begin_of l k in part l at (letters (drop at l))

-- whether two lists are of the same characters
unfoldable pub equal : List ℕ → List ℕ → Bool
equal [] [] = true
equal [] (y ∷ m) = false
equal (x ∷ l) [] = false
equal (x ∷ l) (y ∷ m) = pick (same x y) (equal l m) false
