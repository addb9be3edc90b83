-- The replay script, "`masters`: addresses 0..126 joined by commas, in any order. `points`: access points 0..62 and the
-- word `none`, joined by commas; `-` for no access point at all"; "a second mention in a list changes nothing". A set
-- is a list of octets, 1 at each number in it. Assumes nothing.
use Rattle.std.specs.Prelude.{ℕ, Bool, true, false, List, [], ◌∷◌, ◌++◌, set, None, Some}
use Rattle.choice.specs.Choice.{pick, same, said}
use Rattle.typed.specs.Words.{equal}
use Rattle.typed.specs.declared.lists.Kind.{Kind}
use Rattle.typed.specs.declared.lists.Kind.TheVariants.{Masters, Points}
use Rattle.typed.specs.Digits.{Number, decimal, number, dash}

abbrev pub COMMA : ℕ
COMMA = 44

-- "addresses 0..126", "access points 0..62": the last of each, and the set's place of the word `none`
abbrev pub LASTMASTER : ℕ
LASTMASTER = 126

abbrev pub LASTPOINT : ℕ
LASTPOINT = 62

abbrev pub NONEPLACE : ℕ
NONEPLACE = 63

-- whether a list holds points
unfoldable pub pointed : Kind → Bool
pointed Masters = false
pointed Points = true

-- "none", and the greatest place of a set of points or of masters
abbrev pub none : List ℕ
none = 0x6E ∷ (0x6F ∷ (0x6E ∷ (0x65 ∷ [])))

unfoldable pub greatest : Bool → ℕ
greatest points = pick points NONEPLACE LASTMASTER

-- the place of an entry
unfoldable pub entry : Bool → List ℕ → Number
entry points e =
    pick points (pick (said (equal e none)) (number NONEPLACE) (decimal e LASTPOINT)) (decimal e LASTMASTER)

-- whether entries are good, and the set with those up to a bad one
pub record Listed : Type 0 where
  pub good : Bool
  pub marks : List ℕ

unfoldable pub listed : Bool → List ℕ → Listed
listed good marks = record { good = good; marks = marks }

-- a set with an entry
abbrev marked : Number → List ℕ → Listed
marked None marks = listed false marks
marked (Some place) marks = listed true (set marks place 1)

unfoldable pub closing : Bool → List ℕ → List ℕ → Listed
closing points e marks = marked (entry points e) marks

-- a set with the entries of a list, whose first entry began with characters before it
unfoldable pub list_on : Bool → List ℕ → List ℕ → List ℕ → Listed
list_on points e [] marks = closing points e marks
list_on points e (c ∷ l) marks =
    pick (same c COMMA)
    (pick (closing points e marks).good (list_on points [] l (closing points e marks).marks) (closing points e marks))
    (list_on points (e ++ (c ∷ [])) l marks)

-- a set with the entries of a word
unfoldable pub list : Bool → List ℕ → List ℕ → Listed
list points l marks = pick (said (dash l)) (listed true marks) (list_on points [] l marks)
