-- What the program writes for what it reads: the lines of a script, what they print, and how that comes about octet by
-- octet.
use Rattle.std.specs.Prelude.{ℕ, Bool, true, List, [], ◌∷◌, ◌++◌, take}
use Rattle.std.specs.List.{concat}
use Rattle.choice.specs.Choice.{pick, same}
use Rattle.typed_lines.specs.Intake.{NEWLINE, kept}
use Rattle.desk.specs.declared.Held.{Held}
use Rattle.desk.specs.Desk.{Desk, desk_of, answer}
use Rattle.desk.specs.Scripts.{lines_of}
use Rattle.desk.specs.Scripts.Past.{unbegun}

-- so many times the program reads at most, an octet or more each time
abbrev pub READS : ℕ
READS = 18446744073709551615

-- ---- a script
-- the lines of octets that stand behind the octets of a line: each up to its line end, and the last, which has none
unfoldable pub lines : List ℕ → List ℕ → List (List ℕ)
lines line [] = line ∷ []
lines line (c ∷ s) = pick (same c NEWLINE) (line ∷ lines [] s) (lines (line ++ (c ∷ [])) s)

-- what the lines of a script print, one after another
unfoldable pub answers : List ℕ → List ℕ
answers script = concat (lines_of (lines [] script) unbegun)

-- ---- as the program does it
-- the desk, and what is kept of the line at hand
pub record Stand : Type 0 where
  pub desk : Desk
  pub line : List ℕ

unfoldable pub stand : Held → ℕ → List ℕ → List ℕ → List ℕ → List ℕ → List ℕ → Stand
stand h count line high harea low larea =
    record { desk = desk_of h high harea low larea; line = take count line }

-- what a line leaves that is answered if it is whole, and what is printed
unfoldable pub heeded : Bool → Stand → Stand
heeded whole x = pick whole (record { desk = (answer x.line x.desk).desk; line = [] }) x

unfoldable pub heeded_line : Bool → Stand → List ℕ
heeded_line whole x = pick whole (answer x.line x.desk).line []

-- what an octet leaves, and what is printed
unfoldable pub on : ℕ → Stand → Stand
on c x = pick (same c NEWLINE) (heeded true x) (record { desk = x.desk; line = kept (x.line ++ (c ∷ [])) })

-- what octets leave, and what is printed
unfoldable pub behind : List ℕ → Stand → Stand
behind [] x = x
behind (c ∷ s) x = behind s (on c x)

unfoldable pub written : List ℕ → Stand → List ℕ
written [] x = []
written (c ∷ s) x = heeded_line (same c NEWLINE) x ++ written s (on c x)
