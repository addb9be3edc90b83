-- The replay script, "Numbers are decimal, leading zeros allowed, no sign. Octets are hex digits without spaces, two to
-- an octet, upper case in what is printed and either case in what is read; `-` is none". Assumes nothing.
use Rattle.std.specs.Prelude.{ℕ, ◌+◌, ◌-◌, ◌*◌, ◌/◌, ◌%◌, Bool, true, false, List, [], ◌∷◌, length, Option, None, Some}
use Rattle.choice.specs.Choice.{pick, less, same, said}
use Rattle.laid.specs.Laid.{laid}

-- ---- decimal numbers
-- 0 to 9
unfoldable pub digit : ℕ → Bool
digit c = pick (less c 48) false (pick (less 57 c) false true)

unfoldable pub all_digits : List ℕ → Bool
all_digits [] = true
all_digits (c ∷ l) = pick (said (digit c)) (all_digits l) false

-- the value of digits behind a value
unfoldable pub value_on : ℕ → List ℕ → ℕ
value_on v [] = v
value_on v (c ∷ l) = value_on (10 * v + (c - 48)) l

-- what a word is as a number, if it is one
abbrev pub Number : Type 0
Number = Option ℕ

abbrev pub no_number : Number
no_number = None

abbrev pub number : ℕ → Number
number v = Some v

-- the number that characters behind a value are, of at most a greatest
unfoldable pub read_on : ℕ → ℕ → List ℕ → Number
read_on most v l =
    pick (all_digits l) (pick (less most (value_on v l)) no_number (number (value_on v l))) no_number

-- the number that a word is
unfoldable pub decimal : List ℕ → ℕ → Number
decimal l most = pick (same (length l) 0) no_number (read_on most 0 l)

-- ---- hex digits
-- the value of a hex digit of either case, and 16 of any other character
unfoldable pub nibble : ℕ → ℕ
nibble c =
    pick (less c 48) 16
    (pick (less c 58) (c - 48)
    (pick (less c 65) 16
    (pick (less c 71) (c - 55)
    (pick (less c 97) 16
    (pick (less c 103) (c - 87) 16)))))

unfoldable pub all_hex : List ℕ → Bool
all_hex [] = true
all_hex (c ∷ l) = pick (less 15 (nibble c)) false (all_hex l)

-- the octets of hex digits, two to an octet
unfoldable pub octets : List ℕ → List ℕ
octets [] = []
octets (a ∷ []) = []
octets (a ∷ (b ∷ l)) = (16 * nibble a + nibble b) ∷ octets l

-- "`-`"
unfoldable pub dash : List ℕ → Bool
dash [] = false
dash (c ∷ []) = same c 45
dash (c ∷ (d ∷ l)) = false

-- a word that is octets: none, or an even count of hex digits
unfoldable pub is_octets : List ℕ → Bool
is_octets l = pick (said (dash l)) true (pick (same (length l % 2) 0) (said (all_hex l)) false)

-- what reading such a word into an output of a length gives, their count, and what it leaves there: nothing is done where
-- the word is no octets or the output is too short
unfoldable pub hex : List ℕ → ℕ → Option ℕ
hex l room = pick (said (is_octets l)) (pick (less room (length l / 2)) None (Some (length l / 2))) None

unfoldable pub hex_left : List ℕ → List ℕ → List ℕ
hex_left l out =
    pick (said (is_octets l)) (pick (less (length out) (length l / 2)) out (laid out 0 (octets l))) out

-- ---- hex digits, upper case
unfoldable pub glyph : ℕ → ℕ
glyph d = pick (less d 10) (48 + d) (55 + d)

unfoldable pub hex_of : List ℕ → List ℕ
hex_of [] = []
hex_of (x ∷ l) = glyph (x / 16) ∷ (glyph (x % 16) ∷ hex_of l)

-- octets as they are printed
unfoldable pub shown : List ℕ → List ℕ
shown l = pick (same (length l) 0) (45 ∷ []) (hex_of l)
