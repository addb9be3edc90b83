-- The replay script, "What fits its place": the words that stand for a number, and what a word or some words of a line
-- are. Assumes nothing.
use Rattle.std.specs.Prelude.{ℕ, zero, suc, ◌+◌, Bool, true, false, List, [], ◌∷◌, replicate, is_some}
use Rattle.choice.specs.Choice.{pick, same, said}
use Rattle.typed.specs.Words.{words, word, equal}
use Rattle.typed.specs.declared.places.Pair.{Pair}
use Rattle.typed.specs.Digits.{Number, decimal, number, no_number, dash}
use Rattle.typed.specs.Lists.{list}

-- ---- the words that stand for themselves
-- "high"
abbrev pub w-high : List ℕ
w-high = 0x68 ∷ (0x69 ∷ (0x67 ∷ (0x68 ∷ [])))

-- "low"
abbrev pub w-low : List ℕ
w-low = 0x6C ∷ (0x6F ∷ (0x77 ∷ []))

-- "sda"
abbrev pub w-sda : List ℕ
w-sda = 0x73 ∷ (0x64 ∷ (0x61 ∷ []))

-- "sdn"
abbrev pub w-sdn : List ℕ
w-sdn = 0x73 ∷ (0x64 ∷ (0x6E ∷ []))

-- "srd"
abbrev pub w-srd : List ℕ
w-srd = 0x73 ∷ (0x72 ∷ (0x64 ∷ []))

-- "status"
abbrev pub w-status : List ℕ
w-status = 0x73 ∷ (0x74 ∷ (0x61 ∷ (0x74 ∷ (0x75 ∷ (0x73 ∷ [])))))

-- "ident"
abbrev pub w-ident : List ℕ
w-ident = 0x69 ∷ (0x64 ∷ (0x65 ∷ (0x6E ∷ (0x74 ∷ []))))

-- "lsap"
abbrev pub w-lsap : List ℕ
w-lsap = 0x6C ∷ (0x73 ∷ (0x61 ∷ (0x70 ∷ [])))

-- "the settings, TS and CLOCK 0..4294967295", "the row lengths, DA, DSAP and SSAP 0..255"
abbrev pub LONG : ℕ
LONG = 4294967295

abbrev pub SHORT : ℕ
SHORT = 255

-- what `-` is in the place of an access point: one more than fits it
abbrev pub DASHED : ℕ
DASHED = 256

-- "Any other line is at most 4096 characters without its line end", so no word of it is more octets than half of that
abbrev pub LONGEST : ℕ
LONGEST = 4096

abbrev pub MOSTOCTETS : ℕ
MOSTOCTETS = 2048

-- ---- the words that stand for a number
-- a word that is one of two: 0 or 1
unfoldable pub either : List ℕ → List ℕ → List ℕ → Number
either w a b = pick (said (equal w a)) (number 0) (pick (said (equal w b)) (number 1) no_number)

-- "`QUEUE`: `high` or `low`"
unfoldable pub queue : List ℕ → Number
queue w = either w w-high w-low

-- "ROOM is `0` or `1`"
unfoldable pub room : List ℕ → Number
room w = either w (0x30 ∷ []) (0x31 ∷ [])

-- "`SERVICE`: `sda`, `sdn`, `srd`, `status`, `ident`, `lsap` (the last three are refused 25)": a service's number
unfoldable pub unserved : List ℕ → Number
unserved w =
    pick (said (equal w w-status)) (number 9)
    (pick (said (equal w w-ident)) (number 14) (pick (said (equal w w-lsap)) (number 15) no_number))

unfoldable pub service : List ℕ → Number
service w =
    pick (said (equal w w-sda)) (number 3)
    (pick (said (equal w w-sdn)) (number 4) (pick (said (equal w w-srd)) (number 12) (unserved w)))

-- "The access points may also be `-`"
unfoldable pub access : List ℕ → Number
access w = pick (said (dash w)) (number DASHED) (decimal w SHORT)

-- ---- what fits its place
-- a line's first word is a call's
unfoldable pub called : List ℕ → List ℕ → Bool
called l name = equal (word l 0) name

-- and it has as many words as that call
unfoldable pub named : List ℕ → List ℕ → ℕ → Bool
named l name n = pick (same (words l) n) (said (called l name)) false

-- some words from one on are numbers of at most a greatest
unfoldable pub numbers : List ℕ → ℕ → ℕ → ℕ → Bool
numbers l k zero most = true
numbers l k (suc n) most = pick (said (is_some (decimal (word l k) most))) (numbers l (k + 1) n most) false

-- "pairs of words, a name and its value": the pair of a name, if that is word k, has for its value the number that the
-- next word is, of at most a greatest, and the word behind it is the next but one; "a pair may be left out and then has
-- its standard value", and word k is behind it
unfoldable pub pair : List ℕ → ℕ → List ℕ → ℕ → ℕ → Pair
pair l k name most standard =
    pick (said (equal (word l k) name)) (record { number = decimal (word l (k + 1)) most; behind = k + 2 })
    (record { number = number standard; behind = k })

-- a word is a list of masters, or of points
unfoldable pub is_masters : List ℕ → Bool
is_masters w = (list false w (replicate 127 0)).good

unfoldable pub is_points : List ℕ → Bool
is_points w = (list true w (replicate 64 0)).good
