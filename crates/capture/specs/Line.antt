-- Document 01, "Lister": the line of one body, as octets of text. Assumes nothing.
use Rattle.std.specs.Prelude.{ℕ, ◌+◌, ◌/◌, ◌%◌, List, [], ◌∷◌, ◌++◌}
use Rattle.choice.specs.Choice.{pick, less}
use Rattle.control.specs.declared.Control.{Control}
use Rattle.control.specs.declared.Control.TheVariants.{Request, Reply}
use Rattle.frame.specs.declared.Fields.TheVariants.{Token, Short, Frame}
use Rattle.frame.specs.Reading.{Answer}
use Rattle.frame.specs.Reading.{Refused, Read}
use Rattle.control.specs.Control.{fc}
use Rattle.frame.specs.Reading.{read}

-- the last decimal digit of a number, in ASCII
unfoldable pub digit : ℕ → ℕ
digit n = 48 + n % 10

-- a number below 10000 in decimal: an index is below 4096, and every other number that is printed is below 256
unfoldable pub decimal : ℕ → List ℕ
decimal n =
    pick (less n 10) (digit n ∷ [])
    (pick (less n 100) (digit (n / 10) ∷ (digit n ∷ []))
    (pick (less n 1000) (digit (n / 100) ∷ (digit (n / 10) ∷ (digit n ∷ [])))
    (digit (n / 1000) ∷ (digit (n / 100) ∷ (digit (n / 10) ∷ (digit n ∷ []))))))

-- one space
abbrev pub space : List ℕ
space = 0x20 ∷ []

-- the line's end
abbrev pub newline : List ℕ
newline = 0x0A ∷ []

-- " bad "
abbrev pub bad : List ℕ
bad = 0x20 ∷ (0x62 ∷ (0x61 ∷ (0x64 ∷ (0x20 ∷ []))))

-- " token "
abbrev pub token : List ℕ
token = 0x20 ∷ (0x74 ∷ (0x6F ∷ (0x6B ∷ (0x65 ∷ (0x6E ∷ (0x20 ∷ []))))))

-- " short" and the line's end
abbrev pub short : List ℕ
short = 0x20 ∷ (0x73 ∷ (0x68 ∷ (0x6F ∷ (0x72 ∷ (0x74 ∷ newline)))))

-- " request "
abbrev pub request : List ℕ
request = 0x20 ∷ (0x72 ∷ (0x65 ∷ (0x71 ∷ (0x75 ∷ (0x65 ∷ (0x73 ∷ (0x74 ∷ (0x20 ∷ []))))))))

-- " reply "
abbrev pub reply : List ℕ
reply = 0x20 ∷ (0x72 ∷ (0x65 ∷ (0x70 ∷ (0x6C ∷ (0x79 ∷ (0x20 ∷ []))))))

-- what kind of frame a control makes
unfoldable pub kind : Control → List ℕ
kind (Request s b v) = request
kind (Reply k c) = reply

-- two addresses
unfoldable pub addresses : ℕ → ℕ → List ℕ
addresses destination source = decimal destination ++ (space ++ decimal source)

-- what a line says of a body's answer: "`token DA SA`, `short`, `request DA SA code octets`, `reply DA SA code octets`
-- (code is FC's low four bits, octets the data count, all decimal) or `bad` and the refusal"
unfoldable pub told : Answer → List ℕ
told (Refused n) = bad ++ (decimal n ++ newline)
told (Read (Token d s) p) = token ++ (addresses d.0 s.0 ++ newline)
told (Read Short p) = short
told (Read (Frame h) p) =
    kind h.control
    ++ (addresses h.destination.0 h.source.0
    ++ (space ++ (decimal (fc h.control % 16) ++ (space ++ (decimal p.count ++ newline)))))

-- "one line a body: index, then" what it is
unfoldable pub line : ℕ → List ℕ → List ℕ
line index b = decimal index ++ told (read b)
