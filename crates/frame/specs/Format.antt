-- Document 01, "Frames": the octets of each form, and the fields that the writer refuses. Assumes nothing.
use Rattle.std.specs.Prelude.{ℕ, ◌+◌, ◌%◌, Bool, true, false, List, [], ◌∷◌, ◌++◌, length, drop}
use Rattle.choice.specs.Choice.{pick, less, same, said}
use Rattle.refusal.specs.declared.Refusal.{Refusal}
use Rattle.refusal.specs.Refusal.{number}
use Rattle.std.specs.Prelude.{Option, None, Some, Result, Ok, Err}
use Rattle.frame.specs.declared.Point.{Point}
use Rattle.frame.specs.declared.Head.{Head}
use Rattle.frame.specs.declared.Fields.{Fields}
use Rattle.frame.specs.declared.Fields.TheVariants.{Token, Short, Frame}
use Rattle.control.specs.Control.{fc, listed, sdn}

-- the start octets, and the end
abbrev pub SD1 : ℕ
SD1 = 0x10

abbrev pub SD2 : ℕ
SD2 = 0x68

abbrev pub SD3 : ℕ
SD3 = 0xA2

abbrev pub SD4 : ℕ
SD4 = 0xDC

abbrev pub SC : ℕ
SC = 0xE5

abbrev pub ED : ℕ
ED = 0x16

-- "FCS is the sum of DA, SA, FC and unit modulo 256"
unfoldable pub sum : List ℕ → ℕ
sum [] = 0
sum (x ∷ b) = x + sum b

unfoldable pub fcs : List ℕ → ℕ
fcs b = sum b % 256

-- "bit 0x80 announces an extension octet"
unfoldable pub announce : Option Point → ℕ
announce None = 0
announce (Some p) = 0x80

-- the extension octet of an access point: the point
unfoldable pub extension : Option Point → List ℕ
extension None = []
extension (Some p) = p.0 ∷ []

-- "The unit begins with the destination access point octet if DA announces one, then the source one if SA does, then
-- data"
unfoldable pub unit : Head → List ℕ → List ℕ
unit h x = extension h.to ++ (extension h.from ++ x)

-- DA or SA: the address, and 0x80 if an extension octet follows
unfoldable pub addressed : ℕ → Option Point → ℕ
addressed n a = n + announce a

-- DA SA FC unit
unfoldable pub body : Head → List ℕ → List ℕ
body h x = addressed h.destination.0 h.to ∷ (addressed h.source.0 h.from ∷ (fc h.control ∷ unit h x))

-- FCS 16
unfoldable pub closing : List ℕ → List ℕ
closing b = fcs b ∷ (ED ∷ [])

-- 10 DA SA FC FCS 16
unfoldable pub sd1 : List ℕ → List ℕ
sd1 b = SD1 ∷ (b ++ closing b)

-- 68 LE LE 68 DA SA FC unit FCS 16
unfoldable pub sd2 : List ℕ → List ℕ
sd2 b = SD2 ∷ (length b ∷ (length b ∷ (SD2 ∷ (b ++ closing b))))

-- A2 DA SA FC unit FCS 16
unfoldable pub sd3 : List ℕ → List ℕ
sd3 b = SD3 ∷ (b ++ closing b)

-- "The writer uses SD1 for an empty unit and SD2 otherwise, never SD3"
unfoldable pub framed : List ℕ → List ℕ
framed b = pick (same (length b) 3) (sd1 b) (sd2 b)

-- the octets of a frame of any form with the data x, which only a frame with a unit carries
unfoldable pub octets : Fields → List ℕ → List ℕ
octets (Token d s) x = SD4 ∷ (d.0 ∷ (s.0 ∷ []))
octets Short x = SC ∷ []
octets (Frame h) x = framed (body h x)

-- an access point over the greatest number that its side may have
unfoldable pub outside : Option Point → ℕ → Bool
outside None most = false
outside (Some p) most = pick (less most p.0) true false

-- 11: "DA address 127 on anything but SDN"
unfoldable pub misdirected : ℕ → ℕ → Bool
misdirected address control = pick (same address 127) (pick (said (sdn control)) false true) false

-- "The writer gives 8 to 11 in that order for such fields (8 for SA or a token's DA over 126, or DA over 127), then 12
-- for a unit over 246"; 0 is none of these
unfoldable pub unwritable_token : ℕ → ℕ → ℕ
unwritable_token destination source = pick (less 126 destination) 8 (pick (less 126 source) 8 0)

unfoldable pub unwritable_frame : Head → ℕ → ℕ
unwritable_frame h units =
    pick (less 126 h.source.0) 8
    (pick (less 127 h.destination.0) 8
    (pick (said (listed (fc h.control)))
    (pick (said (outside h.to 63)) 10
    (pick (said (outside h.from 62)) 10
    (pick (said (misdirected h.destination.0 (fc h.control))) 11
    (pick (less 246 units) 12
    0))))
    9))

unfoldable pub unwritable : Fields → List ℕ → ℕ
unwritable (Token d s) x = unwritable_token d.0 s.0
unwritable Short x = 0
unwritable (Frame h) x = unwritable_frame h (length (unit h x))

-- "then 13 for an output shorter than the frame"
unfoldable pub refused : Fields → List ℕ → List ℕ → ℕ
refused f x out =
    pick (same (unwritable f x) 0) (pick (less (length out) (length (octets f x))) 13 0) (unwritable f x)

-- what writing gives: the number of the refusal, or the count of the frame's octets
pub data Written : Type 0 where
  Refused : ℕ → Written
  Count : ℕ → Written

-- the same as the writer answers it
unfoldable pub wrote : Result ℕ Refusal → Written
wrote (Ok n) = Count n
wrote (Err r) = Refused (number r)

unfoldable pub written : Fields → List ℕ → List ℕ → Written
written f x out = pick (same (refused f x out) 0) (Count (length (octets f x))) (Refused (refused f x out))

-- what it leaves in the output: as it was, or the frame's octets and behind them the rest as it was
unfoldable pub left : Fields → List ℕ → List ℕ → List ℕ
left f x out = pick (same (refused f x out) 0) (octets f x ++ drop (length (octets f x)) out) out
