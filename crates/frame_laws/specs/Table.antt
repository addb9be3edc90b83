-- Document 01, "Frame refusals, first match in this order": the table as it stands on the page, each row one test of
-- the whole string. `refusal-table` (proofs/Theorems.antt) holds the reader's definition, which goes by form, to it.
-- Assumes nothing.
use Rattle.std.specs.Prelude.{ℕ, ◌+◌, ◌-◌, ◌%◌, Bool, not, ◌&&◌, ◌||◌, List, length, take, drop, ltb, leb, eqb}
use Rattle.choice.specs.Choice.{pick}
use Rattle.control.specs.Control.{listed, sdn}
use Rattle.frame.specs.Format.{SD1, SD2, SD3, SD4, SC, fcs}
use Rattle.frame.specs.Reading.{octet}

-- ---- what the rows name
-- the first octet is that one
unfoldable pub is : List ℕ → ℕ → Bool
is s start = eqb (octet s 0) start

-- SD1..SD3: the forms with FC, FCS and end
unfoldable pub framed : List ℕ → Bool
framed s = is s SD1 || is s SD2 || is s SD3

-- the forms with DA and SA: these and the token
unfoldable pub addressed : List ℕ → Bool
addressed s = framed s || is s SD4

-- the LE of 68 LE LE 68
unfoldable pub LE : List ℕ → ℕ
LE s = octet s 1

-- the form's octet count: an SD2 has 6 beside those that LE counts
unfoldable pub count : List ℕ → ℕ
count s =
    pick (is s SD1) 6
    (pick (is s SD2) (6 + LE s)
    (pick (is s SD3) 14
    (pick (is s SD4) 3
    1)))

-- where DA stands: behind 68 LE LE 68, or behind the start octet; then SA and FC
unfoldable pub first : List ℕ → ℕ
first s = pick (is s SD2) 4 1

unfoldable pub DA : List ℕ → ℕ
DA s = octet s (first s)

unfoldable pub SA : List ℕ → ℕ
SA s = octet s (first s + 1)

unfoldable pub FC : List ℕ → ℕ
FC s = octet s (first s + 2)

-- "DA, SA, FC and unit": what stands before the last two octets, FCS and the end
unfoldable pub checked : List ℕ → List ℕ
checked s = take (length s - 2 - first s) (drop (first s) s)

-- "DA and SA hold an address in seven bits"
unfoldable pub address : ℕ → ℕ
address a = a % 128

-- "bit 0x80 announces an extension octet": of an octet, 0x80 is set from 0x80 on
unfoldable pub announces : ℕ → Bool
announces a = leb 0x80 a

-- where the extension octets stand: the destination's first in the unit, the source's behind it if there is one
unfoldable pub destination_at : List ℕ → ℕ
destination_at s = first s + 3

unfoldable pub source_at : List ℕ → ℕ
source_at s = pick (announces (DA s)) (destination_at s + 1) (destination_at s)

-- an extension octet's place is past the unit, at FCS or behind; the octet at it is over the greatest
unfoldable pub missing : List ℕ → ℕ → Bool
missing s place = leb (length s - 2) place

unfoldable pub over : List ℕ → ℕ → ℕ → Bool
over s place greatest = ltb greatest (octet s place)

-- ---- the rows
-- 1: "no octets"
unfoldable pub no_octets : List ℕ → Bool
no_octets s = eqb (length s) 0

-- 2: "first octet is no start"
unfoldable pub no_start : List ℕ → Bool
no_start s = not (is s SD1 || is s SD2 || is s SD3 || is s SD4 || is s SC)

-- 3: "SD2: fewer than four octets"
unfoldable pub cut_sd2 : List ℕ → Bool
cut_sd2 s = is s SD2 && ltb (length s) 4

-- 4: "SD2: LE outside 4..249, repeats differ, or fourth octet not 68"
unfoldable pub bad_le : List ℕ → Bool
bad_le s =
    is s SD2
    && (ltb (LE s) 4 || ltb 249 (LE s) || not (eqb (LE s) (octet s 2)) || not (eqb (octet s 3) 0x68))

-- 5: "octet count is not the form's"
unfoldable pub wrong_count : List ℕ → Bool
wrong_count s = not (eqb (length s) (count s))

-- 6: "last octet not 16 (SD1..SD3)"
unfoldable pub wrong_end : List ℕ → Bool
wrong_end s = framed s && not (eqb (octet s (length s - 1)) 0x16)

-- 7: "FCS differs"
unfoldable pub wrong_sum : List ℕ → Bool
wrong_sum s = framed s && not (eqb (octet s (length s - 2)) (fcs (checked s)))

-- 8: "SA address 127; token DA 127; 0x80 set in a token's or SD1's address"
unfoldable pub bad_address : List ℕ → Bool
bad_address s =
    addressed s && eqb (address (SA s)) 127
    || is s SD4 && eqb (address (DA s)) 127
    || (is s SD4 || is s SD1) && (announces (DA s) || announces (SA s))

-- 9: "FC not listed above"
unfoldable pub bad_control : List ℕ → Bool
bad_control s = framed s && not (listed (FC s))

-- 10: "announced extension octet missing or out of range": "0..63 for the destination, 0..62 for the source"
unfoldable pub bad_extension : List ℕ → Bool
bad_extension s =
    framed s
    && (announces (DA s) && (missing s (destination_at s) || over s (destination_at s) 63)
    || announces (SA s) && (missing s (source_at s) || over s (source_at s) 62))

-- 11: "DA address 127 on anything but SDN"
unfoldable pub for_all : List ℕ → Bool
for_all s = addressed s && eqb (address (DA s)) 127 && not (framed s && sdn (FC s))

-- ---- "first match in this order"; 0 is none
unfoldable pub table : List ℕ → ℕ
table s =
    pick (no_octets s) 1
    (pick (no_start s) 2
    (pick (cut_sd2 s) 3
    (pick (bad_le s) 4
    (pick (wrong_count s) 5
    (pick (wrong_end s) 6
    (pick (wrong_sum s) 7
    (pick (bad_address s) 8
    (pick (bad_control s) 9
    (pick (bad_extension s) 10
    (pick (for_all s) 11
    0))))))))))
