-- Document 01, "Station": a request record as octets at a place of a row, and what submit refuses in one; document 02,
-- order 6: its reference and its own retry limit. Assumes nothing.
use Rattle.std.specs.Prelude.{ℕ, ◌+◌, ◌*◌, ◌/◌, ◌%◌, Bool, true, false, List, [], ◌∷◌}
use Rattle.choice.specs.Choice.{pick, less, same, said}
use Rattle.frame.specs.Access.{NONE}
use Rattle.frame.specs.Reading.{octet}
use Rattle.request.specs.declared.Record.{Record}

-- a record's service: SDA, SDN or SRD, by the number that FC has for it in the low queue
abbrev pub SDA : ℕ
SDA = 3

abbrev pub SDN : ℕ
SDN = 4

abbrev pub SRD : ℕ
SRD = 12

-- a record's status: waiting, or that of its confirmation, by the reply's code, NA or DS
abbrev pub OK : ℕ
OK = 0

abbrev pub NA : ℕ
NA = 16

abbrev pub DS : ℕ
DS = 17

abbrev pub WAITING : ℕ
WAITING = 255

-- the address "127 for all", the most octets of a data unit, and the greatest retry limit, "0..15"
abbrev pub ALL : ℕ
ALL = 127

abbrev pub UNIT : ℕ
UNIT = 246

abbrev pub RETRIES : ℕ
RETRIES = 15

-- "a status not named here" is not one of these: OK, UE, RR, RS, DL, NR, DH, RDL, RDH, NA, DS
unfoldable pub named : ℕ → Bool
named n =
    pick (less n 4) true
    (pick (less n 8) false
    (pick (less n 11) true
    (pick (same n 12) true
    (pick (same n 13) true
    (pick (same n NA) true
    (pick (same n DS) true false))))))

-- ---- the listing: each field's place among a record's octets, in the order of the fields, and how many octets these are
abbrev pub SERVICE : ℕ
SERVICE = 0

abbrev pub DESTINATION : ℕ
DESTINATION = 1

abbrev pub TO : ℕ
TO = 2

abbrev pub FROM : ℕ
FROM = 3

abbrev pub LENGTH : ℕ
LENGTH = 4

abbrev pub STATUS : ℕ
STATUS = 5

abbrev pub COUNT : ℕ
COUNT = 6

-- of order 6: the four octets of the reference, the lowest first, the limit, and whether the station's is asked for
abbrev pub REFERENCE : ℕ
REFERENCE = 7

abbrev pub REFERENCE1 : ℕ
REFERENCE1 = 8

abbrev pub REFERENCE2 : ℕ
REFERENCE2 = 9

abbrev pub REFERENCE3 : ℕ
REFERENCE3 = 10

abbrev pub LIMIT : ℕ
LIMIT = 11

abbrev pub ASKS : ℕ
ASKS = 12

abbrev pub SIZE : ℕ
SIZE = 13

-- the reference of the record at a place, and the octets of a reference below 2^32, before others
unfoldable pub reference_at : List ℕ → ℕ → ℕ
reference_at l i =
    octet l (i + REFERENCE) + 256 * octet l (i + REFERENCE1) + 65536 * octet l (i + REFERENCE2)
    + 16777216 * octet l (i + REFERENCE3)

unfoldable pub reference_octets : ℕ → List ℕ → List ℕ
reference_octets n l = n % 256 ∷ (n / 256 % 256 ∷ (n / 65536 % 256 ∷ (n / 16777216 ∷ l)))

-- a yes or no as an octet, and back: any octet but 0 is yes
unfoldable pub flag_octet : Bool → ℕ
flag_octet b = pick b 1 0

unfoldable pub flagged : ℕ → Bool
flagged n = less 0 n

-- the octets of a record, and the record of the octets from a place on
unfoldable pub octets : Record → List ℕ
octets r =
    r.service
    ∷ (r.destination.0
    ∷ (r.to.0
    ∷ (r.from.0
    ∷ (r.length
    ∷ (r.status ∷ (r.count ∷ reference_octets r.reference (r.limit ∷ (flag_octet r.asks ∷ []))))))))

unfoldable pub record_at : List ℕ → ℕ → Record
record_at l i =
    record {
      service = octet l (i + SERVICE);
      destination = record { 0 = octet l (i + DESTINATION) };
      to = record { 0 = octet l (i + TO) };
      from = record { 0 = octet l (i + FROM) };
      length = octet l (i + LENGTH);
      status = octet l (i + STATUS);
      count = octet l (i + COUNT);
      reference = reference_at l i;
      limit = octet l (i + LIMIT);
      asks = flagged (octet l (i + ASKS));
    }

-- "the station's limit only fills records that ask for it": the record with the limit that it goes by
unfoldable pub limited : ℕ → Record → Record
limited station r =
    record {
      service = r.service;
      destination = r.destination;
      to = r.to;
      from = r.from;
      length = r.length;
      status = r.status;
      count = r.count;
      reference = r.reference;
      limit = pick r.asks station r.limit;
      asks = r.asks;
    }

-- 23: "DA over 127, own, or 127 not for SDN"
unfoldable pub misaddressed : ℕ → ℕ → ℕ → Bool
misaddressed ts destination service =
    pick (less ALL destination) true
    (pick (same destination ts) true
    (pick (same destination ALL) (pick (same service SDN) false true) false))

-- 24: "access point out of range, or destination 63 but for SDN"
unfoldable pub beyond : ℕ → ℕ → Bool
beyond point most = pick (same point NONE) false (pick (less most point) true false)

unfoldable pub mispointed : ℕ → ℕ → ℕ → Bool
mispointed to from service =
    pick (said (beyond to 63)) true
    (pick (said (beyond from 62)) true
    (pick (same to 63) (pick (same service SDN) false true) false))

-- 25: "service other than SDA, SDN, SRD"
unfoldable pub unserved : ℕ → Bool
unserved service = pick (same service SDA) false (pick (same service SDN) false (pick (same service SRD) false true))

-- how many extension octets an access point has
unfoldable pub extensions : ℕ → ℕ
extensions point = pick (same point NONE) 0 1

-- 26: "data plus access points over 246", of n octets of data
unfoldable pub overlong : ℕ → ℕ → ℕ → Bool
overlong to from n = pick (less UNIT (extensions to + (extensions from + n))) true false

-- 30: "a limit over 15"
unfoldable pub overlimit : ℕ → Bool
overlimit limit = pick (less RETRIES limit) true false

-- 23 to 26, then 30, first match, of a request of station TS with n octets of data; 0 is none of these
unfoldable pub unfit : ℕ → Record → ℕ → ℕ
unfit ts r n =
    pick (said (misaddressed ts r.destination.0 r.service)) 23
    (pick (said (mispointed r.to.0 r.from.0 r.service)) 24
    (pick (said (unserved r.service)) 25
    (pick (said (overlong r.to.0 r.from.0 n)) 26
    (pick (said (overlimit r.limit)) 30
    0))))
