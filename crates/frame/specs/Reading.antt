-- Document 01, "Frames": the fields of a string of octets, or its refusal, first match in the table's order. SD1, SD2
-- and SD3 share what is said of a body: DA SA FC unit. Assumes nothing.
use Rattle.std.specs.Prelude.{ℕ, ◌+◌, ◌-◌, ◌%◌, Bool, true, false, List, length, take, drop, slice_index}
use Rattle.choice.specs.Choice.{pick, less, same, said}
use Rattle.refusal.specs.declared.Refusal.{Refusal}
use Rattle.refusal.specs.Refusal.{number}
use Rattle.std.specs.Prelude.{Option, None, Some, Result, Ok, Err}
use Rattle.frame.specs.declared.Point.{Point}
use Rattle.frame.specs.declared.Head.{Head}
use Rattle.frame.specs.declared.Part.{Part}
use Rattle.frame.specs.declared.Fields.{Fields}
use Rattle.frame.specs.declared.Fields.TheVariants.{Token, Short, Frame}
use Rattle.control.specs.Control.{control_of, listed}
use Rattle.frame.specs.Format.{SD1, SD2, SD3, SD4, SC, ED, fcs, misdirected}

-- what reading gives: the number of the refusal, or the fields and where the data lie
pub data Answer : Type 0 where
  Refused : ℕ → Answer
  Read : Fields → Part → Answer

-- the same as the reader answers it
unfoldable pub answered : Result (Fields × Part) Refusal → Answer
answered (Ok r) = Read r.0 r.1
answered (Err r) = Refused (number r)

-- the octet at a place, 0 past the end
abbrev pub octet : List ℕ → ℕ → ℕ
octet s i = slice_index s i

-- the n octets from a place
abbrev pub part : List ℕ → ℕ → ℕ → List ℕ
part s start n = take n (drop start s)

-- how many extension octets an address octet announces: "bit 0x80 announces an extension octet"
unfoldable pub extensions : ℕ → ℕ
extensions a = pick (less 127 a) 1 0

-- the access point of an address octet, whose extension octet stands at a place of the body
unfoldable pub access_of : List ℕ → ℕ → ℕ → Option Point
access_of b a i = pick (less 127 a) (Some (record { 0 = octet b i })) None

-- where a body's data begin
unfoldable pub data_at : List ℕ → ℕ
data_at b = 3 + extensions (octet b 0) + extensions (octet b 1)

-- "DA and SA hold an address in seven bits"; the destination's extension octet comes before the source's
unfoldable pub head_of : List ℕ → Head
head_of b =
    record {
      destination = record { 0 = octet b 0 % 128 };
      to = access_of b (octet b 0) 3;
      source = record { 0 = octet b 1 % 128 };
      from = access_of b (octet b 1) (3 + extensions (octet b 0));
      control = control_of (octet b 2);
    }

-- 8, of an SD1: "0x80 set in SD1's address". A body of three octets is an SD1's
unfoldable pub extended : List ℕ → Bool
extended b = pick (same (length b) 3) (pick (less 127 (octet b 0)) true (pick (less 127 (octet b 1)) true false)) false

-- 10: "announced extension octet missing or out of range", of the address octet a, whose extension stands at i
unfoldable pub misnamed : List ℕ → ℕ → ℕ → ℕ → Bool
misnamed b a i most = pick (less 127 a) (pick (less i (length b)) (pick (less most (octet b i)) true false) true) false

-- 8 to 11, of a body; 0 is none of these
unfoldable pub body_refusal : List ℕ → ℕ
body_refusal b =
    pick (same (octet b 1 % 128) 127) 8
    (pick (said (extended b)) 8
    (pick (said (listed (octet b 2)))
    (pick (said (misnamed b (octet b 0) 3 63)) 10
    (pick (said (misnamed b (octet b 1) (3 + extensions (octet b 0)) 62)) 10
    (pick (said (misdirected (octet b 0 % 128) (octet b 2))) 11
    0)))
    9))

-- the answer of a number: the refusal, or the fields and where the data lie
unfoldable pub answer : ℕ → Fields → Part → Answer
answer refused f p = pick (same refused 0) (Read f p) (Refused refused)

-- a body that stands at a place of the string, when its checksum holds
unfoldable pub body_answer : List ℕ → ℕ → Answer
body_answer b start =
    answer (body_refusal b) (Frame (head_of b))
    (record { start = start + data_at b; count = length b - data_at b })

-- 5 to 7, of a frame whose body is the n octets from a place: "octet count is not the form's", "last octet not 16",
-- "FCS differs"
unfoldable pub read_body : List ℕ → ℕ → ℕ → Answer
read_body s start n =
    pick (same (length s) (start + n + 2))
    (pick (same (octet s (start + n + 1)) ED)
    (pick (same (octet s (start + n)) (fcs (part s start n)))
    (body_answer (part s start n) start)
    (Refused 7))
    (Refused 6))
    (Refused 5)

-- 4: "SD2: LE outside 4..249, repeats differ, or fourth octet not 68"
unfoldable pub mismeasured : ℕ → ℕ → ℕ → Bool
mismeasured le repeat fourth =
    pick (less le 4) true
    (pick (less 249 le) true
    (pick (same le repeat) (pick (same fourth SD2) false true) true))

-- 3, 4 and then as any body
unfoldable pub read_sd2 : List ℕ → Answer
read_sd2 s =
    pick (less (length s) 4) (Refused 3)
    (pick (said (mismeasured (octet s 1) (octet s 2) (octet s 3))) (Refused 4)
    (read_body s 4 (octet s 1)))

-- the fields of a token or a short acknowledgement come with no data
unfoldable pub plain : Fields → Answer
plain f = Read f (record { start = 0; count = 0 })

-- 5, and 8: "SA address 127; token DA 127; 0x80 set in a token's address"
unfoldable pub read_token : List ℕ → Answer
read_token s =
    pick (same (length s) 3)
    (pick (less 126 (octet s 1)) (Refused 8)
    (pick (less 126 (octet s 2)) (Refused 8)
    (plain (Token (record { 0 = octet s 1 }) (record { 0 = octet s 2 })))))
    (Refused 5)

-- 5
unfoldable pub read_short : List ℕ → Answer
read_short s = pick (same (length s) 1) (plain Short) (Refused 5)

-- 1, 2, and then by the start octet
unfoldable pub read : List ℕ → Answer
read s =
    pick (same (length s) 0) (Refused 1)
    (pick (same (octet s 0) SD1) (read_body s 1 3)
    (pick (same (octet s 0) SD2) (read_sd2 s)
    (pick (same (octet s 0) SD3) (read_body s 1 11)
    (pick (same (octet s 0) SD4) (read_token s)
    (pick (same (octet s 0) SC) (read_short s)
    (Refused 2))))))

-- the refusal number of an answer, 0 for none
unfoldable pub refusal : Answer → ℕ
refusal (Refused n) = n
refusal (Read f p) = 0

-- the data shown: that part of the string
unfoldable pub shown : List ℕ → Part → List ℕ
shown s p = part s p.start p.count
