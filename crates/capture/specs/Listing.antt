-- Document 01, "Lister": what is printed of a capture, as octets of text. Assumes nothing.
use Rattle.std.specs.Prelude.{ℕ, zero, suc, ◌+◌, ◌-◌, ◌*◌, List, ◌∷◌, ◌++◌, length, drop}
use Rattle.choice.specs.Choice.{pick, less}
use Rattle.frame.specs.Reading.{octet, part}
use Rattle.capture.specs.Line.{newline, line}

-- "end"
abbrev pub end : List ℕ
end = 0x65 ∷ (0x6E ∷ (0x64 ∷ newline))

-- "end short"
abbrev pub end_short : List ℕ
end_short = 0x65 ∷ (0x6E ∷ (0x64 ∷ (0x20 ∷ (0x73 ∷ (0x68 ∷ (0x6F ∷ (0x72 ∷ (0x74 ∷ newline))))))))

-- "end long"
abbrev pub end_long : List ℕ
end_long = 0x65 ∷ (0x6E ∷ (0x64 ∷ (0x20 ∷ (0x6C ∷ (0x6F ∷ (0x6E ∷ (0x67 ∷ newline)))))))

-- "end count"
abbrev pub end_count : List ℕ
end_count = 0x65 ∷ (0x6E ∷ (0x64 ∷ (0x20 ∷ (0x63 ∷ (0x6F ∷ (0x75 ∷ (0x6E ∷ (0x74 ∷ newline))))))))

-- "numbers high octet first: a count (two octets, 0..4096)"
unfoldable pub count_of : List ℕ → ℕ
count_of s = 256 * octet s 0 + octet s 1

-- "for each body a clock (four) and a length (one)": the length of body i
unfoldable pub length_of : List ℕ → ℕ → ℕ
length_of s i = octet s (5 * i + 6)

-- "then the bodies in order": the first begins behind the table
unfoldable pub bodies_at : ℕ → ℕ
bodies_at count = 5 * count + 2

-- the last line of a capture whose bodies end at a place: "`end`", "`end long` if octets follow"
unfoldable pub last : List ℕ → ℕ → List ℕ
last s at = pick (less at (length s)) end_long end

-- the lines of the bodies from number i on, left of which are still to come, the next beginning at a place, and the
-- last line: "`end short` if the file stopped early (a cut body has no line)"
unfoldable pub lines : List ℕ → ℕ → ℕ → ℕ → List ℕ
lines s i zero at = last s at
lines s i (suc left) at =
    pick (less (length s - at) (length_of s i)) end_short
    (line i (part s at (length_of s i)) ++ lines s (i + 1) left (at + length_of s i))

-- "count over 4096: only `end count`"; a capture cut before its bodies: only `end short`
unfoldable pub listing : List ℕ → List ℕ
listing s =
    pick (less (length s) 2) end_short
    (pick (less 4096 (count_of s)) end_count
    (pick (less (length s) (bodies_at (count_of s))) end_short
    (lines s 0 (count_of s) (bodies_at (count_of s)))))

-- how much of a capture its listing takes note of: 2 octets of count, 4096 entries of 5, 4096 bodies of 255, and one
-- octet more, by which it is long
abbrev pub LONGEST : ℕ
LONGEST = 1064963

-- what any listing fits in: 34 octets a body, and the last line
abbrev pub ROOM : ℕ
ROOM = 139274

-- the count of the listing's octets, and 0 if the output has no room for any listing
unfoldable pub listed : List ℕ → List ℕ → ℕ
listed s out = pick (less (length out) ROOM) 0 (length (listing s))

-- what is left in the output: as it was, or the listing and behind it the rest as it was
unfoldable pub left : List ℕ → List ℕ → List ℕ
left s out = pick (less (length out) ROOM) out (listing s ++ drop (length (listing s)) out)
