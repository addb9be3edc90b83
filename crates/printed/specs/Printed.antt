-- The replay script, the right side of its table: the words and the lines that are printed. Assumes nothing.
use Rattle.std.specs.Prelude.{ℕ, zero, suc, ◌+◌, ◌*◌, ◌%◌, Bool, true, false, List, [], ◌∷◌, ◌++◌, length}
use Rattle.choice.specs.Choice.{pick, less, same}
use Rattle.control.specs.Control.{fc}
use Rattle.frame.specs.Reading.{part, shown as data_of}
use Rattle.request.specs.declared.Record.{Record}
use Rattle.frame.specs.Access.{NONE, point_of}
use Rattle.queue.specs.declared.Queue.{Queue}
use Rattle.ring.specs.Ring.{member, next_of}
use Rattle.state.specs.declared.Phase.{Phase}
use Rattle.state.specs.declared.Phase.TheVariants.{Idle, Awaited, Sdn, Check, ToSelf}
use Rattle.state.specs.declared.Core.{Core}
use Rattle.state.specs.declared.Indication.{Indication}
use Rattle.std.specs.Prelude.{Option, None, Some}
use Rattle.typed.specs.Digits.{shown}
use Rattle.typed.specs.Places.{w-high, w-low, w-sda, w-sdn, w-srd, w-status, w-ident, w-lsap}
use Rattle.printed.specs.Numeral.{numeral}

-- ---- words; those that are typed too stand in `places`
-- one space
abbrev pub space : List ℕ
space = 0x20 ∷ []

-- the line's end
abbrev pub newline : List ℕ
newline = 0x0A ∷ []

-- ","
abbrev pub comma : List ℕ
comma = 0x2C ∷ []

-- "-"
abbrev pub w-none : List ℕ
w-none = 0x2D ∷ []

-- "refused "
abbrev pub w-refused : List ℕ
w-refused = 0x72 ∷ (0x65 ∷ (0x66 ∷ (0x75 ∷ (0x73 ∷ (0x65 ∷ (0x64 ∷ (0x20 ∷ [])))))))

-- "ok"
abbrev pub w-ok : List ℕ
w-ok = 0x6F ∷ (0x6B ∷ [])

-- "ref"
abbrev pub w-ref : List ℕ
w-ref = 0x72 ∷ (0x65 ∷ (0x66 ∷ []))

-- " send "
abbrev pub w-send : List ℕ
w-send = 0x20 ∷ (0x73 ∷ (0x65 ∷ (0x6E ∷ (0x64 ∷ (0x20 ∷ [])))))

-- " indicate "
abbrev pub w-indicate : List ℕ
w-indicate = 0x20 ∷ (0x69 ∷ (0x6E ∷ (0x64 ∷ (0x69 ∷ (0x63 ∷ (0x61 ∷ (0x74 ∷ (0x65 ∷ (0x20 ∷ [])))))))))

-- "OK"
abbrev pub w-OK : List ℕ
w-OK = 0x4F ∷ (0x4B ∷ [])

-- "UE"
abbrev pub w-UE : List ℕ
w-UE = 0x55 ∷ (0x45 ∷ [])

-- "RR"
abbrev pub w-RR : List ℕ
w-RR = 0x52 ∷ (0x52 ∷ [])

-- "RS"
abbrev pub w-RS : List ℕ
w-RS = 0x52 ∷ (0x53 ∷ [])

-- "NR"
abbrev pub w-NR : List ℕ
w-NR = 0x4E ∷ (0x52 ∷ [])

-- "DL"
abbrev pub w-DL : List ℕ
w-DL = 0x44 ∷ (0x4C ∷ [])

-- "DH"
abbrev pub w-DH : List ℕ
w-DH = 0x44 ∷ (0x48 ∷ [])

-- "RDL"
abbrev pub w-RDL : List ℕ
w-RDL = 0x52 ∷ (0x44 ∷ (0x4C ∷ []))

-- "RDH"
abbrev pub w-RDH : List ℕ
w-RDH = 0x52 ∷ (0x44 ∷ (0x48 ∷ []))

-- "NA"
abbrev pub w-NA : List ℕ
w-NA = 0x4E ∷ (0x41 ∷ [])

-- "DS"
abbrev pub w-DS : List ℕ
w-DS = 0x44 ∷ (0x53 ∷ [])

-- "idle"
abbrev pub w-idle : List ℕ
w-idle = 0x69 ∷ (0x64 ∷ (0x6C ∷ (0x65 ∷ [])))

-- "awaited"
abbrev pub w-awaited : List ℕ
w-awaited = 0x61 ∷ (0x77 ∷ (0x61 ∷ (0x69 ∷ (0x74 ∷ (0x65 ∷ (0x64 ∷ []))))))

-- "check"
abbrev pub w-check : List ℕ
w-check = 0x63 ∷ (0x68 ∷ (0x65 ∷ (0x63 ∷ (0x6B ∷ []))))

-- "self"
abbrev pub w-self : List ℕ
w-self = 0x73 ∷ (0x65 ∷ (0x6C ∷ (0x66 ∷ [])))

-- a word with a space before it
abbrev pub spaced : List ℕ → List ℕ
spaced w = space ++ w

-- a service by its number, that of FC's low four bits: low and high have the same word
unfoldable pub service_word : ℕ → List ℕ
service_word n =
    pick (same n 3) w-sda
    (pick (same n 5) w-sda
    (pick (same n 4) w-sdn
    (pick (same n 6) w-sdn
    (pick (same n 12) w-srd
    (pick (same n 13) w-srd
    (pick (same n 9) w-status
    (pick (same n 14) w-ident
    (pick (same n 15) w-lsap w-none))))))))

-- "`PRIORITY` being `high` or `low`"
unfoldable pub priority_word : ℕ → List ℕ
priority_word n = pick (same n 5) w-high (pick (same n 6) w-high (pick (same n 13) w-high w-low))

-- "`STATUS`: `OK UE RR RS NR DL DH RDL RDH NA DS`"
unfoldable pub status_word : ℕ → List ℕ
status_word n =
    pick (same n 0) w-OK
    (pick (same n 1) w-UE
    (pick (same n 2) w-RR
    (pick (same n 3) w-RS
    (pick (same n 9) w-NR
    (pick (same n 8) w-DL
    (pick (same n 10) w-DH
    (pick (same n 12) w-RDL
    (pick (same n 13) w-RDH
    (pick (same n 16) w-NA
    (pick (same n 17) w-DS w-none))))))))))

-- "`PHASE`: `idle`, `awaited`, `sdn`, `check`, `self`"
unfoldable pub phase_word : Phase → List ℕ
phase_word Idle = w-idle
phase_word Awaited = w-awaited
phase_word Sdn = w-sdn
phase_word Check = w-check
phase_word ToSelf = w-self

-- an access point or none
unfoldable pub point_word : ℕ → List ℕ
point_word n = pick (same n NONE) w-none (numeral n)

-- ---- lines and parts of lines
-- "Any refusal prints `refused N`"
unfoldable pub refused_line : ℕ → List ℕ
refused_line n = w-refused ++ (numeral n ++ newline)

-- "What was sent: ` send WAIT OCTETS`": nothing if nothing was
unfoldable pub sending : ℕ → List ℕ → List ℕ
sending wait x = pick (same (length x) 0) [] (w-send ++ (numeral wait ++ spaced (shown x)))

-- two addresses and their access points, each with a space before it
unfoldable pub ends : ℕ → ℕ → ℕ → ℕ → List ℕ
ends a b to from = spaced (numeral a) ++ (spaced (numeral b) ++ (spaced (point_word to) ++ spaced (point_word from)))

-- "What is indicated: ` indicate SERVICE PRIORITY DA SA DSAP SSAP DATA`": nothing if nothing is
unfoldable pub indicating : Option Indication → List ℕ → List ℕ
indicating None octets = []
indicating (Some i) octets =
    w-indicate
    ++ (service_word (fc i.head.control % 16)
    ++ (spaced (priority_word (fc i.head.control % 16))
    ++ (ends i.head.destination.0 i.head.source.0 (point_of i.head.to) (point_of i.head.from) ++ spaced
    (shown (data_of octets i.part)))))

-- the line of frame, sent and slot: "`ok`, then what was sent, then what is indicated"
unfoldable pub done_line : ℕ → List ℕ → Option Indication → List ℕ → List ℕ
done_line wait x i octets = w-ok ++ (sending wait x ++ (indicating i octets ++ newline))

-- of order 6: "` ref N` at the end of its line unless N is 0"
unfoldable pub referring : ℕ → List ℕ
referring n = pick (same n 0) [] (spaced w-ref ++ spaced (numeral n))

-- `ok PLACE SERVICE DA DSAP SSAP STATUS COUNT DATA`, the data being those of the place
unfoldable pub collected_line : ℕ → Record → List ℕ → List ℕ
collected_line place r area =
    w-ok
    ++ (spaced (numeral place)
    ++ (spaced (service_word r.service)
    ++ (spaced (numeral r.destination.0)
    ++ (spaced (point_word r.to.0)
    ++ (spaced (point_word r.from.0)
    ++ (spaced (status_word r.status)
    ++ (spaced (numeral r.count)
    ++ (spaced (shown (part area (246 * place) r.length)) ++ (referring r.reference ++ newline)))))))))

-- "`MASTERS` ascending, joined by commas": those of the k addresses from one on, the first of all without a comma
unfoldable pub joined : Bool → ℕ → ℕ → List ℕ → List ℕ
joined first zero a masters = []
joined first (suc k) a masters =
    pick (member masters a) (pick first (numeral a) (comma ++ numeral a) ++ joined false k (a + 1) masters)
    (joined first k (a + 1) masters)

-- NS of an address, itself if it is none of a station
unfoldable pub ns_of : List ℕ → ℕ → ℕ
ns_of masters ts = pick (less ts 127) (next_of masters ts) ts

-- "the confirmed and then the unconfirmed requests" of a queue
unfoldable pub counts : Queue → List ℕ
counts q = spaced (numeral q.confirmed) ++ spaced (numeral q.unconfirmed)

-- `ok PHASE TS PS NS MASTERS H h L l`
unfoldable pub shown_line : Core → List ℕ → List ℕ
shown_line c masters =
    w-ok
    ++ (spaced (phase_word c.doing.phase)
    ++ (spaced (numeral c.ts.0)
    ++ (spaced (numeral c.ps.0)
    ++ (spaced (numeral (ns_of masters c.ts.0))
    ++ (spaced (joined true 127 0 masters) ++ (counts c.high ++ (counts c.low ++ newline)))))))
