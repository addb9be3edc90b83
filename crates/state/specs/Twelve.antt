-- Document 01, "Twelve to prove as one tabled statement": each case as the page has it, what is given and what must
-- come out, and `Twelve`, which says that the definitions give all of them. Assumes nothing.
use Rattle.std.specs.Prelude.{ℕ, ◌*◌, Bool, true, false, List, [], ◌∷◌, ◌++◌, ◌≡◌, length, replicate}
use Rattle.control.specs.declared.Service.TheVariants.{SdaLow, SdnLow, SdnHigh, Status, SrdHigh}
use Rattle.control.specs.declared.Code.TheVariants.{Ok, Nr}
use Rattle.control.specs.declared.Kind.TheVariants.{InRing}
use Rattle.control.specs.declared.Control.{Control}
use Rattle.control.specs.declared.Control.TheVariants.{Request, Reply}
use Rattle.control.specs.Control.{code_number}
use Rattle.std.specs.Prelude.{Option, None, Some}
use Rattle.frame.specs.declared.Point.{Point}
use Rattle.frame.specs.declared.Head.{Head}
use Rattle.frame.specs.declared.Fields.{Fields}
use Rattle.frame.specs.declared.Fields.TheVariants.{Token, Frame}
use Rattle.frame.specs.Reading.{Answer}
use Rattle.frame.specs.Reading.{Refused as Unread, Read}
use Rattle.frame.specs.Format.{octets, unit, unwritable}
use Rattle.frame.specs.Reading.{octet, read, shown}
use Rattle.clock.specs.Clock.{time_left}
use Rattle.times.specs.declared.Settings.{Settings}
use Rattle.times.specs.Times.{Reckoned, Reckon, reckoned, standard}
use Rattle.ring.specs.Ring.{enter}
use Rattle.request.specs.declared.Record.{Record}
use Rattle.request.specs.Record.{SRD, NA, SIZE}
use Rattle.queue.specs.Queue.{AREA}
use Rattle.frame.specs.Access.{NONE}
use Rattle.state.specs.declared.Priority.TheVariants.{High}
use Rattle.state.specs.Calls.{Started, Unstarted, Station}
use Rattle.state.specs.World.{Rows, World, Event, a_request, a_token, a_reply, accepted, begins, ends, sends}
use Rattle.state.specs.World.{confirmed, collected, indicated, world_of}
use Rattle.state.specs.Calls.{start}
use Rattle.state.specs.Runs.{Call, submit, frame, slot, collect, call, run}

-- ---- 1 to 8: strings of octets
-- what a string is read as: its refusal, or its fields and the data shown
pub data Reading : Type 0 where
  refused : ℕ → Reading
  means : Fields → List ℕ → Reading

unfoldable pub reading_of : List ℕ → Answer → Reading
reading_of s (Unread n) = refused n
reading_of s (Read f p) = means f (shown s p)

unfoldable pub reading : List ℕ → Reading
reading s = reading_of s (read s)

-- a string is read as those fields and data, the writer refuses none of them, and they are written as that string
pub record BothWays (s : List ℕ) (f : Fields) (x : List ℕ) : Type 0 where
  pub reads : reading s ≡ means f x
  pub allowed : unwritable f x ≡ 0
  pub writes : octets f x ≡ s

abbrev pub token : ℕ → ℕ → Fields
token d s = Token (record { 0 = d }) (record { 0 = s })

abbrev pub between : ℕ → Option Point → ℕ → Option Point → Control → Head
between d to s from c =
    record { destination = record { 0 = d }; to = to; source = record { 0 = s }; from = from; control = c }

abbrev pub at : ℕ → Option Point
at p = Some (record { 0 = p })

-- 1 "DC 03 02: token to 3 from 2"
abbrev pub string1 : List ℕ
string1 = 0xDC ∷ (0x03 ∷ (0x02 ∷ []))

abbrev pub fields1 : Fields
fields1 = token 3 2

-- 2 "10 05 02 49 50 16: FDL status"
abbrev pub string2 : List ℕ
string2 = 0x10 ∷ (0x05 ∷ (0x02 ∷ (0x49 ∷ (0x50 ∷ (0x16 ∷ [])))))

abbrev pub fields2 : Fields
fields2 = Frame (between 5 None 2 None (Request Status false false))

-- 3 "10 02 05 30 37 16: its reply"
abbrev pub string3 : List ℕ
string3 = 0x10 ∷ (0x02 ∷ (0x05 ∷ (0x30 ∷ (0x37 ∷ (0x16 ∷ [])))))

abbrev pub fields3 : Fields
fields3 = Frame (between 2 None 5 None (Reply InRing Ok))

-- 4 "68 05 05 68 83 82 6D 3C 3E EC 16: first SRD high, 2 to 3, access points 60 and 62"
abbrev pub string4 : List ℕ
string4 =
    0x68 ∷ (0x05 ∷ (0x05 ∷ (0x68 ∷ (0x83 ∷ (0x82 ∷ (0x6D ∷ (0x3C ∷ (0x3E ∷ (0xEC ∷ (0x16 ∷ []))))))))))

abbrev pub head4 : Head
head4 = between 3 (at 60) 2 (at 62) (Request SrdHigh true false)

-- 5 "68 05 05 68 7F 02 46 01 02 CA 16: SDN to all"
abbrev pub string5 : List ℕ
string5 =
    0x68 ∷ (0x05 ∷ (0x05 ∷ (0x68 ∷ (0x7F ∷ (0x02 ∷ (0x46 ∷ (0x01 ∷ (0x02 ∷ (0xCA ∷ (0x16 ∷ []))))))))))

abbrev pub fields5 : Fields
fields5 = Frame (between 127 None 2 None (Request SdnHigh false false))

abbrev pub data5 : List ℕ
data5 = 0x01 ∷ (0x02 ∷ [])

-- 6 "A2 05 02 43 01 02 03 04 05 06 07 08 6E 16": an SDA low to 5 from 2
abbrev pub data6 : List ℕ
data6 = 0x01 ∷ (0x02 ∷ (0x03 ∷ (0x04 ∷ (0x05 ∷ (0x06 ∷ (0x07 ∷ (0x08 ∷ [])))))))

abbrev pub string6 : List ℕ
string6 = 0xA2 ∷ (0x05 ∷ (0x02 ∷ (0x43 ∷ (data6 ++ (0x6E ∷ (0x16 ∷ []))))))

abbrev pub fields6 : Fields
fields6 = Frame (between 5 None 2 None (Request SdaLow false false))

-- 7 "LE 249 gives 255 octets; LE 3 and 250 are refused 4": a frame whose unit is 246 octets, and a string that begins
-- with LE, whatever follows
abbrev pub measured : ℕ → List ℕ → List ℕ
measured le s = 0x68 ∷ (le ∷ (le ∷ (0x68 ∷ s)))

pub record Longest (h : Head) (x : List ℕ) : Type 0 where
  pub le : octet (octets (Frame h) x) 1 ≡ 249
  pub count : length (octets (Frame h) x) ≡ 255

abbrev pub data7 : List ℕ
data7 = replicate 246 0x07

pub record Seven : Type 0 where
  pub greatest : (h : Head) (x : List ℕ) → length (unit h x) ≡ 246 → Longest h x
  pub reads : reading (octets fields6 data7) ≡ means fields6 data7
  pub below : (s : List ℕ) → reading (measured 3 s) ≡ refused 4
  pub above : (s : List ℕ) → reading (measured 250 s) ≡ refused 4

-- ---- 9 and 10: times
-- 9 "Standard settings, TS 2: TSM 42, Tid1 75, Tid2 400, TSL 455, TTO 4550"
abbrev pub times9 : Reckoned
times9 =
    Reckon
    (record {
      tsm = record { 0 = 42 };
      tid1 = record { 0 = 75 };
      tid2 = record { 0 = 400 };
      tsl = record { 0 = 455 };
      tto = record { 0 = 4550 };
    })

-- 10 "TTR 1000, earlier acceptance 100: time left at 1099, none at 1100"
pub record Ten : Type 0 where
  pub left : time_left 1099 100 1000 ≡ true
  pub none : time_left 1100 100 1000 ≡ false

-- ---- 11 and 12: calls in a row
-- a call, and its events
pub record Step : Type 0 where
  pub call : Call
  pub told : List Event

unfoldable pub calls : List Step → List Call
calls [] = []
calls (s ∷ l) = s.call ∷ calls l

unfoldable pub expected : List Step → List (List Event)
expected [] = []
expected (s ∷ l) = s.told ∷ expected l

unfoldable pub in_row : List (List Event) → List Event
in_row [] = []
in_row (e ∷ l) = e ++ in_row l

-- the events, call after call
unfoldable pub told : List Call → World → List (List Event)
told [] w = []
told (c ∷ l) w = (call c w).events ∷ told l (call c w).world

-- a station: its settings, TS, the ring, the active access points, and four places a row
unfoldable pub ring : List ℕ → List ℕ
ring [] = replicate 127 0
ring (a ∷ l) = enter (ring l) a

unfoldable pub station : Settings → ℕ → List ℕ → List ℕ → Started
station s ts l points = start s ts (ring l) points 4 4

-- the standard settings, but for a retry limit of so much
unfoldable pub retrying : ℕ → Settings
retrying limit =
    record {
      tset = standard.tset;
      tqui = standard.tqui;
      mintsdr = standard.mintsdr;
      maxtsdr = standard.maxtsdr;
      ttd = standard.ttd;
      ttr = standard.ttr;
      retries = record { 0 = limit };
      tsdi = standard.tsdi;
    }

-- its rows, all octets 0
abbrev pub four_places : Rows
four_places = record { row = replicate (SIZE * 4) 0; area = replicate (AREA * 4) 0 }

-- what a start gave does as a table has it: each call by itself, and the run of them; a refused start does not
pub record Goes (l : List Step) (w : World) : Type 0 where
  pub each : told (calls l) w ≡ expected l
  pub whole : (run (calls l) w).events ≡ in_row (expected l)

abbrev pub Does : List Step → Started → Type 0
Does l (Unstarted n) = ⊥
Does l (Station s) = Goes l (world_of s four_places four_places)

-- a frame that is heard at a clock with room for an indication, no updates and an output of 255 octets
abbrev pub hears : ℕ → List ℕ → Call
hears clock s = frame clock true [] [] s 255

-- the record of a request: an SRD to 7 without access points and data, with a reference, a limit, and whether it asks for
-- the station's
abbrev pub to_seven_with : ℕ → ℕ → Bool → ℕ → ℕ → Record
to_seven_with reference limit asks status count =
    record {
      service = SRD;
      destination = record { 0 = 7 };
      to = record { 0 = NONE };
      from = record { 0 = NONE };
      length = 0;
      status = status;
      count = count;
      reference = reference;
      limit = limit;
      asks = asks;
    }

-- one that asks for it, with the limit that it has
abbrev pub to_seven : ℕ → ℕ → ℕ → Record
to_seven limit status count = to_seven_with 0 limit true status count

-- the first request to 7, with FC 6D, from a place of the high queue, and the token to 5; both after Tid1
abbrev pub sends_6d : ℕ → Event
sends_6d place = sends (a_request High place) (0x10 ∷ (0x07 ∷ (0x02 ∷ (0x6D ∷ (0x76 ∷ (0x16 ∷ [])))))) 75

abbrev pub passes : Event
passes = sends a_token (0xDC ∷ (0x05 ∷ (0x02 ∷ []))) 75

abbrev pub token_from_5 : List ℕ
token_from_5 = 0xDC ∷ (0x02 ∷ (0x05 ∷ []))

-- 11 "Standard settings, ring 2 and 5, TS 2, retry limit 1, two SRD high to 7; token from 5 at 100: 6D sent; slot: the
-- same; slot: NA, count 2, token DC 05 02"; the slots at any clock
unfoldable pub eleven : ℕ → ℕ → List Step
eleven first second =
    record { call = submit High (to_seven 0 0 0) []; told = accepted High 0 ∷ [] }
    ∷ (record { call = submit High (to_seven 0 0 0) []; told = accepted High 1 ∷ [] }
    ∷ (record { call = hears 100 token_from_5; told = begins ∷ (sends_6d 0 ∷ []) }
    ∷ (record { call = slot first 255; told = sends_6d 0 ∷ [] }
    ∷ (record { call = slot second 255; told = confirmed High 0 NA 2 ∷ (ends ∷ (passes ∷ [])) }
    ∷ []))))

-- 12 "Then an SDN from 5 to 9, token from 5 at 600, 6D again, SC at 800: NR, count 1, token passed"; the SDN at any
-- clock
abbrev pub sdn_to_9 : List ℕ
sdn_to_9 = octets (Frame (between 9 None 5 None (Request SdnLow false false))) (0x01 ∷ [])

unfoldable pub twelve : ℕ → List Step
twelve third =
    record { call = hears third sdn_to_9; told = [] }
    ∷ (record { call = hears 600 token_from_5; told = begins ∷ (sends_6d 1 ∷ []) }
    ∷ (record { call = hears 800 (0xE5 ∷ []); told = confirmed High 1 (code_number Nr) 1 ∷ (ends ∷ (passes ∷ [])) }
    ∷ []))

-- and what collect hands back after both: NA with count 2, NR with count 1, and then 28
unfoldable pub handed : List Step
handed =
    record { call = collect High; told = collected High 0 (to_seven 1 NA 2) ∷ [] }
    ∷ (record { call = collect High; told = collected High 1 (to_seven 1 (code_number Nr) 1) ∷ [] }
    ∷ (record { call = collect High; told = Event.refused 28 ∷ [] }
    ∷ []))

-- ---- 2, 3 and 4 as heard by the station they go to, so that no fixed reply will do: 3 is 2's reply, and 4 is answered SC and
-- indicated where its access point is active
unfoldable pub replied : ℕ → List Step
replied clock = record { call = hears clock string2; told = sends a_reply string3 20 ∷ [] } ∷ []

unfoldable pub acknowledged : ℕ → List Step
acknowledged clock =
    record {
      call = hears clock string4;
      told = sends a_reply (0xE5 ∷ []) 20 ∷ (indicated head4 (record { start = 9; count = 0 }) ∷ []);
    }
    ∷ []

-- ---- the twelve. Of what the page leaves open, the active access points, the clocks of the slots, of the SDN and of what
-- is heard in 3 and 4, what stands behind LE 3 and 250, and head and data of the longest frame are any. Fixed are: rows of
-- four places with all octets 0, room for an indication, no updates, an output of 255 octets, requests without access
-- points and data, an SDN low with the data 01; in 3 and 4 the ring of the two stations and the standard settings, in 4 all
-- access points active; in 7 the frame that is read back, of 246 octets 07
pub record Twelve : Type 0 where
  pub case1 : BothWays string1 fields1 []
  pub case2 : BothWays string2 fields2 []
  pub case3 : BothWays string3 fields3 []
  pub case_3_replied : (points : List ℕ) (clock : ℕ) → Does (replied clock) (station standard 5 (2 ∷ (5 ∷ [])) points)
  pub case4 : BothWays string4 (Frame head4) []
  pub case_4_answered : (clock : ℕ) → Does (acknowledged clock) (station standard 3 (2 ∷ (3 ∷ [])) (replicate 64 1))
  pub case5 : BothWays string5 fields5 data5
  pub case6 : reading string6 ≡ means fields6 data6
  pub case7 : Seven
  pub case8 : reading [] ≡ refused 1
  pub case9 : reckoned standard 2 ≡ times9
  pub case10 : Ten
  pub case11 : (points : List ℕ) (first second : ℕ)
      → Does (eleven first second) (station (retrying 1) 2 (2 ∷ (5 ∷ [])) points)
  pub case12 : (points : List ℕ) (first second third : ℕ)
      → Does (eleven first second ++ (twelve third ++ handed)) (station (retrying 1) 2 (2 ∷ (5 ∷ [])) points)
