-- The replay script: what the words of a call's line give the call, each a function of the line. Assumes nothing.
use Rattle.std.specs.Prelude.{ℕ, Bool, true, false, List, [], replicate}
use Rattle.std.specs.Option.{unwrap_or}
use Rattle.choice.specs.Choice.{pick, less, same, said}
use Rattle.typed.specs.Words.{word}
use Rattle.typed.specs.Digits.{decimal, is_octets, octets}
use Rattle.typed.specs.Lists.{list}
use Rattle.typed.specs.Places.{LONG, SHORT, queue, room, service, access}
use Rattle.typed_call.specs.Table as Table
use Rattle.typed_call.specs.Pairs.{tsdi_of, ref_of, limit_of, asks_of}
use Rattle.times.specs.declared.Settings.{Settings}
use Rattle.request.specs.declared.Record.{Record}
use Rattle.request.specs.Record.{WAITING}
use Rattle.frame.specs.Access.{NONE}
use Rattle.state.specs.declared.Priority.{Priority}
use Rattle.state.specs.declared.Priority.TheVariants.{High, Low}

-- ---- words
-- the number that word k is
unfoldable pub number_at : List ℕ → ℕ → ℕ → ℕ
number_at l k most = unwrap_or (decimal (word l k) most) 0

-- the octets that word k is
unfoldable pub octets_at : List ℕ → ℕ → List ℕ
octets_at l k = pick (said (is_octets (word l k))) (octets (word l k)) []

-- a number as an octet: what is over 255, and out of every rule, as 255
unfoldable pub octet : ℕ → ℕ
octet n = pick (less 255 n) 255 n

-- an access point or none; a point typed 255 is out of range as 254 is, and never none
unfoldable pub point : ℕ → ℕ
point n = pick (same n NONE) 254 (octet n)

-- ---- the calls
-- `start Tset Tqui minTSDR maxTSDR TTD TTR retry TS masters points high low`, and `tsdi N`
unfoldable pub settings_of : List ℕ → Settings
settings_of l =
    record {
      tset = record { 0 = number_at l Table.TSET LONG };
      tqui = record { 0 = number_at l Table.TQUI LONG };
      mintsdr = record { 0 = number_at l Table.MINTSDR LONG };
      maxtsdr = record { 0 = number_at l Table.MAXTSDR LONG };
      ttd = record { 0 = number_at l Table.TTD LONG };
      ttr = record { 0 = number_at l Table.TTR LONG };
      retries = record { 0 = number_at l Table.RETRY LONG };
      tsdi = record { 0 = unwrap_or (tsdi_of l).number 0 };
    }

unfoldable pub ts_of : List ℕ → ℕ
ts_of l = octet (number_at l Table.TS LONG)

unfoldable pub masters_of : List ℕ → List ℕ
masters_of l = (list false (word l Table.MASTERS) (replicate 127 0)).marks

unfoldable pub points_of : List ℕ → List ℕ
points_of l = (list true (word l Table.POINTS) (replicate 64 0)).marks

abbrev pub high_of : List ℕ → ℕ
high_of l = number_at l Table.HIGHROW SHORT

abbrev pub low_of : List ℕ → ℕ
low_of l = number_at l Table.LOWROW SHORT

-- `submit QUEUE SERVICE DA DSAP SSAP DATA` with `ref N` and `limit N`, `collect QUEUE`
unfoldable pub queue_of : List ℕ → Priority
queue_of l = pick (same (unwrap_or (queue (word l Table.QUEUE)) 0) 0) High Low

unfoldable pub request_of : List ℕ → Record
request_of l =
    record {
      service = octet (unwrap_or (service (word l Table.SERVICE)) 0);
      destination = record { 0 = octet (number_at l Table.DA SHORT) };
      to = record { 0 = point (unwrap_or (access (word l Table.DSAP)) 0) };
      from = record { 0 = point (unwrap_or (access (word l Table.SSAP)) 0) };
      length = 0;
      status = WAITING;
      count = 0;
      reference = unwrap_or (ref_of l).number 0;
      limit = octet (unwrap_or (limit_of l).number 0);
      asks = asks_of l;
    }

abbrev pub data_of : List ℕ → List ℕ
data_of l = octets_at l Table.DATA

-- `frame CLOCK ROOM HIGH LOW OCTETS`, `sent CLOCK`, `slot CLOCK`
abbrev pub clock_of : List ℕ → ℕ
clock_of l = number_at l Table.CLOCK LONG

-- "`1` if the caller has room for one indication, else `0`"
unfoldable pub room_of : List ℕ → Bool
room_of l = same (unwrap_or (room (word l Table.ROOM)) 0) 1

abbrev pub first_of : List ℕ → List ℕ
first_of l = octets_at l Table.HIGH

abbrev pub second_of : List ℕ → List ℕ
second_of l = octets_at l Table.LOW

abbrev pub heard_of : List ℕ → List ℕ
heard_of l = octets_at l Table.OCTETS
