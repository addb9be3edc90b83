-- What the C boundary holds of a station: its core and what its memory keeps as one struct of numbers, and an
-- indication as another. 255 stands for "no access point". Assumes nothing.
use Rattle.std.specs.Prelude.{ℕ, Bool, true, false, Option, None, Some}
use Rattle.choice.specs.Choice.{pick, less, same, said}
use Rattle.control.specs.Control.{fc}
use Rattle.frame.specs.declared.Address.{Address}
use Rattle.times.specs.declared.Settings.{Settings}
use Rattle.queue.specs.declared.Queue.{Queue}
use Rattle.state.specs.declared.Phase.{Phase}
use Rattle.state.specs.declared.Phase.TheVariants.{Idle, Awaited, Sdn, Check, ToSelf}
use Rattle.state.specs.declared.Priority.{Priority}
use Rattle.state.specs.declared.Priority.TheVariants.{High, Low}
use Rattle.state.specs.declared.Doing.{Doing}
use Rattle.state.specs.declared.Hold.{Hold}
use Rattle.state.specs.declared.Core.{Core}
use Rattle.state.specs.declared.Kept.{Kept}
use Rattle.state.specs.declared.Indication.{Indication}
use Rattle.frame.specs.Access.{point_of}
use Rattle.c_core.specs.declared.numbers.FlatSettings.{FlatSettings}
use Rattle.c_core.specs.declared.numbers.Numbers.{Numbers}
use Rattle.c_core.specs.declared.numbers.FlatIndication.{FlatIndication}

-- ---- each case as its number, and a number as a case
unfoldable pub phase_number : Phase → ℕ
phase_number Idle = 0
phase_number Awaited = 1
phase_number Sdn = 2
phase_number Check = 3
phase_number ToSelf = 4

unfoldable pub phase_of : ℕ → Phase
phase_of n =
    pick (same n 1) Awaited (pick (same n 2) Sdn (pick (same n 3) Check (pick (same n 4) ToSelf Idle)))

unfoldable pub served_number : Priority → ℕ
served_number High = 0
served_number Low = 1

unfoldable pub served_of : ℕ → Priority
served_of n = pick (same n 1) Low High

unfoldable pub flag_number : Bool → ℕ
flag_number b = pick b 1 0

unfoldable pub flag_of : ℕ → Bool
flag_of n = pick (same n 1) true false

-- ---- numbers that stand for no case: then the station has TS 127, which every call refuses
unfoldable pub malformed : ℕ → ℕ → ℕ → ℕ → Bool
malformed phase served sdn bit =
    pick (less 4 phase) true (pick (less 1 served) true (pick (less 1 sdn) true (pick (less 1 bit) true false)))

unfoldable pub ts_in : Numbers → Address
ts_in n = pick (said (malformed n.phase n.served n.sdn n.bit)) (record { 0 = 127 }) (record { 0 = n.ts })

-- ---- settings from numbers, and the numbers of settings
unfoldable pub settings_in : FlatSettings → Settings
settings_in s =
    record {
      tset = record { 0 = s.tset };
      tqui = record { 0 = s.tqui };
      mintsdr = record { 0 = s.mintsdr };
      maxtsdr = record { 0 = s.maxtsdr };
      ttd = record { 0 = s.ttd };
      ttr = record { 0 = s.ttr };
      retries = record { 0 = s.retries };
      tsdi = record { 0 = s.tsdi };
    }

unfoldable pub settings_of : Settings → FlatSettings
settings_of s =
    record {
      tset = s.tset.0;
      tqui = s.tqui.0;
      mintsdr = s.mintsdr.0;
      maxtsdr = s.maxtsdr.0;
      ttd = s.ttd.0;
      ttr = s.ttr.0;
      retries = s.retries.0;
      tsdi = s.tsdi.0;
    }

-- ---- the core and what the memory keeps, from numbers

unfoldable pub doing_in : Numbers → Doing
doing_in n =
    record { phase = phase_of n.phase; served = served_of n.served; sendings = n.sendings; sdn = flag_of n.sdn }

unfoldable pub hold_in : Numbers → Hold
hold_in n = record { acceptance = record { 0 = n.acceptance }; before = record { 0 = n.before }; begun = n.begun }

unfoldable pub high_in : Numbers → Queue
high_in n =
    record
    { places = n.highplaces; first = n.highfirst; confirmed = n.highconfirmed; unconfirmed = n.highunconfirmed }

unfoldable pub low_in : Numbers → Queue
low_in n =
    record { places = n.lowplaces; first = n.lowfirst; confirmed = n.lowconfirmed; unconfirmed = n.lowunconfirmed }

unfoldable pub core_in : Numbers → Core
core_in n =
    record {
      settings = settings_in n.settings;
      ts = ts_in n;
      ps = record { 0 = n.ps };
      stranger = record { 0 = n.stranger };
      doing = doing_in n;
      hold = hold_in n;
      high = high_in n;
      low = low_in n;
    }

unfoldable pub kept_in : Numbers → Kept
kept_in n = record { source = record { 0 = n.source }; bit = flag_of n.bit; length = n.length }

-- ---- and the numbers of both
unfoldable pub numbers_of : Core → Kept → Numbers
numbers_of c k =
    record {
      settings = settings_of c.settings;
      acceptance = c.hold.acceptance.0;
      before = c.hold.before.0;
      ts = c.ts.0;
      ps = c.ps.0;
      stranger = c.stranger.0;
      phase = phase_number c.doing.phase;
      served = served_number c.doing.served;
      sendings = c.doing.sendings;
      sdn = flag_number c.doing.sdn;
      begun = c.hold.begun;
      highplaces = c.high.places;
      highfirst = c.high.first;
      highconfirmed = c.high.confirmed;
      highunconfirmed = c.high.unconfirmed;
      lowplaces = c.low.places;
      lowfirst = c.low.first;
      lowconfirmed = c.low.confirmed;
      lowunconfirmed = c.low.unconfirmed;
      source = k.source.0;
      bit = flag_number k.bit;
      length = k.length;
    }

-- ---- an indication as numbers
unfoldable pub indication_of : Option Indication → FlatIndication
indication_of None =
    record { indicated = 0; control = 0; destination = 0; to = 255; source = 0; from = 255; start = 0; count = 0 }
indication_of (Some i) =
    record {
      indicated = 1;
      control = fc i.head.control;
      destination = i.head.destination.0;
      to = point_of i.head.to;
      source = i.head.source.0;
      from = point_of i.head.from;
      start = i.part.start;
      count = i.part.count;
    }
