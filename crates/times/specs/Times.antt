-- Document 01, "Times": settings and their rules, the times that follow from them, and the wait of each sending; with
-- document 02, order 1: TSDI, and Tid1 that heeds the responder. Assumes nothing.
use Rattle.std.specs.Prelude.{ℕ, ◌+◌, ◌*◌, ◌≤◌, max, Bool, true, false, Result, Ok, Err}
use Rattle.choice.specs.Choice.{pick, less, said}
use Rattle.refusal.specs.declared.Refusal.{Refusal}
use Rattle.refusal.specs.Refusal.{number}
use Rattle.times.specs.declared.Settings.{Settings}
use Rattle.times.specs.declared.Times.{Times}
use Rattle.times.specs.declared.Sending.{Sending}
use Rattle.times.specs.declared.Sending.TheVariants.{Reply, AfterSdn, Other}

-- a number outside least..most
unfoldable pub outside : ℕ → ℕ → ℕ → Bool
outside n least most = pick (less n least) true (pick (less most n) true false)

-- "TSM = 2 + 2 Tset + Tqui"
unfoldable pub tsm : Settings → ℕ
tsm s = 2 + 2 * s.tset.0 + s.tqui.0

-- "Tid1 = max(33 + TSM, min TSDR, TSDI)", of document 02, order 1
unfoldable pub tid1 : Settings → ℕ
tid1 s = max (33 + tsm s) (max s.mintsdr.0 s.tsdi.0)

-- "Tid2 = max(33 + TSM, max TSDR)": "Tid2 stays as it was"
unfoldable pub tid2 : Settings → ℕ
tid2 s = max (33 + tsm s) s.maxtsdr.0

-- "TSL = 2 TTD + 11 + TSM + max(max TSDR, Tid1)": "TSL follows"
unfoldable pub tsl : Settings → ℕ
tsl s = 2 * s.ttd.0 + 11 + tsm s + max s.maxtsdr.0 (tid1 s)

-- "TTO = 6 TSL + 2 TS TSL"
unfoldable pub tto : Settings → ℕ → ℕ
tto s ts = 6 * tsl s + 2 * ts * tsl s

-- TSL "over 65535 is refused"
unfoldable pub too_long : Settings → Bool
too_long s = pick (less 65535 (tsl s)) true false

-- "Tset 20..255, Tqui 0..255, min TSDR 20..65535 and above Tqui, max TSDR from min TSDR to 65535, TTD 0..65535, ..
unfoldable pub unruly_delays : Settings → Bool
unruly_delays s =
    pick (said (outside s.tset.0 20 255)) true
    (pick (less 255 s.tqui.0) true
    (pick (said (outside s.mintsdr.0 20 65535)) true
    (pick (less s.tqui.0 s.mintsdr.0)
    (pick (said (outside s.maxtsdr.0 s.mintsdr.0 65535)) true
    (pick (less 65535 s.ttd.0) true
    false))
    true)))

-- .. TTR 20..2^24-1, retry limit 0..15"; of order 1 "TSDI .. 0..65535"; and TSL
unfoldable pub unruly : Settings → Bool
unruly s =
    pick (said (unruly_delays s)) true
    (pick (said (outside s.ttr.0 20 16777215)) true
    (pick (less 15 s.retries.0) true
    (pick (less 65535 s.tsdi.0) true
    (too_long s))))

-- the times that follow from settings and TS
unfoldable pub times_of : Settings → ℕ → Times
times_of s ts =
    record {
      tsm = record { 0 = tsm s };
      tid1 = record { 0 = tid1 s };
      tid2 = record { 0 = tid2 s };
      tsl = record { 0 = tsl s };
      tto = record { 0 = tto s ts };
    }

-- what reckoning the times gives: the number of the refusal, or the times
pub data Reckoned : Type 0 where
  Refused : ℕ → Reckoned
  Reckon : Times → Reckoned

-- the same as the station answers it
unfoldable pub told : Result Times Refusal → Reckoned
told (Ok t) = Reckon t
told (Err r) = Refused (number r)

-- refusal 20, "setting, TS over 126 .. out of rule", or the times
unfoldable pub reckoned : Settings → ℕ → Reckoned
reckoned s ts = pick (said (unruly s)) (Refused 20) (pick (less 126 ts) (Refused 20) (Reckon (times_of s ts)))

-- what keeps the sums of settings small
pub record Small (s : Settings) : Type 0 where
  pub tset : s.tset.0 ≤ 255
  pub tqui : s.tqui.0 ≤ 255
  pub mintsdr : s.mintsdr.0 ≤ 65535
  pub maxtsdr : s.maxtsdr.0 ≤ 65535
  pub ttd : s.ttd.0 ≤ 65535
  pub tsdi : s.tsdi.0 ≤ 65535

-- "Each sending comes with its wait: Tid2 before a request or token if this station's last sending in the hold was an
-- SDN, Tid1 before others, min TSDR before a reply"
unfoldable pub wait_of : Settings → Sending → ℕ
wait_of s Reply = s.mintsdr.0
wait_of s AfterSdn = tid2 s
wait_of s Other = tid1 s

-- "Standard settings: Tset 20, Tqui 0, min TSDR 20, max TSDR 400, TTD 1, TTR 10000"; their retry limit is document
-- 02's (order 8): "The standard prefers a limit of 0, and our standard settings have 1. Change it to 0"; and so is TSDI
-- (order 1): "standard value 0"
unfoldable pub standard : Settings
standard =
    record {
      tset = record { 0 = 20 };
      tqui = record { 0 = 0 };
      mintsdr = record { 0 = 20 };
      maxtsdr = record { 0 = 400 };
      ttd = record { 0 = 1 };
      ttr = record { 0 = 10000 };
      retries = record { 0 = 0 };
      tsdi = record { 0 = 0 };
    }
