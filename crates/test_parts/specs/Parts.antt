-- What the C functions of times and ring hand over: answers as structs of numbers. Assumes nothing.
use Rattle.std.specs.Prelude.{ℕ, List}
use Rattle.choice.specs.Choice.{pick, less, said}
use Rattle.clock.specs.Clock.{time_left}
use Rattle.times.specs.declared.Settings.{Settings}
use Rattle.times.specs.Times.{Reckoned}
use Rattle.times.specs.Times.{Refused, Reckon}
use Rattle.times.specs.declared.Sending.TheVariants.{Reply, AfterSdn, Other}
use Rattle.times.specs.Times.{reckoned, wait_of}
use Rattle.ring.specs.Ring.{next_of, previous_of}
use Rattle.test_parts.specs.declared.reckoned.FlatTimes.{FlatTimes}

-- the settings that numbers mean
abbrev pub settings_from : ℕ → ℕ → ℕ → ℕ → ℕ → ℕ → ℕ → ℕ → Settings
settings_from tset tqui mintsdr maxtsdr ttd ttr retries tsdi =
    record {
      tset = record { 0 = tset };
      tqui = record { 0 = tqui };
      mintsdr = record { 0 = mintsdr };
      maxtsdr = record { 0 = maxtsdr };
      ttd = record { 0 = ttd };
      ttr = record { 0 = ttr };
      retries = record { 0 = retries };
      tsdi = record { 0 = tsdi };
    }

-- ---- times
-- the times and the three waits, or the refusal
unfoldable pub flat_times : Settings → Reckoned → FlatTimes
flat_times s (Refused n) =
    record { refused = n; tsm = 0; tid1 = 0; tid2 = 0; tsl = 0; tto = 0; reply = 0; aftersdn = 0; other = 0 }
flat_times s (Reckon t) =
    record {
      refused = 0;
      tsm = t.tsm.0;
      tid1 = t.tid1.0;
      tid2 = t.tid2.0;
      tsl = t.tsl.0;
      tto = t.tto.0;
      reply = wait_of s Reply;
      aftersdn = wait_of s AfterSdn;
      other = wait_of s Other;
    }

unfoldable pub reckons : Settings → ℕ → FlatTimes
reckons s ts = flat_times s (reckoned s ts)

-- 1 if time is left
unfoldable pub is_left : ℕ → ℕ → ℕ → ℕ
is_left clock acceptance ttr = pick (said (time_left clock acceptance ttr)) 1 0

-- ---- the ring
-- NS and PS, or 255 for an address that no station has
unfoldable pub nexts : List ℕ → ℕ → ℕ
nexts masters ts = pick (less 126 ts) 255 (next_of masters ts)

unfoldable pub previouses : List ℕ → ℕ → ℕ
previouses masters ts = pick (less 126 ts) 255 (previous_of masters ts)
