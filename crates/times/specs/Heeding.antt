-- Document 02, order 1, "The idle time ignores the responder": what an idle time heeds, and the settings of the request's
-- own example. Assumes nothing.
use Rattle.std.specs.Prelude.{ℕ, ◌+◌, ◌≤◌}
use Rattle.times.specs.declared.Settings.{Settings}
use Rattle.times.specs.Times.{tsm, standard}

-- a wait that is too short neither for the line nor for the responder nor for the initiator
pub record Heeds (s : Settings) (wait : ℕ) : Type 0 where
  pub line : 33 + tsm s ≤ wait
  pub responder : s.mintsdr.0 ≤ wait
  pub initiator : s.tsdi.0 ≤ wait

-- "the standard settings and min TSDR" of so much, and a TSDI of so much
unfoldable pub slow : ℕ → ℕ → Settings
slow mintsdr tsdi =
    record {
      tset = standard.tset;
      tqui = standard.tqui;
      mintsdr = record { 0 = mintsdr };
      maxtsdr = standard.maxtsdr;
      ttd = standard.ttd;
      ttr = standard.ttr;
      retries = standard.retries;
      tsdi = record { 0 = tsdi };
    }
