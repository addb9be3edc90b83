-- Document 01's twelve cases: the definitions, opened, compute them. Assumes nothing.
use Prim.Native.Nat.{ℕ}
use mathlib.Core.List.{List, [], ◌∷◌, ◌++◌}
use mathlib.Core.Path.{refl}
use lib.ListN.{replicate}
use Rattle.times.specs.Times.{standard}
use Rattle.state.specs.Twelve.{Twelve, Seven, Does, station, retrying, eleven, twelve, handed, replied}
use Rattle.state.specs.Twelve.{acknowledged}
use Rattle.state.proofs.Opened.{frames, times, stations}
use Rattle.state.proofs.Lengths.{longest, mismeasured-refused}

pub case7 : Seven
unfolding frames
case7 =
    record {
      greatest = longest;
      reads = refl;
      below = λ s. mismeasured-refused 3 s refl;
      above = λ s. mismeasured-refused 250 s refl;
    }

pub case_3_replied : (points : List ℕ) (clock : ℕ) → Does (replied clock) (station standard 5 (2 ∷ (5 ∷ [])) points)
unfolding stations
case_3_replied points clock = record { each = refl; whole = refl }

pub case_4_answered : (clock : ℕ) → Does (acknowledged clock) (station standard 3 (2 ∷ (3 ∷ [])) (replicate 64 1))
unfolding stations
case_4_answered clock = record { each = refl; whole = refl }

pub case11 : (points : List ℕ) (first second : ℕ)
    → Does (eleven first second) (station (retrying 1) 2 (2 ∷ (5 ∷ [])) points)
unfolding stations
case11 points first second = record { each = refl; whole = refl }

pub case12 : (points : List ℕ) (first second third : ℕ)
    → Does (eleven first second ++ (twelve third ++ handed)) (station (retrying 1) 2 (2 ∷ (5 ∷ [])) points)
unfolding stations
case12 points first second third = record { each = refl; whole = refl }

pub the-twelve : Twelve
unfolding frames times
the-twelve =
    record {
      case1 = record { reads = refl; allowed = refl; writes = refl };
      case2 = record { reads = refl; allowed = refl; writes = refl };
      case3 = record { reads = refl; allowed = refl; writes = refl };
      case_3_replied = case_3_replied;
      case4 = record { reads = refl; allowed = refl; writes = refl };
      case_4_answered = case_4_answered;
      case5 = record { reads = refl; allowed = refl; writes = refl };
      case6 = refl;
      case7 = case7;
      case8 = refl;
      case9 = refl;
      case10 = record { left = refl; none = refl };
      case11 = case11;
      case12 = case12;
    }
