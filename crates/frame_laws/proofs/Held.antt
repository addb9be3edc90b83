-- What a slice of `u8` holds is octets: the premise of the theorems from what the walk through a function knows of
-- every element of such a slice. Assumes nothing.
use Prim.Native.Nat.{ℕ}
use mathlib.Core.List.{List}
use native.Mathlib.Omega.{arith}
use lib.ListN.{get_or}
use mir.Syntax.{w8}
use mir.Val.{Fits}
use Rattle.frame_laws.specs.Terms.{Octets}

pub octets-held : (s : List ℕ) → ((i : ℕ) → Fits w8 (get_or s i 0)) → Octets s
octets-held s h = record { below = λ i. omega (arith, h i) }
