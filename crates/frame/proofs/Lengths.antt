-- How long the pieces of a frame are. Assumes nothing.
use Rattle.std.proofs.Common.{◌≡◌, ℕ, ◌+◌, ◌≤◌, List, length, arith, length-append}
use Rattle.std.specs.Prelude.{Option, None, Some}
use Rattle.frame.specs.declared.Point.{Point}
use Rattle.frame.specs.declared.Head.{Head}
use Rattle.frame.specs.Format.{extension, unit, body}

-- an access point has at most one octet
pub length-extension : (a : Option Point) → length (extension a) ≤ 1
unfolding extension
length-extension None = omega arith
length-extension (Some p) = omega arith

pub length-unit : (h : Head) (x : List ℕ)
    → length (unit h x) ≡ length (extension h.to) + length (extension h.from) + length x
unfolding unit
length-unit h x = simp length-append (omega arith)

pub length-body : (h : Head) (x : List ℕ) → length (body h x) ≡ length (unit h x) + 3
unfolding body
length-body h x = omega arith
