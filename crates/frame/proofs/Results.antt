-- What the reader and the writers of the code answer is told apart by the answer as the definitions have it: a refusal
-- by its number. Assumes nothing.
use Rattle.std.specs.Prelude.{ℕ, Result, Ok, Err}
use mathlib.Core.Path.{◌≡◌, ap}
use native.Mathlib.Omega.{arith}
use Rattle.refusal.specs.declared.Refusal.{Refusal}
use Rattle.refusal.proofs.Numbers.{number-same}
use Rattle.frame.specs.declared.Part.{Part}
use Rattle.frame.specs.declared.Fields.{Fields}
use Rattle.frame.specs.declared.Fields.TheVariants.{Short}
use Rattle.frame.specs.Format.{Written, Count, wrote}
use Rattle.frame.specs.Format as Format
use Rattle.frame.specs.Reading.{Answer, Read, answered}
use Rattle.frame.specs.Reading as Reading

-- which case an answer is, with its number or what was read
is-read : Answer → ℕ
is-read (Reading.Refused n) = 0
is-read (Read f p) = 1

refusal-in : Answer → ℕ
refusal-in (Reading.Refused n) = n
refusal-in (Read f p) = 0

read-in : Answer → Fields × Part
read-in (Reading.Refused n) = (Short, record { start = 0; count = 0 })
read-in (Read f p) = (f, p)

pub answered-same : (a b : Result (Fields × Part) Refusal) → answered a ≡ answered b → a ≡ b
unfolding answered is-read refusal-in read-in
answered-same (Ok a) (Ok b) e = ap (λ (x : Answer). Ok (read-in x)) e
answered-same (Err r) (Err q) e = ap (λ (x : Refusal). Err x) (number-same r q (ap refusal-in e))
answered-same (Ok a) (Err q) e = absurd (omega (arith, ap is-read e))
answered-same (Err r) (Ok b) e = absurd (omega (arith, ap is-read e))

is-count : Written → ℕ
is-count (Format.Refused n) = 0
is-count (Count n) = 1

number-in : Written → ℕ
number-in (Format.Refused n) = n
number-in (Count n) = n

pub wrote-same : (a b : Result ℕ Refusal) → wrote a ≡ wrote b → a ≡ b
unfolding wrote is-count number-in
wrote-same (Ok n) (Ok m) e = ap (λ (x : Written). Ok (number-in x)) e
wrote-same (Err r) (Err q) e = ap (λ (x : Refusal). Err x) (number-same r q (ap number-in e))
wrote-same (Ok n) (Err q) e = absurd (omega (arith, ap is-count e))
wrote-same (Err r) (Ok m) e = absurd (omega (arith, ap is-count e))
