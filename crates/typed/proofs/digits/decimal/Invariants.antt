-- `typed::digits::decimal` meets its contract. The loop's invariant: the rest behind the value so far is the number
-- of the word.
use Rattle.std.proofs.Common.{◌≡◌, ◌≤◌, drop}
use Rattle.typed.specs.Digits.{decimal, read_on}
use Rattle.typed.proofs.digits.decimal.Given as goal

abbrev pub invariant-loop-c : goal.invariant-loop-c
invariant-loop-c l = (l.value ≤ l.most) × (read_on l.most l.value (drop l.c-index l.s) ≡ decimal l.s l.most)
