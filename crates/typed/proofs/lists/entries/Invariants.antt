-- `typed::lists::entries` meets its contract. The loop's invariant: the set so far, with the entries still to come, is
-- the set.
use Rattle.std.proofs.Common.{◌≡◌, eqb, [], length, drop}
use Rattle.std.specs.List.{slice_split}
use Rattle.typed.specs.Lists.{pointed, list_on}
use Rattle.typed.proofs.lists.Commas.{closes}
use Rattle.typed.proofs.lists.entries.Given as goal

abbrev pub invariant-loop-e : goal.invariant-loop-e
invariant-loop-e l =
    (length l.out ≡ length l.initial.out)
    × (closes (pointed l.kind) (drop (length l.yielded) (slice_split (λ c. eqb c 44) l.s)) l.out ≡ list_on (pointed l.kind) [] l.s l.initial.out)
