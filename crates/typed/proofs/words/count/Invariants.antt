-- `typed::words::count` meets its contract. The loop's invariant: the words counted, and those that begin in the
-- rest, are all.
use Rattle.std.proofs.Common.{◌≡◌, ◌+◌, ◌≤◌, drop}
use Rattle.typed.specs.Words.{words_behind, words}
use Rattle.typed.proofs.words.count.Given as goal

abbrev pub invariant-loop-c : goal.invariant-loop-c
invariant-loop-c l = (l.n ≤ l.c-index) × (l.n + words_behind l.space (drop l.c-index l.s) ≡ words l.s)
