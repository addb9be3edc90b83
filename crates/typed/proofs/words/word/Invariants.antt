-- `typed::words::word` meets its contract. The loop's invariant: as many words as are left to pass ahead of what is
-- left stands what is left ahead of word k.
use Rattle.std.proofs.Common.{◌≡◌, ◌-◌, drop}
use Rattle.typed.specs.Words.{spaces}
use Rattle.typed.proofs.words.Walk.{rest}
use Rattle.typed.proofs.words.word.Given as goal

abbrev pub invariant-loop-i : goal.invariant-loop-i
invariant-loop-i l = rest l.rest (l.k - l._i) ≡ rest (drop (spaces l.s) l.s) l.k
