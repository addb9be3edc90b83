-- A queue that is not refused has its row and its data area. Assumes nothing.
use Prim.Native.Nat.{ℕ}
use mathlib.Core.Path.{◌≡◌}
use mathlib.Core.List.{List}
use lib.ListN.{length}
use native.Mathlib.Omega.{arith}
use Rattle.choice.proofs.Rules.{passed, is_said}
use Rattle.refusal.proofs.Numbers.{above_zero}
use Rattle.queue.specs.declared.Queue.{Queue}
use Rattle.queue.specs.Queue.{Ruled}
use Rattle.queue.proofs.Laws.{ruled}
use Rattle.rows.specs.Rows.{Lent}
use Rattle.rows.proofs.Laws.{lent}
use Rattle.test_parts.specs.Calls.{unlent}

-- a queue that is not refused 21 or 29
pub unlent-none : (q : Queue) (row area : List ℕ) → unlent q (length row) (length area) ≡ 0 → Ruled q × Lent q row area
unfolding unlent
unlent-none q row area e =
    let m = passed _ 21 _ (omega arith) e in
    let o = passed _ 29 _ (omega arith) m.1 in
    (ruled q (is_said o.0), lent q row area (is_said m.0))

pub unlent-ruled : (q : Queue) (row area : List ℕ) → unlent q (length row) (length area) ≡ 0 → Ruled q
unlent-ruled q row area e = (unlent-none q row area e).0

pub unlent-lent : (q : Queue) (row area : List ℕ) → unlent q (length row) (length area) ≡ 0 → Lent q row area
unlent-lent q row area e = (unlent-none q row area e).1

pub ruleset unrefused = (unlent-ruled, unlent-lent, above_zero)
