-- The writer never refuses a fit request. Assumes nothing.
use Prim.Native.Nat.{ℕ, ◌≤◌}
use mathlib.Core.Path.{◌≡◌}
use mathlib.Core.List.{List}
use lib.ListN.{length}
use Rattle.frame.specs.declared.Address.{Address}
use Rattle.frame.specs.declared.Fields.TheVariants.{Frame}
use Rattle.frame.specs.declared.Fields.{Fields}
use Rattle.frame.specs.Format.{unit, octets, wrote, written, left}
use Rattle.refusal.specs.declared.Refusal.{Refusal}
use Rattle.laid.specs.Laid.{Lays}
use Rattle.std.specs.Prelude.{Result, Ok, Err}
use Rattle.std.specs.Result.{result_unwrap_or}
use Rattle.write.proofs.Laying.{Laying, Passed, laying-frame, never, lays}
use Rattle.request.specs.declared.Record.{Record}
use Rattle.request.specs.Record.{unfit}
use Rattle.state.specs.declared.Priority.{Priority}
use Rattle.state.specs.Request.{head_for}
use Rattle.state.proofs.Agreed.{near}
use Rattle.state.proofs.Writable.{lawful-control, rightly, inside, units}

-- a fit record with the data x
module _ (ts : Address) (p : Priority) (r : Record) (m : ℕ) (x : List ℕ) (e : unfit ts.0 r (length x) ≡ 0) where
  fit_passed : ts.0 ≤ 126 → Passed (head_for ts p r m) (length (unit (head_for ts p r m) x))
  unfolding head_for
  fit_passed t =
      record {
        source = t;
        destination = near ts.0 r (length x) e;
        control = lawful-control p r.service m;
        to = (inside ts p r m x e).0;
        from = (inside ts p r m x e).1;
        directed = rightly ts p r m x e;
        units = units ts p r m x e;
      }

  pub laying-request : (o : List ℕ) → ts.0 ≤ 126 → 255 ≤ length o → Laying (Frame (head_for ts p r m)) x o
  laying-request o t l = laying-frame (head_for ts p r m) x o (fit_passed t) l

-- the count that the writer answers is of the octets that it lays
pub lays-counted : {f : Fields} {x o m : List ℕ} → Laying f x o → (r : Result ℕ Refusal) → wrote r ≡ written f x o
    → m ≡ left f x o → Lays o 0 (octets f x) 255 (result_unwrap_or r 0) m
unfolding wrote
lays-counted w (Ok n) e l = lays w e l
lays-counted w (Err n) e l = never w e
