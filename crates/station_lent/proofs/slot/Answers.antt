-- `station_lent::slot` meets its contract.
use mathlib.Core.Path.{refl, sym}
use Rattle.std.proofs.lemmas.Result.{err_from_is_err_and}
use Rattle.refusal.specs.Refusal.{refused}
use Rattle.state.proofs.Refused.{calm-slot}
use Rattle.state.proofs.Facts.{sited, output-long}
use Rattle.hearing.proofs.idle.Standing.{stands-refused, heard-refused, stands-does, heard-moved}
use Rattle.station_lent.proofs.Granted.{slot-granted, slot-denied, underway, numbered}
use Rattle.station_lent.proofs.slot.Goals as goal

pub returns-in_err-refusal-clause-acts : goal.returns-in_err-refusal-clause-acts
unfolding refused
returns-in_err-refusal-clause-acts c =
    let s = c.shared.ensures in
    let p = err_from_is_err_and c.from_residual.result c.from_residual.ensures.1 in
    record {
      told = λ a o. rw (slot-denied _ _ _ _ _ _ _ _ _ _ _ (rw (s.0, s.1.0, s.1.1.0, s.1.1.1) at c.in_err-refusal.ensures) (numbered _))
          (stands-refused _ (heard-refused _ _ _ (rw p.2 at p.1)));
    }

pub slot_in-m-requires : goal.slot_in-m-requires
unfolding refused
slot_in-m-requires c =
    let s = c.shared.ensures in
    let e = sym (rw (s.0, s.1.0, s.1.1.0, s.1.1.1) at c.in_ok-refusal.ensures) in
    (sited _ _ _ _ _ _ _ _ _ e, (underway _ _ _ _ _ _ _ _ _ e, output-long _ _ _ _ _ _ _ _ _ e))

pub returns-clause-acts : goal.returns-clause-acts
unfolding refused
returns-clause-acts c =
    let s = c.shared.ensures in
    record {
      told = λ a o. rw (slot-granted _ _ _ _ _ _ _ _ _ _ _ (rw (s.0, s.1.0, s.1.1.0, s.1.1.1) at c.in_ok-refusal.ensures) refl)
          (stands-does _ _ _ _ _ _ (calm-slot _ _ _) c.slot_in-m.ensures.does (heard-moved _ _ _ _ c.moved.ensures));
    }
