-- `refusals::refusal` meets its contract: what passed the tests before is lawful, and its rows are the queues'.
use mathlib.Core.Path.{sym, ◌∙◌}
use Rattle.state.proofs.Facts.{lent_rows, lawful}
use Rattle.refusals.proofs.refusal.Goals as goal

pub unsound-requires : goal.unsound-requires
unsound-requires c =
    let high = lent_rows _ _ (sym c.unlent.ensures ∙ c.if-unlent.false) in
    let low = lent_rows _ _ (sym c.unlent-else-unlent.ensures ∙ c.if-unlent-2.false) in
    (lawful _ _ _ _ (sym c.lawless.ensures ∙ c.if-lawless.false), (high.places, low.places))
