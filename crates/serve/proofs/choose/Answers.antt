-- `serve::choose` meets its contract: a queue that is chosen has a request.
use mathlib.Core.Path.{sym, ◌∙◌}
use Rattle.serve.proofs.Sited.{chosen-waits}
use Rattle.serve.proofs.choose.Goals as goal

pub serve-requires : goal.serve-requires
serve-requires c =
    let p = c.requires in
    (p.0, (chosen-waits _ _ _ _ (sym c.in-Serve.is ∙ c.choice.ensures), p.1))
