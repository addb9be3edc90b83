-- `typed_lines::gather` meets its contract.
use Rattle.std.proofs.Common.{refl}
use Rattle.typed_lines.proofs.Kept.{gathers}
use Rattle.typed_lines.proofs.gather.Goals as goal

pub returns : goal.returns
returns c =
    gathers c.requires.0 c.requires.1 c.rest-rest.ensures c.before-length.ensures.value c.min.ensures c.lay-kept.ensures
    refl c.from.ensures
