-- `answering::answer` meets its contract: what is said where nothing is replied.
use mathlib.Core.Bool.{false}
use native.Mathlib.Omega.{arith}
use Rattle.std.proofs.lemmas.Grind.{common_steps}
use Rattle.choice.specs.Choice.{pick, same, said}
use Rattle.state.specs.Answering.{memory, active, answered, sdn_events, answer_as, answer_to, answer}
use Rattle.answering.proofs.answers.Says.{says_none, says_shown}
use Rattle.answering.proofs.answer.Goals as goal

pub returns-in_default-clause-says : goal.returns-in_default-clause-says
unfolding pick same answered answer_to answer
returns-in_default-clause-says c =
    let a = c.args in
    let m = memory a.k a.octets.now in
    let g = a.caller in
    says_none m (answer a.responder a.points.now m g.room g.high.now g.low.now a.request.head a.request.part)
    (grind (arith, common_steps)) c.silent.ensures

pub returns-in-Never-clause-says : goal.returns-in-Never-clause-says
unfolding pick same answered answer_as answer_to answer
returns-in-Never-clause-says c =
    let a = c.args in
    let m = memory a.k a.octets.now in
    let g = a.caller in
    says_none m (answer a.responder a.points.now m g.room g.high.now g.low.now a.request.head a.request.part)
    (grind (arith, common_steps)) c.silent-in-Never.ensures

pub returns-in-Sdn-clause-says : goal.returns-in-Sdn-clause-says
unfolding pick same answered sdn_events answer_as answer_to answer
returns-in-Sdn-clause-says c =
    let a = c.args in
    let m = memory a.k a.octets.now in
    let g = a.caller in
    let r = a.request in
    says_shown m (answer a.responder a.points.now m g.room g.high.now g.low.now r.head r.part)
    (pick (said (active a.points.now r.head.to)) g.room false) r.head r.part
    (grind (arith, common_steps)) c.answer_sdn.ensures
