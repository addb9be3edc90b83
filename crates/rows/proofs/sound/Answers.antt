-- `rows::sound` meets its contract: what `all` says of each record is what the check says of them all.
use Rattle.std.proofs.Common.{rules, arith, refl, ◌≡◌, true, false}
use borrow.Author.Tests.{tests}
use Rattle.std.proofs.lemmas.Iterator.{cases_from_all, YieldsList-from_range}
use Rattle.choice.specs.Choice.{same}
use Rattle.rows.proofs.Check.{fault, all-sound}
use Rattle.rows.proofs.sound.Goals as goal

pub returns : goal.returns
returns c =
    let a = c.args in
    let n = c.args.q.unconfirmed in
    all-sound a.ts.0 a.q a.row.now n _
    (cases_from_all _ _ _ (λ k. same (fault a.ts.0 a.q a.row.now k) 0 ≡ true)
    (λ k. same (fault a.ts.0 a.q a.row.now k) 0 ≡ false) c.all.ensures.ran
    (YieldsList-from_range 0 n n refl (omega arith)) (λ k q h. search (rules, tests)) (λ k q h. search (rules, tests)))
