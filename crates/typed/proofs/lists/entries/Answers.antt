-- `typed::lists::entries` meets its contract: the item of each turn is the next part between commas.
use Rattle.std.proofs.Common.{eqb, refl, sym, ◌∙◌, rules, tests}
use Rattle.std.proofs.lemmas.List.{length_push}
use Rattle.std.proofs.lemmas.Iterator.Consumers.{YieldsList-turn, YieldsList-end}
use Rattle.std.proofs.lemmas.Iterator.Splits.{YieldsList-from_slice_split}
use Rattle.typed.proofs.lists.Commas.{list_parts, closes_good, closes_bad, closes_none}
use Rattle.typed.proofs.lists.entries.Goals as goal

pub loop-e-init : goal.loop-e-init
loop-e-init c = (refl, sym (list_parts _ _ _))

pub returns-then-not-close : goal.returns-then-not-close
returns-then-not-close c =
    let t = YieldsList-turn (YieldsList-from_slice_split _ (λ b. eqb b 44) c.args.s.now (cc) (cc) (cc) (λ x b q k. search (rules, tests))) c.loop-e.yielded _ c.loop-e.yielded_by _ _ c.in-Some.e c.in-Some.is c.next.ensures.steps in
    closes_bad _ _ _ _ _ _ _ _ t c.if-not-close.true c.close.ensures c.loop-e.invariant.1

pub loop-e-preserved : goal.loop-e-preserved
loop-e-preserved c =
    let t = YieldsList-turn (YieldsList-from_slice_split _ (λ b. eqb b 44) c.args.s.now (cc) (cc) (cc) (λ x b q k. search (rules, tests))) c.loop-e.yielded _ c.loop-e.yielded_by _ _ c.in-Some.e c.in-Some.is c.next.ensures.steps in (
      c.close.auto.out ∙ c.loop-e.invariant.0,
      closes_good _ _ _ _ _ _ _ _ _ t (length_push c.loop-e.yielded c.in-Some.e) c.if-not-close.false c.close.ensures c.loop-e.invariant.1,
    )

pub returns : goal.returns
returns c =
    let t = YieldsList-end (YieldsList-from_slice_split _ (λ b. eqb b 44) c.args.s.now (cc) (cc) (cc) (λ x b q k. search (rules, tests))) c.loop-e.yielded _ c.loop-e.yielded_by _ _ c.in-None.is c.next.ensures.steps in
    closes_none _ _ _ _ _ t.1 c.loop-e.invariant.1
