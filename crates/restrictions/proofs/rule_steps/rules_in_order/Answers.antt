use Rattle.std.proofs.Common.{◌≡◌, vec_items, vec_len, sym, ap, ◌∙◌, arith}
use Rattle.std.proofs.lemmas.Bool.{eqb-true, eqb-false}
use Rattle.restrictions.proofs.Ruling.{bars_more, rules_some, rules_none}
use Rattle.restrictions.proofs.rule_steps.rules_in_order.Goals as goal
use Rattle.restrictions.proofs.rule_steps.rules_in_order.Goals.{then-is_empty+in_ok-push-3, else-is_empty}

pub loop-bar-preserved : goal.loop-bar-preserved
loop-bar-preserved c = bars_more c.args.levels.now c.args.bars.now c.loop-bar.bar-index _ (vec_items c.loop-bar.rules) _ c.loop-bar-test.true c.loop-bar.invariant c.in_ok-push-2.ensures.items

pub returns : goal.returns
returns c =
    let v = c.loop-bar.rules in
    elim c.if-is_empty.branch [
      | then-is_empty+in_ok-push-3 w ↦
          let none : vec_len v ≡ 0 = eqb-true (vec_len v) 0 (sym c.is_empty.ensures ∙ w.if-is_empty.true) in
          rules_none c.args.levels.now c.args.bars.now c.loop-bar.bar-index (vec_items v) c.loop-bar-test.false c.loop-bar.invariant _ (omega (arith, none, v.ok.0)) (ap vec_items w.rules-is ∙ w.in_ok-push-3.ensures.items)
      | else-is_empty w ↦
          let some = eqb-false (vec_len v) 0 (sym c.is_empty.ensures ∙ w.if-is_empty.false) in
          ap vec_items w.rules-is ∙ rules_some c.args.levels.now c.args.bars.now c.loop-bar.bar-index (vec_items v) c.loop-bar-test.false c.loop-bar.invariant (omega (arith, some, v.ok.0))
    ]
