use Rattle.std.proofs.Common.{◌≡◌, ◌++◌, map, take, vec_items}
use Rattle.restrictions.specs.declared.rule.Rule.TheVariants.{Bars}
use Rattle.restrictions.proofs.Ruling.{first}
use Rattle.restrictions.proofs.rule_steps.rules_in_order.Given as goal

abbrev pub invariant-loop-bar : goal.invariant-loop-bar
invariant-loop-bar l = vec_items l.rules ≡ first l.levels ++ map Bars (take l.bar-index l.bars)
