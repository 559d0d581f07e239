use Rattle.std.proofs.Common.{◌≡◌, map, take}
use Rattle.ledger.specs.Ledger.{add_form, enter_all}
use Rattle.register.specs.Held.{held}
use Rattle.restrictions.proofs.rule_steps.enter_forms.Given as goal

abbrev pub invariant-loop-arity : goal.invariant-loop-arity
invariant-loop-arity l = held l.target ≡ enter_all (held l.initial.target) (map add_form (take l.arity-index l.arity-items))
