use Rattle.std.proofs.Common.{◌≡◌, ◌+◌, get_or, set, sym, ap, ◌∙◌, ⊎_elim, arith, length-set}
use Rattle.std.proofs.lemmas.List.{get_or-set_same, get_or-set_other}
use Rattle.std.proofs.lemmas.Bool.{cases_eq}
use Rattle.ledger.specs.Reach.{reached, number}
use Rattle.settle.proofs.Ascending.{Counted, counted_add, counted_skip}
use Rattle.settle.proofs.reached.Reached.numbers.Goals as goal
use Rattle.settle.proofs.reached.Reached.numbers.Goals.{then-has, else-has}

pub loop-state-preserved : goal.loop-state-preserved
loop-state-preserved g c =
    let m = g.A.Automaton.meaning c.args.self.now.pile.now in
    let f = reached m in
    let n = c.loop-state.state in
    let xs = c.loop-state.number-items in
    let i = c.loop-state.invariant in
    let marked : c.has.result ≡ f n = c.has.ensures ∙ c.args.self.now.exact n in
    let next : Counted f n c.if-has.count (n + 1) =
    elim c.if-has.branch [
      | then-has w ↦ counted_add f n c.loop-state.count _ (i.0, i.1) (sym marked ∙ w.if-has.true) w.count-is
      | else-has w ↦ counted_skip f n c.loop-state.count _ (i.0, i.1) (sym marked ∙ w.if-has.false) w.count-is
    ] in (
      next.0,
      next.1,
      length-set xs n c.loop-state.count ∙ i.2,
      λ s l. ⊎_elim (λ (q : s ≡ n). ap (λ x. get_or (set xs n c.loop-state.count) x 0) q ∙ get_or-set_same xs n c.loop-state.count 0 (omega (arith, i.2, c.loop-state-test.true)) ∙ i.0 ∙ sym (ap (number m) q))
          (λ ne. get_or-set_other xs n s c.loop-state.count 0 ne ∙ i.3 s (omega arith)) (cases_eq s n),
    )
