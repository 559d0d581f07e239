use Rattle.std.proofs.Common.{◌≡◌, ltb, sym, ◌∙◌, rules, tests, arith}
use Rattle.std.proofs.lemmas.Bool.Decides.{nat_tests}
use Rattle.std.proofs.lemmas.List.{length-take, get_or-take}
use Rattle.std.proofs.lemmas.Iterator.{YieldsList-from_slice}
use Rattle.std.proofs.lemmas.Iterator.Search.{all_from_yields_List}
use Rattle.automata.specs.Automaton.{all_below}
use Rattle.automata.proofs.Cells.{below_all}
use Rattle.ledger.proofs.Taken.{found}
use Rattle.ledger.proofs.rows.judged.Goals as goal

pub returns-then-not-all : goal.returns-then-not-all
returns-then-not-all c =
    let t = c.args.table.now in
    let s = found t.states t.counts c.args.state _ (sym c.used.ensures ∙ c.in_ok-used.ensures.ok_part) in
    let f = found t.forms t.arities c.args.form _ (sym c.arity.ensures ∙ c.in_ok-arity.ensures.ok_part) in
    let e : c.all.result ≡ all_below t.states c.args.children.now =
    all_from_yields_List (λ x. ltb x t.states) _ _ c.all.result c.all.ensures.ran (YieldsList-from_slice c.args.children.now cc) (λ x b q k. search (rules, tests)) ∙ sym (below_all t.states c.args.children.now) in
    grind (arith, nat_tests, length-take, get_or-take)

pub returns-then-used-ge32 : goal.returns-then-used-ge32
returns-then-used-ge32 c =
    let t = c.args.table.now in
    let s = found t.states t.counts c.args.state _ (sym c.used.ensures ∙ c.in_ok-used.ensures.ok_part) in
    let f = found t.forms t.arities c.args.form _ (sym c.arity.ensures ∙ c.in_ok-arity.ensures.ok_part) in
    let e : c.all.result ≡ all_below t.states c.args.children.now =
    all_from_yields_List (λ x. ltb x t.states) _ _ c.all.result c.all.ensures.ran (YieldsList-from_slice c.args.children.now cc) (λ x b q k. search (rules, tests)) ∙ sym (below_all t.states c.args.children.now) in
    grind (arith, nat_tests, length-take, get_or-take)

pub returns : goal.returns
returns c =
    let t = c.args.table.now in
    let s = found t.states t.counts c.args.state _ (sym c.used.ensures ∙ c.in_ok-used.ensures.ok_part) in
    let f = found t.forms t.arities c.args.form _ (sym c.arity.ensures ∙ c.in_ok-arity.ensures.ok_part) in
    let e : c.all.result ≡ all_below t.states c.args.children.now =
    all_from_yields_List (λ x. ltb x t.states) _ _ c.all.result c.all.ensures.ran (YieldsList-from_slice c.args.children.now cc) (λ x b q k. search (rules, tests)) ∙ sym (below_all t.states c.args.children.now) in
    grind (arith, nat_tests, length-take, get_or-take)
