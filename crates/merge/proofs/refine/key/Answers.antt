use Rattle.std.proofs.Common.{◌≡◌, length, set, sym, ap, ◌∙◌, arith}
use Rattle.std.proofs.lemmas.List.{length-map}
use Rattle.automata.specs.Automaton.{production}
use Rattle.merge.specs.Merge.{at}
use Rattle.merge.proofs.Keying.{named, named_more, named_all}
use Rattle.merge.proofs.refine.key.Goals as goal

pub loop-i-preserved : goal.loop-i-preserved
loop-i-preserved c =
    let g = at c.args.groups.now in
    let xs = c.children-child-items.result.now in
    ap (λ z. set z c.loop-i.i c.group_of.result) c.loop-i.invariant ∙ named_more g xs c.loop-i.i c.group_of.result c.loop-i-test.true c.children-child-items.ensures.few c.group_of.ensures

pub returns : goal.returns
returns c =
    let g = at c.args.groups.now in
    let xs = (production c.args.row).children in
    let n : c.loop-i.i ≡ length xs = omega (arith, ap length c.children-child-items.ensures.value) in
    let cs = c.loop-i.invariant ∙ ap (λ z. named g z c.loop-i.i) c.children-child-items.ensures.value ∙ named_all g xs c.loop-i.i n in
    let w = ap length c.children.ensures.value ∙ sym (length-map xs g) in
    λ i. record { form = c.args.row.form; points = c.args.row.points; arity = w i; children = cs i }
