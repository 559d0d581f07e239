use Rattle.std.proofs.Common.{◌+◌, ◌||◌, ◌<◌, ◌≤◌, get_or, length, sym, ap, subst}
use Rattle.automata.specs.Automaton.{production}
use Rattle.layers.specs.Marks.{mark}
use Rattle.layers.proofs.Marking.{all_below_at}
use Rattle.layers.proofs.Growing.{Keeping, keeping_none, keeping_more, keeping_all}
use Rattle.layers.proofs.marks.Marks.add_children.Goals as goal

pub loop-child-init : goal.loop-child-init
loop-child-init c = keeping_none (mark c.args.self.now) (production c.args.row).children

pub add-added-requires : goal.add-added-requires
add-added-requires c =
    let e = c.children-child-items.ensures.value in
    subst (λ n. n < 1024) (ap (λ cs. get_or cs c.loop-child.child-index 0) (sym e))
    (all_below_at 1024 (production c.args.row).children c.loop-child.child-index c.requires (subst (λ cs. c.loop-child.child-index < length cs) e c.loop-child-test.true))

pub loop-child-preserved : goal.loop-child-preserved
loop-child-preserved c =
    let i = c.loop-child.child-index in
    let k = c.add-added.ensures in
    let e = c.children-child-items.ensures.value in
    subst (λ cs. Keeping (mark c.args.self.now) (mark c.add-added.new.self) (c.loop-child.added || c.add-added.result) cs (i + 1)) e
    (keeping_more (mark c.args.self.now) (mark c.loop-child.self) (mark c.add-added.new.self) c.loop-child.added c.add-added.result c.children-child-items.result.now i c.loop-child-test.true
    (subst (λ cs. Keeping (mark c.args.self.now) (mark c.loop-child.self) c.loop-child.added cs i) (sym e) c.loop-child.invariant) k.grows k.here k.others)

pub returns : goal.returns
returns c =
    let e = c.children-child-items.ensures.value in
    let i = c.loop-child.invariant in
    record {
      grows = i.grows;
      all = keeping_all (mark c.args.self.now) (mark c.loop-child.self) c.loop-child.added (production c.args.row).children c.loop-child.child-index (subst (λ cs. length cs ≤ c.loop-child.child-index) e c.loop-child-test.false) i;
      from = i.from;
    }
