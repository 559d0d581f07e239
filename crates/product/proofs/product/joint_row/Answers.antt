use Rattle.std.proofs.Common.{◌≡◌, min, ap, ◌∙◌, arith, length, length-set, rules}
use Rattle.std.specs.List.{zip}
use Rattle.std.proofs.lemmas.List.FromFn.{length-enumerate_from}
use Rattle.std.proofs.lemmas.Slice.Zip.{length-zip}
use Rattle.std.proofs.lemmas.Iterator.{YieldsList-from_slice, YieldsList-from_zip}
use Rattle.std.proofs.lemmas.Iterator.Consumers.{YieldsList-from_enumerate, YieldsList-turn, YieldsList-end}
use Rattle.automata.specs.Automaton.{production}
use Rattle.product.proofs.JointRow.{at_place, joint_none, joint_more, joint_some}
use Rattle.product.proofs.product.joint_row.Goals as goal

pub returns-then-child-sizes : goal.returns-then-child-sizes
returns-then-child-sizes c =
    let xs = (production c.args.first).children in
    let ys = (production c.args.second).children in
    let t = YieldsList-turn (YieldsList-from_enumerate (YieldsList-from_zip (YieldsList-from_slice xs cc) (YieldsList-from_slice ys cc)) cc) c.loop-i.yielded _ c.loop-i.yielded_by c.next.result c.next.new.self (c.in-Some.i, (c.in-Some.p, c.in-Some.q)) c.in-Some.is c.next.ensures.steps in
    joint_none c.args.sizes.width c.args.sizes.states c.args.first c.args.second c.requires _ _ _ _ (at_place xs ys _ _ _ _ t.0 t.1) c.if-child-sizes.true

pub loop-i-preserved : goal.loop-i-preserved
loop-i-preserved c =
    let xs = (production c.args.first).children in
    let ys = (production c.args.second).children in
    let t = YieldsList-turn (YieldsList-from_enumerate (YieldsList-from_zip (YieldsList-from_slice xs cc) (YieldsList-from_slice ys cc)) cc) c.loop-i.yielded _ c.loop-i.yielded_by c.next.result c.next.new.self (c.in-Some.i, (c.in-Some.p, c.in-Some.q)) c.in-Some.is c.next.ensures.steps in (
      joint_more c.args.sizes.width c.args.sizes.states c.args.first c.args.second c.requires c.loop-i.children c.loop-i.yielded _ _ _ _ (at_place xs ys _ _ _ _ t.0 t.1) (omega (arith, c.children-left.ensures.few, ap length c.children-left.ensures.value, c.loop-i.invariant.1)) c.if-child-sizes.false c.loop-i.invariant.0,
      length-set c.loop-i.children c.in-Some.i _ ∙ c.loop-i.invariant.1,
    )

pub returns : goal.returns
returns c =
    let xs = (production c.args.first).children in
    let ys = (production c.args.second).children in
    let t = YieldsList-end (YieldsList-from_enumerate (YieldsList-from_zip (YieldsList-from_slice xs cc) (YieldsList-from_slice ys cc)) cc) c.loop-i.yielded _ c.loop-i.yielded_by c.next.result c.next.new.self c.in-None.is c.next.ensures.steps in
    let n : length c.loop-i.yielded ≡ min (length xs) (length ys) = omega (arith, t.1, length-enumerate_from 0 (zip xs ys), length-zip xs ys) in
    joint_some c.args.sizes.width c.args.sizes.states c.args.first c.args.second c.requires c.loop-i.children (length c.loop-i.yielded) _ (length c.children-left.result.now) (omega (arith, c.children-left.ensures.few, ap length c.children-left.ensures.value, c.loop-i.invariant.1)) n (search rules) (ap length c.children-left.ensures.value) c.loop-i.invariant.0
