use Rattle.text.proofs.Lines.{one_more, row_whole}
use Rattle.text.proofs.put.put_row.Goals as goal

pub loop-child-preserved : goal.loop-child-preserved
loop-child-preserved c = one_more _ _ _ _ _ c.loop-child-test.true c.loop-child.invariant c.in_ok-put_number-3.ensures

pub returns : goal.returns
returns c = row_whole _ _ _ _ _ _ _ _ _ _ _ _ _ _ c.name_of.ensures c.children-child-items.ensures.value c.loop-child-test.false c.in_ok-push.ensures.items c.in_ok-put_number.ensures c.in_ok-put_field.ensures c.in_ok-put_number-2.ensures c.loop-child.invariant c.in_ok-push-2.ensures.items
