use Rattle.merge.proofs.Merging.{merge_joins, merge_one}
use Rattle.merge.proofs.Merges.{merge_preserves}
use Rattle.merge.proofs.merge.Merge.state_worth.Goals as goal

pub returns : goal.returns
returns g c = record {
  answers = c.worth.ensures.answers;
  fills = c.worth.ensures.fills;
  preserves = merge_preserves g.met.M.Measure.lawful;
  joins = merge_joins;
  one = merge_one;
}
