use Rattle.layers.proofs.Trims.{trim_preserves, trim_barren, trim_one}
use Rattle.layers.proofs.trim.Trim.root_worth.Goals as goal

pub returns-clause-preserves : goal.returns-clause-preserves
returns-clause-preserves g c = trim_preserves g.M.Measure.ops

pub returns-clause-barren : goal.returns-clause-barren
returns-clause-barren g c = trim_barren

pub returns-clause-one : goal.returns-clause-one
returns-clause-one g c = trim_one
