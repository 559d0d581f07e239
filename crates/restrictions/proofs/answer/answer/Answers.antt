use Rattle.std.proofs.Common.{length}
use Rattle.restrictions.proofs.Chaining.{grammar_told}
use Rattle.restrictions.proofs.answer.answer.Goals as goal

pub returns : goal.returns
returns c = grammar_told (length c.args.rows.now) c.args.sheet.now c.in_ok-grammar.grammar c.restricted.result c.in_ok-grammar.ensures c.restricted.ensures
