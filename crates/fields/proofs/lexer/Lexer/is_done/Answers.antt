use Rattle.fields.proofs.Cutting.{none_left}
use Rattle.fields.proofs.lexer.Lexer.is_done.Goals as goal

pub returns : goal.returns
returns c = none_left c.args.self.now.rest c.is_none.result c.is_none.ensures
