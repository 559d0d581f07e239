use Rattle.std.proofs.Common.{◌<◌, length, sym, refl, arith}
use Rattle.std.proofs.lemmas.Bool.{eqb-false}
use Rattle.fields.proofs.Cutting.{line_first}
use Rattle.fields.proofs.cuts.cut_line.Goals as goal

pub returns : goal.returns
returns c =
    let ne = eqb-false (length c.args.rest.now) 0 (sym c.if-is_empty.ensures) in
    let some : 0 < length c.args.rest.now = omega arith in
    line_first _ _ c.cut.result.1 _ c.unwrap_or.result some c.cut.ensures.front c.cut.ensures.back c.unwrap_or.ensures refl
