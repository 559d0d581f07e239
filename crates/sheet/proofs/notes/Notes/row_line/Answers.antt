use Rattle.std.proofs.Common.{◌≡◌, Err, rules}
use Rattle.fields.specs.Tokens.{to_read, line_of}
use Rattle.fields.proofs.Followed.{refuses}
use Rattle.sheet.specs.Lines.{row_line}
use Rattle.sheet.specs.Held.{entered_by}
use Rattle.sheet.proofs.notes.Notes.row_line.Goals as goal

pub returns-in_err-form : goal.returns-in_err-form
returns-in_err-form c =
    let told : row_line (line_of c.args.lexer) (entered_by c.args.self.now c.args.register.now) (to_read c.args.lexer) ≡ Err c.in_err-form.field-0.0 = search rules in
    refuses _ _ _ c.from_residual-in_err-form.result c.in_err-form.field-0.0 c.from_residual-in_err-form.ensures.1 told (search rules)

pub returns-in_err-points : goal.returns-in_err-points
returns-in_err-points c =
    let told : row_line (line_of c.args.lexer) (entered_by c.args.self.now c.args.register.now) (to_read c.args.lexer) ≡ Err c.in_err-points.field-0.0 = search rules in
    refuses _ _ _ c.from_residual-in_err-points.result c.in_err-points.field-0.0 c.from_residual-in_err-points.ensures.1 told (search rules)

pub returns-in_err-enter_row : goal.returns-in_err-enter_row
returns-in_err-enter_row c =
    let told : row_line (line_of c.args.lexer) (entered_by c.args.self.now c.args.register.now) (to_read c.args.lexer) ≡ Err c.in_err-enter_row.field-0.0 = search rules in
    refuses _ _ _ c.from_residual-in_err-enter_row.result c.in_err-enter_row.field-0.0 c.from_residual-in_err-enter_row.ensures.1 told (search rules)
