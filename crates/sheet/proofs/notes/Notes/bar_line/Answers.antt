use Rattle.std.proofs.Common.{◌≡◌, false, leb, map, length, Err, vec_items, arith, rules}
use Rattle.fields.specs.Tokens.{to_read, line_of}
use Rattle.fields.proofs.Followed.{refuses}
use Rattle.sheet.specs.Lines.{bar_line}
use Rattle.sheet.specs.Held.{entered_by, barred}
use Rattle.std.proofs.lemmas.Bool.{lt-leb}
use Rattle.sheet.proofs.Noted.{lists_long}
use Rattle.sheet.proofs.notes.Notes.bar_line.Goals as goal

pub returns-in_err-inner : goal.returns-in_err-inner
returns-in_err-inner c =
    let told : bar_line (line_of c.args.lexer) (entered_by c.args.self.now c.args.register.now) (to_read c.args.lexer) ≡ Err c.in_err-inner.field-0.0 = search rules in
    refuses _ _ _ c.from_residual-in_err-inner.result c.in_err-inner.field-0.0 c.from_residual-in_err-inner.ensures.1 told (search rules)

pub returns-in_err-check_bar : goal.returns-in_err-check_bar
returns-in_err-check_bar c =
    let room : leb 8 (length (map barred (vec_items c.args.self.now.bars))) ≡ false = lt-leb 8 _ (omega (arith, lists_long c.args.self.now.bars barred, c.len.ensures)) in
    let told : bar_line (line_of c.args.lexer) (entered_by c.args.self.now c.args.register.now) (to_read c.args.lexer) ≡ Err c.in_err-check_bar.field-0.0 = search rules in
    refuses _ _ _ c.from_residual-in_err-check_bar.result c.in_err-check_bar.field-0.0 c.from_residual-in_err-check_bar.ensures.1 told (search rules)
