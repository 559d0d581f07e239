use Rattle.std.proofs.Common.{◌≡◌, Some, sym, ap, ◌∙◌, rules}
use Rattle.fields.specs.Tokens.{to_read, line_of}
use Rattle.sheet.specs.Lines.{line_entered, by_kind, form_line, state_line, row_line, root_line, level_line, bar_line, ticket_line}
use Rattle.sheet.specs.Held.{entered_by}
use Rattle.sheet.proofs.Noted.{line_by_kind}
use Rattle.sheet.proofs.notes.Notes.line.Goals as goal

pub returns-in-Some-F : goal.returns-in-Some-F
returns-in-Some-F c =
    let e = entered_by c.args.self.now c.args.register.now in
    let l = c.next.new.self in
    let told : line_entered c.args.line e c.args.bytes.now ≡ form_line (line_of l) e (to_read l) =
    line_by_kind _ e _ (Some 70) _ c.new-lexer.result l c.if-bytes-gt32768.false (sym c.if-not-is_plain.ensures) c.new-lexer.ensures.fields c.new-lexer.ensures.line c.next.ensures.value c.next.ensures.after c.next.ensures.line (ap Some (sym c.in-Some-F.field-0-test) ∙ sym c.in-Some-F.is ∙ c.kind.ensures) in
    rw told (assumption c)

pub returns-in-Some-S : goal.returns-in-Some-S
returns-in-Some-S c =
    let e = entered_by c.args.self.now c.args.register.now in
    let l = c.next.new.self in
    let told : line_entered c.args.line e c.args.bytes.now ≡ state_line (line_of l) e (to_read l) =
    line_by_kind _ e _ (Some 83) _ c.new-lexer.result l c.if-bytes-gt32768.false (sym c.if-not-is_plain.ensures) c.new-lexer.ensures.fields c.new-lexer.ensures.line c.next.ensures.value c.next.ensures.after c.next.ensures.line (ap Some (sym c.in-Some-S.field-0-test) ∙ sym c.in-Some-S.is ∙ c.kind.ensures) in
    rw told (assumption c)

pub returns-in-Some-R : goal.returns-in-Some-R
returns-in-Some-R c =
    let e = entered_by c.args.self.now c.args.register.now in
    let l = c.next.new.self in
    let told : line_entered c.args.line e c.args.bytes.now ≡ row_line (line_of l) e (to_read l) =
    line_by_kind _ e _ (Some 82) _ c.new-lexer.result l c.if-bytes-gt32768.false (sym c.if-not-is_plain.ensures) c.new-lexer.ensures.fields c.new-lexer.ensures.line c.next.ensures.value c.next.ensures.after c.next.ensures.line (ap Some (sym c.in-Some-R.field-0-test) ∙ sym c.in-Some-R.is ∙ c.kind.ensures) in
    rw told (assumption c)

pub returns-in-Some-G : goal.returns-in-Some-G
returns-in-Some-G c =
    let e = entered_by c.args.self.now c.args.register.now in
    let l = c.next.new.self in
    let told : line_entered c.args.line e c.args.bytes.now ≡ root_line (line_of l) e (to_read l) =
    line_by_kind _ e _ (Some 71) _ c.new-lexer.result l c.if-bytes-gt32768.false (sym c.if-not-is_plain.ensures) c.new-lexer.ensures.fields c.new-lexer.ensures.line c.next.ensures.value c.next.ensures.after c.next.ensures.line (ap Some (sym c.in-Some-G.field-0-test) ∙ sym c.in-Some-G.is ∙ c.kind.ensures) in
    rw told (assumption c)

pub returns-in-Some-L : goal.returns-in-Some-L
returns-in-Some-L c =
    let e = entered_by c.args.self.now c.args.register.now in
    let l = c.next.new.self in
    let told : line_entered c.args.line e c.args.bytes.now ≡ level_line (line_of l) e (to_read l) =
    line_by_kind _ e _ (Some 76) _ c.new-lexer.result l c.if-bytes-gt32768.false (sym c.if-not-is_plain.ensures) c.new-lexer.ensures.fields c.new-lexer.ensures.line c.next.ensures.value c.next.ensures.after c.next.ensures.line (ap Some (sym c.in-Some-L.field-0-test) ∙ sym c.in-Some-L.is ∙ c.kind.ensures) in
    rw told (assumption c)

pub returns-in-Some-B : goal.returns-in-Some-B
returns-in-Some-B c =
    let e = entered_by c.args.self.now c.args.register.now in
    let l = c.next.new.self in
    let told : line_entered c.args.line e c.args.bytes.now ≡ bar_line (line_of l) e (to_read l) =
    line_by_kind _ e _ (Some 66) _ c.new-lexer.result l c.if-bytes-gt32768.false (sym c.if-not-is_plain.ensures) c.new-lexer.ensures.fields c.new-lexer.ensures.line c.next.ensures.value c.next.ensures.after c.next.ensures.line (ap Some (sym c.in-Some-B.field-0-test) ∙ sym c.in-Some-B.is ∙ c.kind.ensures) in
    rw told (assumption c)

pub returns-in-Some-T : goal.returns-in-Some-T
returns-in-Some-T c =
    let e = entered_by c.args.self.now c.args.register.now in
    let l = c.next.new.self in
    let told : line_entered c.args.line e c.args.bytes.now ≡ ticket_line (line_of l) e (to_read l) =
    line_by_kind _ e _ (Some 84) _ c.new-lexer.result l c.if-bytes-gt32768.false (sym c.if-not-is_plain.ensures) c.new-lexer.ensures.fields c.new-lexer.ensures.line c.next.ensures.value c.next.ensures.after c.next.ensures.line (ap Some (sym c.in-Some-T.field-0-test) ∙ sym c.in-Some-T.is ∙ c.kind.ensures) in
    rw told (assumption c)

pub returns-in_default : goal.returns-in_default
returns-in_default c =
    let e = entered_by c.args.self.now c.args.register.now in
    let l = c.next.new.self in
    let told : line_entered c.args.line e c.args.bytes.now ≡ by_kind (line_of l) e c.kind.result (to_read l) =
    line_by_kind _ e _ _ _ c.new-lexer.result l c.if-bytes-gt32768.false (sym c.if-not-is_plain.ensures) c.new-lexer.ensures.fields c.new-lexer.ensures.line c.next.ensures.value c.next.ensures.after c.next.ensures.line c.kind.ensures in
    search rules
