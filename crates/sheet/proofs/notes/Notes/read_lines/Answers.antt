use Rattle.std.proofs.Common.{ℕ, ◌+◌, List, length, ap, ◌∙◌, le-leb}
use Rattle.std.proofs.lemmas.Bool.{cond-true}
use Rattle.std.proofs.lemmas.Result.{err_from_is_err_and}
use Rattle.fields.specs.Parts.{lines}
use Rattle.sheet.specs.Lines.{lines_entered}
use Rattle.sheet.specs.Held.{entered_by}
use Rattle.sheet.proofs.InOrder.{read_stop}
use Rattle.sheet.proofs.notes.Notes.read_lines.Goals as goal

pub returns-in_err-line : goal.returns-in_err-line
returns-in_err-line c =
    let p = err_from_is_err_and c.from_residual.result c.from_residual.ensures.1 in
    rw (p.1, p.2) (read_stop (entered_by c.args.self.now c.args.register.now) (entered_by c.loop-bytes.self c.loop-bytes.register) _ c.args.sheet.now _ _ (lines c.loop-bytes.rest.now) (c.loop-bytes.line + 1) _
    c.if-sheet-gt32768.false c.loop-bytes.invariant.1 c.loop-bytes.invariant.2 c.in-Some.ensures.0 c.in_err-line.ensures)

pub returns : goal.returns
returns c =
    let fits = le-leb (length c.args.sheet.now) 32768 c.if-sheet-gt32768.false in
    cond-true _ _ _ fits ∙ c.loop-bytes.invariant.1 ∙ ap (λ (l : List ℕ). lines_entered (c.loop-bytes.line + 1) (entered_by c.loop-bytes.self c.loop-bytes.register) (lines l)) c.in_default.ensures
