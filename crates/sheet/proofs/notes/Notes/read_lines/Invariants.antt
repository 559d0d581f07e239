use Rattle.std.proofs.Common.{◌≡◌, ◌+◌, ◌≤◌, length}
use Rattle.fields.specs.Parts.{lines}
use Rattle.sheet.specs.Lines.{lines_entered, lines_left}
use Rattle.sheet.specs.Held.{entered_by}
use Rattle.sheet.proofs.notes.Notes.read_lines.Given as goal

abbrev pub invariant-loop-bytes : goal.invariant-loop-bytes
invariant-loop-bytes l =
    (l.line + length l.rest ≤ 32768)
    × (lines_entered 1 (entered_by l.initial.self l.initial.register) (lines l.sheet) ≡ lines_entered (l.line + 1) (entered_by l.self l.register) (lines l.rest))
    × (lines_left 1 (entered_by l.initial.self l.initial.register) (lines l.sheet) ≡ lines_left (l.line + 1) (entered_by l.self l.register) (lines l.rest))

abbrev pub decreases-loop-bytes : goal.decreases-loop-bytes
decreases-loop-bytes l = length l.rest
