-- What each line of a sheet enters, and a whole sheet.
use Rattle.std.specs.Prelude.{◌≡◌, ℕ, ◌+◌, cond, List, [], ◌∷◌, ◌++◌, length, Some, None, Ok, Err, Option, Result, ◌==◌, nat_le}
use Rattle.std.specs.List.{list_all}
use Rattle.refusals.specs.declared.refusal.SheetRefusal.TheVariants.{Long, Byte, Kind, Many}
use Rattle.tickets.specs.Check.{ticket_checked}
use Rattle.rules.specs.Bar.{bar_checked}
use Rattle.ledger.specs.Ledger.{add_form, add_state, add_row, name_root, as_row}
use Rattle.fields.specs.declared.fault.Fault.{Fault}
use Rattle.fields.specs.declared.fault.Stop.{Stop}
use Rattle.fields.specs.declared.fault.Stop.TheVariants.{Refused, Memory}
use Rattle.fields.specs.Fault.{of_field, bind}
use Rattle.fields.specs.Parts.{fields, lines}
use Rattle.fields.specs.Words.{plain, number_of}
use Rattle.fields.specs.Tokens.{head, others}
use Rattle.fields.specs.Names.{count_at, new_at, known_at, number_at, places_at}
use Rattle.entries.specs.AtLine.{entering, at_bar, at_ticket}
use Rattle.sheet.specs.Entered.{Entered, with_form, with_state, with_ledger, with_level, with_bar, with_ticket}

-- F: name, arity
abbrev pub form_line : ℕ → Entered → List (List ℕ) → Result Entered Fault
form_line l e fs =
    bind (count_at l 2 2 fs) (λ _.
    bind (new_at e.forms l 2 (head fs)) (λ n.
    bind (number_at l 3 (number_of (head (others fs)))) (λ a.
    bind (entering l e.ledger (add_form a)) (λ g.
    Ok (with_form e n g)))))

-- S: name
abbrev pub state_line : ℕ → Entered → List (List ℕ) → Result Entered Fault
state_line l e fs =
    bind (count_at l 1 1 fs) (λ _.
    bind (new_at e.states l 2 (head fs)) (λ n.
    bind (entering l e.ledger add_state) (λ g.
    Ok (with_state e n g))))

-- R: state, form, points, 0 to 4 children
abbrev pub row_line : ℕ → Entered → List (List ℕ) → Result Entered Fault
row_line l e fs =
    bind (count_at l 3 7 fs) (λ _.
    bind (known_at e.states l 2 (head fs)) (λ q.
    bind (known_at e.forms l 3 (head (others fs))) (λ p.
    bind (number_at l 4 (number_of (head (others (others fs))))) (λ n.
    bind (places_at e.states l 5 (others (others (others fs)))) (λ cs.
    bind (entering l e.ledger (add_row q (as_row p n cs))) (λ g.
    Ok (with_ledger e g)))))))

-- G: root state
abbrev pub root_line : ℕ → Entered → List (List ℕ) → Result Entered Fault
root_line l e fs =
    bind (count_at l 1 1 fs) (λ _.
    bind (known_at e.states l 2 (head fs)) (λ q.
    bind (entering l e.ledger (name_root q)) (λ g.
    Ok (with_ledger e g))))

-- L: form, level
abbrev pub level_line : ℕ → Entered → List (List ℕ) → Result Entered Fault
level_line l e fs =
    bind (count_at l 2 2 fs) (λ _.
    bind (known_at e.forms l 2 (head fs)) (λ p.
    bind (number_at l 3 (number_of (head (others fs)))) (λ n.
    Ok (with_level e p n))))

-- B: outer, position, inner; at most eight
abbrev pub bar_line : ℕ → Entered → List (List ℕ) → Result Entered Fault
bar_line l e fs =
    bind (count_at l 3 3 fs) (λ _.
    bind (known_at e.forms l 2 (head fs)) (λ outer.
    bind (number_at l 3 (number_of (head (others fs)))) (λ position.
    bind (known_at e.forms l 4 (head (others (others fs)))) (λ inner.
    cond (nat_le 8 (length e.bars)) (Err (of_field Many l 1))
    (bind (at_bar l (bar_checked e.ledger.arities outer position inner)) (λ _.
    Ok (with_bar e (record { outer = outer; position = position; inner = inner }))))))))

-- T: any number of forms, a ticket in postfix order; at most 64
abbrev pub ticket_line : ℕ → Entered → List (List ℕ) → Result Entered Fault
ticket_line l e fs =
    bind (places_at e.forms l 2 fs) (λ ns.
    cond (nat_le 64 (length e.tickets)) (Err (of_field Many l 1))
    (bind (at_ticket l (ticket_checked e.ledger.arities ns)) (λ _.
    Ok (with_ticket e ns))))

-- the record kind: a field of one byte
abbrev pub letter : List ℕ → Option ℕ
letter [] = None
letter (b ∷ []) = Some b
letter (b ∷ c ∷ bs) = None

-- F is 70, S 83, R 82, G 71, L 76, B 66 and T 84
abbrev pub by_kind : ℕ → Entered → Option ℕ → List (List ℕ) → Result Entered Fault
by_kind l e None fs = Err (of_field Kind l 1)
by_kind l e (Some k) fs =
    cond (k == 70) (form_line l e fs)
    (cond (k == 83) (state_line l e fs)
    (cond (k == 82) (row_line l e fs)
    (cond (k == 71) (root_line l e fs)
    (cond (k == 76) (level_line l e fs)
    (cond (k == 66) (bar_line l e fs)
    (cond (k == 84) (ticket_line l e fs)
    (Err (of_field Kind l 1))))))))

-- what line l enters: its bytes are checked, then its kind, then its fields; a line longer than a sheet is refused as the sheet is
abbrev pub line_entered : ℕ → Entered → List ℕ → Result Entered Fault
line_entered l e bs =
    cond (nat_le (length bs) 32768)
    (cond (list_all plain bs) (by_kind l e (letter (head (fields bs))) (others (fields bs))) (Err (of_field Byte l 1)))
    (Err (of_field Long 0 0))

-- what the lines enter in order, the first of which is line l: the first fault ends it
abbrev pub lines_entered : ℕ → Entered → List (List ℕ) → Result Entered Fault
lines_entered l e [] = Ok e
lines_entered l e (b ∷ bs) = bind (line_entered l e b) (λ i. lines_entered (l + 1) i bs)

-- what is entered where the lines end, or before the one that is refused
abbrev pub kept_by : Result Entered Fault → Entered → (Entered → Entered) → Entered
kept_by (Ok i) e more = more i
kept_by (Err f) e more = e

abbrev pub lines_left : ℕ → Entered → List (List ℕ) → Entered
lines_left l e [] = e
lines_left l e (b ∷ bs) = kept_by (line_entered l e b) e (λ i. lines_left (l + 1) i bs)

-- a sheet of at most 32,768 bytes, read after what is entered already
abbrev pub sheet_entered : Entered → List ℕ → Result Entered Fault
sheet_entered e bs = cond (nat_le (length bs) 32768) (lines_entered 1 e (lines bs)) (Err (of_field Long 0 0))

abbrev pub sheet_left : Entered → List ℕ → Entered
sheet_left e bs = cond (nat_le (length bs) 32768) (lines_left 1 e (lines bs)) e

-- the call that reads a sheet: all its lines are entered in order, or it ends with the first refused line's fault and leaves the entries of those before it; where memory is wanting, some lines may have entered
abbrev pub ReadsSheet : Entered → List ℕ → Result (Unit {0}) Stop → Entered → Type 0
ReadsSheet e bs (Ok _) is = sheet_entered e bs ≡ Ok is
ReadsSheet e bs (Err (Refused f)) is = (sheet_entered e bs ≡ Err f) × (is ≡ sheet_left e bs)
ReadsSheet e bs (Err Memory) is = Unit {0}

-- a sheet is refused for its first refused line, where all lines before it entered
abbrev pub FirstFault : Type 0
FirstFault = (l : ℕ) (e : Entered) (ls : List (List ℕ)) (f : Fault) → lines_entered l e ls ≡ Err f →
    (xs : List (List ℕ)) × (b : List ℕ) × (bs : List (List ℕ)) × (i : Entered)
    × (ls ≡ xs ++ b ∷ bs) × (lines_entered l e xs ≡ Ok i) × (line_entered (l + length xs) i b ≡ Err f)

-- lines in two parts: the second goes on from what the first entered
abbrev pub EnteredInOrder : Type 0
EnteredInOrder = (l : ℕ) (e : Entered) (xs bs : List (List ℕ)) → lines_entered l e (xs ++ bs) ≡ bind (lines_entered l e xs) (λ i. lines_entered (l + length xs) i bs)
