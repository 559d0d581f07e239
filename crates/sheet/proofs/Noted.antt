-- What the notes hold, and how a line is read by its kind.
use Rattle.std.proofs.Common.{◌≡◌, ℕ, ◌≤◌, true, false, leb, List, map, length, Ok, Err, vec_items, vec_len, Option, Vec, sym, ap, ◌∙◌}
use Rattle.std.specs.List.{list_all}
use Rattle.tickets.specs.Check.{ticket_checked}
use Rattle.fields.specs.Tokens.{others}
use Rattle.fields.specs.declared.fault.Fault.{Fault}
use Rattle.std.proofs.lemmas.List.{length-map}
use Rattle.std.specs.declared.alloc.Global.{Global}
use Rattle.std.proofs.lemmas.Bool.{cond-true, cond-false, le-leb}
use Rattle.fields.specs.Names.{places_at}
use Rattle.fields.proofs.Followed.{past, stopped}
use Rattle.sheet.specs.Entered.{Entered}
use Rattle.fields.specs.Parts.{fields}
use Rattle.fields.specs.Words.{plain}
use Rattle.fields.specs.Tokens.{Word, first, head, spelled, to_read, line_of}
use Rattle.fields.proofs.Followed.{spelled_first}
use Rattle.fields.specs.declared.lexer.Lexer.{Lexer}
use Rattle.entries.specs.AtLine.{at_ticket}
use Rattle.sheet.specs.Lines.{ticket_line, letter, by_kind, line_entered}

-- how many there are, as the list of what they say
pub lists_long : {X Y : Type 0} (v : Vec X Global) (f : X → Y) → length (map f (vec_items v)) ≡ vec_len v
lists_long v f = length-map (vec_items v) f ∙ sym v.ok.0

-- a ticket line that its ticket's check refuses
pub ticket_refused : (l : ℕ) (e : Entered) (fs : List (List ℕ)) (ns : List ℕ) (f : Fault) → places_at e.forms l 2 fs ≡ Ok ns → leb 64 (length e.tickets) ≡ false → at_ticket l (ticket_checked e.ledger.arities ns) ≡ Err f → ticket_line l e fs ≡ Err f
ticket_refused l e fs ns f places room low =
    past (places_at e.forms l 2 fs) _ ns places ∙ cond-false _ _ _ room ∙ stopped (at_ticket l (ticket_checked e.ledger.arities ns)) _ f low

-- a line of an allowed length and allowed bytes is read by its kind, the first word that its lexer gives
pub line_by_kind : (l : ℕ) (e : Entered) (bs : List ℕ) (k : Option ℕ) (w : Word) (made left : Lexer) → length bs ≤ 32768 → list_all plain bs ≡ true → to_read made ≡ fields bs → line_of made ≡ l
    → w ≡ first (to_read made) → to_read left ≡ others (to_read made) → line_of left ≡ line_of made → k ≡ letter (spelled w) → line_entered l e bs ≡ by_kind (line_of left) e k (to_read left)
line_by_kind l e bs k w made left short allowed all at word rest same kind =
    let told : k ≡ letter (head (fields bs)) = kind ∙ ap (λ x. letter (spelled x)) (word ∙ ap first all) ∙ ap letter (spelled_first (fields bs)) in
    cond-true _ _ _ (le-leb (length bs) 32768 short) ∙ cond-true _ _ _ allowed ∙ (λ i. by_kind (sym (same ∙ at) i) e (sym told i) (sym (rest ∙ ap others all) i))
