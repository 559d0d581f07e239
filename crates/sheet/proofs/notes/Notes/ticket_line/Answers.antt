use Rattle.std.proofs.Common.{◌≡◌, ℕ, false, leb, List, map, length, Err, vec_items, Vec, sym, ap, ◌∙◌, arith, rules}
use Rattle.std.proofs.lemmas.Bool.{lt-leb}
use Rattle.std.specs.declared.alloc.Global.{Global}
use Rattle.fields.specs.Names.{places_at}
use Rattle.fields.specs.Tokens.{to_read, line_of}
use Rattle.fields.proofs.Followed.{refuses}
use Rattle.tickets.specs.Check.{ticket_checked}
use Rattle.register.specs.Held.{held}
use Rattle.entries.specs.AtLine.{at_ticket}
use Rattle.sheet.specs.Lines.{ticket_line}
use Rattle.sheet.specs.Held.{entered_by}
use Rattle.sheet.proofs.Noted.{lists_long, ticket_refused}
use Rattle.sheet.proofs.notes.Notes.ticket_line.Goals as goal

pub returns-in_err-check_ticket : goal.returns-in_err-check_ticket
returns-in_err-check_ticket c =
    let e = entered_by c.args.self.now c.args.register.now in
    let l = line_of c.args.lexer in
    let ns = vec_items c.in_ok-nodes.nodes in
    let f = c.in_err-check_ticket.field-0.0 in
    let room : leb 64 (length (map vec_items (vec_items c.args.self.now.tickets))) ≡ false = lt-leb 64 _ (omega (arith, lists_long c.args.self.now.tickets vec_items, c.len.ensures)) in
    let low : at_ticket l (ticket_checked (held c.args.register.now).arities ns) ≡ Err f = ap (λ (xs : List ℕ). at_ticket l (ticket_checked (held c.args.register.now).arities xs)) (sym c.deref-2.ensures.value) ∙ ap (λ n. at_ticket n (ticket_checked (held c.args.register.now).arities c.deref-2.result.now)) (sym c.places.ensures.line ∙ sym c.line.ensures) ∙ sym c.in_err-check_ticket.ensures in
    let told : ticket_line l e (to_read c.args.lexer) ≡ Err f = ticket_refused l e (to_read c.args.lexer) ns f (ap (λ (xs : List (Vec ℕ Global)). places_at (map vec_items xs) l 2 (to_read c.args.lexer)) (sym c.deref.ensures.value) ∙ c.in_ok-nodes.ensures.value) room low in
    refuses _ _ _ c.from_residual-in_err-check_ticket.result f c.from_residual-in_err-check_ticket.ensures.1 told (search rules)
