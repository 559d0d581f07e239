use Rattle.std.proofs.Common.{◌≡◌, ◌+◌, ◌<◌, ◌≤◌, [], map, length, get_or, vec_items, sym, refl, ap, ◌∙◌, arith}
use Rattle.std.proofs.lemmas.List.{get_or-map, length-map, drop_all}
use Rattle.std.proofs.lemmas.Result.{err_from_is_err_and}
use Rattle.register.specs.Held.{held_sealed}
use Rattle.verdicts.specs.Verdicts.{tickets_pass, tickets_text}
use Rattle.text.proofs.Lines.{ends}
use Rattle.verdicts.proofs.Read.{stops, pass_stops, pass_more, text_more}
use Rattle.verdicts.proofs.ticket_lines.put_tickets.Goals as goal

pub returns-in_err-put_ticket : goal.returns-in_err-put_ticket
returns-in_err-put_ticket c =
    let p = err_from_is_err_and c.from_residual.result c.from_residual.ensures.1 in
    let ts = c.args.tickets.now in
    let i = c.loop-i.i in
    let here : get_or (map vec_items ts) i [] ≡ c.deref.result.now = get_or-map vec_items ts i _ [] c.loop-i-test.true ∙ sym (ap vec_items c.index-tickets-i.is) ∙ sym c.deref.ensures.value in
    let lt : i < length (map vec_items ts) = omega (arith, c.loop-i-test.true, length-map ts vec_items) in
    rw (p.1, p.2) (stops _ _ _ (pass_stops (held_sealed c.args.sealed.now) (map vec_items ts) i _ lt here c.loop-i.invariant.0) c.in_err-put_ticket.ensures)

pub loop-i-preserved : goal.loop-i-preserved
loop-i-preserved c =
    let ts = c.args.tickets.now in
    let i = c.loop-i.i in
    let l = held_sealed c.args.sealed.now in
    let here : get_or (map vec_items ts) i [] ≡ c.deref.result.now = get_or-map vec_items ts i _ [] c.loop-i-test.true ∙ sym (ap vec_items c.index-tickets-i.is) ∙ sym c.deref.ensures.value in
    let lt : i < length (map vec_items ts) = omega (arith, c.loop-i-test.true, length-map ts vec_items) in
    let put = c.in_ok-put_ticket.ensures in
    (pass_more l (map vec_items ts) i _ lt here c.loop-i.invariant.0 put.0, text_more l (map vec_items ts) i _ lt here _ _ _ c.loop-i.invariant.1 put.1)

pub returns : goal.returns
returns c =
    let ts = c.args.tickets.now in
    let i = c.loop-i.i in
    let l = held_sealed c.args.sealed.now in
    let past : length (map vec_items ts) ≤ i = omega (arith, c.loop-i-test.false, length-map ts vec_items) in
    (c.loop-i.invariant.0 ∙ ap (tickets_pass l.arities) (drop_all i (map vec_items ts) past), ends (tickets_text l (i + 1)) _ _ (map vec_items ts) i refl past c.loop-i.invariant.1)
