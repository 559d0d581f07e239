use Rattle.std.proofs.Common.{◌≡◌, true, length, ap, ◌∙◌, subst}
use Rattle.tickets.specs.Checked.{ticket_of}
use Rattle.automata.specs.Table.{FillsScratch, worth_answer}
use Rattle.ledger.specs.Ledger.{book}
use Rattle.ledger.specs.Layout.{laid_out}
use Rattle.history.proofs.Standing.{holds_standing}
use Rattle.history.proofs.StandingSums.{sums_standing, answers_standing}
use Rattle.register.proofs.sealed.Sealed.worth.Goals as goal

pub returns : goal.returns
returns g c =
    let v = c.args.self.now in
    let l = laid_out v.rows.now v.table true in
    let o = g.M.Measure.ops in
    let laws = g.met.M.Measure.lawful in
    let t = ticket_of c.args.ticket.now in
    let was = c.args.scratch.now in
    let is = c.worth.new.scratch in
    let r = c.worth.result in
    let e = c.book-book.ensures.meaning in
    let answers : r ≡ worth_answer o (book l) t c.args.start (length was) = c.worth.ensures.answers ∙ ap (λ m. worth_answer o m t c.args.start (length was)) e in
    record {
      answers = answers;
      fills = subst (λ m. FillsScratch o m t r was is) e c.worth.ensures.fills;
      value = answers_standing laws l t c.args.start (length was) r answers;
      sums = sums_standing laws l;
      stands = holds_standing l;
    }
