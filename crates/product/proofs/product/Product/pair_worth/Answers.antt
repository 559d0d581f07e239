use Rattle.std.proofs.Common.{length, sym, refl, ◌∙◌}
use Rattle.std.proofs.lemmas.Bool.{true≢false}
use Rattle.tickets.specs.Checked.{ticket_of}
use Rattle.product.specs.Product.{sized}
use Rattle.product.proofs.Products.{product_multiplies}
use Rattle.product.proofs.PairWorth.{pair_refused, pair_answered}
use Rattle.product.proofs.product.Product.pair_worth.Goals as goal

pub returns-then-first-states : goal.returns-then-first-states
returns-then-first-states g c =
    let a = g.A.Automaton.meaning c.args.self.now.first in
    let b = g.B.Automaton.meaning c.args.self.now.second in
    record {
      answers = sym (pair_refused g.M.Measure.ops (sized c.args.self.now.sizes a b) a b (ticket_of c.args.ticket.now) c.args.first c.args.second (length c.args.scratch.now) c.states.result c.states-width.result c.states.ensures c.states-width.ensures c.then-first-states.either);
      fills = record { cells = λ e. absurd (true≢false (sym e)); beyond = λ e. absurd (true≢false (sym e)); same = λ _. refl };
      multiplies = product_multiplies g.met.M.Measure.lawful;
    }

pub returns : goal.returns
returns g c =
    let a = g.A.Automaton.meaning c.args.self.now.first in
    let b = g.B.Automaton.meaning c.args.self.now.second in
    record {
      answers = c.worth.ensures.answers ∙ sym (pair_answered g.M.Measure.ops (sized c.args.self.now.sizes a b) a b (ticket_of c.args.ticket.now) c.args.first c.args.second (length c.args.scratch.now) c.states.result c.states-width.result c.states.ensures c.states-width.ensures c.if-first-states.false c.if-second-width.false);
      fills = c.worth.ensures.fills;
      multiplies = product_multiplies g.met.M.Measure.lawful;
    }
