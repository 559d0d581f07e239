use Rattle.std.proofs.Common.{refl}
use Rattle.examples.specs.Examples.{Examples}
use Rattle.ledger.specs.Ledger.{step, accepted}
use Rattle.automata.specs.Lawful.{same_points}
use Rattle.examples.proofs.Barren.{endless_is_barren}
use Rattle.examples.proofs.Counted.{rows_are_counted}
use Rattle.examples.proofs.examples.Goals as goal

examples : Examples
unfolding step accepted
examples = record {
  readings_are_cut = refl;
  points_add_up = refl;
  points_run_out = same_points _ _ refl;
  two_rows_accept = refl;
  two_rows_read_twice = refl;
  two_rows_cost_one = refl;
  struck_reads_once = refl;
  struck_costs_four = refl;
  pair_is_thirteen = refl;
  product_reads_four = refl;
  product_costs_two = refl;
  endless_is_barren = endless_is_barren;
  rows_are_counted = rows_are_counted;
}

pub returns : goal.returns
returns c = record { hold = examples; count = refl }
