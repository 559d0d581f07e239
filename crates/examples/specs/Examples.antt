-- Examples of the definitions, each computed from them.
use Rattle.std.specs.Prelude.{◌≡◌, ℕ, true, cond, ◌&&◌, List, [], ◌∷◌, ◌++◌, Some, None, Option, ◌==◌, ◌≢◌, nat_lt}
use Rattle.tickets.specs.Ticket.{Ticket, node, nil}
use Rattle.automata.specs.Automaton.{Meaning, Production}
use Rattle.automata.specs.Reading.{Accepts}
use Rattle.automata.specs.Measures.{yes_no, reading_count, count_of, fewest_points, points_of}
use Rattle.automata.specs.Worth.{worth}
use Rattle.product.specs.Product.{pair, product}
use Rattle.merge.specs.Merge.{Coarsest}
use Rattle.ledger.specs.Ledger.{Call, enter, add_form, add_state, add_row, strike_row, name_root, as_row, seal, ledger, book}

-- the form LIM of arity 0, a state with a LIM row of 1 point and one of 4 points, and that state as the root
abbrev pub two_rows : List Call
two_rows = enter (add_form 0) ∷ enter add_state ∷ enter (add_row 0 (as_row 0 1 [])) ∷ enter (add_row 0 (as_row 0 4 [])) ∷ enter (name_root 0) ∷ []

abbrev pub lim : Ticket
lim = node 0 nil

-- the book of both rows, and the book after a strike at place 0
abbrev pub both : Meaning
both = book (ledger (two_rows ++ seal ∷ []))

abbrev pub struck : Meaning
struck = book (ledger (two_rows ++ enter (strike_row 0 0) ∷ seal ∷ []))

-- one state, whose only row has itself as its child
abbrev pub endless : Meaning
endless = record { states = 1; places = 1; root = 0; row = λ s k. cond (s == 0 && k == 0) (Some (record { form = 0; points = 0; children = 0 ∷ [] })) None }

-- a row over state 2, twice at state 0 and once at state 1
abbrev pub over_two : Option Production
over_two = Some (record { form = 1; points = 0; children = 2 ∷ [] })

abbrev pub twice_and_once : Meaning
twice_and_once = record { states = 3; places = 2; root = 0; row = λ s k. cond (s == 0 && nat_lt k 2) over_two (cond (s == 1 && k == 0) over_two None) }

pub record Examples : Type 0 where
  -- 300 × 300 readings are cut
  pub readings_are_cut : (reading_count.times (count_of 300) (count_of 300)).count ≡ 65535
  -- 65,000 and 534 points make 65,534; 65,000 and 535 make none
  pub points_add_up : (fewest_points.times (points_of 65000) (points_of 534)).points ≡ 65534
  pub points_run_out : fewest_points.times (points_of 65000) (points_of 535) ≡ fewest_points.none
  -- two LIM rows of 1 and 4 points: yes, 2 readings, 1 point
  pub two_rows_accept : (worth yes_no both 0 lim).yes ≡ true
  pub two_rows_read_twice : (worth reading_count both 0 lim).count ≡ 2
  pub two_rows_cost_one : (worth fewest_points both 0 lim).points ≡ 1
  -- after a strike at place 0: 1 reading, 4 points
  pub struck_reads_once : (worth reading_count struck 0 lim).count ≡ 1
  pub struck_costs_four : (worth fewest_points struck 0 lim).points ≡ 4
  -- the pair (2, 3) with 5 states on the second side
  pub pair_is_thirteen : pair 5 2 3 ≡ 13
  -- the book of both rows times itself: 4 readings, 2 points
  pub product_reads_four : (worth reading_count (product both both) 0 lim).count ≡ 4
  pub product_costs_two : (worth fewest_points (product both both) 0 lim).points ≡ 2
  -- a state whose only row has itself as child accepts nothing
  pub endless_is_barren : (t : Ticket) → Accepts endless 0 t → ⊥
  -- a state with a row twice is not merged with one that has it once
  pub rows_are_counted : (rep : ℕ → ℕ) → Coarsest twice_and_once rep → rep 0 ≢ rep 1
