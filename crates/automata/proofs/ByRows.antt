-- The worth of a node, row by row.
use Rattle.std.proofs.Common.{◌≡◌, ℕ, Bool, true, false, cond, List, [], ◌∷◌, map, Some, None, Option, sym, refl, ap, ◌∙◌, ap₂}
use Rattle.tickets.specs.Ticket.{Tickets, nil, cons}
use Rattle.automata.specs.Automaton.{Meaning, Production}
use Rattle.automata.specs.Reading.{Reading, Readings, by, rcons, readings, readings_all, row_readings, combine, fits, upto}
use Rattle.automata.specs.Measure.{Ops, Laws}
use Rattle.automata.specs.Worth.{sum, worth, reading_worth, readings_worth, children_worth, row_worth, WorthByRows}
use Rattle.automata.proofs.Sums.{plus_none_right, sum_cong, sum_map, sum_append, sum_times, sum_concat}

module _ {M : Type 0} {o : Ops M} (laws : Laws o) where
  combine_worth : (rs : List Reading) (all : List Readings) → sum o (readings_worth o) (combine rs all) ≡ o.times (sum o (reading_worth o) rs) (sum o (readings_worth o) all)
  combine_worth [] all = sym (laws.times_none (sum o (readings_worth o) all))
  combine_worth (r ∷ rs) all =
      let W = reading_worth o in
      let V = readings_worth o in
      sum_append laws V (map (rcons r) all) (combine rs all)
      ∙ ap₂ o.plus (sum_map laws V (rcons r) all ∙ sym (sum_times laws (W r) V all)) (combine_worth rs all)
      ∙ ap₂ o.plus (laws.times_comm (W r) (sum o V all)) (laws.times_comm (sum o W rs) (sum o V all))
      ∙ sym (laws.times_plus (sum o V all) (W r) (sum o W rs))
      ∙ laws.times_comm (sum o V all) (o.plus (W r) (sum o W rs))

  pub children_sum : (m : Meaning) (ts : Tickets) (cs : List ℕ) → sum o (readings_worth o) (readings_all ts m cs) ≡ children_worth o m ts cs
  children_sum m nil [] = plus_none_right laws o.unit
  children_sum m nil (c ∷ cs) = refl
  children_sum m (cons t ts) [] = refl
  children_sum m (cons t ts) (c ∷ cs) = combine_worth (readings t m c) (readings_all ts m cs) ∙ ap (o.times (worth o m c t)) (children_sum m ts cs)

  fit_sum : (m : Meaning) (k : ℕ) (p : Production) (ts : Tickets) (b : Bool)
      → sum o (reading_worth o) (cond b (map (by k p) (readings_all ts m p.children)) []) ≡ cond b (o.times (o.value p.points) (children_worth o m ts p.children)) o.none
  fit_sum m k p ts true =
      sum_map laws (reading_worth o) (by k p) (readings_all ts m p.children)
      ∙ sym (sum_times laws (o.value p.points) (readings_worth o) (readings_all ts m p.children))
      ∙ ap (o.times (o.value p.points)) (children_sum m ts p.children)
  fit_sum m k p ts false = refl

  row_sum : (m : Meaning) (k f : ℕ) (ts : Tickets) (r : Option Production) → sum o (reading_worth o) (row_readings k f ts (readings_all ts m) r) ≡ row_worth o m f ts r
  row_sum m k f ts None = refl
  row_sum m k f ts (Some p) = fit_sum m k p ts (fits p f ts)

  pub worth_by_rows : WorthByRows o
  worth_by_rows m q f ts =
      sum_concat laws (reading_worth o) (λ k. row_readings k f ts (readings_all ts m) (m.row q k)) (upto m.places)
      ∙ sum_cong laws (λ k. row_sum m k f ts (m.row q k)) (upto m.places)
