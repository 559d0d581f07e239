-- Merging keeps the worth.
use Rattle.std.proofs.Common.{◌≡◌, ℕ, zero, suc, ◌<◌, true, cond, ◌&&◌, eqb, ltb, List, [], ◌∷◌, ◌++◌, map, Some, None, Option, sym, refl, ap, ◌∙◌, subst, ap₂, arith}
use mathlib.Core.Path.{fun_ext}
use lib.ListN.{length-map}
use Rattle.std.specs.Option.{option_map, option_to_list}
use Rattle.std.proofs.lemmas.List.{map-append}
use Rattle.std.proofs.lemmas.Bool.{ltb-true, lt-ltb, and_parts}
use Rattle.tickets.specs.Ticket.{Ticket, Tickets, node, nil, cons, count}
use Rattle.automata.specs.Automaton.{Meaning, Production, Sound, Closed, all_below}
use Rattle.automata.specs.Reading.{readings, row_readings, readings_all, upto, concat}
use Rattle.automata.specs.Measure.{Ops, Laws}
use Rattle.automata.specs.Worth.{sum, worth, reading_worth, row_worth, children_worth}
use Rattle.automata.specs.Rows.{renamed, rows_below, rows_of}
use Rattle.merge.specs.Merge.{tally, Respects, Named, merged, MergePreserves}
use Rattle.merge.proofs.Tally.{sums, same_sums}
use Rattle.automata.proofs.Sums.{sum_map}
use Rattle.automata.proofs.RowLists.{all_rows, sum_all, worth_by_list}

rows_merged : (m : Meaning) (rep : ℕ → ℕ) (q : ℕ) → rep q < m.states → rep (rep q) ≡ rep q → (n : ℕ) → rows_below (merged m rep) (rep q) n ≡ map (renamed rep) (rows_below m (rep q) n)
rows_merged m rep q l own zero = refl
rows_merged m rep q l own (suc n) =
    ap₂ ◌++◌ (rows_merged m rep q l own n)
    (ap (λ b. option_to_list (cond b (option_map (renamed rep) (m.row (rep (rep q)) n)) None)) (lt-ltb (rep q) m.states l)
    ∙ ap (λ r. option_to_list (option_map (renamed rep) (m.row r n))) own
    ∙ one (m.row (rep q) n))
    ∙ sym (map-append (renamed rep) (rows_below m (rep q) n) (option_to_list (m.row (rep q) n)))
  where
    one : (r : Option Production) → option_to_list (option_map (renamed rep) r) ≡ map (renamed rep) (option_to_list r)
    one None = refl
    one (Some p) = refl

-- a state shows its representative's rows
same_readings : (m : Meaning) (rep : ℕ → ℕ) (q : ℕ) → q < m.states → rep (rep q) ≡ rep q → rep q < m.states → (t : Ticket) → readings t (merged m rep) q ≡ readings t (merged m rep) (rep q)
same_readings m rep q l own lr (node f ts) =
    let shown : (k : ℕ) → (merged m rep).row q k ≡ (merged m rep).row (rep q) k =
    λ k. ap₂ (λ b r. cond b (option_map (renamed rep) (m.row r k)) None) (lt-ltb q m.states l ∙ sym (lt-ltb (rep q) m.states lr)) (sym own) in
    ap (λ g. concat (map g (upto m.places))) (fun_ext (λ k. ap (row_readings k f ts (readings_all ts (merged m rep))) (shown k)))

module _ {M : Type 0} {o : Ops M} (laws : Laws o) where
  sums_sum : (f : Production → M) (xs : List Production) → sums o.plus o.none f xs ≡ sum o f xs
  sums_sum f [] = refl
  sums_sum f (x ∷ xs) = ap (o.plus (f x)) (sums_sum f xs)

  same_rows : (m : Meaning) (rep : ℕ → ℕ) (q : ℕ) → q < m.states → rep (rep q) ≡ rep q → rep q < m.states → (t : Ticket) → worth o (merged m rep) q t ≡ worth o (merged m rep) (rep q) t
  same_rows m rep q l own lr t = ap (sum o (reading_worth o)) (same_readings m rep q l own lr t)

  -- lists with each row equally often have equal sums
  tally_sum : (f : Production → M) (xs ys : List Production) → ((s : Production) → tally s xs ≡ tally s ys) → sum o f xs ≡ sum o f ys
  tally_sum f xs ys h = sym (sums_sum f xs) ∙ same_sums o.plus o.none laws.plus_assoc laws.plus_comm f xs ys h ∙ sums_sum f ys

  module _ (m : Meaning) (sound : Sound m) (rep : ℕ → ℕ) (named : Named m.states rep) (respects : Respects m rep) where
    abbrev Children : Tickets → Type 0
    Children ts = (cs : List ℕ) → all_below m.states cs ≡ true → children_worth o (merged m rep) ts (map rep cs) ≡ children_worth o m ts cs

    abbrev Below : Production → Type 0
    Below p = all_below m.states p.children ≡ true

    row_same : (f : ℕ) (ts : Tickets) → Children ts → (p : Production) → Below p → row_worth o (merged m rep) f ts (Some (renamed rep p)) ≡ row_worth o m f ts (Some p)
    row_same f ts ih p b = ap₂ (λ n w. cond (eqb p.form f && eqb n (count ts)) (o.times (o.value p.points) w) o.none) (length-map p.children rep) (ih p.children b)

    node_same : (f : ℕ) (ts : Tickets) → Children ts → (q : ℕ) → q < m.states → worth o (merged m rep) (rep q) (node f ts) ≡ worth o m q (node f ts)
    node_same f ts ih q l =
        let h = named q l in
        let lr : rep q < m.states = omega (arith, h.0) in
        let F : Production → M = λ p. row_worth o (merged m rep) f ts (Some p) in
        worth_by_list laws (merged m rep) (rep q) f ts
        ∙ ap (sum o F) (rows_merged m rep q lr h.1 m.places)
        ∙ tally_sum F (map (renamed rep) (rows_of m (rep q))) (map (renamed rep) (rows_of m q)) (respects (rep q) q lr l h.1)
        ∙ sum_map laws F (renamed rep) (rows_of m q)
        ∙ sum_all laws Below (λ p. F (renamed rep p)) (λ p. row_worth o m f ts (Some p)) (row_same f ts ih) (rows_of m q) (all_rows Below m q (λ k p e. subst (Closed m.states) e (sound.closed q k)) m.places)
        ∙ sym (worth_by_list laws m q f ts)

    mutual
      merged_worth : (t : Ticket) (q : ℕ) → q < m.states → worth o (merged m rep) (rep q) t ≡ worth o m q t
      merged_worth (node f ts) q l = node_same f ts (merged_all ts) q l

      merged_all : (ts : Tickets) → Children ts
      merged_all nil [] b = refl
      merged_all nil (c ∷ cs) b = refl
      merged_all (cons t ts) [] b = refl
      merged_all (cons t ts) (c ∷ cs) b =
          let k = and_parts (ltb c m.states) (all_below m.states cs) b in
          ap₂ o.times (merged_worth t c (ltb-true c m.states k.0)) (merged_all ts cs k.1)

  pub merge_preserves : MergePreserves o
  merge_preserves = record {
    from_state = λ m sound rep h t q l. same_rows m rep q l (h.named q l).1 (omega (arith, (h.named q l).0)) t ∙ merged_worth m sound rep h.named h.respects t q l;
    from_root = λ m sound rep h t. merged_worth m sound rep h.named h.respects t m.root sound.rooted;
  }
