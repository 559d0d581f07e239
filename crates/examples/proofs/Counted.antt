-- A state with a row twice is not merged with one that has it once.
use Rattle.std.proofs.Common.{◌≡◌, ℕ, ◌+◌, true, cond, ◌&&◌, eqb, List, [], ◌∷◌, sym, refl, ap, ◌∙◌, ap₂, arith}
use Rattle.std.proofs.lemmas.Bool.{eq-eqb, and_from}
use Rattle.automata.specs.Automaton.{Production}
use Rattle.automata.specs.Rows.{renamed}
use Rattle.merge.specs.Merge.{Coarsest, same, tally}
use Rattle.examples.specs.Examples.{twice_and_once}

pub rows_are_counted : (rep : ℕ → ℕ) → Coarsest twice_and_once rep → rep 0 ≡ rep 1 → ⊥
rows_are_counted rep c e =
    let row : Production = record { form = 1; points = 0; children = rep 2 ∷ [] } in
    let alike : same row row ≡ true = and_from _ _ (eq-eqb (rep 2) (rep 2) refl) refl in
    let equal : cond (same row row) 1 0 + (cond (same row row) 1 0 + 0) ≡ cond (same row row) 1 0 + 0 = c.respects 0 1 (omega arith) (omega arith) e row in
    let counted : ◌≡◌ {A = ℕ} 2 1 = sym (ap (λ b. cond b 1 0 + (cond b 1 0 + 0)) alike) ∙ equal ∙ ap (λ b. cond b 1 0 + 0) alike in
    omega arith
