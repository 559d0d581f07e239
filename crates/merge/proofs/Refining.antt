-- The loop of rounds.
use Rattle.std.proofs.Common.{◌≡◌, ℕ, ◌-◌, ◌<◌, ◌≤◌, List, map, length, replicate, Vec, sym, ap, ◌∙◌, ⊎_elim, arith}
use Rattle.std.specs.declared.alloc.Global.{Global}
use Rattle.std.proofs.lemmas.List.{ext_get_or, get_or-replicate, get_or_past, length-replicate}
use Rattle.std.proofs.lemmas.Bool.{cases_lt}
use Rattle.automata.specs.declared.row.Row.{Row}
use Rattle.automata.specs.Automaton.{Meaning, Production, Sound}
use Rattle.automata.specs.Rows.{renamed, rows_of}
use Rattle.merge.specs.Merge.{at, tally, Coarsest}
use Rattle.layers.specs.Rows.{table_rows, TableTo}
use Rattle.merge.specs.Refine.{Round, groups, Refined}
use Rattle.merge.proofs.Merging.{Reached, reached_start, reached_round, reached_end, round_stops, groups_le_all}

-- a round over rows that are the same below n
round_same : (n : ℕ) (R R' : ℕ → List Production) → ((q : ℕ) → q < n → R q ≡ R' q) → (g g' : ℕ → ℕ) → Round n R g g' → Round n R' g g'
round_same n R R' e g g' round p l =
    let h = round p l in
    let side : (q : ℕ) → q < n → (s : Production) → tally s (map (renamed g) (R q)) ≡ tally s (map (renamed g) (R' q)) = λ q k s. ap (λ z. tally s (map (renamed g) z)) (e q k) in
    let lr : g' p < n = omega (arith, h.below) in
    record {
      below = h.below;
      group = h.group;
      like = λ s. sym (side (g' p) lr s) ∙ h.like s ∙ side p l s;
      least = λ c k i like. h.least c k i (λ s. side c (omega arith) s ∙ like s ∙ sym (side p l s));
    }

module _ (m : Meaning) (vs : List (Vec Row Global)) (table : TableTo m vs m.states) (gs xs : List ℕ) (made : Refined vs gs xs) where
  pub round_table : Round m.states (rows_of m) (at gs) (at xs)
  round_table = round_same m.states (table_rows vs) (rows_of m) table.holds (at gs) (at xs) (λ p l. made.round p (omega (arith, table.long)))

  pub step : Sound m → Reached m (at gs) → Reached m (at xs)
  step sound r = reached_round m sound (at gs) (at xs) round_table r

  pub done : Reached m (at gs) → xs ≡ gs → Coarsest m (at gs)
  done r e = reached_end m (at gs) (at xs) round_table r (λ p l. ap (λ z. at z p) e)

  pub more_groups : length gs ≡ m.states → Reached m (at gs) → (xs ≡ gs → ⊥) → groups (at gs) m.states < groups (at xs) m.states
  more_groups long r ne = ⊎_elim (λ l. l) (λ few. absurd (ne (ext_get_or 0 xs gs (omega (arith, made.long, table.long)) (λ p l. round_stops m.states (rows_of m) (at gs) (at xs) round_table r.named few p (omega (arith, made.long, table.long)))))) (cases_lt (groups (at gs) m.states) (groups (at xs) m.states))

  pub falls : length gs ≡ m.states → Reached m (at gs) → (xs ≡ gs → ⊥) → m.states - groups (at xs) m.states < m.states - groups (at gs) m.states
  falls long r ne = omega (arith, more_groups long r ne, groups_le_all (at xs) m.states)

zeros_at : (n p : ℕ) → at (replicate n 0) p ≡ 0
zeros_at n p = ⊎_elim (λ l. get_or-replicate n p 0 0 l) (λ l. get_or_past (replicate n 0) p 0 (omega (arith, length-replicate {A = ℕ} n 0))) (cases_lt p n)

pub reached_zeros : (m : Meaning) (gs : List ℕ) (n : ℕ) → gs ≡ replicate n 0 → Reached m (at gs)
reached_zeros m gs n e = reached_start m (at gs) (λ p. ap (λ z. at z p) e ∙ zeros_at n p)

pub low : (m : Meaning) (xs : List ℕ) → Coarsest m (at xs) → length xs ≡ m.states → (p : ℕ) → at xs p ≤ p
low m xs h long p = ⊎_elim (λ l. (h.named p l).0) (λ l. omega (arith, get_or_past xs p 0 (omega arith))) (cases_lt p m.states)
