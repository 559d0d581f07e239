-- How many rows there are, of a state and of a list of states.
use Rattle.std.proofs.Common.{◌≡◌, ℕ, zero, suc, ◌+◌, ◌-◌, ◌*◌, ◌<◌, ◌≤◌, ◌^◌, ◌≢◌, Bool, true, false, cond, List, [], ◌∷◌, ◌++◌, length, min, Some, None, Option, sym, refl, ap, ◌∙◌, ⊎_elim, append-nil, arith}
use Rattle.std.specs.List.{sum_by}
use Rattle.std.specs.Option.{option_to_list}
use Rattle.std.proofs.lemmas.List.{length-append}
use Rattle.std.proofs.lemmas.Bool.{cases_eq, true≢false}
use Rattle.std.proofs.lemmas.List.Sums.{sum_by-cons}
use Rattle.automata.specs.Automaton.{Meaning, Production, Sound}
use Rattle.automata.specs.Rows.{rows_below, rows_of}
use Rattle.ledger.specs.Reach.{listed, reached, reached_states}
use Rattle.settle.specs.Sizes.{row_total}
use Rattle.settle.proofs.Fitting.{rows_add, rows_skip}

one_or_none : (x : Option Production) → length (option_to_list x) ≤ 1
one_or_none None = omega arith
one_or_none (Some p) = omega arith

-- a state has at most as many rows as places
pub rows_few : (m : Meaning) (s n : ℕ) → length (rows_below m s n) ≤ n
rows_few m s zero = omega arith
rows_few m s (suc n) = omega (arith, length-append (rows_below m s n) (option_to_list (m.row s n)), rows_few m s n, one_or_none (m.row s n))

module _ (m : Meaning) (s k : ℕ) where
  abbrev pub Rowed : ℕ → ℕ → Type 0
  Rowed n j = (n ≡ length (rows_below m s j)) × (n ≤ j)

  pub rowed_add : (n n' : ℕ) (p : Production) → Rowed n k → m.row s k ≡ Some p → n' ≡ n + 1 → Rowed n' (k + 1)
  rowed_add n n' p h e i = (omega (arith, ap length (rows_add m s k p e), length-append (rows_below m s k) (p ∷ [])), omega arith)

  pub rowed_skip : (n n' : ℕ) → Rowed n k → m.row s k ≡ None → n' ≡ n → Rowed n' (k + 1)
  rowed_skip n n' h e i = (omega (arith, ap length (rows_skip m s k e)), omega arith)

total_append : (m : Meaning) (xs ys : List ℕ) → row_total m (xs ++ ys) ≡ row_total m xs + row_total m ys
total_append m [] ys = omega arith
total_append m (x ∷ xs) ys = omega (arith, total_append m xs ys)

-- flags that agree below a number list the same
pub listed_same : (f g : ℕ → Bool) (n : ℕ) → ((s : ℕ) → s < n → f s ≡ g s) → listed f n ≡ listed g n
listed_same f g zero h = refl
listed_same f g (suc n) h = ap (λ b. listed f n ++ cond b (n ∷ []) []) (h n (omega arith)) ∙ ap (λ xs. xs ++ cond (g n) (n ∷ []) []) (listed_same f g n (λ s l. h s (omega arith)))

none_total : (m : Meaning) (f : ℕ → Bool) (n : ℕ) → ((s : ℕ) → f s ≡ false) → row_total m (listed f n) ≡ 0
none_total m f zero h = refl
none_total m f (suc n) h = ap (λ b. row_total m (listed f n ++ cond b (n ∷ []) [])) (h n) ∙ ap (row_total m) (append-nil (listed f n)) ∙ none_total m f n h

-- a state more among the flagged ones has its rows more
total_more : (m : Meaning) (f f' : ℕ → Bool) (s n : ℕ) → f s ≡ false → f' s ≡ true → ((t : ℕ) → t ≢ s → f' t ≡ f t) → s < n → row_total m (listed f' n) ≡ row_total m (listed f n) + length (rows_of m s)
total_more m f f' s zero off on others l = absurd (omega arith)
total_more m f f' s (suc n) off on others l = ⊎_elim here (λ ne. there ne (total_more m f f' s n off on others (omega arith))) (cases_eq n s)
  where
    here : n ≡ s → row_total m (listed f' (suc n)) ≡ row_total m (listed f (suc n)) + length (rows_of m s)
    here e =
        let a : row_total m (listed f' (suc n)) ≡ row_total m (listed f n) + length (rows_of m n) =
        ap (λ b. row_total m (listed f' n ++ cond b (n ∷ []) [])) (ap f' e ∙ on) ∙ total_append m (listed f' n) (n ∷ []) ∙ ap (λ xs. row_total m xs + row_total m (n ∷ [])) (listed_same f' f n (λ t k. others t (λ q. omega arith))) ∙ omega arith in
        let b : row_total m (listed f (suc n)) ≡ row_total m (listed f n) = ap (λ b. row_total m (listed f n ++ cond b (n ∷ []) [])) (ap f e ∙ off) ∙ ap (row_total m) (append-nil (listed f n)) in
        omega (arith, a, b, ap (λ z. length (rows_of m z)) e)

    there : n ≢ s → row_total m (listed f' n) ≡ row_total m (listed f n) + length (rows_of m s) → row_total m (listed f' (suc n)) ≡ row_total m (listed f (suc n)) + length (rows_of m s)
    there ne below =
        omega (
          arith,
          ap (λ b. row_total m (listed f' n ++ cond b (n ∷ []) [])) (others n ne),
          total_append m (listed f' n) (cond (f n) (n ∷ []) []),
          total_append m (listed f n) (cond (f n) (n ∷ []) []),
          below,
        )

pub total_sum : (m : Meaning) (xs : List ℕ) → sum_by (λ s. length (rows_of m s)) xs ≡ row_total m xs
total_sum m [] = refl
total_sum m (x ∷ xs) = sum_by-cons (λ s. length (rows_of m s)) x xs ∙ ap (λ n. length (rows_of m x) + n) (total_sum m xs)

listed_few : (f : ℕ → Bool) (n : ℕ) → length (listed f n) ≤ n
listed_few f zero = omega arith
listed_few f (suc n) = omega (arith, length-append (listed f n) (cond (f n) (n ∷ []) []), listed_few f n, bit (f n))
  where
    bit : (b : Bool) → length (cond b (n ∷ []) []) ≤ 1
    bit true = omega arith
    bit false = omega arith

total_le : (m : Meaning) → m.places ≤ 65536 → (xs : List ℕ) → row_total m xs ≤ 65536 * length xs
total_le m h [] = omega arith
total_le m h (x ∷ xs) = omega (arith, total_le m h xs, rows_few m x m.places)

-- the total fits a machine's number
pub total_fits : (m : Meaning) → Sound m → (f : ℕ → Bool) → row_total m (listed f m.states) < 2 ^ 64
total_fits m sm f = let a = total_le m sm.few_places (listed f m.states) in let b = listed_few f m.states in omega (arith, a, b, sm.few_states)

-- what is known of a count while some marked states have been asked
module _ (m : Meaning) (sm : Sound m) where
  abbrev pub Tallied : (ℕ → Bool) → (ℕ → Bool) → ℕ → Type 0
  Tallied marks asked n = (n ≡ row_total m (listed asked m.states)) × ((s : ℕ) → asked s ≡ true → marks s ≡ true)

  pub tally_start : (marks asked : ℕ → Bool) → ((s : ℕ) → asked s ≡ false) → Tallied marks asked 0
  tally_start marks asked h = (sym (none_total m asked m.states h), λ s e. absurd (true≢false (sym e ∙ h s)))

  pub tally_more : (marks marks' asked asked' : ℕ → Bool) (s n k n' : ℕ) → Tallied marks asked n → s < m.states → marks s ≡ true → asked s ≡ false → asked' s ≡ true → ((t : ℕ) → t ≢ s → asked' t ≡ asked t)
      → ((t : ℕ) → marks t ≡ true → marks' t ≡ true) → k ≡ length (rows_of m s) → n' ≡ min (n + k) (2 ^ 64 - 1) → Tallied marks' asked' n'
  tally_more marks marks' asked asked' s n k n' h l here off on others keeps e i = (
    omega (arith, h.0, e, i, total_more m asked asked' s m.states off on others l, total_fits m sm asked'),
    λ t x. ⊎_elim (λ (q : t ≡ s). keeps t (ap marks q ∙ here)) (λ ne. keeps t (h.1 t (sym (others t ne) ∙ x))) (cases_eq t s),
  )

  -- every marked state has been asked, and the marks are the reached states: the count is that of their rows
  pub tally_whole : (marks asked : ℕ → Bool) (n : ℕ) → Tallied marks asked n → ((s : ℕ) → s < m.states → marks s ≡ true → asked s ≡ true) → ((s : ℕ) → marks s ≡ reached m s) → n ≡ row_total m (reached_states m)
  tally_whole marks asked n h done exact = h.0 ∙ ap (row_total m) (listed_same asked (reached m) m.states (λ s l. both (asked s) (marks s) (h.1 s) (done s l) ∙ exact s))
    where
      both : (a b : Bool) → (a ≡ true → b ≡ true) → (b ≡ true → a ≡ true) → a ≡ b
      both true true f g = refl
      both true false f g = sym (f refl)
      both false true f g = g refl
      both false false f g = refl
