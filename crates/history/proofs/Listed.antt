-- Flagged numbers in ascending order.
use Rattle.std.proofs.Common.{◌≡◌, ℕ, zero, suc, ◌<◌, ◌≤◌, Bool, true, false, cond, List, [], ◌∷◌, ◌++◌, length, get_or, sym, refl, ap, ◌∙◌, subst, ⊎_elim, append-nil, arith}
use Rattle.std.specs.List.{AllByRecursion}
use Rattle.std.proofs.lemmas.List.{length-append, get_or_append_left, get_or_at}
use Rattle.std.proofs.lemmas.Bool.{cases_eq, cases_lt}
use Rattle.automata.proofs.RowLists.{all_append}
use Rattle.ledger.specs.Reach.{listed}

module _ (f : ℕ → Bool) where
  pub listed_yes : (n : ℕ) → f n ≡ true → listed f (suc n) ≡ listed f n ++ n ∷ []
  listed_yes n e = ap (λ b. listed f n ++ cond b (n ∷ []) []) e

  pub listed_no : (n : ℕ) → f n ≡ false → listed f (suc n) ≡ listed f n
  listed_no n e = ap (λ b. listed f n ++ cond b (n ∷ []) []) e ∙ append-nil (listed f n)

  grows : (n : ℕ) → length (listed f n) ≤ length (listed f (suc n))
  grows n = omega (arith, length-append (listed f n) (cond (f n) (n ∷ []) []))

  pub listed_mono : (a b : ℕ) → a ≤ b → length (listed f a) ≤ length (listed f b)
  listed_mono a zero h = let e : a ≡ 0 = omega arith in subst (λ x. length (listed f x) ≤ 0) (sym e) (omega arith)
  listed_mono a (suc b) h = ⊎_elim (λ (e : a ≡ suc b). subst (λ x. length (listed f a) ≤ length (listed f x)) e (omega arith)) (λ ne. let l = listed_mono a b (omega arith) in omega (arith, grows b)) (cases_eq a (suc b))

  -- a flagged number comes before the end
  pub listed_before : (s n : ℕ) → s < n → f s ≡ true → length (listed f s) < length (listed f n)
  listed_before s n lt e = omega (arith, listed_mono (suc s) n lt, ap length (listed_yes s e), length-append (listed f s) (s ∷ []))

  -- the numbers before it say where it stands
  pub listed_at : (s n : ℕ) → s < n → f s ≡ true → get_or (listed f n) (length (listed f s)) 0 ≡ s
  listed_at s zero lt e = absurd (omega arith)
  listed_at s (suc n) lt e =
      ⊎_elim
      (λ (q : s ≡ n). subst (λ x. get_or (listed f (suc n)) (length (listed f x)) 0 ≡ x) (sym q)
      (ap (λ xs. get_or xs (length (listed f n)) 0) (listed_yes n (subst (λ x. f x ≡ true) q e)) ∙ get_d_last (listed f n) n))
      (λ ne. get_or_append_left (listed f n) (cond (f n) (n ∷ []) []) 0 (length (listed f s)) (listed_before s n (omega arith) e) ∙ listed_at s n (omega arith) e)
      (cases_eq s n)
    where
      get_d_last : (xs : List ℕ) (x : ℕ) → get_or (xs ++ x ∷ []) (length xs) 0 ≡ x
      get_d_last [] x = refl
      get_d_last (y ∷ ys) x = get_d_last ys x

  pub all_listed : (n : ℕ) → AllByRecursion (λ s. f s ≡ true) (listed f n)
  all_listed zero = tt
  all_listed (suc n) = all_append (λ s. f s ≡ true) (listed f n) (cond (f n) (n ∷ []) []) (all_listed n) (go (f n) refl)
    where
      go : (b : Bool) → f n ≡ b → AllByRecursion (λ s. f s ≡ true) (cond b (n ∷ []) [])
      go true e = (e, tt)
      go false e = tt

  -- the number at a place has as many before it
  pub listed_number : (n i : ℕ) → i < length (listed f n) → length (listed f (get_or (listed f n) i 0)) ≡ i
  listed_number zero i lt = absurd (omega arith)
  listed_number (suc n) i lt =
      ⊎_elim
      (λ here. ap (λ x. length (listed f x)) (get_or_append_left (listed f n) (cond (f n) (n ∷ []) []) 0 i here) ∙ listed_number n i here)
      (λ past. go (f n) refl past)
      (cases_lt i (length (listed f n)))
    where
      go : (b : Bool) → f n ≡ b → length (listed f n) ≤ i → length (listed f (get_or (listed f (suc n)) i 0)) ≡ i
      go true e past =
          let last : i ≡ length (listed f n) = omega (arith, ap length (listed_yes n e), length-append (listed f n) (n ∷ [])) in
          ap (λ x. length (listed f x)) (ap (λ xs. get_or xs i 0) (listed_yes n e) ∙ get_or_at (listed f n) n [] 0 i (sym last)) ∙ sym last
      go false e past = absurd (omega (arith, ap length (listed_no n e)))
