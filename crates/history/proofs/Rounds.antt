-- Rounds of a monotone step over n flags: after n rounds nothing changes.
use Rattle.std.proofs.Common.{◌≡◌, ℕ, zero, suc, ◌+◌, ◌<◌, ◌≤◌, Bool, true, false, ◌⊎◌, sym, refl, ap, ◌∙◌, inl, inr, ⊎_elim, arith}
use mathlib.Core.Path.{fun_ext}
use Rattle.std.proofs.lemmas.Bool.{true≢false, cases_eq, cases_lt}
use Rattle.ledger.specs.Reach.{rounds}

abbrev pub ◌⊆◌ : (ℕ → Bool) → (ℕ → Bool) → Type 0
◌⊆◌ f g = (s : ℕ) → f s ≡ true → g s ≡ true

infix 40 ◌⊆◌
abbrev one : Bool → ℕ
one true = 1
one false = 0

abbrev flagged : ℕ → (ℕ → Bool) → ℕ
flagged zero f = 0
flagged (suc n) f = one (f n) + flagged n f

one_le : (x : Bool) → one x ≤ 1
one_le true = omega arith
one_le false = omega arith

flagged_le : (n : ℕ) (f : ℕ → Bool) → flagged n f ≤ n
flagged_le zero f = omega arith
flagged_le (suc n) f = omega (arith, flagged_le n f, one_le (f n))

-- all n flags are set
full : (n : ℕ) (f : ℕ → Bool) → n ≤ flagged n f → (k : ℕ) → k < n → f k ≡ true
full zero f h k lt = absurd (omega arith)
full (suc n) f h k lt =
    ⊎_elim (λ e. ap f e ∙ set (f n) (omega (arith, flagged_le n f))) (λ ne. full n f (omega (arith, one_le (f n))) k (omega arith)) (cases_eq k n)
  where
    set : (x : Bool) → 0 < one x → x ≡ true
    set true l = refl
    set false l = absurd (omega arith)

-- two flags, the second set where the first is: equal, or one more
one_more : (x y : Bool) → (x ≡ true → y ≡ true) → ((y ≡ x) × (one x ≤ one y)) ⊎ (suc (one x) ≤ one y)
one_more true true h = inl (refl, omega arith)
one_more true false h = absurd (true≢false (sym (h refl)))
one_more false true h = inr (omega arith)
one_more false false h = inl (refl, omega arith)

flagged_mono : (n : ℕ) (f g : ℕ → Bool) → f ⊆ g → flagged n f ≤ flagged n g
flagged_mono zero f g h = omega arith
flagged_mono (suc n) f g h =
    let rest : flagged n f ≤ flagged n g = flagged_mono n f g h in
    ⊎_elim (λ e. omega (arith, e.1)) (λ l. omega arith) (one_more (f n) (g n) (h n))

grows : (n : ℕ) (f g : ℕ → Bool) → f ⊆ g → ((k : ℕ) → k < n → g k ≡ f k) ⊎ (flagged n f < flagged n g)
grows zero f g h = inl (λ k lt. absurd (omega arith))
grows (suc n) f g h =
    let le : flagged n f ≤ flagged n g = flagged_mono n f g h in
    ⊎_elim
    (λ e. ⊎_elim (λ same. inl (λ k lt. ⊎_elim (λ q. ap g q ∙ e.0 ∙ sym (ap f q)) (λ ne. same k (omega arith)) (cases_eq k n))) (λ more. inr (omega (arith, e.1))) (grows n f g h))
    (λ l. inr (omega arith))
    (one_more (f n) (g n) (h n))

module _ (step : (ℕ → Bool) → ℕ → Bool) (mono : (f g : ℕ → Bool) → f ⊆ g → step f ⊆ step g) where
  pub rounds_grow : (n : ℕ) → rounds step n ⊆ rounds step (suc n)
  rounds_grow zero s e = absurd (true≢false (sym e))
  rounds_grow (suc n) s e = mono (rounds step n) (rounds step (suc n)) (rounds_grow n) s e

  module _ (n : ℕ) (beyond : (f : ℕ → Bool) (s : ℕ) → n ≤ s → step f s ≡ false) where
    rounds_beyond : (i s : ℕ) → n ≤ s → rounds step i s ≡ false
    rounds_beyond zero s h = refl
    rounds_beyond (suc i) s h = beyond (rounds step i) s h

    abbrev Stable : ℕ → Type 0
    Stable i = (s : ℕ) → rounds step (suc i) s ≡ rounds step i s

    whole : (i : ℕ) → ((k : ℕ) → k < n → rounds step (suc i) k ≡ rounds step i k) → Stable i
    whole i e s = ⊎_elim (e s) (λ h. rounds_beyond (suc i) s h ∙ sym (rounds_beyond i s h)) (cases_lt s n)

    onwards : (i : ℕ) → Stable i → Stable (suc i)
    onwards i e s = ap (λ f. step f s) (fun_ext e)

    progress : (i : ℕ) → Stable i ⊎ (i ≤ flagged n (rounds step i))
    progress zero = inr (omega arith)
    progress (suc i) =
        ⊎_elim (λ e. inl (onwards i e))
        (λ l. ⊎_elim (λ same. inl (onwards i (whole i same))) (λ more. inr (omega arith)) (grows n (rounds step i) (rounds step (suc i)) (rounds_grow i)))
        (progress i)

    -- n rounds suffice
    pub rounds_stable : step (rounds step n) ⊆ rounds step n
    rounds_stable s e =
        let stable : Stable n = ⊎_elim (λ e. e) (λ l. whole n (λ k lt. let set = full n (rounds step n) l k lt in rounds_grow n k set ∙ sym set)) (progress n) in
        sym (stable s) ∙ e
