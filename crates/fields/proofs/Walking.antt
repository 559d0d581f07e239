-- What one step along the bytes keeps, for each word of `specs/Parts` and `specs/Words`.
use Rattle.std.proofs.Common.{◌≡◌, ℕ, ◌+◌, ◌<◌, Bool, true, false, cond, not, eqb, ltb, List, [], ◌∷◌, length, get_or, take, drop, Some, None, sym, refl, ap, ◌∙◌, arith, ne_eqb}
use borrow.Author.Tests.{ltb-false}
use Rattle.std.specs.List.{position, position_or_len}
use Rattle.std.proofs.lemmas.Grind.{common_steps}
use Rattle.std.proofs.lemmas.List.{take_all}
use Rattle.fields.specs.Parts.{before, after}
use Rattle.fields.specs.Words.{onward, number_of}

pub no_leading : (xs : List ℕ) → 0 < length xs → (1 < length xs → get_or xs 0 0 ≡ 48 → ⊥) → number_of xs ≡ onward 0 xs
no_leading [] h n = absurd (omega arith)
no_leading (b ∷ []) h n = refl
no_leading (b ∷ c ∷ bs) h n = ap (λ t. cond t None (onward 0 (b ∷ c ∷ bs))) (ne_eqb b 48 (n (omega arith)))

before_is : (s : ℕ) (xs : List ℕ) → before s xs ≡ take (position_or_len (λ b. eqb b s) xs) xs
before_is s [] = refl
before_is s (b ∷ bs) = at (eqb b s) (before_is s bs)
  where
    at : (t : Bool) → before s bs ≡ take (position_or_len (λ b. eqb b s) bs) bs → cond t [] (b ∷ before s bs) ≡ take (cond (not t) (1 + position_or_len (λ b. eqb b s) bs) 0) (b ∷ bs)
    at true h = refl
    at false h = ap (λ l. b ∷ l) h ∙ grind (arith, common_steps)

after_is : (s : ℕ) (xs : List ℕ) → after s xs ≡ cond (ltb (position_or_len (λ b. eqb b s) xs) (length xs)) (Some (drop (position_or_len (λ b. eqb b s) xs + 1) xs)) None
after_is s [] = refl
after_is s (b ∷ bs) = at (eqb b s) (after_is s bs)
  where
    at : (t : Bool) → after s bs ≡ cond (ltb (position_or_len (λ b. eqb b s) bs) (length bs)) (Some (drop (position_or_len (λ b. eqb b s) bs + 1) bs)) None
        → cond t (Some bs) (after s bs) ≡ cond (ltb (cond (not t) (1 + position_or_len (λ b. eqb b s) bs) 0) (length (b ∷ bs))) (Some (drop (cond (not t) (1 + position_or_len (λ b. eqb b s) bs) 0 + 1) (b ∷ bs))) None
    at true h = grind arith
    at false h = h ∙ grind (arith, common_steps)

-- what stands before and after the mark, where `position` found it
pub cut_found : (s : ℕ) (xs : List ℕ) (i : ℕ) → Some i ≡ position (λ b. eqb b s) xs → (take i xs ≡ before s xs) × (Some (drop (i + 1) xs) ≡ after s xs)
cut_found s xs i e = at (ltb (position_or_len (λ b. eqb b s) xs) (length xs)) e (after_is s xs)
  where
    at : (t : Bool) → Some i ≡ cond t (Some (position_or_len (λ b. eqb b s) xs)) None → after s xs ≡ cond t (Some (drop (position_or_len (λ b. eqb b s) xs + 1) xs)) None → (take i xs ≡ before s xs) × (Some (drop (i + 1) xs) ≡ after s xs)
    at true e h = let same : i ≡ position_or_len (λ b. eqb b s) xs = cc in (ap (λ k. take k xs) same ∙ sym (before_is s xs), ap (λ k. Some (drop (k + 1) xs)) same ∙ sym h)
    at false e h = absurd (let z : ◌≡◌ {A = ℕ} 0 1 = cc in omega arith)

pub cut_whole : (s : ℕ) (xs : List ℕ) → None ≡ position (λ b. eqb b s) xs → (xs ≡ before s xs) × (None ≡ after s xs)
cut_whole s xs e = at (ltb (position_or_len (λ b. eqb b s) xs) (length xs)) refl e (after_is s xs)
  where
    at : (t : Bool) → ltb (position_or_len (λ b. eqb b s) xs) (length xs) ≡ t → None ≡ cond t (Some (position_or_len (λ b. eqb b s) xs)) None → after s xs ≡ cond t (Some (drop (position_or_len (λ b. eqb b s) xs + 1) xs)) None → (xs ≡ before s xs) × (None ≡ after s xs)
    at true l e h = absurd (let z : ◌≡◌ {A = ℕ} 0 1 = cc in omega arith)
    at false l e h = (sym (take_all _ xs (ltb-false _ _ l)) ∙ sym (before_is s xs), sym h)
