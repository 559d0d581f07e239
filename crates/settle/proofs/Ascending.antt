-- Flagged numbers with one more, and what holds of every one of them.
use Rattle.std.proofs.Common.{◌≡◌, ℕ, zero, suc, ◌+◌, ◌≤◌, Bool, true, false, cond, ◌&&◌, List, [], ◌∷◌, ◌++◌, map, length, sym, refl, ap, ◌∙◌, append_assoc, append-nil, add-one, arith}
use mathlib.Core.Path.{fun_ext}
use mathlib.Core.List.{map-id}
use Rattle.std.specs.List.{filter, list_all, range_with_len}
use Rattle.std.proofs.Math.Bool.{and_assoc}
use Rattle.std.proofs.lemmas.List.{length-append}
use Rattle.std.proofs.lemmas.List.Elements.{filter-append}
use Rattle.std.proofs.lemmas.List.FromFn.{map-range_with_len_more}
use Rattle.automata.specs.Automaton.{Meaning}
use Rattle.automata.specs.Reading.{concat}
use Rattle.ledger.specs.Reach.{listed, reached}
use Rattle.ledger.specs.Ledger.{every}
use Rattle.history.proofs.Listed.{listed_yes, listed_no}

module _ (f : ℕ → Bool) (n : ℕ) where
  pub listed_add : f n ≡ true → listed f (n + 1) ≡ listed f n ++ n ∷ []
  listed_add e = ap (listed f) (add-one n) ∙ listed_yes f n e

  pub listed_skip : f n ≡ false → listed f (n + 1) ≡ listed f n
  listed_skip e = ap (listed f) (add-one n) ∙ listed_no f n e

  -- a count of the flagged numbers goes on
  abbrev pub Counted : ℕ → ℕ → Type 0
  Counted k m = (k ≡ length (listed f m)) × (k ≤ m)

  pub counted_add : (k k' : ℕ) → Counted k n → f n ≡ true → k' ≡ k + 1 → Counted k' (n + 1)
  counted_add k k' h e i = (omega (arith, ap length (listed_add e), length-append (listed f n) (n ∷ [])), omega arith)

  pub counted_skip : (k k' : ℕ) → Counted k n → f n ≡ false → k' ≡ k → Counted k' (n + 1)
  counted_skip k k' h e i = (omega (arith, ap length (listed_skip e)), omega arith)

-- the flagged numbers as a filter
pub listed_filter : (f : ℕ → Bool) (n : ℕ) → filter f (range_with_len 0 n) ≡ listed f n
listed_filter f zero = refl
listed_filter f (suc n) =
    ap (λ k. filter f (range_with_len 0 k)) (sym (add-one n)) ∙ ap (filter f) (upto_more n) ∙ filter-append f (range_with_len 0 n) (n ∷ []) ∙ ap (λ xs. xs ++ cond (f n) (n ∷ []) []) (listed_filter f n)
  where
    upto_more : (n : ℕ) → range_with_len 0 (n + 1) ≡ range_with_len 0 n ++ n ∷ []
    upto_more n = sym (map-id (range_with_len 0 (n + 1))) ∙ map-range_with_len_more (λ x. x) 0 n n (omega arith) ∙ ap (λ xs. xs ++ n ∷ []) (map-id (range_with_len 0 n))

pub every_all : {X : Type 0} (t : X → Bool) (xs : List X) → list_all t xs ≡ every t xs
every_all t [] = refl
every_all t (x ∷ xs) = ap (λ b. t x && b) (every_all t xs)

pub every_snoc : {X : Type 0} (t : X → Bool) (xs : List X) (x : X) → every t (xs ++ x ∷ []) ≡ every t xs && t x
every_snoc t [] x = go (t x)
  where
    go : (b : Bool) → b && true ≡ b
    go true = refl
    go false = refl
every_snoc t (y ∷ xs) x = ap (λ b. t y && b) (every_snoc t xs x) ∙ sym (and_assoc (t y) (every t xs) (t x))

pub concat_snoc : {X : Type 0} (g : ℕ → List X) (xs : List ℕ) (x : ℕ) → concat (map g (xs ++ x ∷ [])) ≡ concat (map g xs) ++ g x
concat_snoc g [] x = append-nil (g x)
concat_snoc g (y ∷ xs) x = ap (λ r. g y ++ r) (concat_snoc g xs x) ∙ sym (append_assoc (g y) (concat (map g xs)) (g x))

-- marks of the reached states list them
pub marks_listed : (m : Meaning) (f : ℕ → Bool) → ((s : ℕ) → f s ≡ reached m s) → (n : ℕ) → filter f (range_with_len 0 n) ≡ listed (reached m) n
marks_listed m f same n = listed_filter f n ∙ ap (λ g. listed g n) (fun_ext same)
