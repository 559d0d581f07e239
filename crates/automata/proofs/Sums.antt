-- Sums in a lawful measure.
use Rattle.std.proofs.Common.{◌≡◌, ℕ, zero, suc, ◌+◌, ◌*◌, ◌/◌, ◌%◌, ◌<◌, List, [], ◌∷◌, ◌++◌, map, sym, refl, ap, ◌∙◌, ap₂, append_assoc, append-nil, add-zero, add-suc, suc-mul, zero-mul, arith}
use mathlib.Core.Path.{fun_ext}
use mathlib.Core.List.{map-append}
use Rattle.std.proofs.lemmas.Nat.{div-mul-add, mod-mul-add}
use Rattle.automata.specs.Measure.{Ops, Laws}
use Rattle.automata.specs.Reading.{upto, concat}
use Rattle.automata.specs.Worth.{sum}

pub upto_add : (a n : ℕ) → upto (a + n) ≡ upto a ++ map (λ j. a + j) (upto n)
upto_add a zero = ap upto (add-zero a) ∙ sym (append-nil (upto a))
upto_add a (suc n) =
    ap upto (add-suc a n) ∙ ap (λ xs. xs ++ ((a + n) ∷ [])) (upto_add a n)
    ∙ append_assoc (upto a) (map (λ j. a + j) (upto n)) ((a + n) ∷ [])
    ∙ ap (λ xs. upto a ++ xs) (sym (map-append (λ j. a + j) (upto n) (n ∷ [])))

module _ {M : Type 0} {o : Ops M} (laws : Laws o) where
  pub plus_none_right : (x : M) → o.plus x o.none ≡ x
  plus_none_right x = laws.plus_comm x o.none ∙ laws.plus_none x

  pub times_none_right : (x : M) → o.times x o.none ≡ o.none
  times_none_right x = laws.times_comm x o.none ∙ laws.times_none x

  -- (w + x) + (y + z) is (w + y) + (x + z)
  pub plus_middle : (w x y z : M) → o.plus (o.plus w x) (o.plus y z) ≡ o.plus (o.plus w y) (o.plus x z)
  plus_middle w x y z =
      laws.plus_assoc w x (o.plus y z) ∙ ap (o.plus w) (sym (laws.plus_assoc x y z) ∙ ap (λ u. o.plus u z) (laws.plus_comm x y) ∙ laws.plus_assoc y x z) ∙ sym (laws.plus_assoc w y (o.plus x z))

  pub times_middle : (w x y z : M) → o.times (o.times w x) (o.times y z) ≡ o.times (o.times w y) (o.times x z)
  times_middle w x y z =
      laws.times_assoc w x (o.times y z) ∙ ap (o.times w) (sym (laws.times_assoc x y z) ∙ ap (λ u. o.times u z) (laws.times_comm x y) ∙ laws.times_assoc y x z) ∙ sym (laws.times_assoc w y (o.times x z))

  pub sum_cong : {A : Type 0} {f g : A → M} → ((a : A) → f a ≡ g a) → (xs : List A) → sum o f xs ≡ sum o g xs
  sum_cong e xs = ap (λ h. sum o h xs) (fun_ext e)

  pub sum_map : {A B : Type 0} (f : B → M) (g : A → B) (xs : List A) → sum o f (map g xs) ≡ sum o (λ a. f (g a)) xs
  sum_map f g [] = refl
  sum_map f g (x ∷ xs) = ap (o.plus (f (g x))) (sum_map f g xs)

  pub sum_append : {A : Type 0} (f : A → M) (xs ys : List A) → sum o f (xs ++ ys) ≡ o.plus (sum o f xs) (sum o f ys)
  sum_append f [] ys = sym (laws.plus_none (sum o f ys))
  sum_append f (x ∷ xs) ys = ap (o.plus (f x)) (sum_append f xs ys) ∙ sym (laws.plus_assoc (f x) (sum o f xs) (sum o f ys))

  pub sum_none : {A : Type 0} (xs : List A) → sum o (λ a. o.none) xs ≡ o.none
  sum_none [] = refl
  sum_none (x ∷ xs) = laws.plus_none (sum o (λ a. o.none) xs) ∙ sum_none xs

  pub sum_plus : {A : Type 0} (f g : A → M) (xs : List A) → sum o (λ a. o.plus (f a) (g a)) xs ≡ o.plus (sum o f xs) (sum o g xs)
  sum_plus f g [] = sym (laws.plus_none o.none)
  sum_plus f g (x ∷ xs) = ap (o.plus (o.plus (f x) (g x))) (sum_plus f g xs) ∙ plus_middle (f x) (g x) (sum o f xs) (sum o g xs)

  -- distributivity
  pub sum_times : {A : Type 0} (x : M) (f : A → M) (xs : List A) → o.times x (sum o f xs) ≡ sum o (λ a. o.times x (f a)) xs
  sum_times x f [] = times_none_right x
  sum_times x f (a ∷ xs) = laws.times_plus x (f a) (sum o f xs) ∙ ap (o.plus (o.times x (f a))) (sum_times x f xs)

  pub sum_concat : {A B : Type 0} (f : B → M) (g : A → List B) (xs : List A) → sum o f (concat (map g xs)) ≡ sum o (λ a. sum o f (g a)) xs
  sum_concat f g [] = refl
  sum_concat f g (x ∷ xs) = sum_append f (g x) (concat (map g xs)) ∙ ap (o.plus (sum o f (g x))) (sum_concat f g xs)

  -- the product of two sums
  pub sum_product : {A B : Type 0} (f : A → M) (g : B → M) (xs : List A) (ys : List B) → o.times (sum o f xs) (sum o g ys) ≡ sum o (λ a. sum o (λ b. o.times (f a) (g b)) ys) xs
  sum_product f g xs ys =
      laws.times_comm (sum o f xs) (sum o g ys) ∙ sum_times (sum o g ys) f xs
      ∙ sum_cong (λ a. laws.times_comm (sum o g ys) (f a) ∙ sum_times (f a) g ys) xs

  pub sum_swap : {A B : Type 0} (h : A → B → M) (xs : List A) (ys : List B) → sum o (λ a. sum o (h a) ys) xs ≡ sum o (λ b. sum o (λ a. h a b) xs) ys
  sum_swap h [] ys = sym (sum_none ys)
  sum_swap h (x ∷ xs) ys = ap (o.plus (sum o (h x) ys)) (sum_swap h xs ys) ∙ sym (sum_plus (h x) (λ b. sum o (λ a. h a b) xs) ys)

  pub sum_below : (n : ℕ) (f g : ℕ → M) → ((k : ℕ) → k < n → f k ≡ g k) → sum o f (upto n) ≡ sum o g (upto n)
  sum_below zero f g e = refl
  sum_below (suc n) f g e =
      sum_append f (upto n) (n ∷ []) ∙ ap₂ o.plus (sum_below n f g (λ k h. e k (omega arith))) (ap (λ x. o.plus x o.none) (e n (omega arith)))
      ∙ sym (sum_append g (upto n) (n ∷ []))

  -- a sum over the places of a grid with rows of n
  pub sum_grid : (m n : ℕ) (h : ℕ → ℕ → M) → sum o (λ k. h (k / n) (k % n)) (upto (m * n)) ≡ sum o (λ i. sum o (h i) (upto n)) (upto m)
  sum_grid zero n h = ap (λ k. sum o (λ k. h (k / n) (k % n)) (upto k)) (zero-mul n)
  sum_grid (suc m) n h =
      let f : ℕ → M = λ k. h (k / n) (k % n) in
      let last : sum o f (map (λ j. m * n + j) (upto n)) ≡ sum o (h m) (upto n) =
      sum_map f (λ j. m * n + j) (upto n) ∙ sum_below n (λ j. f (m * n + j)) (h m) (λ j lt. ap₂ h (div-mul-add m n j lt) (mod-mul-add m n j lt)) in
      ap (sum o f) (ap upto (suc-mul m n) ∙ upto_add (m * n) n)
      ∙ sum_append f (upto (m * n)) (map (λ j. m * n + j) (upto n))
      ∙ ap₂ o.plus (sum_grid m n h) (last ∙ sym (plus_none_right (sum o (h m) (upto n))))
      ∙ sym (sum_append (λ i. sum o (h i) (upto n)) (upto m) (m ∷ []))
