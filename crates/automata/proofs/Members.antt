-- Members of lists, and lists without repeats.
use Rattle.std.proofs.Common.{◌≡◌, ℕ, zero, suc, ◌<◌, ◌⊎◌, List, [], ◌∷◌, ◌++◌, map, sym, refl, ap, subst, inl, inr, ⊎_elim, arith}
use Rattle.std.proofs.lemmas.Bool.{cases_eq}
use Rattle.automata.specs.Reading.{Member, Distinct, concat, upto}

module _ {A : Type 0} where
  pub member_cases : (z : A) (xs ys : List A) → Member z (xs ++ ys) → Member z xs ⊎ Member z ys
  member_cases z [] ys h = inr h
  member_cases z (x ∷ xs) ys h = ⊎_elim (λ e. inl (inl e)) (λ k. ⊎_elim (λ l. inl (inr l)) inr (member_cases z xs ys k)) h

  pub member_left : (z : A) (xs ys : List A) → Member z xs → Member z (xs ++ ys)
  member_left z [] ys h = absurd h
  member_left z (x ∷ xs) ys h = ⊎_elim inl (λ k. inr (member_left z xs ys k)) h

  pub member_right : (z : A) (xs ys : List A) → Member z ys → Member z (xs ++ ys)
  member_right z [] ys h = h
  member_right z (x ∷ xs) ys h = inr (member_right z xs ys h)

  pub distinct_append : (xs ys : List A) → Distinct xs → Distinct ys → ((z : A) → Member z xs → Member z ys → ⊥) → Distinct (xs ++ ys)
  distinct_append [] ys d d' apart = d'
  distinct_append (x ∷ xs) ys d d' apart =
      (λ h. ⊎_elim d.0 (apart x (inl refl)) (member_cases x xs ys h), distinct_append xs ys d.1 d' (λ z l r. apart z (inr l) r))

pub member_upto : (n k : ℕ) → k < n → Member k (upto n)
member_upto zero k lt = absurd (omega arith)
member_upto (suc n) k lt = ⊎_elim (λ e. member_right k (upto n) (n ∷ []) (inl e)) (λ ne. member_left k (upto n) (n ∷ []) (member_upto n k (omega arith))) (cases_eq k n)

pub upto_below : (n k : ℕ) → Member k (upto n) → k < n
upto_below zero k h = absurd h
upto_below (suc n) k h = ⊎_elim (λ l. let lt = upto_below n k l in omega arith) (λ r. ⊎_elim (λ (e : k ≡ n). omega arith) absurd r) (member_cases k (upto n) (n ∷ []) h)

pub distinct_upto : (n : ℕ) → Distinct (upto n)
distinct_upto zero = tt
distinct_upto (suc n) = distinct_append (upto n) (n ∷ []) (distinct_upto n) (absurd, tt) (λ z l r. ⊎_elim (λ (e : z ≡ n). let lt = upto_below n z l in omega arith) absurd r)

module _ {A B : Type 0} where
  pub member_map : (f : A → B) (x : A) (xs : List A) → Member x xs → Member (f x) (map f xs)
  member_map f x [] h = absurd h
  member_map f x (y ∷ ys) h = ⊎_elim (λ e. inl (ap f e)) (λ k. inr (member_map f x ys k)) h

  pub map_member : (f : A → B) (z : B) (xs : List A) → Member z (map f xs) → (x : A) × Member x xs × (z ≡ f x)
  map_member f z [] h = absurd h
  map_member f z (x ∷ xs) h = ⊎_elim (λ e. (x, inl refl, e)) (λ k. let r = map_member f z xs k in (r.0, inr r.1, r.2)) h

  pub distinct_map : (f : A → B) → ((x y : A) → f x ≡ f y → x ≡ y) → (xs : List A) → Distinct xs → Distinct (map f xs)
  distinct_map f inj [] d = tt
  distinct_map f inj (x ∷ xs) d =
      (λ h. let r = map_member f (f x) xs h in d.0 (subst (λ y. Member y xs) (sym (inj x r.0 r.2)) r.1), distinct_map f inj xs d.1)

  pub member_concat : (g : A → List B) (z : B) (k : A) (ks : List A) → Member k ks → Member z (g k) → Member z (concat (map g ks))
  member_concat g z k [] h h' = absurd h
  member_concat g z k (j ∷ js) h h' =
      ⊎_elim (λ e. member_left z (g j) (concat (map g js)) (subst (λ i. Member z (g i)) e h')) (λ l. member_right z (g j) (concat (map g js)) (member_concat g z k js l h')) h

  pub concat_member : (g : A → List B) (z : B) (ks : List A) → Member z (concat (map g ks)) → (k : A) × Member k ks × Member z (g k)
  concat_member g z [] h = absurd h
  concat_member g z (j ∷ js) h =
      ⊎_elim (λ l. (j, inl refl, l)) (λ r. let s = concat_member g z js r in (s.0, inr s.1, s.2)) (member_cases z (g j) (concat (map g js)) h)

  pub distinct_concat : (g : A → List B) → ((k : A) → Distinct (g k)) → ((j k : A) (z : B) → Member z (g j) → Member z (g k) → j ≡ k) → (ks : List A) → Distinct ks → Distinct (concat (map g ks))
  distinct_concat g each same [] d = tt
  distinct_concat g each same (j ∷ js) d =
      distinct_append (g j) (concat (map g js)) (each j) (distinct_concat g each same js d.1)
      (λ z l r. let s = concat_member g z js r in d.0 (subst (λ i. Member i js) (sym (same j s.0 z l s.2)) s.1))
