-- Lists without repeats that have the same members have the same sum.
use Rattle.std.proofs.Common.{◌≡◌, ◌⊎◌, List, [], ◌∷◌, sym, refl, ap, ◌∙◌, subst, inl, inr, ⊎_elim}
use Rattle.automata.specs.Reading.{Member, Distinct}
use Rattle.automata.specs.Measure.{Ops, Laws}
use Rattle.automata.specs.Worth.{sum}

-- a list without one member
module _ {A : Type 0} (x : A) where
  out : (ys : List A) → Member x ys → List A
  out [] k = []
  out (y ∷ ys) (inl e) = ys
  out (y ∷ ys) (inr k) = y ∷ out ys k

  out_member : (ys : List A) (k : Member x ys) (z : A) → Member z (out ys k) → Member z ys
  unfolding out
  out_member [] k z m = absurd k
  out_member (y ∷ ys) (inl e) z m = inr m
  out_member (y ∷ ys) (inr k) z m = ⊎_elim inl (λ r. inr (out_member ys k z r)) m

  member_out : (ys : List A) (k : Member x ys) (z : A) → Member z ys → (z ≡ x) ⊎ Member z (out ys k)
  unfolding out
  member_out [] k z m = absurd k
  member_out (y ∷ ys) (inl e) z m = ⊎_elim (λ q. inl (q ∙ sym e)) inr m
  member_out (y ∷ ys) (inr k) z m = ⊎_elim (λ q. inr (inl q)) (λ r. ⊎_elim inl (λ s. inr (inr s)) (member_out ys k z r)) m

  out_distinct : (ys : List A) (k : Member x ys) → Distinct ys → Distinct (out ys k)
  unfolding out
  out_distinct [] k d = absurd k
  out_distinct (y ∷ ys) (inl e) d = d.1
  out_distinct (y ∷ ys) (inr k) d = (λ m. d.0 (out_member ys k y m), out_distinct ys k d.1)

  out_gone : (ys : List A) (k : Member x ys) → Distinct ys → Member x (out ys k) → ⊥
  unfolding out
  out_gone [] k d m = k
  out_gone (y ∷ ys) (inl e) d m = d.0 (subst (λ z. Member z ys) e m)
  out_gone (y ∷ ys) (inr k) d m = ⊎_elim (λ e. d.0 (subst (λ z. Member z ys) e k)) (out_gone ys k d.1) m

module _ {M : Type 0} {o : Ops M} (laws : Laws o) where
  out_sum : {A : Type 0} (f : A → M) (x : A) (ys : List A) (k : Member x ys) → sum o f ys ≡ o.plus (f x) (sum o f (out x ys k))
  unfolding out
  out_sum f x [] k = absurd k
  out_sum f x (y ∷ ys) (inl e) = ap (λ z. o.plus (f z) (sum o f ys)) (sym e)
  out_sum f x (y ∷ ys) (inr k) =
      ap (o.plus (f y)) (out_sum f x ys k) ∙ sym (laws.plus_assoc (f y) (f x) (sum o f (out x ys k))) ∙ ap (λ z. o.plus z (sum o f (out x ys k))) (laws.plus_comm (f y) (f x)) ∙ laws.plus_assoc (f x) (f y) (sum o f (out x ys k))

  pub same_sum : {A : Type 0} (f : A → M) (xs ys : List A) → Distinct xs → Distinct ys → ((z : A) → Member z xs → Member z ys) → ((z : A) → Member z ys → Member z xs) → sum o f xs ≡ sum o f ys
  same_sum f [] [] d e a b = refl
  same_sum f [] (y ∷ ys) d e a b = absurd (b y (inl refl))
  same_sum f (x ∷ xs) ys d e a b =
      let k = a x (inl refl) in
      ap (o.plus (f x))
      (same_sum f xs (out x ys k) d.1 (out_distinct x ys k e)
      (λ z m. ⊎_elim (λ q. absurd (d.0 (subst (λ w. Member w xs) q m))) (λ r. r) (member_out x ys k z (a z (inr m))))
      (λ z m. ⊎_elim (λ q. absurd (out_gone x ys k e (subst (λ w. Member w (out x ys k)) q m))) (λ r. r) (b z (out_member x ys k z m))))
      ∙ sym (out_sum f x ys k)
