-- What the `map` of an array gives, by a closure that computes a function.
use Rattle.std.proofs.Common.{◌≡◌, ℕ, zero, suc, ◌+◌, ◌<◌, ◌≤◌, List, map, length, get_or, sym, ap, ◌∙◌, subst, ⊎_elim, arith}
use denote.Param.Members.{Mut}
use Rattle.std.specs.Array.{MapsFrom, IsMapOf}
use Rattle.std.specs.Fn.{Called}
use Rattle.std.proofs.lemmas.List.{get_or-map, length-map, same_lists}
use Rattle.std.proofs.lemmas.Bool.{cases_eq}

module _ {F : Type 0} (g : Mut F (ℕ × Unit {0}) ℕ) (h : ℕ → ℕ) (f : F) (k : (x r : ℕ) (q : F) → Called g f (x, tt) r q → (q ≡ f) × (r ≡ h x)) where
  maps_at : (p : F) → p ≡ f → (xs ys : List ℕ) (i n : ℕ) → MapsFrom g p xs ys i n → (j d : ℕ) → i ≤ j → j < i + n → get_or ys j d ≡ h (get_or xs j 0)
  maps_at p same xs ys i zero m j d low high = absurd (omega arith)
  maps_at p same xs ys i (suc n) m j d low high =
      let c = k m.1 m.2 m.0 (subst (λ z. Called g z (m.1, tt) m.2 m.0) same m.5) in
      ⊎_elim
      (λ (is : j ≡ i). ap (λ z. get_or ys z d) is ∙ m.4.1 d ∙ c.1 ∙ ap h (sym (m.3.1 0)) ∙ ap (λ z. h (get_or xs z 0)) (sym is))
      (λ ne. maps_at m.0 c.0 xs ys (i + 1) n m.6 j d (omega arith) (omega arith)) (cases_eq j i)

  pub mapped : (xs ys : List ℕ) (n : ℕ) → length xs ≡ n → IsMapOf g f xs ys n → ys ≡ map h xs
  mapped xs ys n e m =
      let long : length ys ≡ length xs = m.long ∙ sym e in
      same_lists ys (map h xs) (long ∙ sym (length-map xs h)) (λ j d l. maps_at f (λ i. f) xs ys 0 n m.each j d (omega arith) (omega (arith, l, m.long)) ∙ sym (get_or-map h xs j 0 d (omega (arith, l, long))))
