-- What the library's `position` and `try_fold` answer, in the words of `specs/`.
use Rattle.std.proofs.Common.{◌≡◌, ℕ, ◌+◌, ◌-◌, ◌*◌, Bool, true, false, cond, ◌&&◌, leb, List, [], ◌∷◌, Some, None, MatchOption, Option, sym, refl, ap, ◌∙◌, subst, Bor, Break, ControlFlow}
use denote.Param.Members.{Mut}
use Rattle.std.specs.Fn.{Called}
use Rattle.std.specs.Char.{is_ascii_digit}
use Rattle.std.specs.List.{FoldsTo}
use Rattle.std.specs.Iterator.{Yields, AlwaysYields, TryFoldTurn, TryFoldsItems}
use Rattle.std.specs.ControlFlow.{continue_value}
use Rattle.std.proofs.lemmas.Iterator.{YieldsList}
use Rattle.fields.specs.Words.{onward, digit_after}

onward_goes : (n b m : ℕ) (bs : List ℕ) → Some m ≡ digit_after n b → onward n (b ∷ bs) ≡ onward m bs
onward_goes n b m bs e = at (is_ascii_digit b && leb (n * 10 + (b - 48)) 65535) e
  where
    at : (t : Bool) → Some m ≡ cond t (Some (n * 10 + (b - 48))) None → cond t (onward (n * 10 + (b - 48)) bs) None ≡ onward m bs
    at true e = let same : m ≡ n * 10 + (b - 48) = cc in ap (λ k. onward k bs) (sym same)
    at false e = cc

onward_ends : (n b : ℕ) (bs : List ℕ) → None ≡ digit_after n b → onward n (b ∷ bs) ≡ None
onward_ends n b bs e = at (is_ascii_digit b && leb (n * 10 + (b - 48)) 65535) e
  where
    at : (t : Bool) → None ≡ cond t (Some (n * 10 + (b - 48))) None → cond t (onward (n * 10 + (b - 48)) bs) None ≡ None
    at true e = cc
    at false e = refl

abbrev goes : (E : Type 0) → Option ℕ → ControlFlow E ℕ → Type 0
goes E v c = v ≡ continue_value c

module _ {S F : Type 0} (E : Type 0) (steps : S → Option (Bor ℕ) → S → Type 0) {g : Mut F (ℕ × (Bor ℕ × Unit {0})) (Option ℕ)} (f : F)
    (acts : (n : ℕ) (x : Bor ℕ) (v : Option ℕ) (q : F) → Called g f (n, (x, tt)) v q → (q ≡ f) × (v ≡ digit_after n x.now)) where
  tried : (xs : List (Bor ℕ)) (bs : List ℕ) (s t u : S) (n a : ℕ) (q : F) (o : Option (Bor ℕ)) (r : Option ℕ) → AlwaysYields steps (λ y. y.now) s bs → Yields steps s xs t → FoldsTo {P = F × ℕ} (TryFoldTurn g (goes E)) (f, n) xs (q, a) → steps t o u
      → MatchOption o (r ≡ Some a) (λ x. (v : Option ℕ) × (h : F) × (e : E) × Called g q (a, (x, tt)) v h × (v ≡ continue_value {B = E} {T = ℕ} (Break e)) × (r ≡ None)) → r ≡ onward n bs
  tried [] [] s t u n a q None r e y c p m = m ∙ sym (ap (λ z. Some z.1) c)
  tried [] [] s t u n a q (Some x) r e y c p m = absurd (e x u (subst (λ k. steps k (Some x) u) (sym y) p))
  tried [] (b ∷ bs) s t u n a q None r e y c p m = absurd (e.0 u (subst (λ k. steps k None u) (sym y) p))
  tried [] (b ∷ bs) s t u n a q (Some x) r e y c p m =
      let called = subst (λ z. Called g z.0 (z.1, (x, tt)) m.0 m.1) (sym c) m.3 in
      let same = (e.1 x u (subst (λ k. steps k (Some x) u) (sym y) p)).0 in
      m.5 ∙ sym (onward_ends n b bs (sym m.4 ∙ (acts n x m.0 m.1 called).1 ∙ ap (digit_after n) same))
  tried (x ∷ xs) [] s t u n a q o r e y c p m = absurd (e x y.0 y.1)
  tried (x ∷ xs) (b ∷ bs) s t u n a q o r e y c p m =
      let turn = c.1 in
      let call = acts n x turn.0 c.0.0 turn.1 in
      let more = e.1 x y.0 y.1 in
      let rest = subst (λ z. FoldsTo {P = F × ℕ} (TryFoldTurn g (goes E)) (z, c.0.1) xs (q, a)) call.0 c.2 in
      tried xs bs y.0 t u c.0.1 a q o r more.1 y.2 rest p m ∙ sym (onward_goes n b c.0.1 bs (sym turn.2 ∙ call.1 ∙ ap (digit_after n) more.0))

  pub onward_from_try_fold : {s : S} {bs : List ℕ} (u : S) (n : ℕ) (r : Option ℕ) → TryFoldsItems steps g (goes E) (λ _ z. z ≡ None) s f n r u → YieldsList steps (λ y. y.now) s bs → r ≡ onward n bs
  onward_from_try_fold u n r d e = tried d.0 _ _ d.4.0 _ n d.3 d.2 d.1 r e.runs d.4.1 d.5 d.4.2 d.6
