-- Lines put one behind another.
use Rattle.std.proofs.Common.{◌≡◌, ℕ, ◌+◌, ◌<◌, ◌≤◌, List, [], ◌∷◌, ◌++◌, length, get_or, take, drop, sym, ap, ◌∙◌, append_assoc, append-nil}
use Rattle.std.specs.List.{flat_map}
use Rattle.std.proofs.lemmas.List.{flat_map_more, take_more, take_all, drop_all}
use Rattle.text.specs.Text.{figure, row_line}

pub one_more : (start was is ks : List ℕ) (i : ℕ) → i < length ks → was ≡ start ++ flat_map figure (take i ks) → is ≡ was ++ figure (get_or ks i 0) → is ≡ start ++ flat_map figure (take (i + 1) ks)
one_more start was is ks i lt h e =
    e ∙ ap (λ l. l ++ figure (get_or ks i 0)) h ∙ flat_map_more figure start (take i ks) (get_or ks i 0) ∙ ap (λ l. start ++ flat_map figure l) (sym (take_more ks i 0 lt))

pub on : (was is x y : List ℕ) → is ≡ was ++ x → was ≡ y → is ≡ y ++ x
on was is x y e h = e ∙ ap (λ l. l ++ x) h

pub regroup : (o a b c d e f : List ℕ) → (((((o ++ a) ++ b) ++ c) ++ d) ++ e) ++ f ≡ o ++ (a ++ (b ++ (c ++ (d ++ (e ++ f)))))
regroup o a b c d e f = simp append_assoc

pub row_whole : (o0 o1 o2 o3 o4 o5 o6 name name' ks ks' : List ℕ) (s p i : ℕ) → name ≡ name' → ks ≡ ks' → length ks ≤ i → o1 ≡ o0 ++ 82 ∷ [] → o2 ≡ o1 ++ figure s → o3 ≡ o2 ++ 9 ∷ name → o4 ≡ o3 ++ figure p → o5 ≡ o4 ++ flat_map figure (take i ks) → o6 ≡ o5 ++ 10 ∷ [] → o6 ≡ o0 ++ row_line s name' p ks'
row_whole o0 o1 o2 o3 o4 o5 o6 name name' ks ks' s p i en ek all e1 e2 e3 e4 e5 e6 =
    let full = e5 ∙ ap (λ l. o4 ++ flat_map figure l) (take_all i ks all ∙ ek) in
    on o5 o6 _ _ e6 (on o4 o5 _ _ full (on o3 o4 _ _ e4 (on o2 o3 _ _ (e3 ∙ ap (λ l. o2 ++ 9 ∷ l) en) (on o1 o2 _ _ e2 e1)))) ∙ regroup o0 (82 ∷ []) (figure s) (9 ∷ name') (figure p) (flat_map figure ks') (10 ∷ [])

-- what is written, with the text of what is left, is the whole: one piece more
pub piece : (whole was is x rest : List ℕ) → was ++ (x ++ rest) ≡ whole → is ≡ was ++ x → is ++ rest ≡ whole
piece whole was is x rest h e = ap (λ l. l ++ rest) e ∙ append_assoc was x rest ∙ h

-- a text that begins with x goes on as the text after it does
pub goes : {X : Type 0} (F : List X → List ℕ) (whole was : List ℕ) (xs ys : List X) → xs ≡ ys → was ++ F xs ≡ whole → was ++ F ys ≡ whole
goes F whole was xs ys e h = ap (λ l. was ++ F l) (sym e) ∙ h

pub ends : {X : Type 0} (F : List X → List ℕ) (whole was : List ℕ) (xs : List X) (i : ℕ) → F [] ≡ [] → length xs ≤ i → was ++ F (drop i xs) ≡ whole → was ≡ whole
ends F whole was xs i none past h = sym (append-nil was) ∙ ap (λ l. was ++ l) (sym none) ∙ ap (λ l. was ++ F l) (sym (drop_all i xs past)) ∙ h

pub fault_whole : (o0 o1 o2 o3 o4 o5 o6 w w' : List ℕ) (n n' a b : ℕ) → w ≡ w' → n ≡ n' → o0 ≡ [] → o1 ≡ o0 ++ 69 ∷ [] → o2 ≡ o1 ++ 9 ∷ w → o3 ≡ o2 ++ figure n → o4 ≡ o3 ++ figure a → o5 ≡ o4 ++ figure b → o6 ≡ o5 ++ 10 ∷ [] → o6 ≡ 69 ∷ (9 ∷ w' ++ (figure n' ++ (figure a ++ (figure b ++ 10 ∷ []))))
fault_whole o0 o1 o2 o3 o4 o5 o6 w w' n n' a b ew en e0 e1 e2 e3 e4 e5 e6 =
    on o5 o6 _ _ e6 (on o4 o5 _ _ e5 (on o3 o4 _ _ e4 (on o2 o3 _ _ (e3 ∙ ap (λ x. o2 ++ figure x) en) (on o1 o2 _ _ (e2 ∙ ap (λ x. o1 ++ 9 ∷ x) ew) (on o0 o1 _ _ e1 e0))))) ∙ regroup [] (69 ∷ []) (9 ∷ w') (figure n') (figure a) (figure b) (10 ∷ [])
