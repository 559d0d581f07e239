-- Counts put one behind another.
use Rattle.std.proofs.Common.{◌≡◌, ℕ, List, ◌++◌, ap, ◌∙◌, ap₂, append_assoc}
use Rattle.text.proofs.Lines.{on}

regroup : (o a b c d e f g : List ℕ) → ((((((o ++ a) ++ b) ++ c) ++ d) ++ e) ++ f) ++ g ≡ o ++ (a ++ (b ++ (c ++ (d ++ (e ++ (f ++ g))))))
regroup o a b c d e f g = simp append_assoc

pub six : (o0 o1 o2 o3 o4 o5 o6 a b c d e f g b' c' d' e' f' g' : List ℕ) → b ≡ b' → c ≡ c' → d ≡ d' → e ≡ e' → f ≡ f' → g ≡ g'
    → o1 ≡ o0 ++ a → o2 ≡ o1 ++ b → o3 ≡ o2 ++ c → o4 ≡ o3 ++ d → o5 ≡ o4 ++ e → o6 ≡ o5 ++ f → o6 ++ g ≡ o0 ++ (a ++ (b' ++ (c' ++ (d' ++ (e' ++ (f' ++ g'))))))
six o0 o1 o2 o3 o4 o5 o6 a b c d e f g b' c' d' e' f' g' eb ec ed ee ef eg e1 e2 e3 e4 e5 e6 =
    ap₂ (λ x y. x ++ y)
    (on o5 o6 _ _ (e6 ∙ ap (λ x. o5 ++ x) ef) (on o4 o5 _ _ (e5 ∙ ap (λ x. o4 ++ x) ee) (on o3 o4 _ _ (e4 ∙ ap (λ x. o3 ++ x) ed) (on o2 o3 _ _ (e3 ∙ ap (λ x. o2 ++ x) ec) (on o1 o2 _ _ (e2 ∙ ap (λ x. o1 ++ x) eb) e1)))))
    eg
    ∙ regroup o0 a b' c' d' e' f' g'
