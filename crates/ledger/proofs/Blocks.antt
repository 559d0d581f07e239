-- The blocks of 32 rows, one for each state.
use Rattle.std.proofs.Common.{◌≡◌, ℕ, zero, suc, ◌+◌, ◌*◌, ◌<◌, ◌≤◌, List, [], ◌∷◌, ◌++◌, map, length, get_or, take, drop, set, sym, refl, ap, ◌∙◌, le_of_suc-le-suc, not-suc-le-zero, arith}
use Rattle.std.proofs.lemmas.List.{take-take, drop-take, drop-drop}
use Rattle.automata.specs.declared.row.Row.{Row}
use Rattle.automata.specs.Automaton.{Production, production}
use Rattle.ledger.specs.Layout.{blocks, Most}

pub length_blocks : (cs : List ℕ) (rs : List Row) → length (blocks cs rs) ≡ length cs
length_blocks [] rs = refl
length_blocks (c ∷ cs) rs = ap suc (length_blocks cs (drop 32 rs))

next : (s : ℕ) → suc s * 32 ≡ 32 + s * 32
next s = omega arith

pub get_d_blocks : (cs : List ℕ) (rs : List Row) (s : ℕ) → s < length cs → get_or (blocks cs rs) s [] ≡ map production (take (get_or cs s 0) (drop (s * 32) rs))
get_d_blocks [] rs s h = absurd (not-suc-le-zero h)
get_d_blocks (c ∷ cs) rs zero h = refl
get_d_blocks (c ∷ cs) rs (suc s) h =
    get_d_blocks cs (drop 32 rs) s (le_of_suc-le-suc h) ∙
    ap (λ (t : List Row). map production (take (get_or cs s 0) t)) (drop-drop (s * 32) 32 rs ∙ ap (λ n. drop n rs) (sym (next s)))

pub most_tail : (m c : ℕ) (cs : List ℕ) → Most m (c ∷ cs) → Most m cs
most_tail m c cs h k l = h (suc k) (omega arith)

-- one state's rows change, and its count with them
pub blocks_edit : (cs : List ℕ) (rs rs' : List Row) (s c : ℕ) → Most 32 cs → s < length cs
    → take (s * 32) rs' ≡ take (s * 32) rs → drop (s * 32 + 32) rs' ≡ drop (s * 32 + 32) rs
    → blocks (set cs s c) rs' ≡ set (blocks cs rs) s (map production (take c (drop (s * 32) rs')))
blocks_edit [] rs rs' s c m h e f = absurd (not-suc-le-zero h)
blocks_edit (x ∷ cs) rs rs' zero c m h e f = ap (λ (t : List Row). map production (take c rs') ∷ blocks cs t) f
blocks_edit (x ∷ cs) rs rs' (suc s) c m h e f =
    let n = next s in
    let low : x ≤ suc s * 32 = omega (arith, m 0 (omega arith)) in
    let front : take x rs' ≡ take x rs = sym (take-take x (suc s * 32) rs' low) ∙ ap (take x) e ∙ take-take x (suc s * 32) rs low in
    let e' : take (s * 32) (drop 32 rs') ≡ take (s * 32) (drop 32 rs) =
    sym (drop-take 32 (s * 32) rs') ∙ ap (λ k. drop 32 (take k rs')) (sym n) ∙ ap (drop 32) e ∙ ap (λ k. drop 32 (take k rs)) n ∙ drop-take 32 (s * 32) rs in
    let w : 32 + (s * 32 + 32) ≡ suc s * 32 + 32 = omega arith in
    let f' : drop (s * 32 + 32) (drop 32 rs') ≡ drop (s * 32 + 32) (drop 32 rs) =
    drop-drop (s * 32 + 32) 32 rs' ∙ ap (λ k. drop k rs') w ∙ f ∙ ap (λ k. drop k rs) (sym w) ∙ sym (drop-drop (s * 32 + 32) 32 rs) in
    let at : drop (s * 32) (drop 32 rs') ≡ drop (suc s * 32) rs' = drop-drop (s * 32) 32 rs' ∙ ap (λ k. drop k rs') (sym n) in
    let ih = blocks_edit cs (drop 32 rs) (drop 32 rs') s c (most_tail 32 x cs m) (le_of_suc-le-suc h) e' f' in
    cc (ap (map production) front, ap (λ (t : List Row). set (blocks cs (drop 32 rs)) s (map production (take c t))) at)

pub take_set_below : {X : Type 0} (xs : List X) (n i : ℕ) (y : X) → i < n → take n (set xs i y) ≡ set (take n xs) i y
take_set_below [] zero i y h = refl
take_set_below [] (suc n) i y h = refl
take_set_below (x ∷ xs) zero i y h = absurd (not-suc-le-zero h)
take_set_below (x ∷ xs) (suc n) zero y h = refl
take_set_below (x ∷ xs) (suc n) (suc i) y h = ap {B = List _} (λ r. x ∷ r) (take_set_below xs n i y (le_of_suc-le-suc h))

pub blocks_push : (cs : List ℕ) (rs : List Row) → blocks (cs ++ 0 ∷ []) rs ≡ blocks cs rs ++ [] ∷ []
blocks_push [] rs = refl
blocks_push (c ∷ cs) rs = ap {B = List (List Production)} (λ r. map production (take c rs) ∷ r) (blocks_push cs (drop 32 rs))
