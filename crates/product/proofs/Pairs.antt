-- A row of pairs, child by child.
use Rattle.std.proofs.Common.{◌≡◌, ℕ, zero, suc, ◌+◌, ◌<◌, ◌≤◌, Bool, true, false, ◌&&◌, ltb, ◌≢◌, List, [], ◌∷◌, length, get_or, take, set, refl, ap, ◌∙◌, ap₂, arith, get_or-set_other, get_or-set_same, below_more}
use Rattle.std.proofs.lemmas.Bool.{and_from, lt-ltb, le-ltb}
use Rattle.automata.specs.Automaton.{all_below}
use Rattle.product.specs.Product.{pair, pairs}

-- the first i of a list are the pairs, each below S
abbrev pub Paired : ℕ → ℕ → List ℕ → List ℕ → List ℕ → ℕ → Type 0
Paired n S xs ys cs i = (j : ℕ) → j < i → (get_or cs j 0 ≡ pair n (get_or xs j 0) (get_or ys j 0)) × (get_or cs j 0 < S)

pub paired_all : (n S k : ℕ) (xs ys cs : List ℕ) → length xs ≡ k → length ys ≡ k → k ≤ length cs → Paired n S xs ys cs k → (take k cs ≡ pairs n xs ys) × (all_below S (pairs n xs ys) ≡ true)
paired_all n S zero [] ys cs ex ey lc h = (refl, refl)
paired_all n S zero (x ∷ xs) ys cs ex ey lc h = absurd (omega arith)
paired_all n S (suc k) [] ys cs ex ey lc h = absurd (omega arith)
paired_all n S (suc k) (x ∷ xs) [] cs ex ey lc h = absurd (omega arith)
paired_all n S (suc k) (x ∷ xs) (y ∷ ys) [] ex ey lc h = absurd (omega arith)
paired_all n S (suc k) (x ∷ xs) (y ∷ ys) (c ∷ cs) ex ey lc h =
    let here = h 0 (omega arith) in
    let rest = paired_all n S k xs ys cs (omega arith) (omega arith) (omega arith) (λ j l. h (suc j) (omega arith)) in
    let e : c ≡ pair n x y = here.0 in
    (ap₂ ◌∷◌ e rest.0, and_from (ltb (pair n x y) S) (all_below S (pairs n xs ys)) (lt-ltb (pair n x y) S (omega (arith, here.1))) rest.1)

pub pair_past : (n S j : ℕ) (xs ys : List ℕ) → j < length xs → j < length ys → S ≤ pair n (get_or xs j 0) (get_or ys j 0) → all_below S (pairs n xs ys) ≡ false
pair_past n S j [] ys lx ly h = absurd (omega arith)
pair_past n S j (x ∷ xs) [] lx ly h = absurd (omega arith)
pair_past n S zero (x ∷ xs) (y ∷ ys) lx ly h = ap (λ b. b && all_below S (pairs n xs ys)) (le-ltb (pair n x y) S h)
pair_past n S (suc j) (x ∷ xs) (y ∷ ys) lx ly h = ap (λ b. ltb (pair n x y) S && b) (pair_past n S j xs ys (omega arith) (omega arith) h) ∙ go (ltb (pair n x y) S)
  where
    go : (b : Bool) → (b && false) ≡ false
    go true = refl
    go false = refl

pub paired_more : (n S : ℕ) (xs ys cs : List ℕ) (i v : ℕ) → i < length cs → v ≡ pair n (get_or xs i 0) (get_or ys i 0) → v < S → Paired n S xs ys cs i → Paired n S xs ys (set cs i v) (i + 1)
paired_more n S xs ys cs i v l e lt h =
    below_more (λ j. (get_or (set cs i v) j 0 ≡ pair n (get_or xs j 0) (get_or ys j 0)) × (get_or (set cs i v) j 0 < S)) i
    (λ j lj. let ne : j ≢ i = omega arith in let same : get_or (set cs i v) j 0 ≡ get_or cs j 0 = rw get_or-set_other in (same ∙ (h j lj).0, omega (arith, same, (h j lj).1)))
    (let here : get_or (set cs i v) i 0 ≡ v = rw get_or-set_same in (here ∙ e, omega (arith, here)))
