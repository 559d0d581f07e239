-- Marks: all of a list, one more, and how many there are.
use Rattle.std.proofs.Common.{◌≡◌, ℕ, zero, suc, ◌+◌, ◌<◌, ◌≤◌, Bool, true, false, cond, ltb, ◌≢◌, List, [], ◌∷◌, get_or, length, replicate, refl, ap, ◌∙◌, ap₂, ⊎_elim, sym, arith}
use Rattle.std.specs.List.{AllByRecursion}
use Rattle.std.proofs.lemmas.List.{get_or-replicate, get_or_past, length-replicate}
use Rattle.std.proofs.lemmas.Bool.{and_parts, and_from, ltb-true, cases_eq, cases_lt}
use Rattle.automata.specs.Automaton.{all_below}
use Rattle.layers.specs.Marks.{mark, each_marked, marked}

pub none_marked : (s : ℕ) → mark (replicate 1024 false) s ≡ false
none_marked s = ⊎_elim (λ lt. get_or-replicate 1024 s false false lt) (λ le. get_or_past (replicate 1024 false) s false (omega (arith, length-replicate 1024 false))) (cases_lt s 1024)

pub all_below_at : (n : ℕ) (cs : List ℕ) (i : ℕ) → all_below n cs ≡ true → i < length cs → get_or cs i 0 < n
all_below_at n [] i e l = absurd (omega arith)
all_below_at n (c ∷ cs) zero e l = ltb-true c n (and_parts (ltb c n) (all_below n cs) e).0
all_below_at n (c ∷ cs) (suc i) e l = all_below_at n cs i (and_parts (ltb c n) (all_below n cs) e).1 (omega arith)

pub all_from_marked : (P : ℕ → Type 0) (f : ℕ → Bool) → ((s : ℕ) → f s ≡ true → P s) → (cs : List ℕ) → each_marked f cs ≡ true → AllByRecursion P cs
all_from_marked P f h [] e = tt
all_from_marked P f h (c ∷ cs) e = let parts = and_parts (f c) (each_marked f cs) e in (h c parts.0, all_from_marked P f h cs parts.1)

pub marked_from_all : (P : ℕ → Type 0) (f : ℕ → Bool) → ((s : ℕ) → P s → f s ≡ true) → (cs : List ℕ) → AllByRecursion P cs → each_marked f cs ≡ true
marked_from_all P f h [] a = refl
marked_from_all P f h (c ∷ cs) a = and_from (f c) (each_marked f cs) (h c a.0) (marked_from_all P f h cs a.1)

bit_le : (b : Bool) → cond b 1 0 ≤ 1
bit_le true = omega arith
bit_le false = omega arith

pub marked_none : (f : ℕ → Bool) → ((s : ℕ) → f s ≡ false) → (n : ℕ) → marked f n ≡ 0
marked_none f e zero = refl
marked_none f e (suc n) = ap₂ (λ x b. x + cond b 1 0) (marked_none f e n) (e n)

pub marked_le : (f : ℕ → Bool) (n : ℕ) → marked f n ≤ n
marked_le f zero = omega arith
marked_le f (suc n) = omega (arith, marked_le f n, bit_le (f n))

pub marked_lt : (f : ℕ → Bool) (n s : ℕ) → s < n → f s ≡ false → marked f n < n
marked_lt f zero s l e = absurd (omega arith)
marked_lt f (suc n) s l e =
    ⊎_elim (λ (i : s ≡ n). let z : ◌≡◌ {A = ℕ} (cond (f n) 1 0) 0 = ap (λ b. cond b 1 0) (ap f (sym i) ∙ e) in omega (arith, z, marked_le f n))
    (λ ne. omega (arith, marked_lt f n s (omega arith) e, bit_le (f n))) (cases_eq s n)

marked_same : (f g : ℕ → Bool) (n : ℕ) → ((t : ℕ) → t < n → f t ≡ g t) → marked f n ≡ marked g n
marked_same f g zero h = refl
marked_same f g (suc n) h = ap₂ (λ x b. x + cond b 1 0) (marked_same f g n (λ t l. h t (omega arith))) (h n (omega arith))

-- one more mark is one more
pub marked_more : (f g : ℕ → Bool) (s : ℕ) → f s ≡ false → g s ≡ true → ((t : ℕ) → t ≢ s → g t ≡ f t) → (n : ℕ) → s < n → marked g n ≡ marked f n + 1
marked_more f g s un here others zero l = absurd (omega arith)
marked_more f g s un here others (suc n) l =
    ⊎_elim
    (λ (i : s ≡ n).
    let new : ◌≡◌ {A = ℕ} (cond (g n) 1 0) 1 = ap (λ b. cond b 1 0) (ap g (sym i) ∙ here) in
    let old : ◌≡◌ {A = ℕ} (cond (f n) 1 0) 0 = ap (λ b. cond b 1 0) (ap f (sym i) ∙ un) in
    omega (arith, new, old, marked_same g f n (λ t lt. others t (omega arith))))
    (λ ne.
    let same : ◌≡◌ {A = ℕ} (cond (g n) 1 0) (cond (f n) 1 0) = ap (λ b. cond b 1 0) (others n (λ i. ne (sym i))) in
    omega (arith, same, marked_more f g s un here others n (omega arith)))
    (cases_eq s n)
