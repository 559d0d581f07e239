-- The lines of a register's counts, root and rows, one behind another.
use Rattle.std.proofs.Common.{◌≡◌, ℕ, zero, suc, ◌+◌, ◌*◌, ◌<◌, ◌≤◌, true, leb, List, [], ◌∷◌, ◌++◌, length, get_or, drop, Some, None, ap, ◌∙◌, append_assoc, add-one, arith}
use Rattle.std.proofs.lemmas.List.{drop_more}
use Rattle.std.proofs.lemmas.Bool.{and_parts, leb-true}
use Rattle.std.specs.List.{fold}
use Rattle.automata.specs.Automaton.{Production}
use Rattle.register.specs.declared.sealed.Sealed.{Sealed}
use Rattle.register.specs.Held.{held_sealed}
use Rattle.ledger.specs.Soundness.{good_from}
use Rattle.ledger.specs.Ledger.{Ledger, nth, every, rows_at}
use Rattle.ledger.specs.Layout.{fits, fair, Good}
use Rattle.text.specs.Text.{figure, row_text}
use Rattle.text.proofs.Lines.{on, piece, goes}
use Rattle.listing.specs.Listing.{state_text, rows_text, row_count}

-- the element at a place begins what is left there
pub nth_drop : {X : Type 0} (xs : List X) (i : ℕ) (x : X) → nth xs i ≡ Some x → drop i xs ≡ x ∷ drop (i + 1) xs
nth_drop [] i x h = absurd (let z : ◌≡◌ {A = ℕ} 0 1 = cc in omega arith)
nth_drop (y ∷ ys) zero x h = let e : y ≡ x = cc in ap (λ z. z ∷ ys) e
nth_drop (y ∷ ys) (suc i) x h = rw add-one (nth_drop ys i x h ∙ ap (λ n. x ∷ drop n ys) (add-one i))

pub nth_within : {X : Type 0} (xs : List X) (i : ℕ) → i < length xs → nth xs i ≡ None → ⊥
nth_within [] i lt h = omega arith
nth_within (y ∷ ys) zero lt h = let z : ◌≡◌ {A = ℕ} 0 1 = cc in omega arith
nth_within (y ∷ ys) (suc i) lt h = nth_within ys i (omega arith) h

pub rows_more : (names : List (List ℕ)) (whole was is : List ℕ) (l : Ledger) (s : ℕ) → s < length l.rows → was ++ rows_text names s (drop s l.rows) ≡ whole → is ≡ was ++ state_text names s (rows_at l s) → is ++ rows_text names (s + 1) (drop (s + 1) l.rows) ≡ whole
rows_more names whole was is l s lt h e =
    piece whole was is (state_text names s (rows_at l s)) (rows_text names (s + 1) (drop (s + 1) l.rows)) (goes (rows_text names s) whole was (drop s l.rows) (rows_at l s ∷ drop (s + 1) l.rows) (drop_more l.rows s [] lt) h) e

-- a good ledger has at most 32 rows for each of at most 64 states
count_short : (arities : List ℕ) (n : ℕ) (rs : List (List Production)) → every (fair arities n) rs ≡ true → row_count rs ≤ 32 * length rs
count_short arities n [] h = omega arith
count_short arities n (ps ∷ rs) h =
    let both = and_parts (fair arities n ps) (every (fair arities n) rs) h in
    let one = and_parts (leb (length ps) 32) (every (fits arities n) ps) both.0 in
    omega (arith, leb-true (length ps) 32 one.0, count_short arities n rs both.1)

count_low : (l : Ledger) → Good l → row_count l.rows ≤ 2048
count_low l g = omega (arith, count_short l.arities (length l.rows) l.rows g.rows, g.few)

-- the numbers of rows of the states from the first on, added up
part_total : (rs : List (List Production)) (xs : List ℕ) (a : ℕ) → length xs ≤ length rs → ((k : ℕ) → k < length xs → get_or xs k 0 ≡ length (get_or rs k [])) → fold (λ a x. a + x) a xs ≤ a + row_count rs
part_total rs [] a le h = omega arith
part_total [] (x ∷ xs) a le h = absurd (omega arith)
part_total (ps ∷ rs) (x ∷ xs) a le h = omega (arith, h 0 (omega arith), part_total rs xs (a + x) (omega arith) (λ k lt. h (suc k) (omega arith)))

all_total : (rs : List (List Production)) (xs : List ℕ) (a : ℕ) → length xs ≡ length rs → ((k : ℕ) → k < length xs → get_or xs k 0 ≡ length (get_or rs k [])) → fold (λ a x. a + x) a xs ≡ a + row_count rs
all_total [] [] a le h = omega arith
all_total (ps ∷ rs) [] a le h = absurd (omega arith)
all_total [] (x ∷ xs) a le h = absurd (omega arith)
all_total (ps ∷ rs) (x ∷ xs) a le h = omega (arith, h 0 (omega arith), all_total rs xs (a + x) (omega arith) (λ k lt. h (suc k) (omega arith)))

pub total_fits : (v : Sealed) (xs : List ℕ) → length xs ≤ length (held_sealed v).rows → ((k : ℕ) → k < length xs → get_or xs k 0 ≡ length (rows_at (held_sealed v) k)) → fold (λ a x. a + x) 0 xs < 18446744073709551616
total_fits v xs le h = omega (arith, part_total (held_sealed v).rows xs 0 le h, count_low (held_sealed v) (good_from (held_sealed v) v.good))

pub total_whole : (v : Sealed) (xs : List ℕ) → length xs ≡ length (held_sealed v).rows → ((k : ℕ) → k < length xs → get_or xs k 0 ≡ length (rows_at (held_sealed v) k)) → fold (λ a x. a + x) 0 xs ≡ row_count (held_sealed v).rows
total_whole v xs le h = omega (arith, all_total (held_sealed v).rows xs 0 le h)

pub state_more : (names : List (List ℕ)) (s : ℕ) (whole was is : List ℕ) (ps : List Production) (i : ℕ) (p : Production) → nth ps i ≡ Some p → was ++ state_text names s (drop i ps) ≡ whole → is ≡ was ++ row_text names s p → is ++ state_text names s (drop (i + 1) ps) ≡ whole
state_more names s whole was is ps i p at h e =
    piece whole was is (row_text names s p) (state_text names s (drop (i + 1) ps)) (goes (state_text names s) whole was (drop i ps) (p ∷ drop (i + 1) ps) (nth_drop ps i p at) h) e

regroup4 : (o a b c d : List ℕ) → (((o ++ a) ++ b) ++ c) ++ d ≡ o ++ (a ++ (b ++ (c ++ d)))
regroup4 o a b c d = simp append_assoc

pub counts_whole : (o0 o1 o2 o3 o4 : List ℕ) (a a' b b' : ℕ) → a ≡ a' → b ≡ b' → o1 ≡ o0 ++ 78 ∷ [] → o2 ≡ o1 ++ figure a → o3 ≡ o2 ++ figure b → o4 ≡ o3 ++ 10 ∷ [] → o4 ≡ o0 ++ 78 ∷ (figure a' ++ (figure b' ++ 10 ∷ []))
counts_whole o0 o1 o2 o3 o4 a a' b b' ea eb e1 e2 e3 e4 =
    on o3 o4 _ _ e4 (on o2 o3 _ _ (e3 ∙ ap (λ x. o2 ++ figure x) eb) (on o1 o2 _ _ (e2 ∙ ap (λ x. o1 ++ figure x) ea) e1)) ∙ regroup4 o0 (78 ∷ []) (figure a') (figure b') (10 ∷ [])

regroup3 : (o a b c : List ℕ) → ((o ++ a) ++ b) ++ c ≡ o ++ (a ++ (b ++ c))
regroup3 o a b c = simp append_assoc

pub root_whole : (o0 o1 o2 o3 : List ℕ) (a a' : ℕ) → a ≡ a' → o1 ≡ o0 ++ 71 ∷ [] → o2 ≡ o1 ++ figure a → o3 ≡ o2 ++ 10 ∷ [] → o3 ≡ o0 ++ 71 ∷ (figure a' ++ 10 ∷ [])
root_whole o0 o1 o2 o3 a a' ea e1 e2 e3 = on o2 o3 _ _ e3 (on o1 o2 _ _ (e2 ∙ ap (λ x. o1 ++ figure x) ea) e1) ∙ regroup3 o0 (71 ∷ []) (figure a') (10 ∷ [])
