-- What the rows and the table hold after a row is entered or struck.
use Rattle.std.proofs.Common.{◌≡◌, ℕ, zero, suc, ◌+◌, ◌-◌, ◌*◌, ◌<◌, ◌≤◌, min, Bool, true, false, cond, eqb, ltb, leb, List, [], ◌∷◌, ◌++◌, map, length, get_or, take, drop, set, Some, None, Ok, Err, Result, sym, refl, ap, ◌∙◌, ⊎_elim, arith}
use Rattle.std.proofs.lemmas.List.{length-take, length-drop, length-map, get_or-take, length-set, take-set-le, drop-set-lt, drop-set-add, take_more_set, map-append, take-map, drop-map, map_push, get_or-drop, get_or-set_same, get_or-set_other}
use Rattle.std.proofs.lemmas.Bool.{leb-false, cases_eq, cases_lt}
use Rattle.std.specs.List.{remove}
use Rattle.refusals.specs.declared.refusal.RegisterRefusal.{RegisterRefusal}
use Rattle.refusals.specs.declared.refusal.RegisterRefusal.TheVariants.{NoState, NoForm, HighPoints, ChildCount, NoChild, FullState, NoRow}
use Rattle.automata.specs.declared.row.Row.{Row}
use Rattle.automata.specs.Automaton.{production, all_below}
use Rattle.ledger.specs.declared.table.Table.{Table}
use Rattle.ledger.specs.Ledger.{Entry, enter, add_row, strike_row, as_row, row_answer, entry_answer, entered, step, with_rows, nth}
use Rattle.ledger.specs.Layout.{blocks, Most, Sane, laid_out}
use Rattle.ledger.specs.Soundness.{nth_beyond, get_d_beyond}
use Rattle.ledger.specs.Closed.{closed}
use Rattle.ledger.proofs.Moves.{closed_front, closed_back, closed_own}
use Rattle.ledger.proofs.Blocks.{length_blocks, get_d_blocks, blocks_edit, take_set_below}
use Rattle.ledger.proofs.Taken.{row_taken}
use Rattle.ledger.proofs.Steps.{entry_ok, entry_err}

pub open_held : (rs : List Row) (t : Table) → (laid_out rs t false).sealed ≡ false
unfolding laid_out
open_held rs t = refl

-- a call's step, by its answer
pub taken_held : (rs : List Row) (t : Table) (e : Entry) (n : ℕ) → Ok n ≡ entry_answer (laid_out rs t false) e → entered (laid_out rs t false) e ≡ step (laid_out rs t false) (enter e)
taken_held rs t e n h = sym (entry_ok (laid_out rs t false) e n (open_held rs t) h)

pub refused_held : (rs : List Row) (t : Table) (e : Entry) (x : RegisterRefusal) → Err x ≡ entry_answer (laid_out rs t false) e → laid_out rs t false ≡ step (laid_out rs t false) (enter e)
refused_held rs t e x h = sym (entry_err (laid_out rs t false) e x (open_held rs t) h)

pub states_held : (rs : List Row) (t : Table) → Sane rs t → length (blocks (take t.states t.counts) rs) ≡ t.states
states_held rs t h = length_blocks (take t.states t.counts) rs ∙ length-take t.states t.counts ∙ omega arith

-- the rows of one state
pub used_held : (rs : List Row) (t : Table) (s : ℕ) → Sane rs t → s < t.states → length (get_or (blocks (take t.states t.counts) rs) s []) ≡ get_or t.counts s 0
used_held rs t s h l =
    let cs = take t.states t.counts in
    let n = get_or t.counts s 0 in
    let m : length cs ≡ t.states = length-take t.states t.counts ∙ omega arith in
    let low : n ≤ 32 = h.counts s (omega arith) in
    ap length (get_d_blocks cs rs s (omega arith)) ∙ length-map (take (get_or cs s 0) (drop (s * 32) rs)) production ∙
    ap (λ k. length (take k (drop (s * 32) rs))) (get_or-take t.states t.counts s 0 l) ∙
    length-take n (drop (s * 32) rs) ∙ ap (min n) (length-drop (s * 32) rs) ∙ omega arith

pub none_held : (rs : List Row) (t : Table) (s : ℕ) → Sane rs t → t.states ≤ s → get_or (blocks (take t.states t.counts) rs) s [] ≡ []
none_held rs t s h l = get_d_beyond (blocks (take t.states t.counts) rs) s [] (omega (arith, states_held rs t h))

pub unused_held : (rs : List Row) (t : Table) (s : ℕ) → Sane rs t → t.states ≤ s → length (get_or (blocks (take t.states t.counts) rs) s []) ≡ 0
unused_held rs t s h l = ap length (none_held rs t s h l)

nth_take : {X Y : Type 0} (f : X → Y) (xs : List X) (n k : ℕ) (d : X) → k < n → n ≤ length xs → nth (map f (take n xs)) k ≡ Some (f (get_or xs k d))
nth_take f [] n k d h l = absurd (omega arith)
nth_take f (x ∷ xs) zero k d h l = absurd (omega arith)
nth_take f (x ∷ xs) (suc n) zero d h l = refl
nth_take f (x ∷ xs) (suc n) (suc k) d h l = nth_take f xs n k d (omega arith) (omega arith)

-- the row at a place of a state, and none beyond the last
pub row_at_held : (rs : List Row) (t : Table) (s k : ℕ) (d : Row) → Sane rs t → s < t.states → k < get_or t.counts s 0 → Some (production (get_or rs (s * 32 + k) d)) ≡ nth (get_or (blocks (take t.states t.counts) rs) s []) k
row_at_held rs t s k d h l j =
    let cs = take t.states t.counts in
    let n = get_or t.counts s 0 in
    let m : length cs ≡ t.states = length-take t.states t.counts ∙ omega arith in
    let low : n ≤ 32 = h.counts s (omega arith) in
    ap (λ r. Some (production r)) (sym (get_or-drop (s * 32) rs k d))
    ∙ sym (nth_take production (drop (s * 32) rs) n k d j (omega (arith, length-drop (s * 32) rs)))
    ∙ ap (λ a. nth (map production (take a (drop (s * 32) rs))) k) (sym (get_or-take t.states t.counts s 0 l))
    ∙ ap (λ ps. nth ps k) (sym (get_d_blocks cs rs s (omega arith)))

pub no_row_held : (rs : List Row) (t : Table) (s k : ℕ) → Sane rs t → (s < t.states → get_or t.counts s 0 ≤ k) → None ≡ nth (get_or (blocks (take t.states t.counts) rs) s []) k
no_row_held rs t s k h j =
    ⊎_elim
    (λ l. sym (nth_beyond (get_or (blocks (take t.states t.counts) rs) s []) k (omega (arith, used_held rs t s h l, j l))))
    (λ l. ap (λ ps. nth ps k) (sym (none_held rs t s h l)))
    (cases_lt s t.states)

same_when : {X : Type 0} (b : Bool) (x y z : X) → (b ≡ false → y ≡ z) → cond b x y ≡ cond b x z
same_when true x y z h = refl
same_when false x y z h = h refl

pub row_answer_held : (rs : List Row) (t : Table) (s f p : ℕ) (cs : List ℕ) → Sane rs t
    → row_answer (take t.forms t.arities) t.states (get_or t.counts s 0) s (as_row f p cs) ≡ entry_answer (laid_out rs t false) (add_row s (as_row f p cs))
unfolding laid_out
row_answer_held rs t s f p cs h =
    let ars = take t.forms t.arities in
    let R : ℕ → Result ℕ RegisterRefusal = λ u. row_answer ars t.states u s (as_row f p cs) in
    let e : R (get_or t.counts s 0) ≡ R (length (get_or (blocks (take t.states t.counts) rs) s [])) =
    same_when (leb t.states s) _ _ _ (λ q. ap (λ u. cond (leb (length ars) f) (Err NoForm) (cond (ltb 1000 p) (Err HighPoints) (cond (eqb (length cs) (get_or ars f 0)) (cond (all_below t.states cs) (cond (leb 32 u) (Err FullState) (Ok u)) (Err NoChild)) (Err ChildCount)))) (sym (used_held rs t s h (leb-false t.states s q)))) in
    e ∙ ap (λ n. row_answer ars n (length (get_or (blocks (take t.states t.counts) rs) s [])) s (as_row f p cs)) (sym (states_held rs t h))

abbrev pub with_count : Table → ℕ → ℕ → Table
with_count t s c = record { forms = t.forms; arities = t.arities; states = t.states; counts = set t.counts s c; root = t.root }

pub most_set : (m : ℕ) (xs : List ℕ) (s c : ℕ) → Most m xs → c ≤ m → Most m (set xs s c)
most_set m xs s c h l k j =
    let n : k < length xs = omega (arith, length-set xs s c) in
    ⊎_elim
    (λ e. let o : s < length xs = omega arith in let z : get_or (set xs s c) k 0 ≡ c = ap (λ i. get_or (set xs s c) i 0) e ∙ get_or-set_same xs s c 0 o in omega arith)
    (λ ne. omega (arith, get_or-set_other xs s k c 0 ne, h k n))
    (cases_eq k s)

pub sane_count : (rs rs' : List Row) (t : Table) (s c : ℕ) → Sane rs t → length rs' ≡ length rs → c ≤ 32 → Sane rs' (with_count t s c)
sane_count rs rs' t s c h e l = record {
  long = omega arith;
  arities_long = h.arities_long;
  counts_long = length-set t.counts s c ∙ h.counts_long;
  forms = h.forms;
  states = h.states;
  arities = h.arities;
  counts = most_set 32 t.counts s c h.counts l;
}

-- one state's rows change, and its count with them
pub held_count : (rs rs' : List Row) (t : Table) (s c : ℕ) → Sane rs t → s < t.states
    → take (s * 32) rs' ≡ take (s * 32) rs → drop (s * 32 + 32) rs' ≡ drop (s * 32 + 32) rs
    → laid_out rs' (with_count t s c) false ≡ with_rows (laid_out rs t false) (set (laid_out rs t false).rows s (map production (take c (drop (s * 32) rs'))))
unfolding laid_out
held_count rs rs' t s c h l e f =
    let cs = take t.states t.counts in
    let m : length cs ≡ t.states = length-take t.states t.counts ∙ omega arith in
    let low : Most 32 cs = λ k j. let q : k < t.states = omega arith in rw get_or-take (h.counts k (omega arith)) in
    ap (with_rows (laid_out rs t false)) (ap (λ x. blocks x rs') (take_set_below t.counts t.states s c l) ∙ blocks_edit cs rs rs' s c low (omega arith) e f)

pub row_held : (rs : List Row) (t : Table) (s f p n : ℕ) (cs kept : List ℕ) → Sane rs t
    → Ok n ≡ row_answer (take t.forms t.arities) t.states (get_or t.counts s 0) s (as_row f p cs) → take (length cs) kept ≡ cs
    → laid_out (set rs (s * 32 + n) (record { form = f; points = p; arity = get_or t.arities f 0; children = kept })) (with_count t s (n + 1)) false ≡ step (laid_out rs t false) (enter (add_row s (as_row f p cs)))
unfolding laid_out
row_held rs t s f p n cs kept h e k =
    let ars = take t.forms t.arities in
    let u = get_or t.counts s 0 in
    let w = row_taken ars t.states u s (as_row f p cs) n e in
    let r : Row = record { form = f; points = p; arity = get_or t.arities f 0; children = kept } in
    let rs' = set rs (s * 32 + n) r in
    let bs = blocks (take t.states t.counts) rs in
    let m : length (take t.states t.counts) ≡ t.states = length-take t.states t.counts ∙ omega arith in
    let fm : f < t.forms = omega (arith, length-take t.forms t.arities) in
    let ar : get_or t.arities f 0 ≡ length cs = sym (get_or-take t.forms t.arities f 0 fm) ∙ sym w.arity in
    let front : take (s * 32) rs' ≡ take (s * 32) rs = take-set-le (s * 32) rs (s * 32 + n) r (omega arith) in
    let back : drop (s * 32 + 32) rs' ≡ drop (s * 32 + 32) rs = drop-set-lt (s * 32 + 32) rs (s * 32 + n) r (omega arith) in
    let room : n < length (drop (s * 32) rs) = omega (arith, length-drop (s * 32) rs) in
    let own : take (n + 1) (drop (s * 32) rs') ≡ take n (drop (s * 32) rs) ++ r ∷ [] = ap (take (n + 1)) (drop-set-add (s * 32) rs n r) ∙ take_more_set (drop (s * 32) rs) n r room in
    let prod : production r ≡ record { form = f; points = p; children = cs } = ap (λ x. record { form = f; points = p; children = x }) (ap (λ a. take a kept) ar ∙ k) in
    let before : map production (take n (drop (s * 32) rs)) ≡ get_or bs s [] =
    ap (λ a. map production (take a (drop (s * 32) rs))) (w.place ∙ sym (get_or-take t.states t.counts s 0 w.state)) ∙ sym (get_d_blocks (take t.states t.counts) rs s (omega arith)) in
    let all : map production (take (n + 1) (drop (s * 32) rs')) ≡ get_or bs s [] ++ record { form = f; points = p; children = cs } ∷ [] =
    ap (map production) own ∙ map_push production (take n (drop (s * 32) rs)) r ∙ cc (before, prod) in
    held_count rs rs' t s (n + 1) h w.state front back ∙
    ap (λ x. with_rows (laid_out rs t false) (set bs s x)) all ∙
    taken_held rs t (add_row s (as_row f p cs)) n (e ∙ row_answer_held rs t s f p cs h)

abbrev pub strike_answer : ℕ → ℕ → ℕ → ℕ → Result ℕ RegisterRefusal
strike_answer states used s k = cond (leb states s) (Err NoState) (cond (leb used k) (Err NoRow) (Ok 0))

pub strike_answer_held : (rs : List Row) (t : Table) (s k : ℕ) → Sane rs t → strike_answer t.states (get_or t.counts s 0) s k ≡ entry_answer (laid_out rs t false) (strike_row s k)
unfolding laid_out
strike_answer_held rs t s k h =
    let bs = blocks (take t.states t.counts) rs in
    same_when (leb t.states s) _ _ _ (λ q. ap (λ u. cond (leb u k) (Err NoRow) (Ok 0)) (sym (used_held rs t s h (leb-false t.states s q)))) ∙
    ap (λ n. strike_answer n (length (get_or bs s [])) s k) (sym (states_held rs t h))

map_removed : (xs : List Row) (k : ℕ) → map production (remove xs k) ≡ remove (map production xs) k
map_removed xs k = map-append production (take k xs) (drop (suc k) xs) ∙ cc (take-map production k xs, drop-map production (suc k) xs)

pub strike_held : (rs : List Row) (t : Table) (s k : ℕ) → Sane rs t → s < t.states → k < get_or t.counts s 0
    → laid_out (closed rs (s * 32 + k) (s * 32 + get_or t.counts s 0)) (with_count t s (get_or t.counts s 0 - 1)) false ≡ with_rows (laid_out rs t false) (set (laid_out rs t false).rows s (remove (get_or (laid_out rs t false).rows s []) k))
unfolding laid_out
strike_held rs t s k h l j =
    let u = get_or t.counts s 0 in
    let rs' = closed rs (s * 32 + k) (s * 32 + u) in
    let bs = blocks (take t.states t.counts) rs in
    let low : u ≤ 32 = h.counts s (omega arith) in
    let m : length (take t.states t.counts) ≡ t.states = length-take t.states t.counts ∙ omega arith in
    let front : take (s * 32) rs' ≡ take (s * 32) rs = closed_front rs (s * 32 + k) (s * 32 + u) (s * 32) (omega arith) (omega arith) (omega arith) in
    let back : drop (s * 32 + 32) rs' ≡ drop (s * 32 + 32) rs = closed_back rs (s * 32 + k) (s * 32 + u) (s * 32 + 32) (omega arith) (omega arith) (omega arith) in
    let own = closed_own rs (s * 32) k u (omega arith) (omega arith) in
    let before : map production (take u (drop (s * 32) rs)) ≡ get_or bs s [] =
    ap (λ a. map production (take a (drop (s * 32) rs))) (sym (get_or-take t.states t.counts s 0 l)) ∙ sym (get_d_blocks (take t.states t.counts) rs s (omega arith)) in
    held_count rs rs' t s (u - 1) h l front back ∙
    ap (λ x. with_rows (laid_out rs t false) (set bs s x)) (ap (map production) own ∙ map_removed (take u (drop (s * 32) rs)) k ∙ ap (λ x. remove x k) before)
