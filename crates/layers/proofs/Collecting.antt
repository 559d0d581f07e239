-- A table of rows with one more state, the rows at an index of it, and where the rows of a state come from.
use Rattle.std.proofs.Common.{◌≡◌, ℕ, zero, suc, ◌+◌, ◌<◌, List, [], ◌∷◌, ◌++◌, map, length, get_or, Some, None, Option, Vec, sym, refl, ap, ◌∙◌, subst, inl, ⊎_elim, arith}
use Rattle.std.specs.Option.{option_to_list}
use Rattle.std.specs.declared.alloc.Global.{Global}
use Rattle.std.proofs.lemmas.List.{map_push, length_push, length-map, get_or_append_left, get_or_push, get_or-map}
use Rattle.std.proofs.lemmas.Bool.{cases_eq}
use Rattle.automata.specs.declared.row.Row.{Row}
use Rattle.automata.specs.Automaton.{Meaning, Production}
use Rattle.automata.specs.Reading.{Member}
use Rattle.automata.proofs.Members.{member_cases, member_left, member_right}
use Rattle.automata.specs.Rows.{rows_below, rows_of}
use Rattle.layers.specs.Rows.{listing, TableTo}

-- what holds of each element holds after one more is pushed
pub below_push : {X : Type 0} (P : ℕ → X → Type 0) (xs : List X) (x d : X) (k : ℕ) → length xs ≡ k → ((q : ℕ) → q < k → P q (get_or xs q d)) → P k x → (q : ℕ) → q < k + 1 → P q (get_or (xs ++ x ∷ []) q d)
below_push P xs x d k e h here q l = ⊎_elim last before (cases_eq q k)
  where
    last : q ≡ k → P q (get_or (xs ++ x ∷ []) q d)
    last i = subst (λ z. P z (get_or (xs ++ x ∷ []) z d)) (sym i) (subst (P k) (sym (get_or_push xs x d k e)) here)

    before : (q ≡ k → ⊥) → P q (get_or (xs ++ x ∷ []) q d)
    before ne = subst (P q) (sym (get_or_append_left xs (x ∷ []) d q (omega arith))) (h q (omega arith))

pub table_more : (m : Meaning) (vs vs' : List (Vec Row Global)) (v : Vec Row Global) (k : ℕ) → vs' ≡ vs ++ v ∷ [] → listing v ≡ rows_of m k → TableTo m vs k → TableTo m vs' (k + 1)
table_more m vs vs' v k e here h = record {
  long = ap length e ∙ length_push vs v ∙ ap (λ n. n + 1) h.long;
  holds = λ q l. ap (λ z. get_or z q []) (ap (map listing) e ∙ map_push listing vs v) ∙ below_push (λ q z. z ≡ rows_of m q) (map listing vs) (listing v) [] k (length-map vs listing ∙ h.long) h.holds here q l;
}

-- the rows at an index of the table
pub table_read : (m : Meaning) (vs : List (Vec Row Global)) (n k : ℕ) (v : Vec Row Global) → TableTo m vs n → k < n → v ≡ get_or vs k v → listing v ≡ rows_of m k
table_read m vs n k v h l e = ap listing e ∙ sym (get_or-map listing vs k v [] (omega (arith, h.long))) ∙ h.holds k l

one_member : (x : Option Production) (p : Production) → Member p (option_to_list x) → x ≡ Some p
one_member None p h = absurd h
one_member (Some q) p h = ⊎_elim (λ (e : p ≡ q). ap Some (sym e)) absurd h

pub rows_member : (m : Meaning) (q n : ℕ) (p : Production) → Member p (rows_below m q n) → (k : ℕ) × (k < n) × (m.row q k ≡ Some p)
rows_member m q zero p h = absurd h
rows_member m q (suc n) p h =
    ⊎_elim (λ l. let r = rows_member m q n p l in (r.0, omega (arith, r.1), r.2)) (λ r. (n, omega arith, one_member (m.row q n) p r)) (member_cases p (rows_below m q n) (option_to_list (m.row q n)) h)

pub member_rows : (m : Meaning) (q n k : ℕ) (p : Production) → k < n → m.row q k ≡ Some p → Member p (rows_below m q n)
member_rows m q zero k p l e = absurd (omega arith)
member_rows m q (suc n) k p l e =
    ⊎_elim (λ (i : k ≡ n). member_right p (rows_below m q n) (option_to_list (m.row q n)) (subst (λ z. Member p (option_to_list z)) (sym (ap (m.row q) (sym i) ∙ e)) (inl refl)))
    (λ ne. member_left p (rows_below m q n) (option_to_list (m.row q n)) (member_rows m q n k p (omega arith) e)) (cases_eq k n)
