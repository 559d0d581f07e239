-- A table of keys with one more state, and a round from its parts.
use Rattle.std.proofs.Common.{◌≡◌, ℕ, ◌+◌, ◌<◌, List, [], ◌∷◌, ◌++◌, map, length, get_or, vec_items, Vec, sym, ap, ◌∙◌, subst}
use Rattle.std.specs.declared.alloc.Global.{Global}
use Rattle.std.proofs.lemmas.List.{map_push, length_push, length-map, get_or-map}
use Rattle.automata.specs.declared.row.Row.{Row}
use Rattle.automata.specs.Automaton.{Production}
use Rattle.merge.specs.declared.row_key.RowKey.{RowKey}
use Rattle.layers.specs.Rows.{listing, table_rows}
use Rattle.automata.specs.Rows.{renamed}
use Rattle.merge.specs.Merge.{at}
use Rattle.merge.specs.Refine.{Keys, keys_at, LowestKeyed, KeysTo, Refined}
use Rattle.layers.proofs.Collecting.{below_push}
use Rattle.merge.proofs.Keys.{lowest_from_keys}

pub keys_more : (g : ℕ → ℕ) (vs : List (Vec Row Global)) (ks ks' : List (Vec RowKey Global)) (v : Vec Row Global) (w : Vec RowKey Global) (k : ℕ) → k < length vs → v ≡ get_or vs k v → ks' ≡ ks ++ w ∷ [] → Keys (map (renamed g) (listing v)) (vec_items w) → KeysTo g vs ks k → KeysTo g vs ks' (k + 1)
keys_more g vs ks ks' v w k lv at e here h =
    let i : table_rows vs k ≡ listing v = get_or-map listing vs k v [] lv ∙ ap listing (sym at) in
    let P : ℕ → List RowKey → Type 0 = λ q z. Keys (map (renamed g) (table_rows vs q)) z in
    let Q : List Production → Type 0 = λ z. Keys (map (renamed g) z) (vec_items w) in
    record {
      long = ap length e ∙ length_push ks w ∙ ap (λ n. n + 1) h.long;
      holds = λ q l. subst (P q) (sym (ap (λ z. get_or z q []) (ap (map vec_items) e ∙ map_push vec_items ks w)))
          (below_push P (map vec_items ks) (vec_items w) [] k (length-map ks vec_items ∙ h.long) h.holds (subst Q (sym i) here) q l);
    }

pub refined_all : (vs : List (Vec Row Global)) (gs : List ℕ) (ks : List (Vec RowKey Global)) (xs : List ℕ) → KeysTo (at gs) vs ks (length vs) → length xs ≡ length vs → ((p : ℕ) → p < length vs → LowestKeyed gs ks p (at xs p)) → Refined vs gs xs
refined_all vs gs ks xs keyed long named = record {
  long = long;
  round = λ p l. lowest_from_keys (length vs) (table_rows vs) gs ks keyed.holds p (at xs p) l (named p l);
}

pub keys_read : (ks : List (Vec RowKey Global)) (k : ℕ) (v : Vec RowKey Global) → k < length ks → v ≡ get_or ks k v → keys_at ks k ≡ vec_items v
keys_read ks k v l e = get_or-map vec_items ks k v [] l ∙ ap vec_items (sym e)
