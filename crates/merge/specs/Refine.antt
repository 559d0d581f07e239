-- How a merge is made: rounds that part states by their rows, which are compared in order.
use Rattle.std.specs.Prelude.{◌≡◌, ℕ, zero, suc, ◌+◌, ◌-◌, ◌<◌, ◌≤◌, cond, List, [], ◌++◌, map, length, take, replicate, vec_items, Vec, ◌==◌, ◌≢◌, slice_index_or}
use Rattle.std.specs.declared.cmp.Ordering.{Ordering}
use Rattle.std.specs.Ordering.{nat_cmp, on, then_cmp}
use Rattle.std.specs.Cmp.Lexicographic.{slice_cmp}
use Rattle.std.specs.declared.alloc.Global.{Global}
use Rattle.std.specs.List.Sorted.{IsPermutation, IsSorted}
use Rattle.automata.specs.declared.row.Row.{Row}
use Rattle.automata.specs.Automaton.{Production}
use Rattle.merge.specs.declared.row_key.RowKey.{RowKey}
use Rattle.layers.specs.Rows.{table_rows}
use Rattle.automata.specs.Rows.{renamed}
use Rattle.merge.specs.Merge.{at, Like}

-- the lowest state that has the old group of p and its rows
pub record Lowest (R : ℕ → List Production) (g : ℕ → ℕ) (p r : ℕ) : Type 0 where
  pub below : r ≤ p
  pub group : g r ≡ g p
  pub like : Like R g r p
  pub least : (c : ℕ) → c < r → g c ≡ g p → Like R g c p → ⊥

-- one round of refinement of the states below n
abbrev pub Round : ℕ → (ℕ → List Production) → (ℕ → ℕ) → (ℕ → ℕ) → Type 0
Round n R g g' = (p : ℕ) → p < n → Lowest R g p (g' p)

-- how many states below n name their own group
abbrev pub groups : (ℕ → ℕ) → ℕ → ℕ
groups g zero = 0
groups g (suc n) = groups g n + cond (g n == n) 1 0

-- the key of a row: its fields, with zeros past its children
abbrev pub key_of : Production → RowKey
key_of s = record { form = s.form; points = s.points; arity = length s.children; children = s.children ++ replicate (4 - length s.children) 0 }

-- the row that a key is of
abbrev pub row_of : RowKey → Production
row_of k = record { form = k.form; points = k.points; children = take k.arity k.children }

-- keys are compared by form, points, arity and then the children
abbrev pub key_cmp : RowKey → RowKey → Ordering
key_cmp = then_cmp (on (λ k. k.form) nat_cmp) (then_cmp (on (λ k. k.points) nat_cmp) (then_cmp (on (λ k. k.arity) nat_cmp) (on (λ k. k.children) (slice_cmp nat_cmp))))

-- the keys of the rows, in order
pub record Keys (xs : List Production) (ks : List RowKey) : Type 0 where
  pub shuffled : IsPermutation (map key_of xs) ks
  pub rising : IsSorted key_cmp ks

abbrev pub keys_at : List (Vec RowKey Global) → ℕ → List RowKey
keys_at vs q = slice_index_or (map vec_items vs) q []

-- two states have one group and the same keys
abbrev pub Alike : List ℕ → List (Vec RowKey Global) → ℕ → ℕ → Type 0
Alike gs ks p q = (at gs p ≡ at gs q) × (keys_at ks p ≡ keys_at ks q)

-- the lowest state that has the group of p and its keys
pub record LowestKeyed (gs : List ℕ) (ks : List (Vec RowKey Global)) (p r : ℕ) : Type 0 where
  pub below : r ≤ p
  pub group : at gs r ≡ at gs p
  pub like : keys_at ks r ≡ keys_at ks p
  pub least : (c : ℕ) → c < r → at gs c ≡ at gs p → keys_at ks c ≢ keys_at ks p

-- the keys of the rows of the first n states
pub record KeysTo (g : ℕ → ℕ) (vs : List (Vec Row Global)) (ks : List (Vec RowKey Global)) (n : ℕ) : Type 0 where
  pub long : length ks ≡ n
  pub holds : (q : ℕ) → q < n → Keys (map (renamed g) (table_rows vs q)) (keys_at ks q)

-- one round of refinement, over a table
pub record Refined (vs : List (Vec Row Global)) (gs xs : List ℕ) : Type 0 where
  pub long : length xs ≡ length vs
  pub round : Round (length vs) (table_rows vs) (at gs) (at xs)
