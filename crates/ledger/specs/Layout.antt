-- How the rows lie in the lent list, and what a register keeps true of it. Only `laid_out` says what a register holds; the layout is free.
use Rattle.std.specs.Prelude.{◌≡◌, ℕ, ◌<◌, ◌≤◌, Bool, true, ◌&&◌, List, [], ◌∷◌, map, length, take, drop, is_some, is_ok, Some, None, Option, nat_le, nat_lt, slice_index}
use Rattle.automata.specs.declared.row.Row.{Row}
use Rattle.automata.specs.Automaton.{Production, production, all_below}
use Rattle.tickets.specs.Forms.{forms_checked}
use Rattle.ledger.specs.declared.table.Table.{Table}
use Rattle.ledger.specs.Ledger.{Ledger, every, has_form}

-- the first rows of each block of 32, as many as the counts say
abbrev pub blocks : List ℕ → List Row → List (List Production)
blocks [] rs = []
blocks (c ∷ cs) rs = map production (take c rs) ∷ blocks cs (drop 32 rs)

-- the ledger that a list of rows and a table hold: the rows of state s lie at 32 × s
unfoldable pub laid_out : List Row → Table → Bool → Ledger
laid_out rs t b = record { arities = take t.forms t.arities; rows = blocks (take t.states t.counts) rs; root = t.root; sealed = b }

abbrev pub Most : ℕ → List ℕ → Type 0
Most m xs = (k : ℕ) → k < length xs → slice_index xs k ≤ m

-- the list is long enough, and the table's numbers are within their limits
pub record Sane (rs : List Row) (t : Table) : Type 0 where
  pub long : 2048 ≤ length rs
  pub arities_long : length t.arities ≡ 64
  pub counts_long : length t.counts ≡ 64
  pub forms : t.forms ≤ 64
  pub states : t.states ≤ 64
  pub arities : Most 4 t.arities
  pub counts : Most 32 t.counts

-- a row has a form of the list with its arity, at most 1,000 points and children below n
abbrev pub fits : List ℕ → ℕ → Production → Bool
fits arities n p = has_form arities p && (nat_le p.points 1000 && all_below n p.children)

abbrev pub fair : List ℕ → ℕ → List Production → Bool
fair arities n ps = nat_le (length ps) 32 && every (fits arities n) ps

abbrev pub rooted : ℕ → Option ℕ → Bool
rooted n None = true
rooted n (Some s) = nat_lt s n

-- what holds of the ledger of every history
pub record Good (l : Ledger) : Type 0 where
  pub arities : is_ok (forms_checked l.arities) ≡ true
  pub rows : every (fair l.arities (length l.rows)) l.rows ≡ true
  pub few : length l.rows ≤ 64
  pub root : rooted (length l.rows) l.root ≡ true
  pub ready : l.sealed ≡ true → is_some l.root ≡ true
