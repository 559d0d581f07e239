-- The children of a row are states.
use Rattle.std.proofs.Common.{◌≡◌, ℕ, ◌≤◌, true, ltb, List, [], ◌∷◌, Some, sym, refl, subst, arith}
use Rattle.std.proofs.lemmas.Bool.{and_parts, and_from, ltb-true, lt-ltb}
use Rattle.automata.specs.Automaton.{Meaning, Production, Sound, Closed, all_below}

all_below_more : (n l : ℕ) (cs : List ℕ) → n ≤ l → all_below n cs ≡ true → all_below l cs ≡ true
all_below_more n l [] h e = refl
all_below_more n l (c ∷ cs) h e = let parts = and_parts (ltb c n) (all_below n cs) e in and_from (ltb c l) (all_below l cs) (lt-ltb c l (omega (arith, ltb-true c n parts.0))) (all_below_more n l cs h parts.1)

pub row_within : (m : Meaning) → Sound m → (s k : ℕ) (p : Production) (l : ℕ) → m.states ≤ l → Some p ≡ m.row s k → all_below l p.children ≡ true
row_within m sm s k p l h e = all_below_more m.states l p.children h (subst (Closed m.states) (sym e) (sm.closed s k))
