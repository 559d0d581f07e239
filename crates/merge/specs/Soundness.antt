-- Lemmas and no definitions: a merge is sound at every value of its type.
use Rattle.std.specs.Prelude.{◌≡◌, ℕ, ◌≤◌, Bool, true, false, cond, List, [], ◌∷◌, map, length, Some, None, Option, nat_lt, refl}
use Rattle.std.proofs.Common.{sym, ap, ◌∙◌, arith}
use Rattle.std.proofs.lemmas.List.{length-map}
use Rattle.std.specs.Option.{option_map}
use Rattle.std.proofs.lemmas.Bool.{and_parts, and_from, ltb-true, lt-ltb, le-ltb}
use Rattle.automata.specs.Automaton.{Meaning, Production, Sound, Closed, Small, all_below}
use Rattle.automata.specs.Rows.{renamed}
use Rattle.merge.specs.Merge.{merged}

all_low : (n : ℕ) (rep : ℕ → ℕ) → ((p : ℕ) → rep p ≤ p) → (cs : List ℕ) → all_below n cs ≡ true → all_below n (map rep cs) ≡ true
all_low n rep low [] b = refl
all_low n rep low (c ∷ cs) b =
    let k = and_parts (nat_lt c n) (all_below n cs) b in
    and_from (nat_lt (rep c) n) (all_below n (map rep cs)) (lt-ltb (rep c) n (omega (arith, low c, ltb-true c n k.0))) (all_low n rep low cs k.1)

closed_low : (n : ℕ) (rep : ℕ → ℕ) → ((p : ℕ) → rep p ≤ p) → (b : Bool) (r : Option Production) → Closed n r → Closed n (cond b (option_map (renamed rep) r) None)
closed_low n rep low true None k = tt
closed_low n rep low false None k = tt
closed_low n rep low true (Some p) k = all_low n rep low p.children k
closed_low n rep low false (Some p) k = tt

small_low : (rep : ℕ → ℕ) (b : Bool) (r : Option Production) → Small r → Small (cond b (option_map (renamed rep) r) None)
small_low rep true None k = tt
small_low rep false None k = tt
small_low rep true (Some p) k = k
small_low rep false (Some p) k = tt

-- what a row that merge shows comes from
from : (rep : ℕ → ℕ) (b : Bool) (r : Option Production) (p : Production) → cond b (option_map (renamed rep) r) None ≡ Some p → (p₀ : Production) × (r ≡ Some p₀) × (p₀.form ≡ p.form) × (length p₀.children ≡ length p.children)
from rep true None p e = absurd (let z : ◌≡◌ {A = ℕ} 0 1 = cc in omega arith)
from rep false None p e = absurd (let z : ◌≡◌ {A = ℕ} 0 1 = cc in omega arith)
from rep false (Some q) p e = absurd (let z : ◌≡◌ {A = ℕ} 0 1 = cc in omega arith)
from rep true (Some q) p e = let i : renamed rep q ≡ p = cc in (q, refl, ap (λ x. x.form) i, sym (length-map q.children rep) ∙ ap (λ x. length x.children) i)

pub merged_sound : (m : Meaning) → Sound m → (rep : ℕ → ℕ) → ((p : ℕ) → rep p ≤ p) → Sound (merged m rep)
merged_sound m h rep low = record {
  some_state = h.some_state;
  few_states = h.few_states;
  some_place = h.some_place;
  few_places = h.few_places;
  rooted = omega (arith, low m.root, h.rooted);
  closed = λ s k. closed_low m.states rep low (nat_lt s m.states) (m.row (rep s) k) (h.closed (rep s) k);
  few_points = λ s k. small_low rep (nat_lt s m.states) (m.row (rep s) k) (h.few_points (rep s) k);
  one_arity = λ s k s' k' p p' e e' i.
      let a = from rep (nat_lt s m.states) (m.row (rep s) k) p e in
      let b = from rep (nat_lt s' m.states) (m.row (rep s') k') p' e' in
      sym a.3 ∙ h.one_arity (rep s) k (rep s') k' a.0 b.0 a.1 b.1 (a.2 ∙ i ∙ sym b.2) ∙ b.3;
  no_state_beyond = λ s k l. rw (le-ltb s m.states l);
  no_place_beyond = λ s k l. rw (h.no_place_beyond (rep s) k l) (elim (nat_lt s m.states) as (λ b. cond b (option_map (renamed rep) None) None ≡ None) [ true ↦ refl | false ↦ refl ]);
}
