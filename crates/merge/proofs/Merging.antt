-- Rounds of refinement reach the coarsest grouping that respects the rows.
use Rattle.std.proofs.Common.{◌≡◌, ℕ, zero, suc, ◌+◌, ◌<◌, ◌≤◌, Bool, true, false, cond, eqb, ltb, List, [], ◌∷◌, map, Some, None, Option, sym, refl, ap, ◌∙◌, ap₂, ⊎_elim, add_assoc, add_comm, arith}
use Rattle.std.specs.Option.{option_to_list}
use Rattle.std.proofs.ByRecursion.{All-append}
use Rattle.std.specs.List.{AllByRecursion}
use Rattle.std.proofs.lemmas.Bool.{eqb-true, eqb-false, eq-eqb, ltb-true, and_parts, ne_eqb, cond_both, cases_eq}
use Rattle.std.proofs.lemmas.Bool.Decides.{nat_tests}
use Rattle.automata.specs.Automaton.{Meaning, Production, Sound, Closed, all_below}
use Rattle.automata.specs.Rows.{renamed, rows_below, rows_of}
use Rattle.merge.specs.Merge.{same, tally, Like, Respects, Refines, Named, Coarsest, MergeJoins, MergeOne}
use Rattle.merge.specs.Refine.{Round, groups}
use Rattle.merge.proofs.Tally.{sums, same_sums, tally_sums}

-- a state below n of the group x, if there is one
abbrev pick : (ℕ → ℕ) → ℕ → ℕ → ℕ
pick h x zero = 0
pick h x (suc n) = cond (eqb (h n) x) n (pick h x n)

picked : (h : ℕ → ℕ) (c n : ℕ) → c < n → (pick h (h c) n < n) × (h (pick h (h c) n) ≡ h c)
picked h c zero l = absurd (omega arith)
picked h c (suc n) l = go (eqb (h n) (h c)) refl (picked h c n)
  where
    P : ℕ → Type 0
    P r = (r < suc n) × (h r ≡ h c)

    go : (b : Bool) → eqb (h n) (h c) ≡ b → (c < n → (pick h (h c) n < n) × (h (pick h (h c) n) ≡ h c)) → (cond (eqb (h n) (h c)) n (pick h (h c) n) < suc n) × (h (cond (eqb (h n) (h c)) n (pick h (h c) n)) ≡ h c)
    go true e ih = rw e (omega arith, eqb-true (h n) (h c) e)
    go false e ih =
        let ne : c ≡ n → ⊥ = λ i. eqb-false (h n) (h c) e (ap h (sym i)) in
        let r = ih (omega arith) in
        rw e (omega (arith, r.0), r.1)

map_factor : (g h φ : ℕ → ℕ) (n : ℕ) → ((c : ℕ) → c < n → g c ≡ φ (h c)) → (cs : List ℕ) → all_below n cs ≡ true → map g cs ≡ map φ (map h cs)
map_factor g h φ n e [] b = refl
map_factor g h φ n e (c ∷ cs) b =
    let k = and_parts (ltb c n) (all_below n cs) b in
    ap₂ ◌∷◌ (e c (ltb-true c n k.0)) (map_factor g h φ n e cs k.1)

pub rows_closed : (m : Meaning) → Sound m → (q k : ℕ) → AllByRecursion (λ p. all_below m.states p.children ≡ true) (rows_below m q k)
rows_closed m sound q zero = tt
rows_closed m sound q (suc k) = All-append _ (rows_below m q k) (option_to_list (m.row q k)) (rows_closed m sound q k) (one (m.row q k) (sound.closed q k))
  where
    one : (r : Option Production) → Closed m.states r → AllByRecursion (λ p. all_below m.states p.children ≡ true) (option_to_list r)
    one None h = tt
    one (Some p) h = (h, tt)

rows_factor : (g h φ : ℕ → ℕ) (n : ℕ) → ((c : ℕ) → c < n → g c ≡ φ (h c)) → (xs : List Production) → AllByRecursion (λ p. all_below n p.children ≡ true) xs → map (renamed g) xs ≡ map (renamed φ) (map (renamed h) xs)
rows_factor g h φ n e [] b = refl
rows_factor g h φ n e (p ∷ xs) b =
    let k = map_factor g h φ n e p.children b.0 in
    ap₂ ◌∷◌ (λ i. record { form = p.form; points = p.points; children = k i }) (rows_factor g h φ n e xs b.1)

pub sums_map : {M : Type 0} (plus : M → M → M) (none : M) (f : Production → M) (r : Production → Production) (xs : List Production) → sums plus none f (map r xs) ≡ sums plus none (λ x. f (r x)) xs
sums_map plus none f r [] = refl
sums_map plus none f r (x ∷ xs) = ap (plus (f (r x))) (sums_map plus none f r xs)

-- what is alike under a finer grouping is alike under a coarser one
pub like_coarser : (n : ℕ) (R : ℕ → List Production) → ((q : ℕ) → AllByRecursion (λ p. all_below n p.children ≡ true) (R q)) → (h g : ℕ → ℕ) → Refines n h g → (p q : ℕ) → Like R h p q → Like R g p q
like_coarser n R closed h g fine p q like s = side p ∙ same_sums ◌+◌ 0 add_assoc add_comm (λ x. f (renamed φ x)) (map (renamed h) (R p)) (map (renamed h) (R q)) like ∙ sym (side q)
  where
    φ : ℕ → ℕ
    φ x = g (pick h x n)

    e : (c : ℕ) → c < n → g c ≡ φ (h c)
    e c l = let r = picked h c n l in fine c (pick h (h c) n) l r.0 (sym r.1)

    f : Production → ℕ
    f x = cond (same s x) 1 0

    side : (q : ℕ) → tally s (map (renamed g) (R q)) ≡ sums ◌+◌ 0 (λ x. f (renamed φ x)) (map (renamed h) (R q))
    side q = ap (tally s) (rows_factor g h φ n e (R q) (closed q)) ∙ tally_sums s (map (renamed φ) (map (renamed h) (R q))) ∙ sums_map ◌+◌ 0 f (renamed φ) (map (renamed h) (R q))

-- one round, from g to g'
module _ (n : ℕ) (R : ℕ → List Production) (g g' : ℕ → ℕ) (round : Round n R g g') where
  -- states alike and of one old group get one name
  round_joins : (p q : ℕ) → p < n → q < n → g p ≡ g q → Like R g p q → g' p ≡ g' q
  round_joins p q lp lq e like =
      let a = round p lp in
      let b = round q lq in
      let x : g' p < g' q → ⊥ = λ l. b.least (g' p) l (a.group ∙ e) (λ s. a.like s ∙ like s) in
      let y : g' q < g' p → ⊥ = λ l. a.least (g' q) l (b.group ∙ sym e) (λ s. b.like s ∙ sym (like s)) in
      omega arith

  pub round_named : Named n g'
  round_named p l =
      let a = round p l in
      let lr : g' p < n = omega (arith, a.below) in
      (a.below, round_joins (g' p) p lr l a.group a.like)

  pub round_refines : Refines n g' g
  round_refines p q lp lq e = sym (round p lp).group ∙ ap g e ∙ (round q lq).group

  pub round_coarser : ((q : ℕ) → AllByRecursion (λ p. all_below n p.children ≡ true) (R q)) → (h : ℕ → ℕ) → ((p q : ℕ) → p < n → q < n → h p ≡ h q → Like R h p q) → Refines n h g → Refines n h g'
  round_coarser closed h ok fine p q lp lq e =
      round_joins p q lp lq (fine p q lp lq e) (like_coarser n R closed h g fine p q (ok p q lp lq e))

  pub round_respects : ((p : ℕ) → p < n → g' p ≡ g p) → (p q : ℕ) → p < n → q < n → g p ≡ g q → Like R g p q
  round_respects same p q lp lq e s =
      let i : g' p ≡ g' q = same p lp ∙ e ∙ sym (same q lq) in
      sym ((round p lp).like s) ∙ ap (λ r. tally s (map (renamed g) (R r))) i ∙ (round q lq).like s

  -- a state that names its group goes on to
  pub round_keeps : Named n g → (p : ℕ) → p < n → g p ≤ g' p
  round_keeps named p l =
      let a = round p l in
      let b = named (g' p) (omega (arith, a.below)) in
      omega (arith, b.0, a.group)

bit_le : (g g' : ℕ → ℕ) (n : ℕ) → (g n ≡ n → g' n ≡ n) → cond (eqb (g n) n) 1 0 ≤ cond (eqb (g' n) n) 1 0
bit_le g g' n keeps = grind (arith, nat_tests)

groups_le : (g g' : ℕ → ℕ) (n : ℕ) → ((p : ℕ) → p < n → g p ≡ p → g' p ≡ p) → groups g n ≤ groups g' n
groups_le g g' zero keeps = omega arith
groups_le g g' (suc n) keeps = omega (arith, groups_le g g' n (λ p l. keeps p (omega arith)), bit_le g g' n (keeps n (omega arith)))

groups_lt : (g g' : ℕ → ℕ) (n : ℕ) → ((p : ℕ) → p < n → g p ≡ p → g' p ≡ p) → (r : ℕ) → r < n → g' r ≡ r → (g r ≡ r → ⊥) → groups g n < groups g' n
groups_lt g g' zero keeps r l own not = absurd (omega arith)
groups_lt g g' (suc n) keeps r l own not = ⊎_elim here (λ ne. omega (arith, groups_lt g g' n keeps' r (omega arith) own not, bit_le g g' n (keeps n (omega arith)))) (cases_eq r n)
  where
    keeps' : (p : ℕ) → p < n → g p ≡ p → g' p ≡ p
    keeps' p k = keeps p (omega arith)

    here : r ≡ n → groups g (suc n) < groups g' (suc n)
    here e =
        let a : eqb (g n) n ≡ false = ne_eqb (g n) n (λ i. not (ap g e ∙ i ∙ sym e)) in
        let b : eqb (g' n) n ≡ true = eq-eqb (g' n) n (sym (ap g' e) ∙ own ∙ e) in
        let k = groups_le g g' n keeps' in
        rw (a, b) (omega arith)

pub groups_le_all : (g : ℕ → ℕ) (n : ℕ) → groups g n ≤ n
groups_le_all g zero = omega arith
groups_le_all g (suc n) = cond_both (eqb (g n) n) 1 0 (λ x. groups g n + x ≤ suc n) (λ _. omega (arith, groups_le_all g n)) (λ _. omega (arith, groups_le_all g n))

-- a round that makes no more groups changes nothing
pub round_stops : (n : ℕ) (R : ℕ → List Production) (g g' : ℕ → ℕ) → Round n R g g' → Named n g → groups g' n ≤ groups g n → (p : ℕ) → p < n → g' p ≡ g p
round_stops n R g g' round named few p l = ⊎_elim (λ e. e) moved (cases_eq (g' p) (g p))
  where
    keeps : (p : ℕ) → p < n → g p ≡ p → g' p ≡ p
    keeps p l e = omega (arith, round_keeps n R g g' round named p l, (round p l).below)

    moved : (g' p ≡ g p → ⊥) → g' p ≡ g p
    moved ne =
        let a = round p l in
        let lr : g' p < n = omega (arith, a.below) in
        absurd (omega (arith, groups_lt g g' n keeps (g' p) lr (round_named n R g g' round p l).1 (λ i. ne (sym i ∙ a.group))))

-- the start: one group
pub start_named : (n : ℕ) (g : ℕ → ℕ) → ((p : ℕ) → g p ≡ 0) → Named n g
start_named n g zeros p l = (omega (arith, zeros p), zeros (g p) ∙ sym (zeros p))

pub start_refines : (n : ℕ) (h g : ℕ → ℕ) → ((p : ℕ) → g p ≡ 0) → Refines n h g
start_refines n h g zeros p q lp lq e = zeros p ∙ sym (zeros q)

-- what holds of the grouping between rounds
pub record Reached (m : Meaning) (g : ℕ → ℕ) : Type 0 where
  pub named : Named m.states g
  pub coarser : (h : ℕ → ℕ) → Respects m h → Refines m.states h g

pub reached_start : (m : Meaning) (g : ℕ → ℕ) → ((p : ℕ) → g p ≡ 0) → Reached m g
reached_start m g zeros = record { named = start_named m.states g zeros; coarser = λ h _. start_refines m.states h g zeros }

pub reached_round : (m : Meaning) → Sound m → (g g' : ℕ → ℕ) → Round m.states (rows_of m) g g' → Reached m g → Reached m g'
reached_round m sound g g' round r = record {
  named = round_named m.states (rows_of m) g g' round;
  coarser = λ h ok. round_coarser m.states (rows_of m) g g' round (λ q. rows_closed m sound q m.places) h ok (r.coarser h ok);
}

pub reached_end : (m : Meaning) (g g' : ℕ → ℕ) → Round m.states (rows_of m) g g' → Reached m g → ((p : ℕ) → p < m.states → g' p ≡ g p) → Coarsest m g
reached_end m g g' round r same = record { named = r.named; respects = round_respects m.states (rows_of m) g g' round same; coarsest = r.coarser }

pub merge_joins : MergeJoins
merge_joins m rep h p q lp lq = (λ e. (rep, h.respects, e), λ j. h.coarsest j.0 j.1 p q lp lq j.2)

coarsest_le : (m : Meaning) (rep other : ℕ → ℕ) → Coarsest m rep → Coarsest m other → (p : ℕ) → p < m.states → rep p ≤ other p
coarsest_le m rep other h k p l =
    let a = k.named p l in
    let lo : other p < m.states = omega (arith, a.0) in
    let e : rep (other p) ≡ rep p = h.coarsest other k.respects (other p) p lo l a.1 in
    omega (arith, e, (h.named (other p) lo).0)

pub merge_one : MergeOne
merge_one m rep other h k p l = omega (arith, coarsest_le m rep other h k p l, coarsest_le m other rep k h p l)
