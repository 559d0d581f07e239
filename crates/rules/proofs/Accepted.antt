-- What ladder and bar accept.
use Rattle.std.proofs.Common.{◌≡◌, ℕ, ◌-◌, ◌<◌, ◌≤◌, Bool, true, false, cond, not, ◌&&◌, ◌||◌, eqb, ltb, List, sym, refl, ap, ◌∙◌, ⊎_elim, arith}
use Rattle.std.proofs.lemmas.Bool.{ltb-true, lt-ltb, eqb-true, eq-eqb, or_cases, or_left, or_right, and_parts, and_from, cond-true, cases_lt, cases_eq, both_ways, not-true}
use Rattle.rules.specs.Ruled.{top_form}
use Rattle.rules.specs.Ladder.{level, ladder, ladder_has, ladder_to, LadderExact}
use Rattle.rules.specs.Bar.{bar, bar_has, bar_to, BarExact}
use Rattle.rules.specs.Soundness.{bar_to_below}
use Rattle.rules.proofs.Allowed.{accepts_nested}

has_level : (l s : ℕ) → (eqb l 0 || ltb s l) ≡ true → (1 ≤ l) → s < l
has_level l s e h = ⊎_elim (λ x. let y = eqb-true l 0 x in absurd (omega arith)) (ltb-true s l) (or_cases (eqb l 0) (ltb s l) e)

pub level_has : (l s : ℕ) → ((1 ≤ l) → s < l) → (eqb l 0 || ltb s l) ≡ true
level_has l s h = ⊎_elim (λ e. or_left (eqb l 0) (ltb s l) (eq-eqb l 0 e)) (λ ne. or_right (eqb l 0) (ltb s l) (lt-ltb s l (h (omega arith)))) (cases_eq l 0)

pub ladder_exact : (a levels : List ℕ) (n : ℕ) → 0 < n → ((f : ℕ) → level levels f ≤ n) → LadderExact a levels (ladder a n levels)
ladder_exact a levels n some low t k =
    let x = accepts_nested a n (ladder_has levels) (ladder_to levels) (λ f i. let h = low f in omega arith) t 0 k some (level_has (level levels (top_form t)) 0 (λ h. h)) in (
      λ r f i g nest falls. let h = has_level (level levels g) (level levels f - 1) (x.0 r f i g nest) falls.0 in let l = falls.1 in omega arith,
      λ free. x.1 (λ f i g nest. level_has (level levels g) (level levels f - 1) (λ one. ⊎_elim (λ l. absurd (free f i g nest (one, l))) (λ l. omega arith) (cases_lt (level levels g) (level levels f)))),
    )

-- the state 1 of a bar has no inner form
to_one : (outer position f i : ℕ) → f ≡ outer → i ≡ position → bar_to outer position f i ≡ 1
to_one outer position f i e e' = cond-true _ _ _ (and_from (eqb f outer) (eqb i position) (eq-eqb f outer e) (eq-eqb i position e'))

has_not_inner : (inner s g : ℕ) → s ≡ 1 → bar_has inner s g ≡ true → g ≡ inner → ⊥
has_not_inner inner s g e h same =
    let at : bar_has inner 1 g ≡ true = ap (λ x. bar_has inner x g) (sym e) ∙ h in
    both_ways (eqb g inner) (not-true (eqb g inner) at) (eq-eqb g inner same)

child_has : (outer position inner f i g : ℕ) → (f ≡ outer → i ≡ position → g ≡ inner → ⊥) → bar_has inner (bar_to outer position f i) g ≡ true
child_has outer position inner f i g free = go (eqb f outer && eqb i position) refl (eqb g inner) refl
  where
    go : (b : Bool) → (eqb f outer && eqb i position) ≡ b → (c : Bool) → eqb g inner ≡ c → (eqb (cond b 1 0) 0 || not c) ≡ true
    go true e true ec = let x = and_parts (eqb f outer) (eqb i position) e in absurd (free (eqb-true f outer x.0) (eqb-true i position x.1) (eqb-true g inner ec))
    go true e false ec = refl
    go false e c ec = refl

pub bar_exact : (a : List ℕ) (outer position inner : ℕ) → BarExact a outer position inner (bar a outer position inner)
bar_exact a outer position inner t k =
    let x = accepts_nested a 2 (bar_has inner) (bar_to outer position) (bar_to_below outer position) t 0 k (omega arith) refl in (
      λ r nest. has_not_inner inner (bar_to outer position outer position) inner (to_one outer position outer position refl refl) (x.0 r outer position inner nest) refl,
      λ free. x.1 (λ f i g nest. child_has outer position inner f i g (λ e e' e''. free (moved f i g nest e e' e''))),
    )
  where
    moved : (f i g : ℕ) → Rattle.rules.specs.Ruled.Nests t f i g → f ≡ outer → i ≡ position → g ≡ inner → Rattle.rules.specs.Ruled.Nests t outer position inner
    moved f i g nest e e' e'' = mathlib.Core.Path.subst₃ (λ (x y z : ℕ). Rattle.rules.specs.Ruled.Nests t x y z) e e' e'' nest
