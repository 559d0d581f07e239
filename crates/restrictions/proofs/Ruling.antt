-- The forms of a register entered into another, and the rules in order.
use Rattle.std.proofs.Common.{◌≡◌, ℕ, ◌+◌, ◌<◌, ◌≤◌, cond, eqb, List, [], ◌∷◌, ◌++◌, map, length, get_or, take, sym, refl, ap, ◌∙◌, append_assoc, arith}
use Rattle.std.proofs.lemmas.List.{take_all, map_more}
use Rattle.ledger.specs.Ledger.{Ledger, add_form, entry_step, enter_all}
use Rattle.history.proofs.Settled.{enter_append}
use Rattle.rules.specs.declared.bar.Nesting.{Nesting}
use Rattle.sheet.specs.Held.{barred}
use Rattle.restrictions.specs.declared.rule.Rule.{Rule}
use Rattle.restrictions.specs.declared.rule.Rule.TheVariants.{Whole, Levels, Bars}
use Rattle.restrictions.specs.Chain.{bar_entry, rules_of, or_whole}
use Rattle.reports.specs.Levels.{highest}

-- one more form
pub forms_more : (l k k' : Ledger) (arities : List ℕ) (i : ℕ) → i < length arities → k ≡ enter_all l (map add_form (take i arities)) → k' ≡ entry_step k (add_form (get_or arities i 0)) → k' ≡ enter_all l (map add_form (take (i + 1) arities))
forms_more l k k' arities i lt h e =
    e ∙ ap (λ z. entry_step z (add_form (get_or arities i 0))) h
    ∙ sym (enter_append l (map add_form (take i arities)) (add_form (get_or arities i 0) ∷ []))
    ∙ sym (ap (enter_all l) (map_more add_form arities i 0 lt))

pub forms_end : (l k : Ledger) (arities : List ℕ) (i : ℕ) → length arities ≤ i → k ≡ enter_all l (map add_form (take i arities)) → k ≡ enter_all l (map add_form arities)
forms_end l k arities i le h = h ∙ ap (λ xs. enter_all l (map add_form xs)) (take_all i arities le)

-- the rules, before and after each bar
abbrev pub first : List ℕ → List Rule
first levels = cond (eqb (highest levels) 0) [] (Levels ∷ [])

bars_same : (bs : List Nesting) → map (λ b. Bars (bar_entry b)) (map barred bs) ≡ map Bars bs
bars_same [] = refl
bars_same (b ∷ bs) = ap (λ xs. Bars b ∷ xs) (bars_same bs)

pub bars_more : (levels : List ℕ) (bs : List Nesting) (i : ℕ) (d : Nesting) (xs xs' : List Rule) → i < length bs → xs ≡ first levels ++ map Bars (take i bs) → xs' ≡ xs ++ Bars (get_or bs i d) ∷ [] → xs' ≡ first levels ++ map Bars (take (i + 1) bs)
bars_more levels bs i d xs xs' l h e =
    e ∙ ap (λ z. z ++ Bars (get_or bs i d) ∷ []) h ∙ append_assoc (first levels) (map Bars (take i bs)) (Bars (get_or bs i d) ∷ []) ∙ ap (λ z. first levels ++ z) (sym (map_more Bars bs i d l))

all_bars : (levels : List ℕ) (bs : List Nesting) (i : ℕ) (xs : List Rule) → length bs ≤ i → xs ≡ first levels ++ map Bars (take i bs) → or_whole xs ≡ rules_of levels (map barred bs)
all_bars levels bs i xs l h = ap or_whole (h ∙ ap (λ z. first levels ++ map Bars z) (take_all i bs l) ∙ ap (λ z. first levels ++ z) (sym (bars_same bs)))

some_rules : (xs : List Rule) → 0 < length xs → or_whole xs ≡ xs
some_rules [] l = absurd (omega arith)
some_rules (x ∷ xs) l = refl

no_rules : (xs : List Rule) → length xs ≡ 0 → xs ≡ []
no_rules [] l = refl
no_rules (x ∷ xs) l = absurd (omega arith)

module _ (levels : List ℕ) (bs : List Nesting) (i : ℕ) (xs : List Rule) (l : length bs ≤ i) (h : xs ≡ first levels ++ map Bars (take i bs)) where
  pub rules_some : 0 < length xs → xs ≡ rules_of levels (map barred bs)
  rules_some n = sym (some_rules xs n) ∙ all_bars levels bs i xs l h

  pub rules_none : (ys : List Rule) → length xs ≡ 0 → ys ≡ xs ++ Whole ∷ [] → ys ≡ rules_of levels (map barred bs)
  rules_none ys n e = e ∙ ap (λ z. z ++ Whole ∷ []) (no_rules xs n) ∙ ap or_whole (sym (no_rules xs n)) ∙ all_bars levels bs i xs l h
