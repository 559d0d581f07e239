-- Rules one after the other: each has one outcome, and so has the chain.
use Rattle.std.proofs.Common.{◌≡◌, ℕ, ◌+◌, ◌<◌, ◌≤◌, Bool, true, false, cond, leb, List, [], ◌∷◌, ◌++◌, map, length, is_ok, Ok, Err, vec_items, Result, Vec, sym, refl, ap, ◌∙◌, subst, ap₂, append_assoc, append-nil, arith}
use Rattle.std.specs.declared.alloc.Global.{Global}
use Rattle.std.proofs.lemmas.List.{length-append}
use Rattle.std.proofs.lemmas.Bool.{true≢false, and_parts, leb-true, le-ltb, lt-leb}
use Rattle.refusals.specs.declared.refusal.RegisterRefusal.{RegisterRefusal}
use Rattle.refusals.specs.declared.refusal.RegisterRefusal.TheVariants.{HighArity, FullForms}
use Rattle.refusals.specs.declared.refusal.PileRefusal.{PileRefusal}
use Rattle.tickets.specs.Forms.{each_at_most, forms_checked}
use Rattle.automata.specs.Automaton.{Meaning, Sound}
use Rattle.rules.specs.Ladder.{ladder, ladder_checked, ladder_has, ladder_to}
use Rattle.rules.specs.Bar.{bar, bar_checked, bar_has, bar_to}
use Rattle.rules.specs.Soundness.{ruled_sound, ladder_parts, bar_to_below}
use Rattle.ledger.specs.Ledger.{Ledger, add_form, settle, seal, settle_answer, seal_answer, entered, entry_step, enter_all, step, book, blank_ledger}
use Rattle.ledger.specs.Layout.{Good}
use Rattle.ledger.specs.Soundness.{good_sound}
use Rattle.product.specs.Product.{product, product_checked}
use Rattle.fields.specs.declared.fault.Fault.{Fault}
use Rattle.fields.specs.declared.fault.Stop.{Stop}
use Rattle.fields.specs.declared.fault.Stop.TheVariants.{Refused, Memory}
use Rattle.fields.specs.Fault.{bind}
use Rattle.listing.specs.Listing.{listing_answer, Answers}
use Rattle.narrowing.specs.declared.narrowed.Narrowed.{Narrowed}
use Rattle.narrowing.specs.Narrows.{at_settle}
use Rattle.narrowing.proofs.Reductions.{reduced_one}
use Rattle.narrowing.proofs.Promised.{product_sound}
use Rattle.narrowing.proofs.RestrictedWorth.{accepted_settle, reduced_sound}
use Rattle.ledger.proofs.Steps.{step_ok}
use Rattle.history.proofs.SettledWorth.{settle_done}
use Rattle.restrictions.specs.declared.rule.Rule.{Rule}
use Rattle.restrictions.specs.declared.rule.Rule.TheVariants.{Whole, Levels, Bars}
use Rattle.restrictions.specs.Chain.{at_pile, multiplied, pile_of, rules_of, formed, Next, Continued, Chain}
use Rattle.restrictions.specs.Steps.{Stepped}
use Rattle.register.specs.Held.{held_sealed}
use Rattle.sheet.specs.Entered.{Entered, Barred}
use Rattle.sheet.specs.Held.{lists, barred}
use Rattle.verdicts.specs.Verdicts.{Stops}
use Rattle.reports.specs.declared.house.House.{House}
use Rattle.reports.specs.declared.grammar.Grammar.{Grammar}
use Rattle.reports.specs.Levels.{highest}
use Rattle.reports.specs.Grammar.{house_read, noted, Reads}
use Rattle.restrictions.specs.House.{Lists, Only, Returns, Restricted, Answered, Told}

ok_same : {X Y : Type 0} (x y : X) → ◌≡◌ {A = Result X Y} (Ok x) (Ok y) → x ≡ y
ok_same x y e = cc

err_ok : {X Y : Type 0} (x : X) (y : Y) → ◌≡◌ {A = Result X Y} (Err y) (Ok x) → ⊥
err_ok x y e = let z : ◌≡◌ {A = ℕ} 0 1 = cc in omega arith

-- what a list of forms that passes its check has
forms_parts : (arities : List ℕ) → is_ok (forms_checked arities) ≡ true → (each_at_most 4 arities ≡ true) × (length arities ≤ 64)
forms_parts arities h = go (each_at_most 4 arities) refl (leb (length arities) 64) refl h
  where
    go : (a : Bool) → each_at_most 4 arities ≡ a → (b : Bool) → leb (length arities) 64 ≡ b → is_ok {T = Unit {0}} {E = RegisterRefusal} (cond a (cond b (Ok tt) (Err FullForms)) (Err HighArity)) ≡ true → (each_at_most 4 arities ≡ true) × (length arities ≤ 64)
    go true ea true eb x = (ea, leb-true (length arities) 64 eb)
    go true ea false eb x = absurd (true≢false (sym x))
    go false ea b eb x = absurd (true≢false (sym x))

form_entered : (l : Ledger) (a : ℕ) → a ≤ 4 → length l.arities < 64 → entry_step l (add_form a) ≡ entered l (add_form a)
form_entered l a la ll = rw (le-ltb 4 a la, lt-leb 64 (length l.arities) ll)

forms_entered : (xs ys : List ℕ) → each_at_most 4 ys ≡ true → length xs + length ys ≤ 64 → enter_all (formed xs) (map add_form ys) ≡ formed (xs ++ ys)
forms_entered xs [] h l = ap formed (sym (append-nil xs))
forms_entered xs (y ∷ ys) h l =
    let parts = and_parts (leb y 4) (each_at_most 4 ys) h in
    ap (λ k. enter_all k (map add_form ys)) (form_entered (formed xs) y (leb-true y 4 parts.0) (omega arith))
    ∙ forms_entered (xs ++ y ∷ []) ys parts.1 (omega (arith, length-append xs (y ∷ [])))
    ∙ ap formed (append_assoc xs (y ∷ []) ys)

-- the forms of a good ledger, entered into a blank one
pub formed_from : (l : Ledger) → Good l → enter_all blank_ledger (map add_form l.arities) ≡ formed l.arities
formed_from l g = let p = forms_parts l.arities g.arities in forms_entered [] l.arities p.0 (omega (arith, p.1))

module _ (l : Ledger) (g : Good l) (sealed : l.sealed ≡ true) where
  multiplied_sound : (rule m : Meaning) → Sound rule → multiplied l rule ≡ Ok m → Sound m
  multiplied_sound rule m sr e = go (product_checked (book l) rule) refl e
    where
      go : (x : Result (Unit {0}) PileRefusal) → product_checked (book l) rule ≡ x → bind (at_pile x) (λ _. Ok (product (book l) rule)) ≡ Ok m → Sound m
      go (Ok _) q e = subst Sound (ok_same (product (book l) rule) m e) (product_sound (book l) rule (good_sound l g sealed) sr (ap is_ok q))
      go (Err f) q e = absurd (err_ok m _ e)

  ladder_made : (levels : List ℕ) (n : ℕ) → is_ok (ladder_checked l.arities n levels) ≡ true → Sound (ladder l.arities n levels)
  ladder_made levels n h =
      let p = ladder_parts l.arities n levels h in
      let few = (forms_parts l.arities g.arities).1 in
      ruled_sound l.arities n (ladder_has levels) (ladder_to levels) p.0 (omega (arith, p.1)) (omega arith) (λ f i. let x = p.3 f in omega (arith, p.0))

  bar_made : (outer position inner : ℕ) → Sound (bar l.arities outer position inner)
  bar_made outer position inner =
      let few = (forms_parts l.arities g.arities).1 in
      ruled_sound l.arities 2 (bar_has inner) (bar_to outer position) (omega arith) (omega arith) (omega arith) (bar_to_below outer position)

  checked_then : {X : Type 0} (c : Result (Unit {0}) PileRefusal) (f : Unit {0} → Result X Fault) (x : X) → bind (at_pile c) f ≡ Ok x → (is_ok c ≡ true) × (f tt ≡ Ok x)
  checked_then (Ok _) f x e = (refl, e)
  checked_then (Err r) f x e = absurd (err_ok x _ e)

  pub pile_sound_of : (levels : List ℕ) (rule : Rule) (m : Meaning) → pile_of levels l rule ≡ Ok m → Sound m
  pile_sound_of levels Whole m e = subst Sound (ok_same (book l) m e) (good_sound l g sealed)
  pile_sound_of levels Levels m e =
      let c = checked_then (ladder_checked l.arities (highest levels) levels) (λ _. multiplied l (ladder l.arities (highest levels) levels)) m e in
      multiplied_sound (ladder l.arities (highest levels) levels) m (ladder_made levels (highest levels) c.0) c.1
  pile_sound_of levels (Bars b) m e =
      let c = checked_then (bar_checked l.arities b.outer b.position b.inner) (λ _. multiplied l (bar l.arities b.outer b.position b.inner)) m e in
      multiplied_sound (bar l.arities b.outer b.position b.inner) m (bar_made b.outer b.position b.inner) c.1

-- a pile has one outcome
next_one : (arities : List ℕ) (pile : Result Meaning Fault) → ((m : Meaning) → pile ≡ Ok m → Sound m) → (x y : Result Ledger Fault) → Next arities pile x → Next arities pile y → x ≡ y
next_one arities (Err f) sound x y hx hy = hx ∙ sym hy
next_one arities (Ok m) sound x y hx hy =
    hx.2
    ∙ ap (λ p. bind (at_settle (settle_answer (formed arities) p)) (λ _. Ok (step (step (formed arities) (settle p)) seal))) (reduced_one m (sound m refl) hx.0 hy.0 hx.1 hy.1)
    ∙ sym hy.2

module _ (levels : List ℕ) (names tickets : List (List ℕ)) where
  pub chain_done : (l : Ledger) → Only (Lists levels l [] names tickets) (listing_answer names l tickets)
  chain_done l = ((Ok l, refl, refl), λ b h. h.2 ∙ ap (λ x. bind x (λ k. listing_answer names k tickets)) h.1)

  module _ (l : Ledger) (g : Good l) (sealed : l.sealed ≡ true) (rule : Rule) (rules : List Rule) where
    same_next : (x y : Result Ledger Fault) → Next l.arities (pile_of levels l rule) x → Next l.arities (pile_of levels l rule) y → x ≡ y
    same_next x y = next_one l.arities (pile_of levels l rule) (pile_sound_of l g sealed levels rule) x y

    chain_refused : (f : Fault) → Next l.arities (pile_of levels l rule) (Err f) → Only (Lists levels l (rule ∷ rules) names tickets) (Err f)
    chain_refused f n = (
      (Err f, (Err f, n, refl), refl),
      λ b h.
          let ended : h.0 ≡ Err f = subst (λ y. Continued y (λ k. Chain levels k rules h.0) h.0) (same_next h.1.0 (Err f) h.1.1 n) h.1.2 in
          h.2 ∙ ap (λ x. bind x (λ k. listing_answer names k tickets)) ended,
    )

    chain_onward : (k : Ledger) (a : Result (List ℕ) Fault) → Next l.arities (pile_of levels l rule) (Ok k) → Only (Lists levels k rules names tickets) a → Only (Lists levels l (rule ∷ rules) names tickets) a
    chain_onward k a n only = (
      (only.0.0, (Ok k, n, only.0.1), only.0.2),
      λ b h. only.1 b (h.0, subst (λ y. Continued y (λ k. Chain levels k rules h.0) h.0) (same_next h.1.0 (Ok k) h.1.1 n) h.1.2, h.2),
    )

    -- a step that stops
    pub rule_stops : (e : Stop) (was is : Ledger) → was ≡ formed l.arities → Stepped (pile_of levels l rule) was (Err e) is → Returns (Only (Lists levels l (rule ∷ rules) names tickets)) (Err e)
    rule_stops Memory was is w h = tt
    rule_stops (Refused f) was is w h = chain_refused f (go (pile_of levels l rule) h)
      where
        go : (pile : Result Meaning Fault) → Stepped pile was (Err (Refused f)) is → Next l.arities pile (Err f)
        go (Ok m) s = (s.0, s.1, sym (ap (λ r. bind r (λ _. Ok (step (step (formed l.arities) (settle s.0)) seal))) (ap (λ z. at_settle (settle_answer z s.0)) (sym w) ∙ s.2)))
        go (Err f') s = let q : f ≡ f' = (let e = s.0 in cc) in ap Err q

    -- a step that goes on
    stepped_next : (n : Narrowed) (was is : Ledger) → was ≡ formed l.arities → Stepped (pile_of levels l rule) was (Ok n) is → Next l.arities (pile_of levels l rule) (Ok (step is seal))
    stepped_next n was is w h = go (pile_of levels l rule) h
      where
        go : (pile : Result Meaning Fault) → Stepped pile was (Ok n) is → Next l.arities pile (Ok (step is seal))
        go (Ok m) s = (
          s.0,
          s.1,
          ap (λ z. Ok (step z seal)) (s.4 ∙ ap (λ z. step z (settle s.0)) w)
              ∙ sym (ap (λ r. bind (at_settle r) (λ _. Ok (step (step (formed l.arities) (settle s.0)) seal))) (ap (λ z. settle_answer z s.0) (sym w) ∙ s.3)),
        )
        go (Err f) s = absurd (let z : ◌≡◌ {A = ℕ} 0 1 = (let e = s.0 in cc) in omega arith)

    pub rule_goes_on : (n : Narrowed) (was is next : Ledger) → was ≡ formed l.arities → Stepped (pile_of levels l rule) was (Ok n) is → next ≡ step is seal
        → (r : Result (Vec ℕ Global) Stop) → Returns (Only (Lists levels next rules names tickets)) r → Returns (Only (Lists levels l (rule ∷ rules) names tickets)) r
    rule_goes_on n was is next w h e r = go r
      where
        nexts : Next l.arities (pile_of levels l rule) (Ok next)
        nexts = subst (λ k. Next l.arities (pile_of levels l rule) (Ok k)) (sym e) (stepped_next n was is w h)

        go : (r : Result (Vec ℕ Global) Stop) → Returns (Only (Lists levels next rules names tickets)) r → Returns (Only (Lists levels l (rule ∷ rules) names tickets)) r
        go (Ok v) x = chain_onward next (Ok (vec_items v)) nexts x
        go (Err (Refused f)) x = chain_onward next (Err f) nexts x
        go (Err Memory) x = tt

-- a listing of the last book
pub listed_only : (P : Result (List ℕ) Fault → Type 0) (a : Result (List ℕ) Fault) (r : Result (Vec ℕ Global) Stop) → Only P a → Answers a r → Returns (Only P) r
listed_only P a (Ok v) only e = subst (Only P) e only
listed_only P a (Err (Refused f)) only e = subst (Only P) e only
listed_only P a (Err Memory) only e = tt

no_rest : {X : Type 0} (xs : List X) → length xs ≡ 0 → xs ≡ []
no_rest [] l = refl
no_rest (x ∷ xs) l = absurd (omega arith)

-- the same over a list of rules that the code takes apart
module _ (levels levels' : List ℕ) (names tickets : List (List ℕ)) (l : Ledger) (rules : List Rule) where
  pub no_rule_left : (names' tickets' : List (List ℕ)) (r : Result (Vec ℕ Global) Stop) → length rules ≡ 0 → names' ≡ names → tickets' ≡ tickets → Answers (listing_answer names' l tickets') r → Returns (Only (Lists levels l rules names tickets)) r
  no_rule_left names' tickets' r e en et h =
      subst (λ xs. Returns (Only (Lists levels l xs names tickets)) r) (sym (no_rest rules e))
      (listed_only (Lists levels l [] names tickets) (listing_answer names l tickets) r (chain_done levels names tickets l) (subst (λ a. Answers a r) (ap₂ (λ n t. listing_answer n l t) en et) h))

  module _ (g : Good l) (sealed : l.sealed ≡ true) (rule : Rule) (rest : List Rule) (parts : rules ≡ rule ∷ rest) (el : levels' ≡ levels) (was is : Ledger) (w : was ≡ formed l.arities) where
    pub first_stops : (e : Stop) (r : Result (Vec ℕ Global) Stop) → r ≡ Err e → Stepped (pile_of levels' l rule) was (Err e) is → Returns (Only (Lists levels l rules names tickets)) r
    first_stops e r q h =
        subst (λ z. Returns (Only (Lists levels l rules names tickets)) z) (sym q)
        (subst (λ xs. Returns (Only (Lists levels l xs names tickets)) (Err e)) (sym parts)
        (rule_stops levels names tickets l g sealed rule rest e was is w (subst (λ z. Stepped (pile_of z l rule) was (Err e) is) el h)))

    pub first_goes_on : (n : Narrowed) (next : Ledger) (r : Result (Vec ℕ Global) Stop) → Stepped (pile_of levels' l rule) was (Ok n) is → next ≡ step is seal → Returns (Only (Lists levels next rest names tickets)) r → Returns (Only (Lists levels l rules names tickets)) r
    first_goes_on n next r h e x =
        subst (λ xs. Returns (Only (Lists levels l xs names tickets)) r) (sym parts)
        (rule_goes_on levels names tickets l g sealed rule rest n was is next w (subst (λ z. Stepped (pile_of z l rule) was (Ok n) is) el h) e r x)

-- a step that goes on can be sealed
pub steps_seal : (pile : Result Meaning Fault) (l : Ledger) (n : Narrowed) (was is : Ledger) → was ≡ formed l.arities → ((m : Meaning) → pile ≡ Ok m → Sound m) → Stepped pile was (Ok n) is → is_ok (seal_answer is) ≡ true
steps_seal (Ok m) l n was is w sound h =
    let p = h.0 in
    let ok : settle_answer was p ≡ Ok tt = h.3 in
    let acc = accepted_settle was p (ap (λ z. z.sealed) w) ok in
    ap (λ z. is_ok (seal_answer z)) (h.4 ∙ step_ok was (settle p) acc ∙ settle_done was p (reduced_sound m p (sound m refl) h.1) acc)
steps_seal (Err f) l n was is w sound h = absurd (let z : ◌≡◌ {A = ℕ} 0 1 = (let e = h.0 in cc) in omega arith)

-- the same with a report beside the listing
pub restricted_stops : (levels : List ℕ) (l : Ledger) (bars : List Barred) (names tickets : List (List ℕ)) (rules : List Rule) (e : Stop) (r : Result House Stop) → rules ≡ rules_of levels bars → r ≡ Err e → Returns (Only (Lists levels l rules names tickets)) (Err e) → Restricted levels l bars names tickets r
restricted_stops levels l bars names tickets rules e r er q h = subst (Restricted levels l bars names tickets) (sym q) (subst (λ z. Returns (Only (Lists levels l z names tickets)) (Err e)) er h)

-- the answer to a sheet that is read
read_told : (n : ℕ) (sheet : List ℕ) (e : Entered) (r : Result House Stop) → house_read n sheet ≡ Ok e → Restricted e.levels (step e.ledger seal) e.bars e.forms e.tickets r → Told n sheet r
read_told n sheet e (Ok h) q x = subst (λ z. Only (Answered z) (Ok (vec_items h.listing))) (sym q) x
read_told n sheet e (Err (Refused f)) q x = subst (λ z. Only (Answered z) (Err f)) (sym q) x
read_told n sheet e (Err Memory) q x = tt

-- the answer to a sheet that is refused
refused_told : (n : ℕ) (sheet : List ℕ) (f : Fault) → house_read n sheet ≡ Err f → Told n sheet (Err (Refused f))
refused_told n sheet f q = subst (λ z. Only (Answered z) (Err f)) (sym q) (refl, λ b h. h)

pub not_read_told : (n : ℕ) (sheet : List ℕ) (e : Stop) → Stops (house_read n sheet) e → Told n sheet (Err e)
not_read_told n sheet (Refused f) h = refused_told n sheet f h
not_read_told n sheet Memory h = tt

-- the answer from the grammar that was read
pub grammar_told : (n : ℕ) (sheet : List ℕ) (g : Grammar) (r : Result House Stop) → Reads (house_read n sheet) (Ok g)
    → Restricted (vec_items g.notes.levels) (held_sealed g.sealed) (map barred (vec_items g.notes.bars)) (lists g.notes.forms) (lists g.notes.tickets) r → Told n sheet r
grammar_told n sheet g r h x =
    read_told n sheet (noted g.notes h.0) r h.1
    (subst (λ l. Restricted (vec_items g.notes.levels) l (map barred (vec_items g.notes.bars)) (lists g.notes.forms) (lists g.notes.tickets) r) h.2 x)
