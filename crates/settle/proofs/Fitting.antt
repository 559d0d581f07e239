-- The rows of a state place by place, and settle's answer by its checks.
use Rattle.std.proofs.Common.{◌≡◌, ℕ, ◌+◌, ◌<◌, ◌≤◌, Bool, true, false, cond, ◌&&◌, leb, List, [], ◌∷◌, ◌++◌, length, Some, None, Ok, Err, Result, sym, refl, ap, ◌∙◌, append-nil, add-one, arith}
use Rattle.std.specs.Option.{option_to_list}
use Rattle.std.proofs.lemmas.Bool.{le-leb, lt-leb, and_parts, true≢false}
use Rattle.std.proofs.lemmas.List.{length-append}
use Rattle.automata.specs.Automaton.{Meaning, Production}
use Rattle.refusals.specs.declared.refusal.SettleRefusal.{SettleRefusal}
use Rattle.refusals.specs.declared.refusal.SettleRefusal.TheVariants.{HasState, ManyReached, ManyRows, ForeignForm, HighRow}
use Rattle.automata.specs.Rows.{rows_below, rows_of}
use Rattle.ledger.specs.Reach.{reached_states}
use Rattle.settle.specs.Fits.{state_fitting}
use Rattle.settle.proofs.Ascending.{every_snoc}
use Rattle.ledger.specs.Ledger.{Ledger, every, every_row, has_form, none_yet, settle_answer}

module _ (m : Meaning) (s k : ℕ) where
  pub rows_add : (p : Production) → m.row s k ≡ Some p → rows_below m s (k + 1) ≡ rows_below m s k ++ p ∷ []
  rows_add p e = ap (rows_below m s) (add-one k) ∙ ap (λ x. rows_below m s k ++ option_to_list x) e

  pub rows_skip : m.row s k ≡ None → rows_below m s (k + 1) ≡ rows_below m s k
  rows_skip e = ap (rows_below m s) (add-one k) ∙ ap (λ x. rows_below m s k ++ option_to_list x) e ∙ append-nil (rows_below m s k)

  -- the number of rows so far, and two tests of each
  abbrev pub Surveyed : (Production → Bool) → (Production → Bool) → ℕ → Bool → Bool → ℕ → Type 0
  Surveyed a b n x y j = (n ≡ length (rows_below m s j)) × (n ≤ j) × (x ≡ every a (rows_below m s j)) × (y ≡ every b (rows_below m s j))

  module _ (a b : Production → Bool) (n n' : ℕ) (x x' y y' : Bool) (h : Surveyed a b n x y k) where
    pub survey_add : (p : Production) → m.row s k ≡ Some p → n' ≡ n + 1 → x' ≡ x && a p → y' ≡ y && b p → Surveyed a b n' x' y' (k + 1)
    survey_add p e i j l =
        let more = rows_add p e in (
          omega (arith, ap length more, length-append (rows_below m s k) (p ∷ [])),
          omega arith,
          j ∙ ap (λ z. z && a p) h.2 ∙ sym (every_snoc a (rows_below m s k) p) ∙ sym (ap (every a) more),
          l ∙ ap (λ z. z && b p) h.3 ∙ sym (every_snoc b (rows_below m s k) p) ∙ sym (ap (every b) more),
        )

    pub survey_skip : m.row s k ≡ None → n' ≡ n → x' ≡ x → y' ≡ y → Surveyed a b n' x' y' (k + 1)
    survey_skip e i j l =
        let same = rows_skip e in
        (omega (arith, ap length same), omega arith, j ∙ h.2 ∙ sym (ap (every a) same), l ∙ h.3 ∙ sym (ap (every b) same))

-- what passes three tests at once passes each
pub every_three : {X : Type 0} (a b c : X → Bool) (xs : List X) → every (λ x. a x && (b x && c x)) xs ≡ true → (every a xs ≡ true) × (every b xs ≡ true) × (every c xs ≡ true)
every_three a b c [] h = (refl, refl, refl)
every_three a b c (x ∷ xs) h =
    let t = and_parts (a x && (b x && c x)) (every (λ y. a y && (b y && c y)) xs) h in
    let u = and_parts (a x) (b x && c x) t.0 in
    let v = and_parts (b x) (c x) u.1 in
    let r = every_three a b c xs t.1 in
    (ap (λ z. z && every a xs) u.0 ∙ r.0, ap (λ z. z && every b xs) v.0 ∙ r.1, ap (λ z. z && every c xs) v.1 ∙ r.2)

-- and what passes each passes all three at once
pub every_of_three : {X : Type 0} (a b c : X → Bool) (xs : List X) → every a xs ≡ true → every b xs ≡ true → every c xs ≡ true → every (λ x. a x && (b x && c x)) xs ≡ true
every_of_three a b c [] ha hb hc = refl
every_of_three a b c (x ∷ xs) ha hb hc =
    let r = every (λ y. a y && (b y && c y)) xs in
    let u = and_parts (a x) (every a xs) ha in
    let v = and_parts (b x) (every b xs) hb in
    let w = and_parts (c x) (every c xs) hc in
    ap (λ z. (z && (b x && c x)) && r) u.0 ∙ ap (λ z. (z && c x) && r) v.0 ∙ ap (λ z. z && r) w.0 ∙ every_of_three a b c xs u.1 v.1 w.1

-- settle's answer by its tests
abbrev pub by_tests : Bool → Bool → Bool → Bool → Bool → Result (Unit {0}) SettleRefusal
by_tests a b c d e = cond a (cond b (cond c (cond d (cond e (Ok tt) (Err HighRow)) (Err ForeignForm)) (Err ManyRows)) (Err ManyReached)) (Err HasState)

no_rows : {X : Type 0} (xs : List X) → length xs ≤ 0 → true ≡ none_yet xs
no_rows [] h = refl
no_rows (x ∷ xs) h = absurd (omega arith)

some_rows : {X : Type 0} (xs : List X) → 0 < length xs → false ≡ none_yet xs
some_rows [] h = absurd (omega arith)
some_rows (x ∷ xs) h = refl

module _ (l : Ledger) (m : Meaning) where
  abbrev pub Few : Bool → Type 0
  Few c = c ≡ every (λ s. leb (length (rows_of m s)) 32) (reached_states m)

  answer : (a b c d e : Bool) → a ≡ none_yet l.rows → b ≡ leb (length (reached_states m)) 64 → Few c → d ≡ every_row (has_form l.arities) m → e ≡ every_row (λ p. leb p.points 1000) m → by_tests a b c d e ≡ settle_answer l m
  answer a b c d e ha hb hc hd he =
      ap (λ x. by_tests x b c d e) ha ∙ ap (λ x. by_tests (none_yet l.rows) x c d e) hb ∙ ap (λ x. by_tests (none_yet l.rows) (leb (length (reached_states m)) 64) x d e) hc
      ∙ ap (λ x. by_tests (none_yet l.rows) (leb (length (reached_states m)) 64) (every (λ s. leb (length (rows_of m s)) 32) (reached_states m)) x e) hd
      ∙ ap (λ x. by_tests (none_yet l.rows) (leb (length (reached_states m)) 64) (every (λ s. leb (length (rows_of m s)) 32) (reached_states m)) (every_row (has_form l.arities) m) x) he

  pub has_state : 0 < length l.rows → Err HasState ≡ settle_answer l m
  has_state h = answer false _ _ _ _ (some_rows l.rows h) refl refl refl refl

  module _ (none : length l.rows ≤ 0) where
    pub many_reached : 64 < length (reached_states m) → Err ManyReached ≡ settle_answer l m
    many_reached h = answer true false _ _ _ (no_rows l.rows none) (sym (lt-leb (length (reached_states m)) 64 h)) refl refl refl

    module _ (few : length (reached_states m) ≤ 64) where
      -- the checks of rows
      pub fitted : (c d e : Bool) → Few c → d ≡ every_row (has_form l.arities) m → e ≡ every_row (λ p. leb p.points 1000) m → by_tests true true c d e ≡ settle_answer l m
      fitted c d e hc hd he = answer true true c d e (no_rows l.rows none) (sym (le-leb (length (reached_states m)) 64 few)) hc hd he

      -- no row is refused
      pub all_fitting : (arities : List ℕ) → arities ≡ l.arities → true ≡ every (state_fitting arities m) (reached_states m) → Ok tt ≡ settle_answer l m
      all_fitting arities q h =
          let t = every_three (λ s. leb (length (rows_of m s)) 32) (λ s. every (has_form arities) (rows_of m s)) (λ s. every (λ p. leb p.points 1000) (rows_of m s)) (reached_states m) (sym h) in
          fitted true true true (sym t.0) (sym t.1 ∙ ap (λ z. every_row (has_form z) m) q) (sym t.2)

      -- some row is refused, and not for the number of rows or a form
      pub high_row : (arities : List ℕ) → arities ≡ l.arities → every (state_fitting arities m) (reached_states m) ≡ false → Few true → true ≡ every_row (has_form arities) m → Err HighRow ≡ settle_answer l m
      high_row arities q low hf hk = go (every_row (λ p. leb p.points 1000) m) refl
        where
          go : (e : Bool) → e ≡ every_row (λ p. leb p.points 1000) m → Err HighRow ≡ settle_answer l m
          go true h = absurd (true≢false (sym (every_of_three (λ s. leb (length (rows_of m s)) 32) (λ s. every (has_form arities) (rows_of m s)) (λ s. every (λ p. leb p.points 1000) (rows_of m s)) (reached_states m) (sym hf) (sym hk) (sym h)) ∙ low))
          go false h = fitted true true false hf (hk ∙ ap (λ z. every_row (has_form z) m) q) h
