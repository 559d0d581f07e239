-- Lemmas, and no definitions: the terms by which ladder and bar show that they are sound.
use Rattle.std.specs.Prelude.{◌≡◌, ℕ, zero, suc, ◌<◌, ◌≤◌, Bool, true, false, cond, ◌&&◌, ◌||◌, ◌⊎◌, List, length, is_ok, Some, None, Ok, Err, Option, ◌==◌, nat_lt, slice_index, refl}
use Rattle.std.proofs.Common.{sym, ap, subst, ◌∙◌, inl, inr, ⊎_elim, arith}
use Rattle.std.proofs.lemmas.Bool.{ltb-true, ltb-false, lt-ltb, eqb-true, eqb-false, and_parts, and_from, or_parts}
use Rattle.refusals.specs.declared.refusal.PileRefusal.{PileRefusal}
use Rattle.refusals.specs.declared.refusal.PileRefusal.TheVariants.{LadderCount, LevelCount, HighLevel}
use Rattle.tickets.specs.Forms.{each_at_most}
use Rattle.automata.specs.Automaton.{Production, Sound, Closed, Small, all_below}
use Rattle.tickets.specs.Checked.{arities_of}
use Rattle.tickets.proofs.FormList.{forms_few, at_most}
use Rattle.rules.specs.declared.ladder.Ladder.{Ladder}
use Rattle.rules.specs.declared.bar.Bar.{Bar}
use Rattle.rules.specs.Ruled.{aims, form_row, ruled}
use Rattle.rules.specs.Ladder.{level, ladder_has, ladder_to, ladder_checked}
use Rattle.rules.specs.Bar.{bar_has, bar_to}
use Rattle.rules.specs.Made.{ladder_of, bar_of}

aims_below : (to : ℕ → ℕ) (m i n : ℕ) → ((j : ℕ) → to j < m) → all_below m (aims to i n) ≡ true
aims_below to m i zero h = refl
aims_below to m i (suc n) h = and_from _ _ (lt-ltb (to i) m (h i)) (aims_below to m (suc i) n h)

module _ (a : List ℕ) (n : ℕ) (has : ℕ → ℕ → Bool) (to : ℕ → ℕ → ℕ) where
  abbrev row : ℕ → ℕ → Option Production
  row = (ruled a n has to).row

  -- a row stands where the state has the form
  pub row_of : (s k : ℕ) (p : Production) → row s k ≡ Some p → (s < n) × (k < length a) × (has s k ≡ true) × (form_row a to k ≡ p)
  row_of s k p e = go (nat_lt s n && (nat_lt k (length a) && has s k)) refl e
    where
      go : (b : Bool) → (nat_lt s n && (nat_lt k (length a) && has s k)) ≡ b → ◌≡◌ {A = Option Production} (cond b (Some (form_row a to k)) None) (Some p) → (s < n) × (k < length a) × (has s k ≡ true) × (form_row a to k ≡ p)
      go true eb h =
          let x = and_parts (nat_lt s n) (nat_lt k (length a) && has s k) eb in
          let y = and_parts (nat_lt k (length a)) (has s k) x.1 in
          (ltb-true s n x.0, ltb-true k (length a) y.0, y.1, cc)
      go false eb h = let z : ◌≡◌ {A = ℕ} 0 1 = cc in absurd (omega arith)

  none_or : (s k : ℕ) → (row s k ≡ None) ⊎ (row s k ≡ Some (form_row a to k))
  none_or s k = go (nat_lt s n && (nat_lt k (length a) && has s k))
    where
      go : (b : Bool) → ◌≡◌ {A = Option Production} (cond b (Some (form_row a to k)) None) None ⊎ ◌≡◌ {A = Option Production} (cond b (Some (form_row a to k)) None) (Some (form_row a to k))
      go true = inr refl
      go false = inl refl

  pub ruled_sound : 0 < n → n ≤ 1024 → length a ≤ 65536 → ((f i : ℕ) → to f i < n) → Sound (ruled a n has to)
  ruled_sound some few places low = record {
    some_state = some;
    few_states = few;
    some_place = omega arith;
    few_places = omega arith;
    rooted = some;
    closed = λ s k. each (Closed n) s k tt (aims_below (to k) n 0 (slice_index a k) (low k));
    few_points = λ s k. each Small s k tt (omega arith);
    one_arity = λ s k s' k' p p' e e' f. alike k k' p p' (row_of s k p e).3 (row_of s' k' p' e').3 f;
    no_state_beyond = λ s k h. beyond s k (λ l l'. omega arith) (none_or s k);
    no_place_beyond = λ s k h. beyond s k (λ l l'. omega arith) (none_or s k);
  }
    where
      each : (P : Option Production → Type 0) (s k : ℕ) → P None → P (Some (form_row a to k)) → P (row s k)
      each P s k x y = ⊎_elim (λ e. subst P (sym e) x) (λ e. subst P (sym e) y) (none_or s k)

      alike : (k k' : ℕ) (p p' : Production) → form_row a to k ≡ p → form_row a to k' ≡ p' → p.form ≡ p'.form → length p.children ≡ length p'.children
      alike k k' p p' e e' f =
          let x : k ≡ k' = ap (λ (q : Production). q.form) e ∙ f ∙ sym (ap (λ (q : Production). q.form) e') in
          sym (ap (λ (q : Production). length q.children) e) ∙ ap (λ j. length (form_row a to j).children) x ∙ ap (λ (q : Production). length q.children) e'

      beyond : (s k : ℕ) → (s < n → k < length a → ⊥) → (row s k ≡ None) ⊎ (row s k ≡ Some (form_row a to k)) → row s k ≡ None
      beyond s k no_row (inl e) = e
      beyond s k no_row (inr e) = let r = row_of s k (form_row a to k) e in absurd (no_row r.0 r.1)

-- what a ladder that passes its check has
pub ladder_parts : (a : List ℕ) (n : ℕ) (levels : List ℕ) → is_ok (ladder_checked a n levels) ≡ true → (0 < n) × (n ≤ 8) × (length levels ≡ length a) × ((f : ℕ) → level levels f ≤ n)
ladder_parts a n levels e = go (n == 0 || nat_lt 8 n) refl (length levels == length a) refl (each_at_most n levels) refl e
  where
    go : (x : Bool) → (n == 0 || nat_lt 8 n) ≡ x → (y : Bool) → (length levels == length a) ≡ y → (z : Bool) → each_at_most n levels ≡ z
        → is_ok {T = Unit {0}} {E = PileRefusal} (cond x (Err LadderCount) (cond y (cond z (Ok tt) (Err HighLevel)) (Err LevelCount))) ≡ true → (0 < n) × (n ≤ 8) × (length levels ≡ length a) × ((f : ℕ) → level levels f ≤ n)
    go true ex y ey z ez h = let w : ◌≡◌ {A = ℕ} 0 1 = cc in absurd (omega arith)
    go false ex false ey z ez h = let w : ◌≡◌ {A = ℕ} 0 1 = cc in absurd (omega arith)
    go false ex true ey false ez h = let w : ◌≡◌ {A = ℕ} 0 1 = cc in absurd (omega arith)
    go false ex true ey true ez h =
        let p = or_parts (n == 0) (nat_lt 8 n) ex in
        let q = eqb-false n 0 p.0 in
        (omega arith, ltb-false 8 n p.1, eqb-true (length levels) (length a) ey, at_most n levels ez)

pub ladder_sound : (l : Ladder) → Sound (ladder_of l)
ladder_sound l =
    let a = arities_of l.forms in
    let p = ladder_parts a l.count l.levels.now l.good in
    let few = forms_few l.forms in
    ruled_sound a l.count (ladder_has l.levels.now) (ladder_to l.levels.now) p.0 (omega (arith, p.1)) (omega arith) (λ f i. let h = p.3 f in omega (arith, p.0))

pub bar_to_below : (outer position f i : ℕ) → bar_to outer position f i < 2
bar_to_below outer position f i = go (f == outer && i == position)
  where
    go : (b : Bool) → cond b 1 0 < 2
    go true = omega arith
    go false = omega arith

pub bar_sound : (b : Bar) → Sound (bar_of b)
bar_sound b =
    let few = forms_few b.forms in
    ruled_sound (arities_of b.forms) 2 (bar_has b.nesting.inner) (bar_to b.nesting.outer b.nesting.position) (omega arith) (omega arith) (omega arith) (bar_to_below b.nesting.outer b.nesting.position)
