-- Marks that spread along rows from the root are those of the reached states.
use Rattle.std.proofs.Common.{◌≡◌, ℕ, ◌+◌, ◌<◌, ◌≤◌, Bool, true, false, not, ◌&&◌, ◌⊎◌, ◌≢◌, List, [], ◌∷◌, length, get_or, Some, None, Option, sym, refl, ap, ◌∙◌, subst, inl, inr, ⊎_elim, add-one, arith}
use Rattle.std.specs.Option.{MatchOption}
use Rattle.std.proofs.lemmas.Bool.{cases_eq, both_ways, and_parts, not-true, true≢false}
use Rattle.automata.specs.Automaton.{Meaning, Production, Sound}
use Rattle.automata.specs.Reading.{Member}
use Rattle.layers.specs.Marks.{each_marked}
use Rattle.layers.proofs.Growing.{all_marked_keeps, marked_member, member_at}
use Rattle.layers.proofs.Productives.{place_below}
use Rattle.ledger.specs.Reach.{Reaches, start, next, reached}
use Rattle.history.proofs.Reached.{reached_exact, reached_below}
use Rattle.settle.specs.Spread.{AllReached, Followed}

member_index : (x : ℕ) (cs : List ℕ) → Member x cs → (i : ℕ) × (i < length cs) × (get_or cs i 0 ≡ x)
member_index x [] h = absurd h
member_index x (c ∷ cs) (inl e) = (0, omega arith, sym e)
member_index x (c ∷ cs) (inr h) = let r = member_index x cs h in (r.0 + 1, omega arith, go r.0 ∙ r.2)
  where
    go : (i : ℕ) → get_or (c ∷ cs) (i + 1) 0 ≡ get_or cs i 0
    go i = simp add-one

module _ (m : Meaning) (sm : Sound m) where
  -- a child of a row of a reached state is reached
  pub child_reached : (s k : ℕ) (p : Production) (c : ℕ) → Reaches m s → m.row s k ≡ Some p → Member c p.children → Reaches m c
  child_reached s k p c r e h = let at = member_index c p.children h in subst (Reaches m) at.2 (next s k at.0 p r e at.1)

  module _ (s k : ℕ) where
    abbrev pub Spread : (ℕ → Bool) → (ℕ → Bool) → ℕ → Type 0
    Spread old new n = ((t : ℕ) → old t ≡ true → new t ≡ true) × AllReached m new × Followed m new s n

    pub spread_none : (old new : ℕ → Bool) → m.row s k ≡ None → Spread old new k → Spread old new (k + 1)
    spread_none old new e h = (h.0, h.1, λ j l p q. ⊎_elim (λ (i : j ≡ k). absurd (let z : ◌≡◌ {A = ℕ} 0 1 = some_none (m.row s j) p (ap (m.row s) i ∙ e) q in omega arith)) (λ ne. h.2 j (omega arith) p q) (cases_eq j k))
      where
        some_none : (x : Option Production) (p : Production) → x ≡ None → x ≡ Some p → ◌≡◌ {A = ℕ} 0 1
        some_none x p a b = cc

    pub spread_row : (old new new' : ℕ → Bool) (p : Production) → Reaches m s → m.row s k ≡ Some p → Spread old new k
        → ((t : ℕ) → new t ≡ true → new' t ≡ true) → each_marked new' p.children ≡ true → ((t : ℕ) → new' t ≡ true → (new t ≡ true) ⊎ Member t p.children) → Spread old new' (k + 1)
    spread_row old new new' p r e h keeps all from = (
      λ t x. keeps t (h.0 t x),
      λ t x. ⊎_elim (h.1 t) (child_reached s k p t r e) (from t x),
      λ j l q x. ⊎_elim
          (λ (i : j ≡ k). let same : q ≡ p = some_one (m.row s j) q p x (ap (m.row s) i ∙ e) in subst (λ z. each_marked new' z.children ≡ true) (sym same) all)
          (λ ne. all_marked_keeps new new' keeps q.children (h.2 j (omega arith) q x))
          (cases_eq j k),
    )
      where
        some_one : (x : Option Production) (p q : Production) → x ≡ Some p → x ≡ Some q → p ≡ q
        some_one x p q a b = cc

  -- what is known while some marked states have been asked
  pub record Reaching (marks asked : ℕ → Bool) : Type 0 where
    pub from_root : marks m.root ≡ true
    pub right : AllReached m marks
    pub followed : (s : ℕ) → asked s ≡ true → Followed m marks s m.places

  -- every marked state has been asked: the marks are the reached states
  pub all_asked : (marks asked : ℕ → Bool) → Reaching marks asked → ((s : ℕ) → s < m.states → marks s ≡ true → asked s ≡ true) → (s : ℕ) → marks s ≡ reached m s
  all_asked marks asked h done s = both (marks s) (reached m s) (λ e. (reached_exact m sm s).1 (h.right s e)) (λ e. marked_reached ((reached_exact m sm s).0 e))
    where
      below : {c : ℕ} → Reaches m c → c < m.states
      below {c} r = reached_below m sm c ((reached_exact m sm c).1 r)

      marked_reached : {c : ℕ} → Reaches m c → marks c ≡ true
      marked_reached start = h.from_root
      marked_reached (next s k i p r e l) =
          marked_member marks p.children (get_or p.children i 0) (h.followed s (done s (below r) (marked_reached r)) k (place_below m sm s k p e) p e) (member_at p.children i 0 l)

      both : (a b : Bool) → (a ≡ true → b ≡ true) → (b ≡ true → a ≡ true) → a ≡ b
      both true true f g = refl
      both true false f g = sym (f refl)
      both false true f g = g refl
      both false false f g = refl

  pub reaching_start : (r : ℕ) → r ≡ m.root → (none marks asked : ℕ → Bool) → ((s : ℕ) → none s ≡ false) → ((s : ℕ) → asked s ≡ false) → marks r ≡ true → ((s : ℕ) → s ≢ r → marks s ≡ none s) → Reaching marks asked
  reaching_start r e none marks asked nm na here others = record {
    from_root = ap marks (sym e) ∙ here;
    right = λ s x. ⊎_elim (λ (q : s ≡ r). subst (Reaches m) (sym (q ∙ e)) start) (λ ne. absurd (both_ways (none s) (nm s) (sym (others s ne) ∙ x))) (cases_eq s r);
    followed = λ s x. absurd (both_ways (asked s) (na s) x);
  }

  pub reaching_more : (marks marks' asked asked' : ℕ → Bool) (q : ℕ) → Reaching marks asked → ((s : ℕ) → marks s ≡ true → marks' s ≡ true) → AllReached m marks' → Followed m marks' q m.places → ((s : ℕ) → s ≢ q → asked' s ≡ asked s) → Reaching marks' asked'
  reaching_more marks marks' asked asked' q h keeps right here others = record {
    from_root = keeps m.root h.from_root;
    right = right;
    followed = λ s x k l p e. ⊎_elim (λ (i : s ≡ q). here k l p (ap (λ z. m.row z k) (sym i) ∙ e)) (λ ne. all_marked_keeps marks marks' keeps p.children (h.followed s (sym (others s ne) ∙ x) k l p e)) (cases_eq s q);
  }

-- what a search for a marked state that was not asked found
pub pending_among : (f g : ℕ → Bool) (n : ℕ) (r : Option ℕ) (P : ℕ → Type 0)
    → MatchOption r ((k : ℕ) → 0 ≤ k → k < n → f k && not (g k) ≡ false) (λ i. (0 ≤ i) × (i < n) × (f i && not (g i) ≡ true) × P i) → MatchOption r ((s : ℕ) → s < n → f s ≡ true → g s ≡ true) (λ s. (s < n) × (f s ≡ true) × (g s ≡ false))
pending_among f g n None P h = λ s l e. asked (f s) (g s) (h s (omega arith) l) e
  where
    asked : (a b : Bool) → a && not b ≡ false → a ≡ true → b ≡ true
    asked true true h e = refl
    asked true false h e = sym h
    asked false b h e = absurd (true≢false (sym e))
pending_among f g n (Some s) P h = let t = and_parts (f s) (not (g s)) h.2 in (h.1, t.0, not-true (g s) t.1)
