-- The flags of the reached states are exact.
use Rattle.std.proofs.Common.{◌≡◌, ℕ, zero, suc, ◌<◌, ◌≤◌, Bool, true, false, ◌&&◌, eqb, ltb, List, [], ◌∷◌, length, get_or, Some, None, Decides, Option, sym, refl, ap, ◌∙◌, subst, ⊎_elim, arith}
use Rattle.std.specs.List.{AllByRecursion}
use Rattle.std.proofs.ByRecursion.{All-get_or, All-from_get_or}
use Rattle.std.proofs.lemmas.Bool.{true≢false, and_parts, and_from, or_cases, or_left, or_right, eqb-true, eq-eqb, ltb-true, cases_lt}
use Rattle.std.proofs.lemmas.Bool.Decides.{Decides-below_or}
use Rattle.automata.specs.Automaton.{Meaning, Production, Sound, Closed, all_below}
use Rattle.history.proofs.Rounds.{◌⊆◌, rounds_stable}
use Rattle.ledger.specs.Reach.{Reaches, start, next, any_below, any_of, rounds, row_reaches, onward, reached, ReachedExact}

any_decides : (p : ℕ → Bool) (n : ℕ) → Decides (any_below p n) ((k : ℕ) × (k < n) × (p k ≡ true))
any_decides p n = Decides-below_or p (λ k. p k ≡ true) (any_below p) (λ k. (λ e. e, λ e. e)) refl (λ _. refl) n

any_mono : (p q : ℕ → Bool) (n : ℕ) → p ⊆ q → any_below p n ≡ true → any_below q n ≡ true
any_mono p q n h e = let at = (any_decides p n).0 e in (any_decides q n).1 (at.0, at.1, h at.0 at.2)

false_unless : (x : Bool) → (x ≡ true → ⊥) → x ≡ false
false_unless true h = absurd (h refl)
false_unless false h = refl

pub all_from_below : (n : ℕ) (cs : List ℕ) → all_below n cs ≡ true → AllByRecursion (λ c. c < n) cs
all_from_below n [] e = tt
all_from_below n (c ∷ cs) e = let parts = and_parts (ltb c n) (all_below n cs) e in (ltb-true c n parts.0, all_from_below n cs parts.1)

any_at : (P : ℕ → Type 0) (c : ℕ) (cs : List ℕ) → any_of (eqb c) cs ≡ true → AllByRecursion P cs → P c
any_at P c [] e all = absurd (true≢false (sym e))
any_at P c (x ∷ xs) e all = ⊎_elim (λ h. subst P (sym (eqb-true c x h)) all.0) (λ h. any_at P c xs h all.1) (or_cases (eqb c x) (any_of (eqb c) xs) e)

any_here : (cs : List ℕ) (i : ℕ) → i < length cs → any_of (eqb (get_or cs i 0)) cs ≡ true
any_here [] i lt = absurd (omega arith)
any_here (x ∷ xs) zero lt = or_left (eqb x x) (any_of (eqb x) xs) (eq-eqb x x refl)
any_here (x ∷ xs) (suc i) lt = or_right (eqb (get_or xs i 0) x) (any_of (eqb (get_or xs i 0)) xs) (any_here xs i (omega arith))

module _ (m : Meaning) (sm : Sound m) where
  place_below : (s k : ℕ) (p : Production) → m.row s k ≡ Some p → k < m.places
  place_below s k p e = ⊎_elim (λ h. h) (λ h. absurd (let no_row = sm.no_place_beyond s k h in let z : ◌≡◌ {A = ℕ} 0 1 = cc in omega arith)) (cases_lt k m.places)

  state_below : (s k : ℕ) (p : Production) → m.row s k ≡ Some p → s < m.states
  state_below s k p e = ⊎_elim (λ h. h) (λ h. absurd (let no_row = sm.no_state_beyond s k h in let z : ◌≡◌ {A = ℕ} 0 1 = cc in omega arith)) (cases_lt s m.states)

  abbrev leads : ℕ → ℕ → Bool
  leads c s = any_below (λ k. row_reaches c (m.row s k)) m.places

  onward_mono : (f g : ℕ → Bool) → f ⊆ g → onward m f ⊆ onward m g
  onward_mono f g h c e =
      ⊎_elim (λ r. or_left (eqb c m.root) (any_below (λ s. g s && leads c s) m.states) r)
      (λ r. or_right (eqb c m.root) (any_below (λ s. g s && leads c s) m.states)
      (any_mono (λ s. f s && leads c s) (λ s. g s && leads c s) m.states (λ s t. let parts = and_parts (f s) (leads c s) t in and_from (g s) (leads c s) (h s parts.0) parts.1) r))
      (or_cases (eqb c m.root) (any_below (λ s. f s && leads c s) m.states) e)

  -- what holds of the root, and of the children of each row of a flagged state, holds of what a round flags
  onward_at : (P : ℕ → Type 0) (f : ℕ → Bool) → P m.root → ((s k : ℕ) (p : Production) → f s ≡ true → m.row s k ≡ Some p → AllByRecursion P p.children) → (c : ℕ) → onward m f c ≡ true → P c
  onward_at P f root on c e =
      ⊎_elim (λ r. subst P (sym (eqb-true c m.root r)) root)
      (λ r.
      let at = (any_decides (λ s. f s && leads c s) m.states).0 r in
      let parts = and_parts (f at.0) (leads c at.0) at.2 in
      let at' = (any_decides (λ k. row_reaches c (m.row at.0 k)) m.places).0 parts.1 in
      go at.0 at'.0 parts.0 (m.row at.0 at'.0) refl at'.2)
      (or_cases (eqb c m.root) (any_below (λ s. f s && leads c s) m.states) e)
    where
      go : (s k : ℕ) → f s ≡ true → (x : Option Production) → m.row s k ≡ x → row_reaches c x ≡ true → P c
      go s k fs None q t = absurd (true≢false (sym t))
      go s k fs (Some p) q t = any_at P c p.children t (on s k p fs q)

  pub row_closed : (s k : ℕ) (p : Production) → m.row s k ≡ Some p → AllByRecursion (λ c. c < m.states) p.children
  row_closed s k p e = all_from_below m.states p.children (subst (Closed m.states) e (sm.closed s k))

  onward_beyond : (f : ℕ → Bool) (c : ℕ) → m.states ≤ c → onward m f c ≡ false
  onward_beyond f c h = false_unless (onward m f c) (λ e. let lt = onward_at (λ c. c < m.states) f sm.rooted (λ s k p fs q. row_closed s k p q) c e in omega arith)

  onward_stable : onward m (reached m) ⊆ reached m
  onward_stable = rounds_stable (onward m) onward_mono m.states onward_beyond

  pub reached_root : reached m m.root ≡ true
  reached_root = onward_stable m.root (or_left (eqb m.root m.root) (any_below (λ s. reached m s && leads m.root s) m.states) (eq-eqb m.root m.root refl))

  pub reached_next : (s k : ℕ) (p : Production) → reached m s ≡ true → m.row s k ≡ Some p → AllByRecursion (λ c. reached m c ≡ true) p.children
  reached_next s k p fs e =
      All-from_get_or (λ c. reached m c ≡ true) p.children 0
      (λ i lt.
      let c = get_or p.children i 0 in
      let here : leads c s ≡ true = (any_decides (λ k. row_reaches c (m.row s k)) m.places).1 (k, place_below s k p e, ap (row_reaches c) e ∙ any_here p.children i lt) in
      onward_stable c
      (or_right (eqb c m.root) (any_below (λ s. reached m s && leads c s) m.states)
      ((any_decides (λ s. reached m s && leads c s) m.states).1 (s, state_below s k p e, and_from (reached m s) (leads c s) fs here))))

  rounds_reach : (n c : ℕ) → rounds (onward m) n c ≡ true → Reaches m c
  rounds_reach zero c e = absurd (true≢false (sym e))
  rounds_reach (suc n) c e =
      onward_at (Reaches m) (rounds (onward m) n) start (λ s k p fs q. All-from_get_or (Reaches m) p.children 0 (λ i lt. next s k i p (rounds_reach n s fs) q lt)) c e

  reaches_flag : {s : ℕ} → Reaches m s → reached m s ≡ true
  reaches_flag start = reached_root
  reaches_flag (next s k i p r e lt) = All-get_or (λ c. reached m c ≡ true) p.children i 0 lt (reached_next s k p (reaches_flag r) e)

  pub reached_below : (s : ℕ) → reached m s ≡ true → s < m.states
  reached_below s e = go (rounds_reach m.states s e)
    where
      go : {c : ℕ} → Reaches m c → c < m.states
      go start = sm.rooted
      go (next s k i p r e lt) = All-get_or (λ c. c < m.states) p.children i 0 lt (row_closed s k p e)

pub reached_exact : ReachedExact
reached_exact m sm s = (rounds_reach m sm m.states s, reaches_flag m sm)
