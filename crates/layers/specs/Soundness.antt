-- Lemmas and no definitions: a trim is sound at every value of its type.
use Rattle.std.specs.Prelude.{◌≡◌, ℕ, Bool, true, false, cond, Some, None, Option, refl}
use Rattle.std.proofs.Common.{arith}
use Rattle.automata.specs.Automaton.{Meaning, Production, Sound, Closed, Small}
use Rattle.layers.specs.Marks.{each_marked}
use Rattle.layers.specs.Trim.{row_kept, pruned}

pub cond_row : (P : Option Production → Type 0) (b : Bool) (x : Option Production) → P None → P x → P (cond b x None)
cond_row P true x pn px = px
cond_row P false x pn px = pn

pub cond_from : (b : Bool) (x : Option Production) (r : Production) → cond b x None ≡ Some r → x ≡ Some r
cond_from true x r e = e
cond_from false x r e = absurd (let z : ◌≡◌ {A = ℕ} 0 1 = cc in omega arith)

row_kept_at : (P : Option Production → Type 0) (f : ℕ → Bool) (x : Option Production) → P None → P x → P (row_kept f x)
row_kept_at P f None pn px = pn
row_kept_at P f (Some p) pn px = cond_row P (each_marked f p.children) (Some p) pn px

row_kept_from : (f : ℕ → Bool) (x : Option Production) (r : Production) → row_kept f x ≡ Some r → x ≡ Some r
row_kept_from f None r e = e
row_kept_from f (Some p) r e = cond_from (each_marked f p.children) (Some p) r e

pub pruned_sound : (keep f : ℕ → Bool) (m : Meaning) → Sound m → Sound (pruned keep f m)
pruned_sound keep f m sm =
    let at : (P : Option Production → Type 0) (s k : ℕ) → P None → P (m.row s k) → P ((pruned keep f m).row s k) = λ P s k pn px. cond_row P (keep s) (row_kept f (m.row s k)) pn (row_kept_at P f (m.row s k) pn px) in
    let from : (s k : ℕ) (p : Production) → (pruned keep f m).row s k ≡ Some p → m.row s k ≡ Some p = λ s k p e. row_kept_from f (m.row s k) p (cond_from (keep s) (row_kept f (m.row s k)) p e) in
    record {
      some_state = sm.some_state;
      few_states = sm.few_states;
      some_place = sm.some_place;
      few_places = sm.few_places;
      rooted = sm.rooted;
      closed = λ s k. at (Closed m.states) s k tt (sm.closed s k);
      few_points = λ s k. at Small s k tt (sm.few_points s k);
      one_arity = λ s k s' k' p p' e e' same. sm.one_arity s k s' k' p p' (from s k p e) (from s' k' p' e') same;
      no_state_beyond = λ s k h. at (λ x. x ≡ None) s k refl (sm.no_state_beyond s k h);
      no_place_beyond = λ s k h. at (λ x. x ≡ None) s k refl (sm.no_place_beyond s k h);
    }
