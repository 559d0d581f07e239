-- Trim and then merge: sound, of one outcome, and the worth from the root stays.
use Rattle.std.proofs.Common.{◌≡◌, ℕ, ◌<◌, Bool, true, false, cond, ltb, List, [], ◌∷◌, map, Some, None, Ok, Err, Option, Result, sym, refl, ap, ◌∙◌, subst, ap₂, arith}
use mathlib.Core.Path.{fun_ext}
use Rattle.std.specs.Option.{option_map}
use Rattle.std.proofs.lemmas.Bool.{and_parts, ltb-true}
use Rattle.tickets.specs.Ticket.{Ticket}
use Rattle.automata.specs.Automaton.{Meaning, Production, Sound, Closed, Small, all_below}
use Rattle.automata.specs.Measure.{Ops, Laws}
use Rattle.automata.specs.Measures.{yes_no}
use Rattle.automata.specs.Worth.{worth}
use Rattle.layers.specs.Trim.{Trimmed}
use Rattle.layers.proofs.Trims.{trim_preserves, trim_one}
use Rattle.automata.specs.Rows.{renamed}
use Rattle.merge.specs.Merge.{Coarsest, merged}
use Rattle.merge.proofs.Merges.{merge_preserves}
use Rattle.merge.proofs.Merging.{merge_one}
use Rattle.narrowing.specs.Reduced.{Reduced, ReducedOne, ReducedPreserves}
use Rattle.refusals.specs.declared.refusal.SettleRefusal.{SettleRefusal}
use Rattle.ledger.specs.Ledger.{Ledger, settle, settle_answer, step}
use Rattle.register.specs.declared.open.Open.{Open}
use Rattle.register.specs.Held.{held}
use Rattle.settle.proofs.EntriesMade.{settle_refused}
use Rattle.fields.specs.declared.fault.Fault.{Fault}
use Rattle.fields.specs.declared.fault.Stop.{Stop}
use Rattle.fields.specs.declared.fault.Stop.TheVariants.{Refused, Memory}
use Rattle.narrowing.specs.Narrows.{BarrenTold, Settles, Narrows, at_settle}
use Rattle.narrowing.proofs.YesLaws.{yes_laws}

none_some : (x : Option Production) (p : Production) → x ≡ None → x ≡ Some p → ⊥
none_some x p a b = let z : ◌≡◌ {A = ℕ} 0 1 = cc in omega arith

module _ (m a : Meaning) (sm : Sound m) (h : Trimmed m a) where
  from : (s k : ℕ) (p : Production) → a.row s k ≡ Some p → m.row s k ≡ Some p
  from s k p e = ((h.rows s k p).0 e).0

  pub trimmed_sound : Sound a
  trimmed_sound = record {
    some_state = omega (arith, h.states, sm.some_state);
    few_states = omega (arith, h.states, sm.few_states);
    some_place = omega (arith, h.places, sm.some_place);
    few_places = omega (arith, h.places, sm.few_places);
    rooted = omega (arith, h.states, h.root, sm.rooted);
    closed = λ s k. closed_at s k (a.row s k) refl;
    few_points = λ s k. small_at s k (a.row s k) refl;
    one_arity = λ s k s' k' p p' e e' same. sm.one_arity s k s' k' p p' (from s k p e) (from s' k' p' e') same;
    no_state_beyond = λ s k l. none_at s k (a.row s k) refl (sm.no_state_beyond s k (omega (arith, h.states)));
    no_place_beyond = λ s k l. none_at s k (a.row s k) refl (sm.no_place_beyond s k (omega (arith, h.places)));
  }
    where
      closed_at : (s k : ℕ) (x : Option Production) → a.row s k ≡ x → Closed a.states x
      closed_at s k None e = tt
      closed_at s k (Some p) e = subst (λ n. all_below n p.children ≡ true) (sym h.states) (subst (Closed m.states) (from s k p e) (sm.closed s k))

      small_at : (s k : ℕ) (x : Option Production) → a.row s k ≡ x → Small x
      small_at s k None e = tt
      small_at s k (Some p) e = subst Small (from s k p e) (sm.few_points s k)

      none_at : (s k : ℕ) (x : Option Production) → a.row s k ≡ x → m.row s k ≡ None → x ≡ None
      none_at s k None e n = refl
      none_at s k (Some p) e n = absurd (none_some (m.row s k) p n (from s k p e))

trimmed_same : (m a b : Meaning) → Trimmed m a → Trimmed m b → a ≡ b
trimmed_same m a b ha hb =
    let states : a.states ≡ b.states = ha.states ∙ sym hb.states in
    let places : a.places ≡ b.places = ha.places ∙ sym hb.places in
    let root : a.root ≡ b.root = ha.root ∙ sym hb.root in
    let row : a.row ≡ b.row = fun_ext (λ s. fun_ext (λ k. trim_one m a b ha hb s k)) in
    λ i. record { states = states i; places = places i; root = root i; row = row i }

module _ (m : Meaning) (sm : Sound m) (rep rep' : ℕ → ℕ) (same : (q : ℕ) → q < m.states → rep q ≡ rep' q) where
  children_same : (cs : List ℕ) → all_below m.states cs ≡ true → map rep cs ≡ map rep' cs
  children_same [] e = refl
  children_same (c ∷ cs) e = let parts = and_parts (ltb c m.states) (all_below m.states cs) e in ap₂ (λ x xs. x ∷ xs) (same c (ltb-true c m.states parts.0)) (children_same cs parts.1)

  row_same : (x : Option Production) → Closed m.states x → option_map (renamed rep) x ≡ option_map (renamed rep') x
  row_same None h = refl
  row_same (Some p) h = ap (λ cs. Some (record { form = p.form; points = p.points; children = cs })) (children_same p.children h)

  rows_same : (s k : ℕ) → (merged m rep).row s k ≡ (merged m rep').row s k
  rows_same s k = go (ltb s m.states) refl
    where
      go : (b : Bool) → ltb s m.states ≡ b → cond b (option_map (renamed rep) (m.row (rep s) k)) None ≡ cond b (option_map (renamed rep') (m.row (rep' s) k)) None
      go true e = row_same (m.row (rep s) k) (sm.closed (rep s) k) ∙ ap (λ q. option_map (renamed rep') (m.row q k)) (same s (ltb-true s m.states e))
      go false e = refl

  pub merged_same : merged m rep ≡ merged m rep'
  merged_same =
      let root : rep m.root ≡ rep' m.root = same m.root sm.rooted in
      let row : (merged m rep).row ≡ (merged m rep').row = fun_ext (λ s. fun_ext (λ k. rows_same s k)) in
      λ i. record { states = m.states; places = m.places; root = root i; row = row i }

pub reduced_one : ReducedOne
reduced_one m sm p q hp hq =
    let kept : hq.kept ≡ hp.kept = trimmed_same m hq.kept hp.kept hq.trimmed hp.trimmed in
    let other : Coarsest hp.kept hq.rep = subst (λ a. Coarsest a hq.rep) kept hq.coarsest in
    hp.is
    ∙ merged_same hp.kept (trimmed_sound m hp.kept sm hp.trimmed) hp.rep hq.rep (merge_one hp.kept hp.rep hq.rep hp.coarsest other)
    ∙ ap (λ a. merged a hq.rep) (sym kept)
    ∙ sym hq.is

pub reduced_preserves : {M : Type 0} (o : Ops M) → Laws o → ReducedPreserves o
reduced_preserves o laws m sm p h t =
    ap (λ x. worth o x x.root t) h.is
    ∙ (merge_preserves laws).from_root h.kept (trimmed_sound m h.kept sm h.trimmed) h.rep h.coarsest t
    ∙ trim_preserves o m h.kept h.trimmed t

-- what is told of the reduced automaton's root is told of the root before
pub barren_before : (m : Meaning) → Sound m → (p : Meaning) → Reduced m p → (b : Bool) → BarrenTold p b → BarrenTold m b
barren_before m sm p h b told =
    let same : (t : Ticket) → (worth yes_no p p.root t).yes ≡ (worth yes_no m m.root t).yes = λ t. ap (λ x. x.yes) (reduced_preserves yes_no yes_laws m sm p h t) in
    (λ e t y. told.0 e t (same t ∙ y), λ none. told.1 (λ t y. none t (sym (same t) ∙ y)))

-- a settle that stops
pub stops_narrowing : (m p : Meaning) (was is : Ledger) → Reduced m p → (e : Stop) → Settles p was (Err e) is → Narrows m was (Err e) is
stops_narrowing m p was is w (Refused f) h = (p, w, h.0, h.1)
stops_narrowing m p was is w Memory h = absurd h

-- a settle that is refused leaves the ledger
pub settle_left : (o : Open) (m : Meaning) (r : Result (Unit {0}) SettleRefusal) (f : Fault) → r ≡ settle_answer (held o) m → at_settle r ≡ Err f → step (held o) (settle m) ≡ held o
settle_left o m (Ok _) f e a = cc
settle_left o m (Err x) f e a = sym (settle_refused o m x e)

pub settle_stopped : (o : Open) (m : Meaning) (is : Ledger) (r : Result (Unit {0}) SettleRefusal) (f : Fault) → r ≡ settle_answer (held o) m → at_settle r ≡ Err f → is ≡ step (held o) (settle m) → Settles m (held o) (Err (Refused f)) is
settle_stopped o m is r f e a i = (ap at_settle (sym e) ∙ a, i ∙ settle_left o m r f e a)
