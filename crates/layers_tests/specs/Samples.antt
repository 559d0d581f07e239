-- Small automata to test layers with: one without rows, a chain whose root accepts one deep ticket, and a ring.
use Rattle.std.specs.Prelude.{◌≡◌, ℕ, ◌+◌, ◌-◌, ◌<◌, ◌≤◌, Bool, true, false, cond, ◌&&◌, [], ◌∷◌, length, Some, None, ◌==◌, nat_lt, refl}
use Rattle.std.proofs.Common.{sym, ap, ◌∙◌, arith}
use Rattle.std.proofs.lemmas.Bool.{and_from, ltb-true, lt-ltb, le-ltb}
use Rattle.automata.specs.Automaton.{Meaning, Production, Sound, Closed, Small, all_below}

abbrev pub bare : ℕ → ℕ → Meaning
bare n w = record { states = n; places = w; root = 0; row = λ s k. None }

pub bare_sound : (n w : ℕ) → 0 < n → n ≤ 1024 → 0 < w → w ≤ 65536 → Sound (bare n w)
bare_sound n w a b c d = record {
  some_state = a;
  few_states = b;
  some_place = c;
  few_places = d;
  rooted = a;
  closed = λ s k. tt;
  few_points = λ s k. tt;
  one_arity = λ s k s' k' p p' e e' i. absurd (let z : ◌≡◌ {A = ℕ} 0 1 = cc in omega arith);
  no_state_beyond = λ s k h. refl;
  no_place_beyond = λ s k h. refl;
}

-- state 0 has the leaf row of form 0, and state s above it the row of form 1 over state s - 1
abbrev pub link : Bool → ℕ → Production
link true s = record { form = 0; points = 0; children = [] }
link false s = record { form = 1; points = 0; children = (s - 1) ∷ [] }

abbrev pub chain : ℕ → Meaning
chain n = record {
  states = n + 1;
  places = 1;
  root = n;
  row = λ s k. cond (nat_lt s (n + 1) && nat_lt k 1) (Some (link (s == 0) s)) None;
}

link_closed : (n s : ℕ) (e : Bool) → s < n + 1 → all_below (n + 1) (link e s).children ≡ true
link_closed n s true l = refl
link_closed n s false l = and_from (nat_lt (s - 1) (n + 1)) true (lt-ltb (s - 1) (n + 1) (omega arith)) refl

link_small : (e : Bool) (s : ℕ) → (link e s).points ≤ 65535
link_small true s = omega arith
link_small false s = omega arith

link_arity : (e : Bool) (s : ℕ) → length (link e s).children ≡ (link e s).form
link_arity true s = refl
link_arity false s = refl

chain_closed : (n s : ℕ) (a b : Bool) → nat_lt s (n + 1) ≡ a → Closed (n + 1) (cond (a && b) (Some (link (s == 0) s)) None)
chain_closed n s true true h = link_closed n s (s == 0) (ltb-true s (n + 1) h)
chain_closed n s true false h = tt
chain_closed n s false b h = tt

chain_small : (s : ℕ) (c : Bool) → Small (cond c (Some (link (s == 0) s)) None)
chain_small s true = link_small (s == 0) s
chain_small s false = tt

chain_arity : (s : ℕ) (c : Bool) (p : Production) → cond c (Some (link (s == 0) s)) None ≡ Some p → length p.children ≡ p.form
chain_arity s true p e = let same : link (s == 0) s ≡ p = cc in rw same at (link_arity (s == 0) s)
chain_arity s false p e = absurd (let z : ◌≡◌ {A = ℕ} 0 1 = cc in omega arith)

and_false : (x : Bool) → (x && false) ≡ false
and_false true = refl
and_false false = refl

pub chain_sound : (n : ℕ) → n < 1024 → Sound (chain n)
chain_sound n l = record {
  some_state = omega arith;
  few_states = omega arith;
  some_place = omega arith;
  few_places = omega arith;
  rooted = omega arith;
  closed = λ s k. chain_closed n s (nat_lt s (n + 1)) (nat_lt k 1) refl;
  few_points = λ s k. chain_small s (nat_lt s (n + 1) && nat_lt k 1);
  one_arity = λ s k s' k' p p' e e' i. chain_arity s (nat_lt s (n + 1) && nat_lt k 1) p e ∙ i ∙ sym (chain_arity s' (nat_lt s' (n + 1) && nat_lt k' 1) p' e');
  no_state_beyond = λ s k h. rw (le-ltb s (n + 1) h);
  no_place_beyond = λ s k h. rw (le-ltb k 1 h, and_false (nat_lt s (n + 1)));
}

-- each state has the row of form 1 over the state before it, and state 0 over the last
abbrev pub before : Bool → ℕ → ℕ → ℕ
before true n s = n
before false n s = s - 1

abbrev pub ring : ℕ → Meaning
ring n = record {
  states = n + 1;
  places = 1;
  root = n;
  row = λ s k. cond (nat_lt s (n + 1) && nat_lt k 1) (Some (record { form = 1; points = 0; children = before (s == 0) n s ∷ [] })) None;
}

before_below : (n s : ℕ) (e : Bool) → s < n + 1 → before e n s < n + 1
before_below n s true l = omega arith
before_below n s false l = omega arith

ring_closed : (n s : ℕ) (a b : Bool) → nat_lt s (n + 1) ≡ a → Closed (n + 1) (cond (a && b) (Some (record { form = 1; points = 0; children = before (s == 0) n s ∷ [] })) None)
ring_closed n s true true h = and_from (nat_lt (before (s == 0) n s) (n + 1)) true (lt-ltb (before (s == 0) n s) (n + 1) (before_below n s (s == 0) (ltb-true s (n + 1) h))) refl
ring_closed n s true false h = tt
ring_closed n s false b h = tt

ring_small : (c : Bool) (x : ℕ) → Small (cond c (Some (record { form = 1; points = 0; children = x ∷ [] })) None)
ring_small true x = omega arith
ring_small false x = tt

ring_arity : (c : Bool) (x : ℕ) (p : Production) → cond c (Some (record { form = 1; points = 0; children = x ∷ [] })) None ≡ Some p → length p.children ≡ 1
ring_arity true x p e = let same : ◌≡◌ {A = Production} (record { form = 1; points = 0; children = x ∷ [] }) p = cc in sym (ap (λ (q : Production). length q.children) same)
ring_arity false x p e = absurd (let z : ◌≡◌ {A = ℕ} 0 1 = cc in omega arith)

pub ring_sound : (n : ℕ) → n < 1024 → Sound (ring n)
ring_sound n l = record {
  some_state = omega arith;
  few_states = omega arith;
  some_place = omega arith;
  few_places = omega arith;
  rooted = omega arith;
  closed = λ s k. ring_closed n s (nat_lt s (n + 1)) (nat_lt k 1) refl;
  few_points = λ s k. ring_small (nat_lt s (n + 1) && nat_lt k 1) (before (s == 0) n s);
  one_arity = λ s k s' k' p p' e e' i. ring_arity (nat_lt s (n + 1) && nat_lt k 1) (before (s == 0) n s) p e ∙ sym (ring_arity (nat_lt s' (n + 1) && nat_lt k' 1) (before (s' == 0) n s') p' e');
  no_state_beyond = λ s k h. rw (le-ltb s (n + 1) h);
  no_place_beyond = λ s k h. rw (le-ltb k 1 h, and_false (nat_lt s (n + 1)));
}
