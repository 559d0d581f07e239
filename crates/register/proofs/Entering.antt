-- What the rows and the table hold after a form, a state or a root is entered, and when they are blank.
use Rattle.std.proofs.Common.{◌≡◌, ℕ, ◌+◌, ◌<◌, ◌≤◌, ⊎_elim, Bool, true, false, cond, ltb, leb, List, [], length, get_or, take, set, is_some, is_ok, Option, Some, None, Ok, Err, Result, sym, refl, ap, ◌∙◌, arith}
use Rattle.std.specs.Option.{unwrap_or, ok_or}
use Rattle.std.specs.List.{slice_get}
use Rattle.std.specs.Array.{AllOfLen}
use Rattle.std.proofs.lemmas.Option.{unwrap_or-slice_get}
use Rattle.std.proofs.lemmas.List.{length-take, length-set, take_more_set, get_or-take}
use Rattle.refusals.specs.declared.refusal.RegisterRefusal.{RegisterRefusal}
use Rattle.refusals.specs.declared.refusal.RegisterRefusal.TheVariants.{NoRoot, NoState, HighArity, FullForms, FullStates, ShortList}
use Rattle.automata.specs.declared.row.Row.{Row}
use Rattle.ledger.specs.declared.table.Table.{Table}
use Rattle.ledger.specs.Ledger.{blank_ledger, add_form, add_state, name_root, seal, reopen, lent_answer, seal_answer, root_named, entry_answer, entered, step, with_rows, or_zero}
use Rattle.ledger.specs.Layout.{blocks, Most, Sane, laid_out}
use Rattle.std.proofs.lemmas.Bool.{cases_lt, true≢false, ltb-false}
use Rattle.ledger.specs.Soundness.{get_d_beyond}
use Rattle.ledger.proofs.Taken.{found}
use Rattle.ledger.proofs.Steps.{seal_step, reopen_step}
use Rattle.ledger.proofs.Blocks.{blocks_push}
use Rattle.ledger.proofs.LaidOut.{states_held, used_held, unused_held, most_set}

pub forms_held : (rs : List Row) (t : Table) → Sane rs t → length (take t.forms t.arities) ≡ t.forms
forms_held rs t h = length-take t.forms t.arities ∙ omega arith

pub form_answer : (rs : List Row) (t : Table) (a : ℕ) → Sane rs t → cond (ltb 4 a) (Err HighArity) (cond (leb 64 t.forms) (Err FullForms) (Ok t.forms)) ≡ entry_answer (laid_out rs t false) (add_form a)
unfolding laid_out
form_answer rs t a h = ap (λ n. cond (ltb 4 a) (Err HighArity) (cond (leb 64 n) (Err FullForms) (Ok n))) (sym (forms_held rs t h))

abbrev pub with_form : Table → ℕ → Table
with_form t a = record { forms = t.forms + 1; arities = set t.arities t.forms a; states = t.states; counts = t.counts; root = t.root }

pub form_done : (rs : List Row) (t : Table) (a : ℕ) → Sane rs t → t.forms < 64 → laid_out rs (with_form t a) false ≡ entered (laid_out rs t false) (add_form a)
unfolding laid_out
form_done rs t a h l =
    ap (λ x. record { arities = x; rows = blocks (take t.states t.counts) rs; root = t.root; sealed = false }) (take_more_set t.arities t.forms a (omega arith))

pub form_sane : (rs : List Row) (t : Table) (a : ℕ) → Sane rs t → t.forms < 64 → a ≤ 4 → Sane rs (with_form t a)
form_sane rs t a h l k = record {
  long = h.long;
  arities_long = length-set t.arities t.forms a ∙ h.arities_long;
  counts_long = h.counts_long;
  forms = omega arith;
  states = h.states;
  arities = most_set 4 t.arities t.forms a h.arities k;
  counts = h.counts;
}

pub state_answer : (rs : List Row) (t : Table) → Sane rs t → cond (leb 64 t.states) (Err FullStates) (Ok t.states) ≡ entry_answer (laid_out rs t false) add_state
unfolding laid_out
state_answer rs t h = ap (λ n. cond (leb 64 n) (Err FullStates) (Ok n)) (sym (states_held rs t h))

abbrev pub with_state : Table → Table
with_state t = record { forms = t.forms; arities = t.arities; states = t.states + 1; counts = set t.counts t.states 0; root = t.root }

pub state_done : (rs : List Row) (t : Table) → Sane rs t → t.states < 64 → laid_out rs (with_state t) false ≡ entered (laid_out rs t false) add_state
unfolding laid_out
state_done rs t h l =
    ap (with_rows (laid_out rs t false)) (ap (λ x. blocks x rs) (take_more_set t.counts t.states 0 (omega arith)) ∙ blocks_push (take t.states t.counts) rs)

pub state_sane : (rs : List Row) (t : Table) → Sane rs t → t.states < 64 → Sane rs (with_state t)
state_sane rs t h l = record {
  long = h.long;
  arities_long = h.arities_long;
  counts_long = length-set t.counts t.states 0 ∙ h.counts_long;
  forms = h.forms;
  states = omega arith;
  arities = h.arities;
  counts = most_set 32 t.counts t.states 0 h.counts (omega arith);
}

pub root_answer : (rs : List Row) (t : Table) (s : ℕ) → Sane rs t → cond (leb t.states s) (Err NoState) (Ok 0) ≡ entry_answer (laid_out rs t false) (name_root s)
unfolding laid_out
root_answer rs t s h = ap (λ n. cond (leb n s) (Err NoState) (Ok 0)) (sym (states_held rs t h))

abbrev pub with_root : Table → ℕ → Table
with_root t s = record { forms = t.forms; arities = t.arities; states = t.states; counts = t.counts; root = Some s }

pub root_done : (rs : List Row) (t : Table) (s : ℕ) → laid_out rs (with_root t s) false ≡ entered (laid_out rs t false) (name_root s)
unfolding laid_out
root_done rs t s = refl

pub root_sane : (rs : List Row) (t : Table) (s : ℕ) → Sane rs t → Sane rs (with_root t s)
root_sane rs t s h = record { long = h.long; arities_long = h.arities_long; counts_long = h.counts_long; forms = h.forms; states = h.states; arities = h.arities; counts = h.counts }

pub blank_held : (rs : List Row) (t : Table) → t.forms ≡ 0 → t.states ≡ 0 → t.root ≡ None → laid_out rs t false ≡ blank_ledger
unfolding laid_out
blank_held rs t f s r = λ i. record { arities = take (f i) t.arities; rows = blocks (take (s i) t.counts) rs; root = r i; sealed = false }

zeros : (m : ℕ) (xs : List ℕ) → AllOfLen (λ x. x ≡ 0) xs 64 → Most m xs
zeros m xs z k h = let e = z.at k 0 (omega (arith, z.long)) in omega arith

pub blank_sane : (rs : List Row) (t : Table) → 2048 ≤ length rs → t.forms ≡ 0 → AllOfLen (λ x. x ≡ 0) t.arities 64 → t.states ≡ 0 → AllOfLen (λ x. x ≡ 0) t.counts 64 → Sane rs t
blank_sane rs t l f a s c = record {
  long = l;
  arities_long = a.long;
  counts_long = c.long;
  forms = omega arith;
  states = omega arith;
  arities = zeros 4 t.arities a;
  counts = zeros 32 t.counts c;
}

-- the root as a library's option reads it
pub or_zero_is : (r : Option ℕ) → unwrap_or r 0 ≡ or_zero r
or_zero_is None = refl
or_zero_is (Some s) = refl

pub named : (r : Option ℕ) (m : Option (Unit {0})) → is_some m ≡ is_some r → ok_or m NoRoot ≡ root_named r
named None None e = refl
named None (Some u) e = absurd (true≢false e)
named (Some s) None e = absurd (true≢false (sym e))
named (Some s) (Some u) e = refl

-- how many rows a state has, none where it is not entered
pub rows_counted : (rs : List Row) (t : Table) (s : ℕ) → Sane rs t → unwrap_or (slice_get (take t.states t.counts) s) 0 ≡ length (get_or (blocks (take t.states t.counts) rs) s [])
rows_counted rs t s h =
    unwrap_or-slice_get (take t.states t.counts) s 0
    ∙ ⊎_elim
    (λ l. get_or-take t.states t.counts s 0 l ∙ sym (used_held rs t s h l))
    (λ l. get_d_beyond (take t.states t.counts) s 0 (omega (arith, length-take t.states t.counts)) ∙ sym (unused_held rs t s h l))
    (cases_lt s t.states)

-- where a state is entered, its number of rows and what bounds the places of its rows
pub used_found : (rs : List Row) (t : Table) (s u : ℕ) → Sane rs t → slice_get (take t.states t.counts) s ≡ Some u → (s < t.states) × (get_or t.counts s 0 ≡ u) × (u ≤ 32) × (t.states ≤ 64) × (2048 ≤ length rs)
used_found rs t s u h e =
    let f = found t.states t.counts s u e in
    let low = h.counts s (omega (arith, h.states, h.counts_long)) in
    (f.0, f.1, omega arith, h.states, h.long)

short_refused : (b : Bool) (r : Result (Unit {0}) RegisterRefusal) → is_ok (cond b (Err ShortList) r) ≡ true → b ≡ false
short_refused true r h = absurd (true≢false (sym h))
short_refused false r h = refl

pub long_enough : (n : ℕ) → is_ok (lent_answer n) ≡ true → 2048 ≤ n
long_enough n h = ltb-false n 2048 (short_refused (ltb n 2048) (Ok tt) h)

-- sealing and reopening change the seal alone
pub seal_steps : (rs : List Row) (t : Table) → is_ok (seal_answer (laid_out rs t false)) ≡ true → laid_out rs t true ≡ step (laid_out rs t false) seal
unfolding laid_out
seal_steps rs t h = sym (seal_step (laid_out rs t false) refl h)

pub reopen_steps : (rs : List Row) (t : Table) → laid_out rs t false ≡ step (laid_out rs t true) reopen
unfolding laid_out
reopen_steps rs t = sym (reopen_step (laid_out rs t true) refl)
