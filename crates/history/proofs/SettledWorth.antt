-- The worth from the root of a settled ledger is that of the automaton that settle wrote.
use Rattle.std.proofs.Common.{◌≡◌, ℕ, zero, suc, ◌≤◌, Bool, true, false, cond, ◌&&◌, eqb, List, [], ◌∷◌, ◌++◌, map, length, get_or, take, is_ok, Some, sym, refl, ap, ◌∙◌, ap₂, arith}
use lib.ListN.{length-map}
use Rattle.std.specs.List.{AllByRecursion}
use Rattle.std.specs.Option.{option_to_list}
use Rattle.std.proofs.lemmas.List.{take_all, get_or-map}
use Rattle.std.proofs.lemmas.Bool.{true≢false}
use Rattle.tickets.specs.Ticket.{Ticket, Tickets, node, nil, cons, count}
use Rattle.automata.specs.Automaton.{Meaning, Production, Sound}
use Rattle.automata.specs.Measure.{Ops, Laws}
use Rattle.automata.specs.Worth.{sum, worth, row_worth, children_worth}
use Rattle.automata.proofs.Sums.{sum_map}
use Rattle.automata.specs.Rows.{renamed, rows_below, rows_of}
use Rattle.ledger.specs.Reach.{reached, reached_states, number}
use Rattle.ledger.specs.Ledger.{Ledger, settle, seal, accepted, step, done, with_seal, settle_answer, rows_at, nth, book}
use Rattle.history.specs.Settle.{settled_ledger, SettlePreserves}
use Rattle.automata.proofs.RowLists.{sum_all, worth_by_list}
use Rattle.history.proofs.Reached.{reached_root, reached_below}
use Rattle.history.proofs.Listed.{listed_at}
use Rattle.history.proofs.Settled.{Passed, passed, new_rows, number_below, rows_reached, settle_enters}
use Rattle.ledger.proofs.Steps.{step_ok, seal_step}

take_nth : (xs : List Production) (n : ℕ) → take (suc n) xs ≡ take n xs ++ option_to_list (nth xs n)
take_nth [] zero = refl
take_nth [] (suc n) = refl
take_nth (x ∷ xs) zero = refl
take_nth (x ∷ xs) (suc n) = ap (λ r. x ∷ r) (take_nth xs n)

book_rows : (l : Ledger) (s n : ℕ) → rows_below (book l) s n ≡ take n (rows_at l s)
book_rows l s zero = refl
book_rows l s (suc n) = ap (λ r. r ++ option_to_list (nth (rows_at l s) n)) (book_rows l s n) ∙ sym (take_nth (rows_at l s) n)

-- the rows of a state of the book are those of the ledger
pub book_lists : (l : Ledger) (s : ℕ) → length (rows_at l s) ≤ 32 → rows_of (book l) s ≡ rows_at l s
book_lists l s h = book_rows l s 32 ∙ take_all 32 (rows_at l s) h

module _ {M : Type 0} {o : Ops M} (laws : Laws o) (l : Ledger) (m : Meaning) (sm : Sound m) (ok : Passed l m) where
  abbrev target : Meaning
  target = book (with_seal (settled_ledger l m) true)

  target_rows : (s : ℕ) → reached m s ≡ true → rows_of target (number m s) ≡ new_rows m sm s
  target_rows s e =
      let below = reached_below m sm s e in
      let at : get_or (map (new_rows m sm) (reached_states m)) (number m s) [] ≡ new_rows m sm s =
      get_or-map (new_rows m sm) (reached_states m) (number m s) 0 [] (number_below m sm s e) ∙ ap (new_rows m sm) (listed_at (reached m) s m.states below e) in
      book_lists (with_seal (settled_ledger l m) true) (number m s) (omega (arith, ap length at, length-map (rows_of m s) (renamed (number m)), ok.short s below e)) ∙ at

  abbrev Flagged : List ℕ → Type 0
  Flagged cs = AllByRecursion (λ c. reached m c ≡ true) cs

  abbrev Children : Tickets → Type 0
  Children ts = (cs : List ℕ) → Flagged cs → children_worth o target ts (map (number m) cs) ≡ children_worth o m ts cs

  row_same : (f : ℕ) (ts : Tickets) → Children ts → (p : Production) → Flagged p.children → row_worth o target f ts (Some (renamed (number m) p)) ≡ row_worth o m f ts (Some p)
  row_same f ts ih p h = ap₂ (λ n w. cond (eqb p.form f && eqb n (count ts)) (o.times (o.value p.points) w) o.none) (length-map p.children (number m)) (ih p.children h)

  node_same : (f : ℕ) (ts : Tickets) → Children ts → (s : ℕ) → reached m s ≡ true → worth o target (number m s) (node f ts) ≡ worth o m s (node f ts)
  node_same f ts ih s e =
      let F : Production → M = λ p. row_worth o target f ts (Some p) in
      worth_by_list laws target (number m s) f ts
      ∙ ap (sum o F) (target_rows s e)
      ∙ sum_map laws F (renamed (number m)) (rows_of m s)
      ∙ sum_all laws (λ p. Flagged p.children) (λ p. F (renamed (number m) p)) (λ p. row_worth o m f ts (Some p)) (row_same f ts ih) (rows_of m s) (rows_reached m sm s e)
      ∙ sym (worth_by_list laws m s f ts)

  mutual
    pub settled_worth : (t : Ticket) (s : ℕ) → reached m s ≡ true → worth o target (number m s) t ≡ worth o m s t
    settled_worth (node f ts) s e = node_same f ts (settled_all ts) s e

    settled_all : (ts : Tickets) → Children ts
    settled_all nil [] h = refl
    settled_all nil (c ∷ cs) h = refl
    settled_all (cons t ts) [] h = refl
    settled_all (cons t ts) (c ∷ cs) h = ap₂ o.times (settled_worth t c h.0) (settled_all ts cs h.1)

pub settle_open : (l : Ledger) (m : Meaning) → accepted l (settle m) ≡ true → (l.sealed ≡ false) × (is_ok (settle_answer l m) ≡ true)
unfolding accepted
settle_open l m h = go l.sealed refl h
  where
    go : (b : Bool) → l.sealed ≡ b → cond b false (is_ok (settle_answer l m)) ≡ true → (l.sealed ≡ false) × (is_ok (settle_answer l m) ≡ true)
    go true q x = absurd (true≢false (sym x))
    go false q x = (q, x)

pub settle_passed : (l : Ledger) (m : Meaning) → accepted l (settle m) ≡ true → Passed l m
settle_passed l m h = passed l m (settle_open l m h).1

-- the target after settle, and after a seal besides
pub settle_done : (l : Ledger) (m : Meaning) → Sound m → accepted l (settle m) ≡ true → done l (settle m) ≡ settled_ledger l m
settle_done l m sm h = settle_enters l m sm (settle_open l m h).1

settle_seals : (l : Ledger) (m : Meaning) → Sound m → accepted l (settle m) ≡ true → step (step l (settle m)) seal ≡ with_seal (settled_ledger l m) true
settle_seals l m sm h =
    ap (λ x. step x seal) (step_ok l (settle m) h ∙ settle_done l m sm h)
    ∙ seal_step (settled_ledger l m) (settle_open l m h).0 refl

module _ {M : Type 0} {o : Ops M} (laws : Laws o) where
  pub settle_preserves : SettlePreserves o
  settle_preserves l m sm h t =
      ap (λ x. worth o (book x) (book x).root t) (settle_seals l m sm h) ∙ settled_worth laws l m sm (settle_passed l m h) t m.root (reached_root m sm)
