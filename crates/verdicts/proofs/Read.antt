-- Tickets read at the root.
use Rattle.std.proofs.Common.{◌≡◌, ℕ, ◌+◌, ◌*◌, ◌<◌, ◌≤◌, List, [], ◌∷◌, ◌++◌, length, get_or, drop, Ok, Err, Result, refl, ap, ◌∙◌, mul-le-mul, arith}
use Rattle.std.proofs.lemmas.List.{drop_more}
use Rattle.std.proofs.lemmas.Bool.{lt-ltb, le-ltb, cond-true, cond-false}
use Rattle.automata.specs.declared.yes_no.YesNo.{YesNo}
use Rattle.automata.specs.declared.reading_count.ReadingCount.{ReadingCount}
use Rattle.automata.specs.declared.fewest_points.FewestPoints.{FewestPoints}
use Rattle.tickets.specs.declared.checked.CheckedTicket.{CheckedTicket}
use Rattle.automata.specs.Automaton.{Meaning}
use Rattle.automata.specs.Measure.{Ops}
use Rattle.automata.specs.Measures.{yes_no, reading_count, fewest_points}
use Rattle.tickets.specs.Ticket.{Ticket, postfix}
use Rattle.tickets.specs.Check.{ticket_checked, tree}
use Rattle.tickets.specs.Checked.{ticket_of}
use Rattle.automata.specs.Table.{cells_needed, worth_answer}
use Rattle.automata.specs.Worth.{worth}
use Rattle.tickets.proofs.Checks.{check_tree, ok_from}
use Rattle.automata.proofs.Tables.{passed}
use Rattle.register.specs.declared.sealed.Sealed.{Sealed}
use Rattle.ledger.specs.Layout.{laid_out}
use Rattle.ledger.specs.Ledger.{Ledger, or_zero, book}
use Rattle.register.specs.Held.{held_sealed}
use Rattle.ledger.specs.Soundness.{good_from, good_sound}
use Rattle.fields.specs.declared.fault.Fault.{Fault}
use Rattle.fields.specs.declared.fault.Stop.{Stop}
use Rattle.fields.specs.declared.fault.Stop.TheVariants.{Refused, Memory}
use Rattle.fields.specs.Fault.{bind}
use Rattle.text.specs.Text.{figure}
use Rattle.text.proofs.Lines.{on, regroup, piece, goes}
use Rattle.verdicts.specs.Verdicts.{verdict_text, ticket_text, tickets_text, ticket_passes, tickets_pass, Stops}

-- a start that is a state and scratch for each node and state: the call answers the worth
pub worth_given : {M : Type 0} (o : Ops M) (m : Meaning) (t : Ticket) (start room : ℕ) → start < m.states → cells_needed m t ≤ room → worth_answer o m t start room ≡ Ok (worth o m start t)
worth_given o m t start room lt le = cond-true _ _ _ (lt-ltb start m.states lt) ∙ cond-false _ _ _ (le-ltb room (cells_needed m t) le)

pub few_nodes : (t : CheckedTicket) → length (postfix (ticket_of t)) ≤ 256
few_nodes t =
    let a = t.forms.arities.now in
    let ns = t.nodes.now in
    omega (arith, ap length (check_tree a ns (ok_from (ticket_checked a ns) t.whole)).1, (passed a ns t.whole).1)

pub few_states : (v : Sealed) → length (held_sealed v).rows ≤ 64
few_states v = (good_from (held_sealed v) v.good).few

pub root_within : (v : Sealed) → or_zero (held_sealed v).root < length (held_sealed v).rows
unfolding laid_out
root_within v = (good_sound (held_sealed v) (good_from (held_sealed v) v.good) refl).rooted

pub few_cells : (a b : ℕ) → a ≤ 256 → b ≤ 64 → a * b ≤ 16384
few_cells a b h k = mul-le-mul h k

pub told : (l : Ledger) (k : ℕ) (t : Ticket) (y : YesNo) (c : ReadingCount) (p : FewestPoints) → y ≡ worth yes_no (book l) (or_zero l.root) t → c ≡ worth reading_count (book l) (or_zero l.root) t → p ≡ worth fewest_points (book l) (or_zero l.root) t → verdict_text k y c p ≡ ticket_text l k t
unfolding ticket_text
told l k t y c p ey ec ep =
    ap (λ (z : YesNo). verdict_text k z c p) ey
    ∙ ap (λ (z : ReadingCount). verdict_text k (worth yes_no (book l) (or_zero l.root) t) z p) ec
    ∙ ap (λ (z : FewestPoints). verdict_text k (worth yes_no (book l) (or_zero l.root) t) (worth reading_count (book l) (or_zero l.root) t) z) ep

-- what stops one call stops the call above it
pub stops : (check check' : Result (Unit {0}) Fault) (e : Stop) → ((f : Fault) → check ≡ Err f → check' ≡ Err f) → Stops check e → Stops check' e
stops check check' (Refused f) k h = k f h
stops check check' Memory k h = tt

module _ (l : Ledger) (nss : List (List ℕ)) (i : ℕ) (ns : List ℕ) (lt : i < length nss) (here : get_or nss i [] ≡ ns) where
  left : drop i nss ≡ ns ∷ drop (i + 1) nss
  left = drop_more nss i [] lt ∙ ap (λ n. n ∷ drop (i + 1) nss) here

  pub pass_stops : tickets_pass l.arities nss ≡ tickets_pass l.arities (drop i nss) → (f : Fault) → ticket_passes l.arities ns ≡ Err f → tickets_pass l.arities nss ≡ Err f
  pass_stops inv f h = inv ∙ ap (tickets_pass l.arities) left ∙ ap (λ (r : Result (Unit {0}) Fault). bind r (λ _. tickets_pass l.arities (drop (i + 1) nss))) h

  pub pass_more : tickets_pass l.arities nss ≡ tickets_pass l.arities (drop i nss) → ticket_passes l.arities ns ≡ Ok tt → tickets_pass l.arities nss ≡ tickets_pass l.arities (drop (i + 1) nss)
  pass_more inv h = inv ∙ ap (tickets_pass l.arities) left ∙ ap (λ (r : Result (Unit {0}) Fault). bind r (λ _. tickets_pass l.arities (drop (i + 1) nss))) h

  pub text_more : (whole was is : List ℕ) → was ++ tickets_text l (i + 1) (drop i nss) ≡ whole → is ≡ was ++ ticket_text l (i + 1) (tree l.arities ns) → is ++ tickets_text l (i + 1 + 1) (drop (i + 1) nss) ≡ whole
  text_more whole was is h e =
      piece whole was is (ticket_text l (i + 1) (tree l.arities ns)) (tickets_text l (i + 1 + 1) (drop (i + 1) nss)) (goes (tickets_text l (i + 1)) whole was (drop i nss) (ns ∷ drop (i + 1) nss) left h) e

pub verdict_whole : (o0 o1 o2 o3 o4 o5 o6 w w' : List ℕ) (k c c' p p' : ℕ) → w ≡ w' → c ≡ c' → p ≡ p' → o1 ≡ o0 ++ 84 ∷ [] → o2 ≡ o1 ++ figure k → o3 ≡ o2 ++ 9 ∷ w → o4 ≡ o3 ++ figure c → o5 ≡ o4 ++ figure p → o6 ≡ o5 ++ 10 ∷ [] → o6 ≡ o0 ++ 84 ∷ (figure k ++ (9 ∷ w' ++ (figure c' ++ (figure p' ++ 10 ∷ []))))
verdict_whole o0 o1 o2 o3 o4 o5 o6 w w' k c c' p p' ew ec ep e1 e2 e3 e4 e5 e6 =
    on o5 o6 _ _ e6 (on o4 o5 _ _ (e5 ∙ ap (λ x. o4 ++ figure x) ep) (on o3 o4 _ _ (e4 ∙ ap (λ x. o3 ++ figure x) ec) (on o2 o3 _ _ (e3 ∙ ap (λ x. o2 ++ 9 ∷ x) ew) (on o1 o2 _ _ e2 e1)))) ∙ regroup o0 (84 ∷ []) (figure k) (9 ∷ w') (figure c') (figure p') (10 ∷ [])
