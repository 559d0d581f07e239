-- The whole listing, from its parts.
use Rattle.std.proofs.Common.{◌≡◌, ℕ, List, [], ◌++◌, Ok, Result, sym, ap, ◌∙◌, append_assoc}
use Rattle.ledger.specs.Ledger.{Ledger}
use Rattle.fields.specs.declared.fault.Fault.{Fault}
use Rattle.fields.specs.declared.fault.Stop.{Stop}
use Rattle.fields.specs.declared.fault.Stop.TheVariants.{Refused, Memory}
use Rattle.fields.specs.Fault.{bind}
use Rattle.text.proofs.Lines.{on}
use Rattle.verdicts.specs.Verdicts.{tickets_text, tickets_pass, Stops}
use Rattle.listing.specs.Listing.{counts_text, root_text, rows_text, listing_text, listing_answer}

regroup : (a b c d : List ℕ) → ((a ++ b) ++ c) ++ d ≡ a ++ (b ++ (c ++ d))
regroup a b c d = simp append_assoc

pub listed : (names : List (List ℕ)) (l : Ledger) (nss : List (List ℕ)) (o0 o1 o2 o3 o4 : List ℕ) → o0 ≡ [] → o1 ≡ o0 ++ counts_text l → o2 ≡ o1 ++ root_text l → o3 ≡ o2 ++ rows_text names 0 l.rows → tickets_pass l.arities nss ≡ Ok tt → o4 ≡ o3 ++ tickets_text l 1 nss → listing_answer names l nss ≡ Ok o4
listed names l nss o0 o1 o2 o3 o4 e0 e1 e2 e3 pass e4 =
    ap (λ (r : Result (Unit {0}) Fault). bind r (λ _. Ok (listing_text names l nss))) pass
    ∙ ap Ok (sym (on o3 o4 _ _ e4 (on o2 o3 _ _ e3 (on o1 o2 _ _ e2 (on o0 o1 _ _ e1 e0))) ∙ regroup (counts_text l) (root_text l) (rows_text names 0 l.rows) (tickets_text l 1 nss)))

pub not_listed : (names : List (List ℕ)) (l : Ledger) (nss : List (List ℕ)) (e : Stop) → Stops (tickets_pass l.arities nss) e → Stops (listing_answer names l nss) e
not_listed names l nss (Refused f) h = ap (λ (r : Result (Unit {0}) Fault). bind r (λ _. Ok (listing_text names l nss))) h
not_listed names l nss Memory h = tt
