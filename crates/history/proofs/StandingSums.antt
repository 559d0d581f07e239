-- The worth over a book is the sum over the readings by exactly the rows that stand.
use Rattle.std.proofs.Common.{◌≡◌, ℕ, ◌<◌, ltb, ◌↔◌, List, [], ◌∷◌, Some, Ok, Result, sym, ◌∙◌, subst, ⊎_elim, arith}
use Rattle.std.proofs.lemmas.Bool.{cases_lt}
use Rattle.tickets.specs.Ticket.{Ticket, Tickets, node, nil, cons}
use Rattle.automata.specs.Automaton.{Meaning, Production}
use Rattle.automata.specs.Reading.{Reading, Readings, by, rnil, rcons, readings, Reads, ReadsAll, ListsOnce}
use Rattle.automata.specs.Measure.{Ops, Laws}
use Rattle.automata.specs.Worth.{worth, reading_worth}
use Rattle.automata.specs.Table.{cells_needed, worth_answer}
use Rattle.refusals.specs.declared.refusal.WorthRefusal.{WorthRefusal}
use Rattle.refusals.specs.declared.refusal.WorthRefusal.TheVariants.{Start, Scratch}
use Rattle.automata.proofs.EachOnce.{readings_exact}
use Rattle.ledger.specs.Ledger.{Ledger, rows_at, nth, book}
use Rattle.ledger.specs.Layout.{Good}
use Rattle.ledger.specs.Soundness.{nth_beyond, short_at}
use Rattle.history.specs.Stands.{Stands, ReadsBy, ReadsByAll, SumsStanding, AnswersStanding}
use Rattle.history.proofs.SameSums.{same_sum}
use Rattle.ledger.proofs.Taken.{err_then, err_else}
use Rattle.ledger.proofs.GoodLedgers.{ledger_good}
use Rattle.history.proofs.Standing.{holds_standing}

-- readings by rows that stand are the readings over the book
module _ (m : Meaning) (At : ℕ → ℕ → Production → Type 0) (same : (s k : ℕ) (p : Production) → ((k < m.places) × (m.row s k ≡ Some p)) ↔ At s k p) where
  mutual
    by_reads : (t : Ticket) (q : ℕ) (r : Reading) → Reads t m q r → ReadsBy t At q r
    by_reads (node f ts) q (by k p rs) h = ((same q k p).0 (h.0, h.1), h.2, by_reads_all ts p.children rs h.3)

    by_reads_all : (ts : Tickets) (cs : List ℕ) (rs : Readings) → ReadsAll ts m cs rs → ReadsByAll ts At cs rs
    by_reads_all nil [] rnil h = h
    by_reads_all nil [] (rcons r rs) h = h
    by_reads_all nil (c ∷ cs) rs h = h
    by_reads_all (cons t ts) [] rs h = h
    by_reads_all (cons t ts) (c ∷ cs) rnil h = h
    by_reads_all (cons t ts) (c ∷ cs) (rcons r rs) h = (by_reads t c r h.0, by_reads_all ts cs rs h.1)

  mutual
    reads_by : (t : Ticket) (q : ℕ) (r : Reading) → ReadsBy t At q r → Reads t m q r
    reads_by (node f ts) q (by k p rs) h = let a = (same q k p).1 h.0 in (a.0, a.1, h.1, reads_by_all ts p.children rs h.2)

    reads_by_all : (ts : Tickets) (cs : List ℕ) (rs : Readings) → ReadsByAll ts At cs rs → ReadsAll ts m cs rs
    reads_by_all nil [] rnil h = h
    reads_by_all nil [] (rcons r rs) h = h
    reads_by_all nil (c ∷ cs) rs h = h
    reads_by_all (cons t ts) [] rs h = h
    reads_by_all (cons t ts) (c ∷ cs) rnil h = h
    reads_by_all (cons t ts) (c ∷ cs) (rcons r rs) h = (reads_by t c r h.0, reads_by_all ts cs rs h.1)

  lists_all : (t : Ticket) (q : ℕ) → ListsOnce (ReadsBy t At q) (readings t m q)
  lists_all t q = let x = readings_exact t m q in record { each = λ r. (λ k. by_reads t q r ((x.each r).0 k), λ k. (x.each r).1 (reads_by t q r k)); once = x.once }

module _ {M : Type 0} {o : Ops M} (laws : Laws o) where
  pub sums_standing : (l : Ledger) → SumsStanding o l
  sums_standing l h sc e t q =
      let holds = holds_standing l h sc e in
      let short = short_at l (subst Good e (ledger_good h)) in
      let same : (s k : ℕ) (p : Production) → ((k < 32) × (nth (rows_at l s) k ≡ Some p)) ↔ Stands h s k p = λ s k p.
      (λ x. (holds s k p).0 x.1, λ x. (⊎_elim (λ lt. lt) (λ le. absurd (let gone = nth_beyond (rows_at l s) k (omega (arith, short s)) in let at = (holds s k p).1 x in let z : ◌≡◌ {A = ℕ} 0 1 = cc in omega arith)) (cases_lt k 32), (holds s k p).1 x)) in
      let all = lists_all (book l) (Stands h) same t q in (
        (readings t (book l) q, all),
        λ rs k. same_sum laws (reading_worth o) (readings t (book l) q) rs all.once k.once (λ r x. (k.each r).1 ((all.each r).0 x)) (λ r x. (all.each r).1 ((k.each r).0 x)),
      )

  -- what the answer of a worth call says
  pub answers_standing : (l : Ledger) (t : Ticket) (q room : ℕ) (r : Result M WorthRefusal) → r ≡ worth_answer o (book l) t q room → AnswersStanding o l t q r
  answers_standing l t q room r a w e h sc g rs k =
      let ok : Ok w ≡ worth_answer o (book l) t q room = sym e ∙ a in
      let p = err_else (ltb q (book l).states) w _ Start ok in
      let s = err_then (ltb room (cells_needed (book l) t)) w _ Scratch p.1 in
      let same : w ≡ worth o (book l) q t = cc s.1 in
      same ∙ (sums_standing l h sc g t q).1 rs k
