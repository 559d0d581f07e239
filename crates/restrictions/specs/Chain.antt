-- The restrictions of a sheet one after the other: each multiplies the current book, and what trim and merge leave of it is settled into the next register.
use Rattle.std.specs.Prelude.{◌≡◌, ℕ, false, cond, List, [], ◌∷◌, ◌++◌, map, None, Ok, Err, Result, ◌==◌}
use Rattle.refusals.specs.declared.refusal.Refusal.TheVariants.{Pile}
use Rattle.refusals.specs.declared.refusal.PileRefusal.{PileRefusal}
use Rattle.automata.specs.Automaton.{Meaning}
use Rattle.rules.specs.Ladder.{ladder, ladder_checked}
use Rattle.rules.specs.Bar.{bar, bar_checked}
use Rattle.ledger.specs.Ledger.{Ledger, settle, seal, settle_answer, step, book}
use Rattle.product.specs.Product.{product, product_checked}
use Rattle.fields.specs.declared.fault.Fault.{Fault}
use Rattle.fields.specs.Fault.{of_refusal, bind}
use Rattle.rules.specs.declared.bar.Nesting.{Nesting}
use Rattle.sheet.specs.Entered.{Barred}
use Rattle.reports.specs.Levels.{highest}
use Rattle.narrowing.specs.Reduced.{Reduced}
use Rattle.narrowing.specs.Narrows.{at_settle}
use Rattle.restrictions.specs.declared.rule.Rule.{Rule}
use Rattle.restrictions.specs.declared.rule.Rule.TheVariants.{Whole, Levels, Bars}

abbrev pub bar_entry : Barred → Nesting
bar_entry b = record { outer = b.outer; position = b.position; inner = b.inner }

-- the ladder where some level is above 0, then each bar; with neither, the whole grammar as it is
abbrev pub or_whole : List Rule → List Rule
or_whole [] = Whole ∷ []
or_whole (r ∷ rs) = r ∷ rs

abbrev pub rules_of : List ℕ → List Barred → List Rule
rules_of levels bars = or_whole (cond (highest levels == 0) [] (Levels ∷ []) ++ map (λ b. Bars (bar_entry b)) bars)

-- a refusal of a pile is of no line and no field
abbrev pub at_pile : Result (Unit {0}) PileRefusal → Result (Unit {0}) Fault
at_pile (Ok _) = Ok tt
at_pile (Err e) = Err (of_refusal (Pile e) 0)

-- the book of a ledger times an automaton
abbrev pub multiplied : Ledger → Meaning → Result Meaning Fault
multiplied l rule = bind (at_pile (product_checked (book l) rule)) (λ _. Ok (product (book l) rule))

-- the pile that a rule makes of a ledger's book
abbrev pub pile_of : List ℕ → Ledger → Rule → Result Meaning Fault
pile_of levels l Whole = Ok (book l)
pile_of levels l Levels = bind (at_pile (ladder_checked l.arities (highest levels) levels)) (λ _. multiplied l (ladder l.arities (highest levels) levels))
pile_of levels l (Bars b) = bind (at_pile (bar_checked l.arities b.outer b.position b.inner)) (λ _. multiplied l (bar l.arities b.outer b.position b.inner))

-- an open register's ledger with these forms and nothing else
abbrev pub formed : List ℕ → Ledger
formed arities = record { arities = arities; rows = []; root = None; sealed = false }

-- the pile trimmed and merged, settled into a register with these forms, and sealed
abbrev pub Next : List ℕ → Result Meaning Fault → Result Ledger Fault → Type 0
Next arities (Err f) r = r ≡ Err f
Next arities (Ok m) r = (p : Meaning) × Reduced m p × (r ≡ bind (at_settle (settle_answer (formed arities) p)) (λ _. Ok (step (step (formed arities) (settle p)) seal)))

-- what follows a ledger, or its refusal
abbrev pub Continued : Result Ledger Fault → (Ledger → Type 0) → Result Ledger Fault → Type 0
Continued (Ok k) Then x = Then k
Continued (Err f) Then x = x ≡ Err f

-- the ledger after the rules in order; the first refusal ends it
abbrev pub Chain : List ℕ → Ledger → List Rule → Result Ledger Fault → Type 0
Chain levels l [] x = x ≡ Ok l
Chain levels l (rule ∷ rules) x = (y : Result Ledger Fault) × Next l.arities (pile_of levels l rule) y × Continued y (λ k. Chain levels k rules x) x
