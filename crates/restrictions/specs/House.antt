-- What a sheet answers: the listing of the grammar that its restrictions leave, or its fault.
use Rattle.std.specs.Prelude.{◌≡◌, ℕ, List, Ok, Err, vec_items, Result, Vec}
use Rattle.std.specs.declared.alloc.Global.{Global}
use Rattle.ledger.specs.Ledger.{Ledger, seal, step}
use Rattle.fields.specs.declared.fault.Fault.{Fault}
use Rattle.fields.specs.declared.fault.Stop.{Stop}
use Rattle.fields.specs.declared.fault.Stop.TheVariants.{Refused, Memory}
use Rattle.fields.specs.Fault.{bind}
use Rattle.sheet.specs.Entered.{Entered, Barred}
use Rattle.listing.specs.Listing.{listing_answer}
use Rattle.reports.specs.declared.house.House.{House}
use Rattle.reports.specs.House.{listing_in}
use Rattle.reports.specs.Grammar.{house_read}
use Rattle.restrictions.specs.declared.rule.Rule.{Rule}
use Rattle.restrictions.specs.Chain.{rules_of, Chain}

-- the rules in order, and the listing of the last book, or the first refusal
abbrev pub Lists : List ℕ → Ledger → List Rule → List (List ℕ) → List (List ℕ) → Result (List ℕ) Fault → Type 0
Lists levels l rules names tickets a = (x : Result Ledger Fault) × Chain levels l rules x × (a ≡ bind x (λ k. listing_answer names k tickets))

-- what is entered is restricted and listed
abbrev pub Answered : Result Entered Fault → Result (List ℕ) Fault → Type 0
Answered (Err f) a = a ≡ Err f
Answered (Ok e) a = Lists e.levels (step e.ledger seal) (rules_of e.levels e.bars) e.forms e.tickets a

-- these bytes, or this fault, are an answer to the sheet
abbrev pub AnswersSheet : ℕ → List ℕ → Result (List ℕ) Fault → Type 0
AnswersSheet n sheet a = Answered (house_read n sheet) a

-- the first is an answer, and the only one
abbrev pub Only : (Result (List ℕ) Fault → Type 0) → Result (List ℕ) Fault → Type 0
Only P a = P a × ((b : Result (List ℕ) Fault) → P b → b ≡ a)

-- a call returns bytes, or a fault, of which this holds; of want of memory nothing is said
abbrev pub Returns : (Result (List ℕ) Fault → Type 0) → Result (Vec ℕ Global) Stop → Type 0
Returns P (Ok v) = P (Ok (vec_items v))
Returns P (Err (Refused f)) = P (Err f)
Returns P (Err Memory) = Unit {0}

-- the same of a call that returns the listing with a report
abbrev pub Restricted : List ℕ → Ledger → List Barred → List (List ℕ) → List (List ℕ) → Result House Stop → Type 0
Restricted levels l bars names tickets r = Returns (Only (Lists levels l (rules_of levels bars) names tickets)) (listing_in r)

-- the call returns the only answer to the sheet, or stops for want of memory
abbrev pub Told : ℕ → List ℕ → Result House Stop → Type 0
Told n sheet r = Returns (Only (AnswersSheet n sheet)) (listing_in r)
