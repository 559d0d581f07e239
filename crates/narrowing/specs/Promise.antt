-- What is promised of worth: over every history of register calls, refused ones counted in, and over every sound automaton, in one measure.
use Rattle.std.specs.Prelude.{◌≡◌, ℕ, true, List, [], ◌∷◌, ◌++◌, is_ok, Ok}
use Rattle.tickets.specs.Ticket.{Ticket}
use Rattle.automata.specs.Automaton.{Meaning, Sound}
use Rattle.automata.specs.Reading.{Reading}
use Rattle.automata.specs.Measure.{Ops}
use Rattle.automata.specs.Worth.{sum, reading_worth, worth}
use Rattle.automata.specs.Table.{worth_answer}
use Rattle.ledger.specs.Ledger.{Call, settle, seal, accepted, ledger, book}
use Rattle.history.specs.Stands.{SoundCalls, ListsStanding}
use Rattle.search.specs.declared.line.Line.{Line}
use Rattle.search.specs.Search.{Tells}
use Rattle.search.specs.Searched.{Searched}
use Rattle.layers.specs.Trim.{Trimmed, TrimPreserves}
use Rattle.product.specs.Product.{product, product_checked, ProductMultiplies}
use Rattle.merge.specs.Merge.{Coarsest, merged, MergePreserves}

-- any sound automata under any number of products, trims and merges
pub data Pile : Meaning → Type 0 where
  lone : (m : Meaning) → Sound m → Pile m
  of_product : (a b : Meaning) → Pile a → Pile b → is_ok (product_checked a b) ≡ true → Pile (product a b)
  of_trim : (m a : Meaning) → Pile m → Trimmed m a → Pile a
  of_merge : (m : Meaning) (rep : ℕ → ℕ) → Pile m → Coarsest m rep → Pile (merged m rep)

-- a sealed register's worth, of every ticket from each state, is the sum over its readings by exactly the rows accepted and not struck since
abbrev pub SumsReadings : {M : Type 0} → Ops M → Type 0
SumsReadings o =
    (h : List Call) → SoundCalls h → (ledger h).sealed ≡ true → (t : Ticket) (q : ℕ)
    → ((rs : List Reading) × ListsStanding h t q rs)
    × ((rs : List Reading) → ListsStanding h t q rs → worth o (book (ledger h)) q t ≡ sum o (reading_worth o) rs)

-- after a settle not refused and a seal, the worth from the target's root is that from the pile's root
abbrev pub SettlingKeeps : {M : Type 0} → Ops M → Type 0
SettlingKeeps o =
    (h : List Call) (m : Meaning) → Sound m → accepted (ledger h) (settle m) ≡ true → (t : Ticket)
    → worth o (book (ledger (h ++ settle m ∷ seal ∷ []))) (book (ledger (h ++ settle m ∷ seal ∷ []))).root t ≡ worth o m m.root t

-- the answer of a worth call that is not refused is the ticket's worth
abbrev pub AnswersWorth : {M : Type 0} → Ops M → Type 0
AnswersWorth {M} o = (m : Meaning) (t : Ticket) (q room : ℕ) (w : M) → worth_answer o m t q room ≡ Ok w → w ≡ worth o m q t

pub record Promise {M : Type 0} (o : Ops M) : Type 0 where
  pub sums : SumsReadings o
  pub multiplies : ProductMultiplies o
  pub trims : TrimPreserves o
  pub merges : MergePreserves o
  pub settles : SettlingKeeps o
  pub answers : AnswersWorth o
  -- the book over a sealed register is an automaton, and so is each pile
  pub books : (h : List Call) → (ledger h).sealed ≡ true → Sound (book (ledger h))
  pub piles : (m : Meaning) → Pile m → Sound m
  -- in any pile, what a search goes by says barren exactly where no ticket of any size is accepted
  pub searches : (m : Meaning) → Pile m → (q n : ℕ) (ls : List Line) → Searched m q n ls → Tells m q n
