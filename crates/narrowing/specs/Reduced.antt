-- An automaton trimmed and then merged.
use Rattle.std.specs.Prelude.{◌≡◌, ℕ}
use Rattle.automata.specs.Automaton.{Meaning, Sound}
use Rattle.tickets.specs.Ticket.{Ticket}
use Rattle.automata.specs.Measure.{Ops}
use Rattle.automata.specs.Worth.{worth}
use Rattle.layers.specs.Trim.{Trimmed}
use Rattle.merge.specs.Merge.{Coarsest, merged}

-- the second is the first trimmed, and then merged by the coarsest grouping
pub record Reduced (m p : Meaning) : Type 0 where
  pub kept : Meaning
  pub rep : ℕ → ℕ
  pub trimmed : Trimmed m kept
  pub coarsest : Coarsest kept rep
  pub is : p ≡ merged kept rep

-- there is one such
abbrev pub ReducedOne : Type 0
ReducedOne = (m : Meaning) → Sound m → (p q : Meaning) → Reduced m p → Reduced m q → p ≡ q

-- the worth from the root stays
abbrev pub ReducedPreserves : {M : Type 0} → Ops M → Type 0
ReducedPreserves o = (m : Meaning) → Sound m → (p : Meaning) → Reduced m p → (t : Ticket) → worth o p p.root t ≡ worth o m m.root t
