-- The ladder: forms have levels, and no form of a level has one of a lower level, but for level 0, directly below it.
use Rattle.std.specs.Prelude.{ℕ, ◌-◌, ◌<◌, ◌≤◌, Bool, cond, ◌||◌, ◌↔◌, List, length, Ok, Err, Result, ◌==◌, nat_lt, slice_index}
use Rattle.refusals.specs.declared.refusal.PileRefusal.{PileRefusal}
use Rattle.refusals.specs.declared.refusal.PileRefusal.TheVariants.{LadderCount, LevelCount, HighLevel}
use Rattle.tickets.specs.Forms.{each_at_most}
use Rattle.tickets.specs.Ticket.{Ticket, Formed}
use Rattle.automata.specs.Automaton.{Meaning}
use Rattle.automata.specs.Reading.{Accepts}
use Rattle.rules.specs.Ruled.{ruled, Nests}

abbrev pub level : List ℕ → ℕ → ℕ
level levels f = slice_index levels f

-- state s has the forms of level 0 and of the levels above s
abbrev pub ladder_has : List ℕ → ℕ → ℕ → Bool
ladder_has levels s f = level levels f == 0 || nat_lt s (level levels f)

-- a form of level 0 sends its children to state 0, one of level j above 0 to state j - 1
abbrev pub ladder_to : List ℕ → ℕ → ℕ → ℕ
ladder_to levels f i = level levels f - 1

abbrev pub ladder : List ℕ → ℕ → List ℕ → Meaning
ladder arities n levels = ruled arities n (ladder_has levels) (ladder_to levels)

-- n is 1 to 8, then there is a level for each form, then each is at most n
abbrev pub ladder_checked : List ℕ → ℕ → List ℕ → Result (Unit {0}) PileRefusal
ladder_checked arities n levels =
    cond (n == 0 || nat_lt 8 n) (Err LadderCount) (cond (length levels == length arities) (cond (each_at_most n levels) (Ok tt) (Err HighLevel)) (Err LevelCount))

-- a child of level 1 to j - 1 below a node of level j
abbrev pub Falls : List ℕ → ℕ → ℕ → Type 0
Falls levels f g = (1 ≤ level levels g) × (level levels g < level levels f)

-- of the tickets of the forms, state 0 accepts those in which no node has a direct child of a lower level above 0
abbrev pub LadderExact : List ℕ → List ℕ → Meaning → Type 0
LadderExact arities levels m = (t : Ticket) → Formed t arities → Accepts m 0 t ↔ ((f i g : ℕ) → Nests t f i g → Falls levels f g → ⊥)
