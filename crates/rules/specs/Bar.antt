-- The bar: no outer form has the inner form directly at a position.
use Rattle.std.specs.Prelude.{ℕ, Bool, cond, not, ◌&&◌, ◌||◌, ◌↔◌, List, length, Ok, Err, Result, ◌==◌, nat_lt, slice_index}
use Rattle.refusals.specs.declared.refusal.PileRefusal.{PileRefusal}
use Rattle.refusals.specs.declared.refusal.PileRefusal.TheVariants.{BarForm, BarPosition}
use Rattle.tickets.specs.Ticket.{Ticket, Formed}
use Rattle.automata.specs.Automaton.{Meaning}
use Rattle.automata.specs.Reading.{Accepts}
use Rattle.rules.specs.Ruled.{ruled, Nests}

-- state 0 has every form, state 1 every form but the inner one
abbrev pub bar_has : ℕ → ℕ → ℕ → Bool
bar_has inner s f = s == 0 || not (f == inner)

-- the outer form sends its child at the position to state 1; all other children go to 0
abbrev pub bar_to : ℕ → ℕ → ℕ → ℕ → ℕ
bar_to outer position f i = cond (f == outer && i == position) 1 0

abbrev pub bar : List ℕ → ℕ → ℕ → ℕ → Meaning
bar arities outer position inner = ruled arities 2 (bar_has inner) (bar_to outer position)

-- both forms are entered, then the position is below the outer form's arity
abbrev pub bar_checked : List ℕ → ℕ → ℕ → ℕ → Result (Unit {0}) PileRefusal
bar_checked arities outer position inner =
    cond (nat_lt outer (length arities) && nat_lt inner (length arities)) (cond (nat_lt position (slice_index arities outer)) (Ok tt) (Err BarPosition)) (Err BarForm)

-- of the tickets of the forms, state 0 accepts those in which no outer node has the inner form directly at the position
abbrev pub BarExact : List ℕ → ℕ → ℕ → ℕ → Meaning → Type 0
BarExact arities outer position inner m = (t : Ticket) → Formed t arities → Accepts m 0 t ↔ (Nests t outer position inner → ⊥)
