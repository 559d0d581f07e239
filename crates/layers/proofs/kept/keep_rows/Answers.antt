use Rattle.std.proofs.Common.{◌≡◌, true, List, [], ◌∷◌, ◌++◌, map, get_or, take, sym, ◌∙◌, subst}
use Rattle.std.proofs.lemmas.List.{take_all, map_more}
use Rattle.automata.specs.declared.row.Row.{Row}
use Rattle.automata.specs.Automaton.{Production, production, all_below}
use Rattle.automata.specs.Reading.{Member}
use Rattle.layers.specs.Marks.{mark, each_marked}
use Rattle.layers.proofs.Growing.{Leading, leading_none, leading_skip, leading_row, row_member, row_closed}
use Rattle.layers.proofs.kept.keep_rows.Goals as goal
use Rattle.layers.proofs.kept.keep_rows.Goals.{then-has_children, else-has_children}

abbrev blank : Row
blank = record { form = 0; points = 0; arity = 0; children = [] }

pub loop-row-init : goal.loop-row-init
loop-row-init c = leading_none (mark c.args.productive.now) (mark c.args.marks.now) (map production c.args.rows.now)

pub add_children-added-requires : goal.add_children-added-requires
add_children-added-requires c =
    row_closed c.args.rows.now c.loop-row.row-index blank c.loop-row-test.true (λ p. all_below 1024 p.children ≡ true) c.requires

pub loop-row-preserved : goal.loop-row-preserved
loop-row-preserved c =
    let f = mark c.args.productive.now in
    let rs = c.args.rows.now in
    let i = c.loop-row.row-index in
    let p = production (get_or rs i blank) in
    let ps = map production (take i rs) in
    let all = map production rs in
    let old = mark c.args.marks.now in
    let new = mark c.loop-row.marks in
    let tells : c.has_children.result ≡ each_marked f p.children = c.has_children.ensures in
    subst (λ (z : List Production). Leading f old (mark c.if-has_children.marks) c.if-has_children.added z all) (sym (map_more production rs i blank c.loop-row-test.true))
    (elim c.if-has_children.branch [
      | then-has_children w ↦
          let e = w.add_children-added.ensures in
          subst (λ z. Leading f old (mark z) c.if-has_children.added (ps ++ p ∷ []) all) (sym w.marks-is)
          (subst (λ z. Leading f old (mark w.add_children-added.new.self) z (ps ++ p ∷ []) all) (sym w.added-is)
          (leading_row f old new c.loop-row.added ps all p c.loop-row.invariant (mark w.add_children-added.new.self) w.add_children-added.result (row_member rs i blank c.loop-row-test.true) (sym tells ∙ w.if-has_children.true) e.grows
          e.all e.from))
      | else-has_children w ↦
          subst (λ z. Leading f old (mark z) c.if-has_children.added (ps ++ p ∷ []) all) (sym w.marks-is)
          (subst (λ z. Leading f old new z (ps ++ p ∷ []) all) (sym w.added-is) (leading_skip f old new c.loop-row.added ps all p c.loop-row.invariant (sym tells ∙ w.if-has_children.false)))
    ])

pub returns-clause-all : goal.returns-clause-all
returns-clause-all c = λ p h. c.loop-row.invariant.done p (subst (λ (z : List Row). Member p (map production z)) (sym (take_all c.loop-row.row-index c.args.rows.now c.loop-row-test.false)) h)
