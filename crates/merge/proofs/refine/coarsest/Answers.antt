use Rattle.std.proofs.Common.{ℕ, List, length, vec_items, Vec, sym, ap, ◌∙◌, subst₂}
use lib.ListN.{length-replicate}
use Rattle.std.specs.declared.alloc.Global.{Global}
use Rattle.std.proofs.lemmas.Slice.Eq.{slice_eq-Decides}
use Rattle.std.proofs.lemmas.Bool.Decides.{not_from_Decides, Decides-eqb}
use Rattle.automata.specs.declared.row.Row.{Row}
use Rattle.merge.specs.Refine.{Refined}
use Rattle.merge.proofs.Refining.{step, done, falls, reached_zeros}
use Rattle.merge.proofs.refine.coarsest.Goals as goal

pub loop-groups-init : goal.loop-groups-init
loop-groups-init g c =
    let k = c.in_ok-groups.ensures.items_if_clones_equal (λ y e. e) in (
      reached_zeros (g.A.Automaton.meaning c.args.below.now) (vec_items c.in_ok-groups.groups) c.len.result k,
      c.in_ok-groups.groups.ok.0 ∙ ap length k ∙ length-replicate c.len.result 0 ∙ c.len.ensures ∙ c.in_ok-rows.rows.ok.0 ∙ c.in_ok-rows.ensures.long,
    )

pub returns-then-eq : goal.returns-then-eq
returns-then-eq g c =
    let P : List ℕ → List (Vec Row Global) → Type 0 = λ y z. Refined z y (vec_items c.in_ok-next.next) in (
      done (g.A.Automaton.meaning c.args.below.now) (vec_items c.in_ok-rows.rows) c.in_ok-rows.ensures (vec_items c.loop-groups.groups) (vec_items c.in_ok-next.next) (subst₂ P c.deref.ensures.value c.deref-in-loop-groups.ensures.value c.in_ok-next.ensures) c.loop-groups.invariant.0 ((slice_eq-Decides Decides-eqb _ _ c.eq.result c.eq.ensures).0 c.if-eq.true),
      c.loop-groups.invariant.1,
    )

pub loop-groups-smaller : goal.loop-groups-smaller
loop-groups-smaller g c =
    let P : List ℕ → List (Vec Row Global) → Type 0 = λ y z. Refined z y (vec_items c.in_ok-next.next) in
    falls (g.A.Automaton.meaning c.args.below.now) (vec_items c.in_ok-rows.rows) c.in_ok-rows.ensures (vec_items c.loop-groups.groups) (vec_items c.in_ok-next.next) (subst₂ P c.deref.ensures.value c.deref-in-loop-groups.ensures.value c.in_ok-next.ensures) (sym c.loop-groups.groups.ok.0 ∙ c.loop-groups.invariant.1) c.loop-groups.invariant.0 (not_from_Decides c.eq.result (slice_eq-Decides Decides-eqb _ _ c.eq.result c.eq.ensures) c.if-eq.false)

pub loop-groups-preserved : goal.loop-groups-preserved
loop-groups-preserved g c =
    let P : List ℕ → List (Vec Row Global) → Type 0 = λ y z. Refined z y (vec_items c.in_ok-next.next) in
    let r = subst₂ P c.deref.ensures.value c.deref-in-loop-groups.ensures.value c.in_ok-next.ensures in (
      step (g.A.Automaton.meaning c.args.below.now) (vec_items c.in_ok-rows.rows) c.in_ok-rows.ensures (vec_items c.loop-groups.groups) (vec_items c.in_ok-next.next) r (g.A.Automaton.sound c.args.below.now) c.loop-groups.invariant.0,
      c.in_ok-next.next.ok.0 ∙ r.long ∙ c.in_ok-rows.ensures.long,
    )
