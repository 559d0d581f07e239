use Rattle.std.proofs.Common.{true, ◌≡◌, sym, ap, ◌∙◌, subst, ⊎_elim, arith}
use Rattle.std.proofs.lemmas.Bool.{both_ways, cases_eq}
use Rattle.layers.specs.Marks.{mark}
use Rattle.layers.specs.Trim.{Kept, root}
use Rattle.layers.proofs.Growing.{grows_less, kept_marked}
use Rattle.layers.proofs.collected.Collected.kept.Goals as goal
use Rattle.layers.proofs.collected.Collected.kept.Goals.{then-has, else-has}

pub add-requires : goal.add-requires
add-requires g c = let sm = g.A.Automaton.sound c.args.self.now.below.now in omega (arith, c.root-root.ensures, sm.rooted, sm.few_states)

pub loop-init : goal.loop-init
loop-init g c =
    let m = g.A.Automaton.meaning c.args.self.now.below.now in
    let r = c.root-root.result in
    let tells : c.has.result ≡ mark c.args.productive.now m.root = c.has.ensures ∙ ap (mark c.args.productive.now) c.root-root.ensures in
    elim c.if-has.branch [
      | then-has w ↦
          let e = w.add.ensures in
          let root_kept : Kept m r = subst (Kept m) (sym c.root-root.ensures) (root ((c.requires m.root).0 (subst (λ b. b ≡ true) tells w.if-has.true))) in (
            λ s h. ⊎_elim (λ (i : s ≡ r). subst (Kept m) (sym i) root_kept) (λ ne. absurd (both_ways _ (e.others s ne ∙ c.none-marks.ensures s) (ap (λ z. mark z s) (sym w.marks-is) ∙ h))) (cases_eq s r),
            λ _. ap (λ z. mark z m.root) w.marks-is ∙ ap (mark w.add.new.self) (sym c.root-root.ensures) ∙ e.here,
          )
      | else-has w ↦ (
        λ s h. absurd (both_ways _ (c.none-marks.ensures s) (ap (λ z. mark z s) (sym w.marks-is) ∙ h)),
        λ h. absurd (both_ways _ (sym tells ∙ w.if-has.false) h),
      )
    ]

pub loop-smaller : goal.loop-smaller
loop-smaller g c = grows_less (mark c.loop.marks) (mark c.keep_round.new.marks) c.keep_round.result c.keep_round.ensures.grows c.loop-test.true

pub loop-preserved : goal.loop-preserved
loop-preserved g c = (c.keep_round.ensures.right, λ h. c.keep_round.ensures.grows.keeps _ (c.loop.invariant.1 h))

pub returns : goal.returns
returns g c =
    let m = g.A.Automaton.meaning c.args.self.now.below.now in
    let sm = g.A.Automaton.sound c.args.self.now.below.now in
    let k = c.keep_round.ensures in
    λ s. (k.right s, kept_marked m sm (mark c.args.productive.now) c.requires (mark c.keep_round.new.marks) (k.spread c.loop-test.false) (λ h. k.grows.keeps _ (c.loop.invariant.1 h)))
