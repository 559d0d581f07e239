use Rattle.std.proofs.Common.{◌≡◌, ℕ, true, false, not, ◌≢◌, set, sym, ap, ◌∙◌, subst, arith}
use Rattle.std.proofs.lemmas.List.{get_or-set_same, get_or-set_other}
use Rattle.layers.specs.Marks.{mark}
use Rattle.layers.specs.Growth.{Grows}
use Rattle.layers.proofs.Growing.{grows_one}
use Rattle.layers.proofs.marks.Marks.add.Goals as goal

pub returns : goal.returns
returns c =
    let xs = c.self.inside.marks in
    let s = c.args.state in
    let is = c.self.view_is in
    let here : mark (set xs s true) s ≡ true = get_or-set_same xs s true false (omega (arith, c.self.told)) in
    let others : (t : ℕ) → t ≢ s → mark (set xs s true) t ≡ mark c.args.self.now t = λ t ne. get_or-set_other xs s t true false ne ∙ ap (λ z. mark z t) is in
    let fresh : not (mark xs s) ≡ not (mark c.args.self.now s) = ap (λ z. not (mark z s)) is in
    record {
      fresh = fresh;
      here = here;
      others = others;
      grows = subst (Grows (mark c.args.self.now) (mark (set xs s true))) (sym fresh) (grows_one (mark c.args.self.now) (mark (set xs s true)) s c.requires here others);
    }
