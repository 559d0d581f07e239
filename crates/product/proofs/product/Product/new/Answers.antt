use Rattle.std.proofs.Common.{◌≡◌, ◌+◌, ◌*◌, refl, ap₂, mul_comm, arith}
use Rattle.std.proofs.lemmas.Nat.{mul-lt, mul-add-lt}
use Rattle.product.proofs.Sized.{sized_product, checked_states, checked_places}
use Rattle.product.proofs.product.Product.new.Goals as goal

pub invariant_of-sizes : goal.invariant_of-sizes
invariant_of-sizes g c =
    let a = g.A.Automaton.meaning c.args.first in
    let b = g.B.Automaton.meaning c.args.second in
    let sa = g.A.Automaton.sound c.args.first in
    let sb = g.B.Automaton.sound c.args.second in
    let es : c.states.result * c.states-width.result ≡ a.states * b.states = ap₂ ◌*◌ c.states.ensures c.states-width.ensures in
    let ep : c.places.result * c.places-depth.result ≡ a.places * b.places = ap₂ ◌*◌ c.places.ensures c.places-depth.ensures in
    let er : c.root.result * c.states-width.result ≡ a.root * b.states = ap₂ ◌*◌ c.root.ensures c.states-width.ensures in
    record {
      few_states = omega (arith, es, checked_states a b c.requires);
      few_places = omega (arith, ep, checked_places a b c.requires);
      some_place = omega (arith, ep, mul-lt 0 0 a.places b.places sa.some_place sb.some_place);
      rooted = omega (arith, es, er, c.root-2.ensures, mul-add-lt a.root b.states b.root a.states sa.rooted sb.rooted, mul_comm a.states b.states);
      some_width = omega (arith, c.states-width.ensures, sb.some_state);
      few_width = omega (arith, c.states-width.ensures, sb.few_states);
      some_depth = omega (arith, c.places-depth.ensures, sb.some_place);
    }

pub returns : goal.returns
returns g c = record {
  meaning = sized_product (g.A.Automaton.meaning c.args.first) (g.B.Automaton.meaning c.args.second) (g.A.Automaton.sound c.args.first) (g.B.Automaton.sound c.args.second) _ _ _ _ _ (ap₂ ◌*◌ c.states.ensures c.states-width.ensures) (ap₂ ◌*◌ c.places.ensures c.places-depth.ensures) (ap₂ ◌+◌ (ap₂ ◌*◌ c.root.ensures c.states-width.ensures) c.root-2.ensures) c.states-width.ensures c.places-depth.ensures;
  sides = (refl, refl);
}
