use Rattle.std.proofs.Common.{Ok, map, vec_items, subst, sym, ap, ◌∙◌, rules}
use Rattle.std.specs.List.Sorted.{IsPermutation}
use Rattle.std.proofs.lemmas.Simd.{map-map}
use Rattle.std.proofs.lemmas.Iterator.{YieldsList-from_slice, YieldsList-from_map, items_from_collect}
use Rattle.automata.specs.Automaton.{production}
use Rattle.automata.specs.Rows.{renamed}
use Rattle.merge.specs.Merge.{at}
use Rattle.merge.specs.Refine.{key_of}
use Rattle.merge.proofs.refine.keys.Goals as goal

pub returns : goal.returns
returns c =
    let g = at c.args.groups.now in
    let made = items_from_collect {E = Unit {0}} (Ok c.in_ok-all.all) c.in_ok-all.ensures.ran (YieldsList-from_map _ (λ r. key_of (renamed g (production r))) (YieldsList-from_slice c.args.rows.now cc) c.map.ensures.closure (λ x r q k. search rules)) in
    let fused = ap (map key_of) (map-map (renamed g) production c.args.rows.now) ∙ map-map key_of (λ r. renamed g (production r)) c.args.rows.now in
    record {
      shuffled = subst (λ z. IsPermutation z (vec_items c.sort_unstable.new.self)) (made ∙ sym fused) c.sort_unstable.ensures.permutation;
      rising = c.sort_unstable.ensures.sorted;
    }
