use Rattle.std.proofs.Common.{◌≡◌, ◌+◌, eqb, Some, sym, ap, ◌∙◌, rules, tests}
use Rattle.std.specs.List.{position}
use Rattle.std.proofs.lemmas.List.{take_rest}
use Rattle.std.proofs.lemmas.Iterator.{YieldsList-from_slice}
use Rattle.std.proofs.lemmas.Iterator.Search.{position_from_yields_List}
use Rattle.fields.proofs.Walking.{cut_found, cut_whole}
use Rattle.fields.proofs.cuts.cut.Goals as goal

pub returns-in-Some : goal.returns-in-Some
returns-in-Some c =
    let bs = c.args.bytes.now in
    let at : c.position.result ≡ position (λ b. eqb b c.args.mark) bs = position_from_yields_List _ _ _ _ c.position.ensures.ran (YieldsList-from_slice bs cc) (λ x b q k. search (rules, tests)) in
    let parts = cut_found c.args.mark bs c.in-Some.i (sym c.in-Some.is ∙ at) in
    record { front = parts.0; back = ap Some (take_rest bs (c.in-Some.i + 1)) ∙ parts.1 }

pub returns-in-None : goal.returns-in-None
returns-in-None c =
    let bs = c.args.bytes.now in
    let at : c.position.result ≡ position (λ b. eqb b c.args.mark) bs = position_from_yields_List _ _ _ _ c.position.ensures.ran (YieldsList-from_slice bs cc) (λ x b q k. search (rules, tests)) in
    let parts = cut_whole c.args.mark bs (sym c.in-None.is ∙ at) in
    record { front = parts.0; back = parts.1 }
