use Rattle.std.proofs.Common.{◌∙◌, vec_items, rules, tests}
use Rattle.std.specs.Str.{bytes_eq}
use Rattle.std.proofs.lemmas.Iterator.{YieldsList-from_slice}
use Rattle.std.proofs.lemmas.Iterator.Search.{position_from_yields_List}
use Rattle.fields.proofs.Placed.{place_of_owned}
use Rattle.fields.proofs.names.find.Goals as goal

pub returns : goal.returns
returns c =
    position_from_yields_List (λ v. bytes_eq (vec_items v) c.args.name.now) _ _ _ c.position.ensures.ran (YieldsList-from_slice c.args.names.now cc) (λ x b q k. search (rules, tests))
    ∙ place_of_owned c.args.name.now c.args.names.now
