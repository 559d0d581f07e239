use Rattle.std.proofs.Common.{map, length, vec_items, sym, ◌∙◌, ap₂}
use Rattle.register.specs.Held.{held_sealed}
use Rattle.listing.specs.Listing.{listing_answer}
use Rattle.house.proofs.Answering.{when_read}
use Rattle.house.proofs.answer.answer.Goals as goal

pub returns : goal.returns
returns c =
    let g = c.in_ok-grammar.grammar in
    when_read (length c.args.rows.now) c.args.sheet.now g c.in_ok-grammar.ensures
    ∙ ap₂ (λ x y. listing_answer (map vec_items x) (held_sealed g.sealed) (map vec_items y)) (sym c.deref.ensures.value) (sym c.deref-2.ensures.value)
    ∙ c.in_ok-listing.ensures.answers
