use Rattle.std.proofs.Common.{sym, refl, ap, ◌∙◌}
use Rattle.fields.specs.Parts.{left, seen}
use Rattle.fields.specs.Tokens.{first, others}
use Rattle.fields.proofs.Cutting.{lexed}
use Rattle.fields.proofs.lexer.Lexer.next.Goals as goal

pub returns-in_default : goal.returns-in_default
returns-in_default c = record { value = sym (ap (λ o. first (left (seen o))) c.in_default.is); after = ap (λ o. left (seen o)) c.in_default.is ∙ sym (ap (λ o. others (left (seen o))) c.in_default.is); line = refl }

pub returns-in-Some-number : goal.returns-in-Some-number
returns-in-Some-number c =
    let e = lexed _ c.in-Some.bytes c.in-Some.is _ c.cut.result.1 _ c.cut.ensures.front c.cut.ensures.back c.in-Some-number.ensures in
    record { value = e.0; after = e.1; line = refl }

pub returns-in-None : goal.returns-in-None
returns-in-None c =
    let e = lexed _ c.in-Some.bytes c.in-Some.is _ c.cut.result.1 _ c.cut.ensures.front c.cut.ensures.back c.in-None.ensures in
    record { value = e.0; after = e.1; line = refl }
