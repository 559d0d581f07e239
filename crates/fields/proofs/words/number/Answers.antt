use Rattle.std.proofs.Common.{◌≡◌, ◌<◌, length, get_or, ◌∙◌, sym, arith, rules, tests}
use borrow.Author.Tests.{ltb-false, ltb-true, eqb-false}
use Rattle.std.proofs.lemmas.Iterator.{YieldsList-from_slice}
use Rattle.fields.specs.Words.{onward}
use Rattle.fields.proofs.Tried.{onward_from_try_fold}
use Rattle.fields.proofs.Walking.{no_leading}
use Rattle.fields.proofs.words.number.Goals as goal

pub returns-in_default : goal.returns-in_default
returns-in_default c =
    let xs = c.args.field.now in
    let read : c.try_fold.result ≡ onward 0 xs = onward_from_try_fold _ _ _ (λ n x v q k. search (rules, tests)) _ 0 _ c.try_fold.ensures.ran (YieldsList-from_slice xs cc) in
    let some : 0 < length xs = omega (arith, ltb-false, ltb-true) in
    let plain : 1 < length xs → get_or xs 0 0 ≡ 48 → ⊥ = λ lt e. grind (arith, ltb-false, ltb-true, eqb-false) in
    read ∙ sym (no_leading xs some plain)
