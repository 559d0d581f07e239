use Rattle.std.proofs.Common.{◌≡◌, true, false, not, ◌&&◌, rules}
use borrow.Author.Tests.{tests}
use Rattle.std.proofs.lemmas.Iterator.{first_from_Range}
use Rattle.layers.specs.Marks.{mark}
use Rattle.settle.proofs.Spreading.{pending_among}
use Rattle.settle.proofs.reached.pending.Goals as goal

pub returns : goal.returns
returns c =
    let f = mark c.args.marks.now in
    let h = mark c.args.asked.now in
    pending_among f h c.args.states c.find.result _
    (first_from_Range _ _ _ c.find.result (λ k. f k && not (h k) ≡ true) (λ k. f k && not (h k) ≡ false) c.find.ensures.ran (λ k q t. search (rules, tests)) (λ k q t. search (rules, tests)))
