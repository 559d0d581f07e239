use Rattle.std.proofs.Common.{◌≡◌, ℕ, map, length, get_or, take, ap, ◌∙◌, rules}
use Rattle.std.proofs.lemmas.List.{take-map}
use borrow.Author.Tests.{tests}
use Rattle.automata.proofs.Mapped.{mapped}
use Rattle.automata.proofs.row.Row.renamed.Goals as goal

pub returns : goal.returns
returns c =
    let n : ℕ → ℕ = λ x. get_or c.args.numbers.now x 0 in
    let r = c.args.self in
    let long : length r.children ≡ 4 = search rules in
    let e : c.map.result ≡ map n r.children = mapped _ n _ (λ x b q p. search (rules, tests)) r.children c.map.result 4 long c.map.ensures.items in
    let cs : take r.arity c.map.result ≡ map n (take r.arity r.children) = ap (take r.arity) e ∙ take-map n r.arity r.children in
    λ i. record { form = r.form; points = r.points; children = cs i }
