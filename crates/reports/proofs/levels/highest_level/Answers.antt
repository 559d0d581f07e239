use Rattle.std.proofs.Common.{◌≡◌, max, ◌∙◌, rules}
use Rattle.std.specs.List.{fold}
use Rattle.reports.proofs.Highest.{fold_highest}
use Rattle.reports.proofs.levels.highest_level.Goals as goal

pub returns : goal.returns
returns c =
    let folded : c.fold.result ≡ fold (λ a x. max a x) 0 c.args.levels.now = search rules in
    folded ∙ fold_highest c.args.levels.now
