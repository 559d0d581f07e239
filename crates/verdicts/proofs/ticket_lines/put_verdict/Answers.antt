use Rattle.std.proofs.Common.{ap, ◌∙◌}
use Rattle.verdicts.specs.Verdicts.{yes_word}
use Rattle.verdicts.proofs.Read.{verdict_whole}
use Rattle.verdicts.proofs.ticket_lines.put_verdict.Goals as goal

pub returns : goal.returns
returns c =
    verdict_whole _ _ _ _ _ _ _ _ (yes_word c.args.yes.yes) _ _ c.args.count.count _ c.args.fewest.points
    (c.as_bytes.ensures.value ∙ c.word.ensures ∙ ap yes_word c.yes.ensures.value) c.count.ensures.value c.points.ensures.value
    c.in_ok-push.ensures.items c.in_ok-put_number.ensures c.in_ok-put_field.ensures c.in_ok-put_number-2.ensures c.in_ok-put_number-3.ensures c.in_ok-push-2.ensures.items
