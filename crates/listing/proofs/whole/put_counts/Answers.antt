use Rattle.listing.proofs.Lines.{counts_whole}
use Rattle.listing.proofs.whole.put_counts.Goals as goal

pub returns : goal.returns
returns c = counts_whole _ _ _ _ _ _ _ _ _ c.states.ensures c.count_rows.ensures c.in_ok-push.ensures.items c.in_ok-put_number.ensures c.in_ok-put_number-2.ensures c.in_ok-push-2.ensures.items
