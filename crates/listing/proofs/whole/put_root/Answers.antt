use Rattle.listing.proofs.Lines.{root_whole}
use Rattle.listing.proofs.whole.put_root.Goals as goal

pub returns : goal.returns
returns c = root_whole _ _ _ _ _ _ c.root.ensures c.in_ok-push.ensures.items c.in_ok-put_number.ensures c.in_ok-push-2.ensures.items
