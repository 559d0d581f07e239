use Rattle.std.proofs.Common.{map, vec_items, refl, arith}
use Rattle.register.specs.Held.{held_sealed}
use Rattle.listing.specs.Listing.{rows_text}
use Rattle.text.proofs.Lines.{ends}
use Rattle.listing.proofs.Lines.{rows_more}
use Rattle.listing.proofs.rows.put_rows.Goals as goal

pub loop-state-preserved : goal.loop-state-preserved
loop-state-preserved c =
    rows_more (map vec_items c.args.names.now) _ _ _ (held_sealed c.args.sealed.now) c.loop-state.state (omega arith) c.loop-state.invariant c.in_ok-put_state_rows.ensures

pub returns : goal.returns
returns c = ends (rows_text (map vec_items c.args.names.now) c.loop-state.state) _ _ (held_sealed c.args.sealed.now).rows c.loop-state.state refl (omega arith) c.loop-state.invariant
