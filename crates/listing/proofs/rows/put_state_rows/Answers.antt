use Rattle.std.proofs.Common.{map, vec_items, sym, refl, ap, ◌∙◌, arith}
use Rattle.automata.specs.Automaton.{Meaning, production}
use Rattle.ledger.specs.Ledger.{rows_at}
use Rattle.register.specs.Held.{held_sealed}
use Rattle.listing.specs.Listing.{state_text}
use Rattle.text.proofs.Lines.{ends}
use Rattle.listing.proofs.Lines.{state_more, nth_within}
use Rattle.listing.proofs.rows.put_state_rows.Goals as goal
use Rattle.listing.proofs.rows.put_state_rows.Goals.{in-Some+in_ok-put_row, in_default}

pub loop-place-preserved : goal.loop-place-preserved
loop-place-preserved c =
    let l = held_sealed c.args.sealed.now in
    let s = c.args.state in
    let k = c.loop-place.place in
    let same = sym (ap (λ (m : Meaning). m.row s k) c.book-book.ensures.meaning) in
    elim c.match-row.branch [
      | in-Some+in_ok-put_row w ↦ state_more (map vec_items c.args.names.now) s _ _ _ (rows_at l s) k (production w.in-Some.row) (same ∙ sym w.in-Some.ensures) c.loop-place.invariant (ap vec_items w.out-is ∙ w.in_ok-put_row.ensures)
      | in_default w ↦ absurd (nth_within (rows_at l s) k (omega arith) (same ∙ sym w.in_default.ensures))
    ]

pub returns : goal.returns
returns c = ends (state_text (map vec_items c.args.names.now) c.args.state) _ _ (rows_at (held_sealed c.args.sealed.now) c.args.state) _ refl (omega arith) c.loop-place.invariant
