use Rattle.std.proofs.Common.{◌≡◌, ◌+◌, ◌*◌, ◌<◌, false, length, get_or, take, set, Err, sym, refl, ap, ◌∙◌, arith}
use Rattle.std.proofs.lemmas.List.{get_or-take, length-take, length-set}
use Rattle.std.proofs.lemmas.Result.{err_from_is_err_and}
use Rattle.std.proofs.lemmas.Bool.{true≢false}
use Rattle.automata.specs.declared.row.Row.{Row}
use Rattle.ledger.specs.Ledger.{add_row, as_row}
use Rattle.ledger.specs.Layout.{laid_out}
use Rattle.ledger.proofs.Taken.{row_taken}
use Rattle.ledger.proofs.LaidOut.{row_held, row_answer_held, refused_held, sane_count, with_count}
use Rattle.ledger.proofs.rows.enter_row.Goals as goal

pub returns-in_err-place : goal.returns-in_err-place
returns-in_err-place c =
    let rs = c.args.rows.now in
    let t = c.args.table.now in
    let p = err_from_is_err_and c.from_residual.result c.from_residual.ensures.1 in
    let a = row_answer_held rs t c.args.state c.args.form c.args.points c.args.children.now c.requires in
    let e = ap Err p.2 ∙ c.in_err-place.ensures ∙ a in
    record { answers = p.1 ∙ e; steps = refused_held rs t (add_row c.args.state (as_row c.args.form c.args.points c.args.children.now)) p.0 e; same = λ _. refl; sane = c.requires }

pub child_array-requires : goal.child_array-requires
child_array-requires c =
    let t = c.args.table.now in
    let f = c.args.form in
    let w = row_taken (take t.forms t.arities) t.states (get_or t.counts c.args.state 0) c.args.state (as_row f c.args.points c.args.children.now) c.in_ok-place.place c.in_ok-place.ensures in
    let k : f < t.forms = omega (arith, w.form, length-take t.forms t.arities) in
    omega (arith, w.arity, get_or-take t.forms t.arities f 0 k, c.requires.arities f (omega arith))

pub returns : goal.returns
returns c =
    let rs = c.args.rows.now in
    let t = c.args.table.now in
    let s = c.args.state in
    let f = c.args.form in
    let p = c.args.points in
    let cs = c.args.children.now in
    let n = c.in_ok-place.place in
    let e = c.in_ok-place.ensures in
    let w = row_taken (take t.forms t.arities) t.states (get_or t.counts s 0) s (as_row f p cs) n e in
    let a = row_answer_held rs t s f p cs c.requires in
    let r : Row = record { form = f; points = p; arity = get_or t.arities f 0; children = c.child_array.result } in
    let rows : c.store.new.rows ≡ set rs (s * 32 + n) r = c.store.ensures in
    let done = row_held rs t s f p n cs c.child_array.result c.requires e c.child_array.ensures in
    record {
      answers = e ∙ a;
      steps = ap (λ x. laid_out x (with_count t s (get_or t.counts s 0 + 1)) false) rows ∙ ap (λ x. laid_out (set rs (s * 32 + n) r) (with_count t s (x + 1)) false) (sym w.place) ∙ done;
      same = λ x. absurd (true≢false x);
      sane = sane_count rs c.store.new.rows t s (get_or t.counts s 0 + 1) c.requires (ap length rows ∙ length-set rs (s * 32 + n) r) (omega (arith, w.room));
    }
