use Rattle.std.proofs.Common.{◌≡◌, ◌+◌, ◌-◌, ◌*◌, ◌≤◌, false, length, get_or, None, Ok, Err, sym, refl, ap, ◌∙◌, arith}
use Rattle.std.proofs.lemmas.Bool.Decides.{nat_tests}
use Rattle.std.specs.Option.{ok_or}
use Rattle.std.proofs.lemmas.Result.{err_from_is_err_and}
use Rattle.std.proofs.lemmas.Bool.{true≢false}
use Rattle.refusals.specs.declared.refusal.RegisterRefusal.TheVariants.{NoState, NoRow}
use Rattle.ledger.specs.Closed.{closed}
use Rattle.ledger.specs.Ledger.{strike_row, unnumbered}
use Rattle.ledger.specs.Layout.{laid_out}
use Rattle.ledger.proofs.Moves.{closed_length}
use Rattle.ledger.proofs.Taken.{found, missing}
use Rattle.ledger.proofs.LaidOut.{strike_answer, strike_held, strike_answer_held, refused_held, taken_held, sane_count, with_count}
use Rattle.ledger.proofs.rows.take_row.Goals as goal

pub returns-in_err-used : goal.returns-in_err-used
returns-in_err-used c =
    let rs = c.args.rows.now in
    let t = c.args.table.now in
    let s = c.args.state in
    let none : c.used.result ≡ None = c.in_err-used.ensures.ok_part in
    let m = missing t.states t.counts s (omega arith) (sym c.used.ensures ∙ none) in
    let p = err_from_is_err_and c.from_residual.result c.from_residual.ensures.1 in
    let x : Err p.0 ≡ Err NoState = ap Err p.2 ∙ sym c.in_err-used.was ∙ c.ok_or.ensures.value ∙ ap (λ o. ok_or o NoState) none in
    let e : Err NoState ≡ strike_answer t.states (get_or t.counts s 0) s c.args.place = grind (arith, nat_tests) in
    let a = e ∙ strike_answer_held rs t s c.args.place c.requires in
    record { answers = p.1 ∙ ap unnumbered (x ∙ a); steps = refused_held rs t (strike_row s c.args.place) NoState a; same = λ _. refl; sane = c.requires }

pub returns-then-place-used : goal.returns-then-place-used
returns-then-place-used c =
    let rs = c.args.rows.now in
    let t = c.args.table.now in
    let f = found t.states t.counts c.args.state _ (sym c.used.ensures ∙ c.in_ok-used.ensures.ok_part) in
    let e : Err NoRow ≡ strike_answer t.states (get_or t.counts c.args.state 0) c.args.state c.args.place = grind (arith, nat_tests) in
    let a = e ∙ strike_answer_held rs t c.args.state c.args.place c.requires in
    record { answers = ap unnumbered a; steps = refused_held rs t (strike_row c.args.state c.args.place) NoRow a; same = λ _. refl; sane = c.requires }

pub returns : goal.returns
returns c =
    let rs = c.args.rows.now in
    let t = c.args.table.now in
    let s = c.args.state in
    let k = c.args.place in
    let u = get_or t.counts s 0 in
    let f = found t.states t.counts s _ (sym c.used.ensures ∙ c.in_ok-used.ensures.ok_part) in
    let low : u ≤ 32 = c.requires.counts s (omega arith) in
    let e : Ok 0 ≡ strike_answer t.states u s k = grind (arith, nat_tests) in
    let a = e ∙ strike_answer_held rs t s k c.requires in
    let rows : c.close.new.rows ≡ closed rs (s * 32 + k) (s * 32 + u) = c.close.ensures ∙ ap (λ x. closed rs (s * 32 + k) (s * 32 + x)) (sym f.1) in
    record {
      answers = ap unnumbered a;
      steps = ap (λ x. laid_out x (with_count t s (u - 1)) false) rows ∙ strike_held rs t s k c.requires (omega arith) (omega arith) ∙ taken_held rs t (strike_row s k) 0 a;
      same = λ x. absurd (true≢false x);
      sane = sane_count rs c.close.new.rows t s (u - 1) c.requires (ap length rows ∙ closed_length rs (s * 32 + k) (s * 32 + u) (omega arith) (omega arith)) (omega arith);
    }
