use Rattle.std.proofs.Common.{◌≡◌, map, Err, refl, ap, ◌∙◌}
use Rattle.std.proofs.lemmas.Result.{err_from_is_err_and}
use Rattle.std.proofs.lemmas.Bool.{true≢false}
use Rattle.register.specs.Held.{held}
use Rattle.ledger.specs.Ledger.{settle, settle_answer, step, enter, enter_all, add_state, name_root, row_entries}
use Rattle.ledger.specs.Reach.{number, reached_states}
use Rattle.automata.specs.Reading.{concat}
use Rattle.ledger.proofs.Steps.{follows}
use Rattle.settle.proofs.EntriesMade.{settle_refused, settle_done}
use Rattle.settle.proofs.settle.settle.Goals as goal

pub returns-in_err-judged : goal.returns-in_err-judged
returns-in_err-judged g c =
    let m = g.A.Automaton.meaning c.args.pile.now in
    let o = c.args.target.now in
    let p = err_from_is_err_and c.from_residual.result c.from_residual.ensures.1 in
    let e = ap Err p.2 ∙ c.in_err-judged.ensures ∙ ap (λ a. settle_answer (held o) (g.A.Automaton.meaning a)) c.of-reached.ensures in
    let s = settle_refused o m p.0 e in
    record { answers = p.1 ∙ e; steps = s; history = follows (held o) (held o) (settle m) s; same = λ _. refl }

pub returns : goal.returns
returns g c =
    let m = g.A.Automaton.meaning c.args.pile.now in
    let o = c.args.target.now in
    let k = c.root-2.new.self in
    let e = c.in_ok-judged.ensures ∙ ap (λ a. settle_answer (held o) (g.A.Automaton.meaning a)) c.of-reached.ensures in
    let of : c.of-reached.result.pile.now ≡ c.args.pile.now = c.of-reached.ensures in
    let h₁ = c.enter_states.ensures ∙ ap (λ a. enter_all (held o) (map (λ _. add_state) (reached_states (g.A.Automaton.meaning a)))) of in
    let h₂ = c.enter_rows.ensures ∙ ap (λ a. enter_all (held c.enter_states.new.target) (concat (map (row_entries (g.A.Automaton.meaning a)) (reached_states (g.A.Automaton.meaning a))))) of in
    let r = c.number-root.ensures ∙ ap (λ a. number (g.A.Automaton.meaning a) c.root.result) of ∙ ap (number m) c.root.ensures in
    let s = settle_done m o c.enter_states.new.target c.enter_rows.new.target k e h₁ h₂ (c.root-2.ensures.steps ∙ ap (λ x. step (held c.enter_rows.new.target) (enter (name_root x))) r) in
    record { answers = e; steps = s; history = follows (held o) (held k) (settle m) s; same = λ e. absurd (true≢false e) }
