use Rattle.std.proofs.Common.{◌≡◌, ℕ, suc, ◌+◌, ◌-◌, ◌*◌, ◌<◌, ◌≤◌, List, length, get_or, take, drop, Ok, sym, ap, ◌∙◌, subst, mul-le-mul_right, arith}
use Rattle.std.proofs.lemmas.List.{take_all, get_or_read, get_or-drop, ext_get_or, length-drop}
use Rattle.std.proofs.lemmas.Bool.{le-ltb, lt-ltb, cond-true, cond-false}
use Rattle.automata.specs.Worth.{worth}
use Rattle.tickets.specs.Check.{tree}
use Rattle.tickets.specs.Ticket.{postfix}
use Rattle.tickets.specs.Checked.{ticket_of}
use Rattle.automata.specs.Table.{Line, prefix_tree}
use Rattle.automata.proofs.ByRows.{worth_by_rows}
use Rattle.automata.proofs.EachOnce.{readings_exact}
use Rattle.automata.proofs.Cells.{cell_in}
use Rattle.tickets.proofs.Checks.{check_tree, ok_from}
use Rattle.automata.proofs.Subtrees.{holds_worths, fills_refused}
use Rattle.automata.proofs.Tables.{passed}
use Rattle.automata.proofs.worth.worth.Goals as goal

pub returns-then-start-states : goal.returns-then-start-states
returns-then-start-states g c =
    let m = g.A.Automaton.meaning c.args.automaton.now in
    let k : m.states ≤ c.args.start = omega arith in
    record {
      answers = sym (cond-false _ _ _ (le-ltb c.args.start m.states k));
      fills = fills_refused g.M.Measure.ops m (ticket_of c.args.ticket.now) _ c.args.scratch.now;
      by_rows = worth_by_rows g.met.M.Measure.lawful;
      listed = readings_exact;
    }

pub returns-then-scratch-nodes : goal.returns-then-scratch-nodes
returns-then-scratch-nodes g c =
    let m = g.A.Automaton.meaning c.args.automaton.now in
    let t = c.args.ticket.now in
    let a = t.forms.arities.now in
    let ns = t.nodes.now in
    let n = length (postfix (tree a ns)) in
    let en : length ns ≡ n = ap length (sym (check_tree a ns (ok_from _ t.whole)).1) in
    let ek : length ns * c.states-states.result ≡ n * m.states = ap (λ k. length ns * k) c.states-states.ensures ∙ ap (λ k. k * m.states) en in
    let l : c.args.start < m.states = omega arith in
    let k : length c.args.scratch.now < n * m.states = omega arith in
    record {
      answers = sym (cond-true _ _ _ (lt-ltb c.args.start m.states l) ∙ cond-true _ _ _ (lt-ltb (length c.args.scratch.now) (n * m.states) k));
      fills = fills_refused g.M.Measure.ops m (ticket_of c.args.ticket.now) _ c.args.scratch.now;
      by_rows = worth_by_rows g.met.M.Measure.lawful;
      listed = readings_exact;
    }

pub returns : goal.returns
returns g c =
    let o = g.M.Measure.ops in
    let m = g.A.Automaton.meaning c.args.automaton.now in
    let a = c.args.ticket.now.forms.arities.now in
    let ns = c.args.ticket.now.nodes.now in
    let xs = c.args.scratch.now in
    let ys = c.fill.new.scratch in
    let n = c.states-states.result in
    let en : n ≡ m.states = c.states-states.ensures in
    let s = c.args.start in
    let whole = c.args.ticket.now.whole in
    let made = check_tree a ns (ok_from _ whole) in
    let some : 0 < length ns = (passed a ns whole).0 in
    let p = length ns - 1 in
    let pl : p < length ns = omega arith in
    let ep : p * n + s ≡ p * m.states + s = ap (λ k. p * k + s) en in
    let ek : length ns * n ≡ length ns * m.states = ap (λ k. length ns * k) en in
    let k : p + 1 ≤ length ns = omega arith in
    let room : (p + 1) * m.states ≤ length ys = omega (arith, mul-le-mul_right m.states k) in
    let sl : s < m.states = omega arith in
    let lt : p * n + s < length ys = omega (arith, cell_in p m.states s (length ys) room sl) in
    let le : length ns ≤ suc p = omega arith in
    let tr : tree a (take (suc p) ns) ≡ tree a ns = ap (tree a) (take_all (suc p) ns le) in
    let v : c.index-scratch-nodes.result ≡ worth o m s (tree a ns) =
    get_or_read ys (p * n + s) c.index-scratch-nodes.result lt c.index-scratch-nodes.is o.none ∙ ap (λ i. get_or ys i o.none) ep ∙ c.fill.ensures.fills p pl s sl ∙ ap (worth o m s) tr in
    let size : length ys ≡ length xs = c.fill.auto.scratch in
    let big : length ns * m.states ≤ length xs = omega arith in
    let q = length (postfix (tree a ns)) * m.states in
    let eq : length ns * m.states ≡ q = ap (λ (zs : List ℕ). length zs * m.states) (sym made.1) in
    let bigq : q ≤ length xs = omega arith in
    record {
      answers = ap Ok v ∙ sym (cond-true _ _ _ (lt-ltb s m.states sl) ∙ cond-false _ _ _ (le-ltb (length xs) q bigq));
      fills = record {
        cells = λ e. holds_worths o m ys a (tree a ns) made.0 (subst (λ (zs : List ℕ). (p : ℕ) → p < length zs → Line o m ys p (prefix_tree a zs p)) (sym made.1) c.fill.ensures.fills);
        beyond = λ e. ext_get_or o.none (drop q ys) (drop q xs) (length-drop q ys ∙ ap (λ k. k - q) size ∙ sym (length-drop q xs))
            (λ i l. get_or-drop q ys i o.none ∙ c.fill.ensures.keeps (q + i) (omega arith) ∙ sym (get_or-drop q xs i o.none));
        same = λ e. let z : ◌≡◌ {A = ℕ} 0 1 = cc in absurd (omega arith);
      };
      by_rows = worth_by_rows g.met.M.Measure.lawful;
      listed = readings_exact;
    }
