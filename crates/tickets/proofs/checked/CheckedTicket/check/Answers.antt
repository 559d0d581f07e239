use Rattle.std.proofs.Common.{◌<◌, length, sym, ◌∙◌, arith}
use Rattle.std.proofs.lemmas.List.{nil_from_length}
use Rattle.std.proofs.lemmas.Bool.{eqb-true, eqb-false}
use Rattle.tickets.proofs.Checks.{checked_scan}
use Rattle.tickets.proofs.CheckExact.{check_exact}
use Rattle.tickets.proofs.checked.CheckedTicket.check.Goals as goal

pub returns-then-is_empty : goal.returns-then-is_empty
returns-then-is_empty c =
    let ns = c.args.nodes.now in
    let x = check_exact c.args.forms.now.arities.now ns in
    record { answers = sym (x.empty.1 (nil_from_length ns (eqb-true (length ns) 0 (sym c.if-is_empty.ensures)))); exact = x }

pub returns-then-nodes-gt256 : goal.returns-then-nodes-gt256
returns-then-nodes-gt256 c =
    let x = check_exact c.args.forms.now.arities.now c.args.nodes.now in
    record { answers = sym (x.long.1 c.if-nodes-gt256.true); exact = x }

pub returns : goal.returns
returns c =
    let ns = c.args.nodes.now in
    let a = c.args.forms.now.arities.now in
    let e = eqb-false (length ns) 0 (sym c.if-is_empty.ensures) in
    let some : 0 < length ns = omega arith in
    record { answers = c.scanned.ensures ∙ sym (checked_scan a ns some c.if-nodes-gt256.false); exact = check_exact a ns }
