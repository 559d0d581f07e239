use Rattle.std.proofs.Common.{sym, ◌∙◌, arith}
use Rattle.std.proofs.lemmas.Slice.Eq.{slice_eq-Decides}
use Rattle.merge.proofs.Keys.{key_decides}
use Rattle.merge.proofs.KeyTables.{keys_read}
use Rattle.merge.proofs.refine.Keyed.alike.Goals as goal

pub returns-then-self-one : goal.returns-then-self-one
returns-then-self-one c =
    let d = slice_eq-Decides key_decides c.index.result.now.items c.index-then-self-one.result.now.items c.eq.result c.eq.ensures in
    let n = c.args.self.now.long in
    let one = keys_read c.args.self.now.keys.items c.args.one c.index.result.now (omega (arith, n)) c.index.ensures in
    let other = keys_read c.args.self.now.keys.items c.args.other c.index-then-self-one.result.now (omega (arith, n)) c.index-then-self-one.ensures in
    (λ e. (c.if-self-one.true, one ∙ d.0 e ∙ sym other), λ a. d.1 (sym one ∙ a.1 ∙ other))
