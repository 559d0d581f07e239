-- The worth after a restriction.
use Rattle.std.proofs.Common.{◌≡◌, true, false, cond, is_ok, Ok, Err, Result, sym, ap, ◌∙◌, subst}
use Rattle.automata.specs.Automaton.{Meaning, Sound}
use Rattle.automata.specs.Measure.{Ops, Laws}
use Rattle.automata.specs.Worth.{worth}
use Rattle.ledger.specs.Ledger.{Ledger, settle, seal, settle_answer, accepted, step, book}
use Rattle.history.proofs.StandingSums.{sums_standing}
use Rattle.history.proofs.SettledWorth.{settle_preserves}
use Rattle.product.specs.Product.{product, product_checked}
use Rattle.product.proofs.Products.{product_multiplies}
use Rattle.fields.specs.declared.fault.Stop.{Stop}
use Rattle.narrowing.specs.declared.narrowed.Narrowed.{Narrowed}
use Rattle.narrowing.specs.Reduced.{Reduced}
use Rattle.narrowing.specs.Narrows.{Narrows}
use Rattle.narrowing.specs.Restricts.{RestrictsWorth}
use Rattle.narrowing.proofs.Reductions.{trimmed_sound, reduced_preserves}
use Rattle.narrowing.proofs.Promised.{product_sound, merge_sound}

pub accepted_settle : (l : Ledger) (m : Meaning) → l.sealed ≡ false → settle_answer l m ≡ Ok tt → accepted l (settle m) ≡ true
unfolding accepted
accepted_settle l m o e = ap (λ b. cond b false (is_ok (settle_answer l m))) o ∙ ap is_ok e

pub reduced_sound : (m p : Meaning) → Sound m → Reduced m p → Sound p
reduced_sound m p sm w = subst Sound (sym w.is) (merge_sound w.kept (trimmed_sound m w.kept sm w.trimmed) w.rep w.coarsest)

module _ {M : Type 0} {o : Ops M} (laws : Laws o) (l : Ledger) (rule : Meaning) (sb : Sound (book l)) (sr : Sound rule) (ok : is_ok (product_checked (book l) rule) ≡ true) (was is : Ledger) (opened : was.sealed ≡ false) where
  pub restricts_worth : (r : Result Narrowed Stop) → Narrows (product (book l) rule) was r is → RestrictsWorth o l rule r is
  restricts_worth (Err e) h = tt
  restricts_worth (Ok n) h = λ calls sound e t rs list.
      let m = product (book l) rule in
      let sm = product_sound (book l) rule sb sr ok in
      let p = h.0 in
      ap (λ k. worth o (book (step k seal)) (book (step k seal)).root t) h.4
      ∙ settle_preserves laws was p (reduced_sound m p sm h.1) (accepted_settle was p opened h.3) t
      ∙ reduced_preserves o laws m sm p h.1 t
      ∙ product_multiplies laws (book l) rule sb sr t (book l).root rule.root sr.rooted
      ∙ ap (λ x. o.times x (worth o rule rule.root t)) ((sums_standing laws l calls sound e t (book l).root).1 rs list)
