use Rattle.std.proofs.lemmas.Bool.{true≢false}
use Rattle.std.proofs.Common.{◌≡◌, true, Result, is_ok, Ok, Err, sym, refl, ap, ◌∙◌, subst, rules}
use Rattle.automata.specs.Automaton.{Sound}
use Rattle.ledger.specs.Ledger.{book}
use Rattle.register.specs.Held.{held, held_sealed, book_meaning}
use Rattle.register.specs.Soundness.{book_sound}
use Rattle.product.specs.Product.{product, product_checked}
use Rattle.settle.proofs.EntriesMade.{held_open}
use Rattle.narrowing.specs.Narrows.{Narrows}
use Rattle.narrowing.specs.Restricts.{by_check}
use Rattle.narrowing.proofs.Reductions.{reduced_one}
use Rattle.narrowing.proofs.Promised.{promise}
use Rattle.narrowing.proofs.RestrictedWorth.{restricts_worth}
use Rattle.narrowing.proofs.restrict.restrict_by.Goals as goal

ok_unit : {E : Type 0} (r : Result (Unit {0}) E) → is_ok r ≡ true → r ≡ Ok tt
ok_unit (Ok _) h = refl
ok_unit (Err e) h = absurd (true≢false (sym h))

pub returns-in_err-product-clause-one : goal.returns-in_err-product-clause-one
returns-in_err-product-clause-one g c = reduced_one

pub returns-in_err-product-clause-promise : goal.returns-in_err-product-clause-promise
returns-in_err-product-clause-promise g c = promise g.met.M.Measure.lawful

pub returns : goal.returns
returns g c =
    let l = held_sealed c.args.current.now in
    let rule = g.R.Automaton.meaning c.args.rule in
    let was = held c.args.target.now in
    let is = held c.narrow.new.target in
    let mb : book_meaning c.book-book.result ≡ book l = c.book-book.ensures.meaning in
    let e : product_checked (book l) rule ≡ Ok tt = ap (λ b. product_checked b rule) (sym mb) ∙ search rules in
    let narrows : Narrows (product (book l) rule) was c.narrow.result is = subst (λ x. Narrows x was c.narrow.result is) (search rules ∙ ap (λ b. product b rule) mb) c.narrow.ensures.answers in
    record {
      answers = subst (λ x. by_check x (product (book l) rule) was c.narrow.result is) (sym e) narrows;
      worths = restricts_worth g.met.M.Measure.lawful l rule (subst Sound mb (book_sound c.book-book.result)) (g.R.Automaton.sound c.args.rule) (ap is_ok e) was is (held_open c.args.target.now) c.narrow.result narrows;
      same = c.narrow.ensures.same;
      one = reduced_one;
      promise = promise g.met.M.Measure.lawful;
    }
