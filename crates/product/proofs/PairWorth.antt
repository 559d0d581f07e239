-- What a question for the worth from a pair answers.
use Rattle.std.proofs.Common.{◌≡◌, ℕ, ◌+◌, ◌*◌, ◌<◌, ◌≤◌, Bool, true, false, cond, ◌&&◌, ltb, ◌⊎◌, Err, sym, refl, ap, ◌∙◌, ⊎_elim, arith}
use Rattle.std.proofs.lemmas.Bool.{and_from, lt-ltb, le-ltb}
use Rattle.refusals.specs.declared.refusal.WorthRefusal.TheVariants.{Start}
use Rattle.tickets.specs.Ticket.{Ticket}
use Rattle.automata.specs.Automaton.{Meaning}
use Rattle.automata.specs.Measure.{Ops}
use Rattle.automata.specs.Table.{worth_answer}
use Rattle.product.specs.Product.{pair, pair_answer}

module _ {M : Type 0} (o : Ops M) (m a b : Meaning) (t : Ticket) (p q room n w : ℕ) (en : n ≡ a.states) (ew : w ≡ b.states) where
  pub pair_answered : p < n → q < w → pair_answer o m a b t p q room ≡ worth_answer o m t (p * w + q) room
  pair_answered lp lq =
      ap (λ x. cond x (worth_answer o m t (pair b.states p q) room) (Err Start)) (and_from (ltb p a.states) (ltb q b.states) (lt-ltb p a.states (omega arith)) (lt-ltb q b.states (omega arith)))
      ∙ ap (λ x. worth_answer o m t (p * x + q) room) (sym ew)

  pub pair_refused : (n ≤ p) ⊎ ((p < n) × (w ≤ q)) → pair_answer o m a b t p q room ≡ Err Start
  pair_refused h = ap (λ x. cond x (worth_answer o m t (pair b.states p q) room) (Err Start)) no_pair
    where
      either : (x : Bool) → x && false ≡ false
      either true = refl
      either false = refl

      no_pair : (ltb p a.states && ltb q b.states) ≡ false
      no_pair =
          ⊎_elim (λ l. ap (λ x. x && ltb q b.states) (le-ltb p a.states (omega arith)))
          (λ l. ap (λ x. ltb p a.states && x) (le-ltb q b.states (omega (arith, l.1))) ∙ either (ltb p a.states)) h
