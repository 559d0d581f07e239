-- The steps of the postfix check.
use Rattle.std.proofs.Common.{◌≡◌, ℕ, ◌+◌, ◌-◌, ◌<◌, ◌≤◌, Bool, true, false, cond, ltb, List, [], ◌∷◌, length, get_or, Ok, Err, Result, refl, ◌∙◌, arith}
use Rattle.std.proofs.lemmas.Bool.{ltb-true, ltb-false, le-ltb, lt-ltb, cond-true, cond-false}
use Rattle.refusals.specs.declared.refusal.TicketRefusal.{TicketRefusal}
use Rattle.refusals.specs.declared.refusal.TicketRefusal.TheVariants.{Unknown, Few, Many}
use Rattle.tickets.specs.Check.{scan}

abbrev Verdict : Type 0
Verdict = Result (Unit {0}) TicketRefusal

pub scan_unknown : (a : List ℕ) (p d f : ℕ) (fs : List ℕ) → length a ≤ f → scan a p d (f ∷ fs) ≡ Err (Unknown p)
scan_unknown a p d f fs h = cond-false _ _ _ (le-ltb f (length a) h)

pub scan_few : (a : List ℕ) (p d f : ℕ) (fs : List ℕ) → f < length a → d < get_or a f 0 → scan a p d (f ∷ fs) ≡ Err (Few p)
scan_few a p d f fs h l = cond-true _ _ _ (lt-ltb f (length a) h) ∙ cond-true _ _ _ (lt-ltb d (get_or a f 0) l)

pub scan_more : (a : List ℕ) (p d f : ℕ) (fs : List ℕ) → f < length a → get_or a f 0 ≤ d → scan a p d (f ∷ fs) ≡ scan a (p + 1) (d - get_or a f 0 + 1) fs
scan_more a p d f fs h l = cond-true _ _ _ (lt-ltb f (length a) h) ∙ cond-false _ _ _ (le-ltb d (get_or a f 0) l)

pub scan_many : (a : List ℕ) (p d : ℕ) → 1 < d → scan a p d [] ≡ Err Many
scan_many a p d h = cond-true _ _ _ (lt-ltb 1 d h)

-- what a passing check says of its first node
pub scan_first : (a : List ℕ) (p d f : ℕ) (fs : List ℕ) → scan a p d (f ∷ fs) ≡ Ok tt → (f < length a) × (get_or a f 0 ≤ d) × (scan a (p + 1) (d - get_or a f 0 + 1) fs ≡ Ok tt)
scan_first a p d f fs e = go (ltb f (length a)) refl (ltb d (get_or a f 0)) refl e
  where
    go : (b : Bool) → ltb f (length a) ≡ b → (c : Bool) → ltb d (get_or a f 0) ≡ c
        → cond b (cond c (Err (Few p)) (scan a (p + 1) (d - get_or a f 0 + 1) fs)) (Err (Unknown p)) ≡ Ok tt
        → (f < length a) × (get_or a f 0 ≤ d) × (scan a (p + 1) (d - get_or a f 0 + 1) fs ≡ Ok tt)
    go true eb true ec h = let z : ◌≡◌ {A = ℕ} 0 1 = cc in absurd (omega arith)
    go true eb false ec h = (ltb-true f (length a) eb, ltb-false d (get_or a f 0) ec, h)
    go false eb c ec h = let z : ◌≡◌ {A = ℕ} 0 1 = cc in absurd (omega arith)

pub scan_last : (a : List ℕ) (p d : ℕ) → scan a p d [] ≡ Ok tt → d ≤ 1
scan_last a p d e = go (ltb 1 d) refl e
  where
    go : (b : Bool) → ltb 1 d ≡ b → ◌≡◌ {A = Verdict} (cond b (Err Many) (Ok tt)) (Ok tt) → d ≤ 1
    go true eb h = let z : ◌≡◌ {A = ℕ} 0 1 = cc in absurd (omega arith)
    go false eb h = ltb-false 1 d eb
