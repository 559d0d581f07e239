-- The promise on worth, collected from the laws of its parts.
use Rattle.std.proofs.Common.{◌≡◌, ℕ, ◌*◌, ◌≤◌, Bool, true, false, cond, ltb, [], ◌∷◌, is_ok, Ok, Err, Result, sym, refl, ap, subst, mul_comm, arith}
use Rattle.std.proofs.lemmas.Nat.{mul-lt, mul-add-lt}
use Rattle.std.proofs.lemmas.Bool.{lt-ltb, ltb-true}
use Rattle.refusals.specs.declared.refusal.WorthRefusal.{WorthRefusal}
use Rattle.refusals.specs.declared.refusal.WorthRefusal.TheVariants.{Start, Scratch}
use Rattle.automata.specs.Automaton.{Meaning, Sound}
use Rattle.automata.specs.Measure.{Ops, Laws}
use Rattle.automata.specs.Worth.{worth}
use Rattle.automata.specs.Table.{cells_needed}
use Rattle.ledger.specs.Ledger.{settle, seal, ledger, book}
use Rattle.ledger.specs.Soundness.{good_sound}
use Rattle.ledger.proofs.Steps.{ledger_more}
use Rattle.ledger.proofs.GoodLedgers.{ledger_good}
use Rattle.history.proofs.StandingSums.{sums_standing}
use Rattle.history.proofs.SettledWorth.{settle_preserves}
use Rattle.search.proofs.Searches.{search_tells}
use Rattle.layers.proofs.Trims.{trim_preserves}
use Rattle.product.specs.declared.sizes.Sizes.{Sizes}
use Rattle.product.specs.Product.{product, product_checked, pair}
use Rattle.product.specs.Soundness.{sized_sound}
use Rattle.product.proofs.Sized.{sized_product, checked_states, checked_places}
use Rattle.product.proofs.Products.{product_multiplies}
use Rattle.merge.specs.Merge.{Coarsest, merged}
use Rattle.merge.specs.Soundness.{merged_sound}
use Rattle.merge.proofs.Merges.{merge_preserves}
use Rattle.narrowing.specs.Promise.{Pile, lone, of_product, of_trim, of_merge, SettlingKeeps, AnswersWorth, Promise}
use Rattle.narrowing.proofs.Reductions.{trimmed_sound, merged_same}

pub product_sound : (a b : Meaning) → Sound a → Sound b → is_ok (product_checked a b) ≡ true → Sound (product a b)
product_sound a b sa sb ok = subst Sound (sized_product a b sa sb (a.states * b.states) (a.places * b.places) (pair b.states a.root b.root) b.states b.places refl refl refl refl refl) (sized_sound sizes a b sa)
  where
    sizes : Sizes
    sizes = record {
      states = a.states * b.states;
      places = a.places * b.places;
      root = pair b.states a.root b.root;
      width = b.states;
      depth = b.places;
      few_states = checked_states a b ok;
      few_places = checked_places a b ok;
      some_place = mul-lt 0 0 a.places b.places sa.some_place sb.some_place;
      rooted = omega (arith, mul-add-lt a.root b.states b.root a.states sa.rooted sb.rooted, mul_comm a.states b.states);
      some_width = sb.some_state;
      few_width = sb.few_states;
      some_depth = sb.some_place;
    }

-- a grouping that leaves what is no state alone
module _ (m : Meaning) (sm : Sound m) (rep : ℕ → ℕ) (h : Coarsest m rep) where
  abbrev within : ℕ → ℕ
  within q = cond (ltb q m.states) (rep q) q

  low : (q : ℕ) → within q ≤ q
  low q = go (ltb q m.states) refl
    where
      go : (b : Bool) → ltb q m.states ≡ b → cond b (rep q) q ≤ q
      go true e = (h.named q (ltb-true q m.states e)).0
      go false e = omega arith

  pub merge_sound : Sound (merged m rep)
  merge_sound = subst Sound (merged_same m sm within rep (λ q l. ap (λ b. cond b (rep q) q) (lt-ltb q m.states l))) (merged_sound m sm within low)

pub pile_sound : (m : Meaning) → Pile m → Sound m
pile_sound m (lone _ s) = s
pile_sound m (of_product a b pa pb ok) = product_sound a b (pile_sound a pa) (pile_sound b pb) ok
pile_sound m (of_trim m' a p h) = trimmed_sound m' a (pile_sound m' p) h
pile_sound m (of_merge m' rep p h) = merge_sound m' (pile_sound m' p) rep h

module _ {M : Type 0} {o : Ops M} (laws : Laws o) where
  settling_keeps : SettlingKeeps o
  settling_keeps h m sm ok t = subst (λ l. worth o (book l) (book l).root t ≡ worth o m m.root t) (sym (ledger_more h (settle m ∷ seal ∷ []))) (settle_preserves laws (ledger h) m sm ok t)

  no_ok : (e : WorthRefusal) (w : M) → ◌≡◌ {A = Result M WorthRefusal} (Err e) (Ok w) → ⊥
  no_ok e w x = let z : ◌≡◌ {A = ℕ} 0 1 = cc in omega arith

  ok_same : (v w : M) → ◌≡◌ {A = Result M WorthRefusal} (Ok v) (Ok w) → w ≡ v
  ok_same v w x = cc

  answers_worth : AnswersWorth o
  answers_worth m t q room w e = go (ltb q m.states) (ltb room (cells_needed m t)) e
    where
      go : (a b : Bool) → cond a (cond b (Err Scratch) (Ok (worth o m q t))) (Err Start) ≡ Ok w → w ≡ worth o m q t
      go true true x = absurd (no_ok Scratch w x)
      go true false x = ok_same (worth o m q t) w x
      go false b x = absurd (no_ok Start w x)

  pub promise : Promise o
  promise = record {
    sums = λ h sound sealed t q. sums_standing laws (ledger h) h sound refl t q;
    multiplies = product_multiplies laws;
    trims = trim_preserves o;
    merges = merge_preserves laws;
    settles = settling_keeps;
    answers = answers_worth;
    books = λ h sealed. good_sound (ledger h) (ledger_good h) sealed;
    piles = pile_sound;
    searches = λ m p q n ls. search_tells m (pile_sound m p) q n ls;
  }
