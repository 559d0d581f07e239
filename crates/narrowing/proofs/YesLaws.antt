-- The laws of yes and no.
use Rattle.std.proofs.Common.{◌≡◌, Bool, true, false, ◌&&◌, ◌||◌, sym, refl, ap}
use Rattle.std.proofs.lemmas.Bool.{true≢false}
use Rattle.automata.specs.declared.yes_no.YesNo.{YesNo}
use Rattle.automata.specs.Measure.{Laws}
use Rattle.automata.specs.Measures.{yes_no}

same_yes : (x y : YesNo) → x.yes ≡ y.yes → x ≡ y
same_yes x y e = λ i. record { yes = e i }

or_assoc : (a b c : Bool) → (a || b) || c ≡ a || (b || c)
or_assoc true b c = refl
or_assoc false b c = refl

or_comm : (a b : Bool) → a || b ≡ b || a
or_comm true true = refl
or_comm true false = refl
or_comm false true = refl
or_comm false false = refl

and_assoc : (a b c : Bool) → (a && b) && c ≡ a && (b && c)
and_assoc true b c = refl
and_assoc false b c = refl

and_comm : (a b : Bool) → a && b ≡ b && a
and_comm true true = refl
and_comm true false = refl
and_comm false true = refl
and_comm false false = refl

and_or : (a b c : Bool) → a && (b || c) ≡ (a && b) || (a && c)
and_or true b c = refl
and_or false b c = refl

pub yes_laws : Laws yes_no
yes_laws = record {
  plus_assoc = λ x y z. same_yes _ _ (or_assoc x.yes y.yes z.yes);
  plus_comm = λ x y. same_yes _ _ (or_comm x.yes y.yes);
  plus_none = λ x. same_yes _ _ refl;
  times_assoc = λ x y z. same_yes _ _ (and_assoc x.yes y.yes z.yes);
  times_comm = λ x y. same_yes _ _ (and_comm x.yes y.yes);
  times_unit = λ x. same_yes _ _ refl;
  times_plus = λ x y z. same_yes _ _ (and_or x.yes y.yes z.yes);
  times_none = λ x. refl;
  none_unit = λ e. true≢false (sym (ap (λ x. x.yes) e));
  value_zero = refl;
  value_sum = λ a b h k. refl;
}
