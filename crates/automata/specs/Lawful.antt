-- The laws of the measures.
use Rattle.std.specs.Prelude.{◌≡◌, ℕ, zero, suc, ◌+◌, ◌*◌, ◌<◌, ◌≤◌, min, ◌⊎◌, refl}
use Rattle.std.proofs.Common.{sym, ap, ◌∙◌, inl, inr, mul_comm, mul_assoc, mul-add, one-mul, zero-mul, mul-zero, mul-le-mul_left, arith}
use mathlib.Core.HLevel.{is_prop→PathP}
use Rattle.std.proofs.Math.Nat.{min-eq_left, min-eq_right}
use Rattle.std.proofs.Math.Bridge.{le_prop}
use Rattle.std.proofs.lemmas.Bool.{cases_lt}
use Rattle.automata.specs.declared.reading_count.ReadingCount.{ReadingCount}
use Rattle.automata.specs.declared.fewest_points.FewestPoints.{FewestPoints}
use Rattle.automata.specs.Measure.{Laws}
use Rattle.automata.specs.Measures.{reading_count, fewest_points}

-- equal numbers make equal values
pub same_count : (x y : ReadingCount) → x.count ≡ y.count → x ≡ y
same_count x y e = λ i. record { count = e i; cut = is_prop→PathP (λ j. e j ≤ 65535) (λ j. le_prop) x.cut y.cut i }

pub same_points : (x y : FewestPoints) → x.points ≡ y.points → x ≡ y
same_points x y e = λ i. record { points = e i; cut = is_prop→PathP (λ j. e j ≤ 65535) (λ j. le_prop) x.cut y.cut i }

abbrev top : ℕ → ℕ
top n = min n 65535

-- a product may be cut before it is multiplied on
cut_times : (x d : ℕ) → top (top x * d) ≡ top (x * d)
cut_times x d = go d (cases_lt x 65536)
  where
    go : (d : ℕ) → (x < 65536) ⊎ (65536 ≤ x) → top (top x * d) ≡ top (x * d)
    go d (inl h) = let k : x ≤ 65535 = omega arith in ap (λ n. top (n * d)) (min-eq_left k)
    go zero (inr h) = ap top (mul-zero (top x) ∙ sym (mul-zero x))
    go (suc d) (inr h) =
        let k : 65535 ≤ x = omega arith in
        let one : 1 ≤ suc d = omega arith in
        ap (λ n. top (n * suc d)) (min-eq_right k)
        ∙ min-eq_right (omega (arith, mul-le-mul_left 65535 one)) ∙ sym (min-eq_right (omega (arith, mul-le-mul_left x one)))

cut_times_right : (x d : ℕ) → top (d * top x) ≡ top (d * x)
cut_times_right x d = ap top (mul_comm d (top x)) ∙ cut_times x d ∙ ap top (mul_comm x d)

pub count_laws : Laws reading_count
count_laws = record {
  plus_assoc = λ x y z. same_count _ _ (omega arith);
  plus_comm = λ x y. same_count _ _ (omega arith);
  plus_none = λ x. same_count _ _ (let h = x.cut in omega arith);
  times_assoc = λ x y z. same_count _ _ (cut_times (x.count * y.count) z.count ∙ ap top (mul_assoc x.count y.count z.count) ∙ sym (cut_times_right (y.count * z.count) x.count));
  times_comm = λ x y. same_count _ _ (ap top (mul_comm x.count y.count));
  times_unit = λ x. same_count _ _ (ap top (one-mul x.count) ∙ min-eq_left x.cut);
  times_plus = λ x y z. same_count _ _ (cut_times_right (y.count + z.count) x.count ∙ ap top (mul-add x.count y.count z.count) ∙ omega arith);
  times_none = λ x. same_count _ _ (ap top (zero-mul x.count));
  none_unit = λ e. let h : ◌≡◌ {A = ℕ} 0 1 = ap (λ (r : ReadingCount). r.count) e in omega arith;
  value_zero = refl;
  value_sum = λ a b h k. refl;
}

pub points_laws : Laws fewest_points
points_laws = record {
  plus_assoc = λ x y z. same_points _ _ (omega arith);
  plus_comm = λ x y. same_points _ _ (omega arith);
  plus_none = λ x. same_points _ _ (let h = x.cut in omega arith);
  times_assoc = λ x y z. same_points _ _ (omega arith);
  times_comm = λ x y. same_points _ _ (omega arith);
  times_unit = λ x. same_points _ _ (let h = x.cut in omega arith);
  times_plus = λ x y z. same_points _ _ (omega arith);
  times_none = λ x. same_points _ _ (omega arith);
  none_unit = λ e. let h : ◌≡◌ {A = ℕ} 65535 0 = ap (λ (r : FewestPoints). r.points) e in omega arith;
  value_zero = refl;
  value_sum = λ a b h k. same_points _ _ (omega arith);
}
