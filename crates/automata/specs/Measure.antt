-- Measures: a sum, a product and a value for each number of points.
use Rattle.std.specs.Prelude.{◌≡◌, ℕ, ◌+◌, ◌≤◌, min}

pub record Ops (M : Type 0) : Type 0 where
  pub none : M
  pub unit : M
  pub plus : M → M → M
  pub times : M → M → M
  pub value : ℕ → M

pub record Laws {M : Type 0} (o : Ops M) : Type 0 where
  pub plus_assoc : (x y z : M) → o.plus (o.plus x y) z ≡ o.plus x (o.plus y z)
  pub plus_comm : (x y : M) → o.plus x y ≡ o.plus y x
  pub plus_none : (x : M) → o.plus o.none x ≡ x
  pub times_assoc : (x y z : M) → o.times (o.times x y) z ≡ o.times x (o.times y z)
  pub times_comm : (x y : M) → o.times x y ≡ o.times y x
  pub times_unit : (x : M) → o.times o.unit x ≡ x
  pub times_plus : (x y z : M) → o.times x (o.plus y z) ≡ o.plus (o.times x y) (o.times x z)
  pub times_none : (x : M) → o.times o.none x ≡ o.none
  pub none_unit : o.none ≡ o.unit → ⊥
  pub value_zero : o.value 0 ≡ o.unit
  pub value_sum : (a b : ℕ) → a ≤ 65535 → b ≤ 65535 → o.value (min (a + b) 65535) ≡ o.times (o.value a) (o.value b)
