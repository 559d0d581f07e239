-- The three measures: yes/no, the number of readings, the fewest points.
use Rattle.std.specs.Prelude.{ℕ, ◌+◌, ◌*◌, min, true, false, ◌&&◌, ◌||◌}
use Rattle.std.proofs.Math.Nat.{min-le_left, min-le_right}
use Rattle.std.proofs.Common.{le_trans}
use Rattle.automata.specs.declared.yes_no.YesNo.{YesNo}
use Rattle.automata.specs.declared.reading_count.ReadingCount.{ReadingCount}
use Rattle.automata.specs.declared.fewest_points.FewestPoints.{FewestPoints}
use Rattle.automata.specs.Measure.{Ops}

-- or, and; every value is yes
abbrev pub yes_no : Ops YesNo
yes_no = record {
  none = record { yes = false };
  unit = record { yes = true };
  plus = λ x y. record { yes = x.yes || y.yes };
  times = λ x y. record { yes = x.yes && y.yes };
  value = λ p. record { yes = true };
}

abbrev pub count_of : ℕ → ReadingCount
count_of n = record { count = min n 65535; cut = min-le_right n 65535 }

-- sum and product, each cut at 65,535; every value is 1
abbrev pub reading_count : Ops ReadingCount
reading_count = record {
  none = count_of 0;
  unit = count_of 1;
  plus = λ x y. count_of (x.count + y.count);
  times = λ x y. count_of (x.count * y.count);
  value = λ p. count_of 1;
}

abbrev pub points_of : ℕ → FewestPoints
points_of n = record { points = min n 65535; cut = min-le_right n 65535 }

-- minimum, and sum cut at 65,535, which stands for none; the value of p is p
abbrev pub fewest_points : Ops FewestPoints
fewest_points = record {
  none = points_of 65535;
  unit = points_of 0;
  plus = λ x y. record { points = min x.points y.points; cut = le_trans (min-le_left x.points y.points) x.cut };
  times = λ x y. points_of (x.points + y.points);
  value = λ p. points_of p;
}
