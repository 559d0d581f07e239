-- What the worth is in each of the three measures.
use Rattle.std.proofs.Common.{◌≡◌, ℕ, ◌+◌, ◌*◌, ◌<◌, ◌≤◌, min, true, ◌&&◌, ◌||◌, ◌⊎◌, List, [], ◌∷◌, length, refl, ap, ◌∙◌, ap₂, inl, inr, ⊎_elim, arith}
use Rattle.std.proofs.lemmas.Bool.{cases_lt}
use Rattle.automata.specs.Reading.{Reading, Readings, by, rnil, rcons, readings, Member}
use Rattle.automata.specs.Measures.{yes_no, reading_count, fewest_points}
use Rattle.automata.specs.Worth.{sum, reading_worth, readings_worth, total_points, total_points_of, YesAccepts, CountsReadings, FewestOfReadings}
use Rattle.automata.proofs.EachOnce.{readings_exact}

mutual
  reading_yes : (r : Reading) → (reading_worth yes_no r).yes ≡ true
  reading_yes (by k p rs) = readings_yes rs

  readings_yes : (rs : Readings) → (readings_worth yes_no rs).yes ≡ true
  readings_yes rnil = refl
  readings_yes (rcons r rs) = ap₂ ◌&&◌ (reading_yes r) (readings_yes rs)

no_reading : (rs : List Reading) → (sum yes_no (reading_worth yes_no) rs).yes ≡ true → (r : Reading) × Member r rs
no_reading [] e = let z : ◌≡◌ {A = ℕ} 0 1 = cc in absurd (omega arith)
no_reading (r ∷ rs) e = (r, inl refl)

some_reading : (rs : List Reading) (r : Reading) → Member r rs → (sum yes_no (reading_worth yes_no) rs).yes ≡ true
some_reading [] r h = absurd h
some_reading (x ∷ rs) r h = ap (λ b. b || (sum yes_no (reading_worth yes_no) rs).yes) (reading_yes x)

pub yes_accepts : YesAccepts
yes_accepts m q t = (
  λ e. let r = no_reading (readings t m q) e in (r.0, ((readings_exact t m q).each r.0).0 r.1),
  λ h. some_reading (readings t m q) h.0 (((readings_exact t m q).each h.0).1 h.1),
)

mutual
  reading_one : (r : Reading) → (reading_worth reading_count r).count ≡ 1
  reading_one (by k p rs) = ap (λ n. min (1 * n) 65535) (readings_one rs)

  readings_one : (rs : Readings) → (readings_worth reading_count rs).count ≡ 1
  readings_one rnil = refl
  readings_one (rcons r rs) = ap₂ (λ m n. min (m * n) 65535) (reading_one r) (readings_one rs)

count_sum : (rs : List Reading) → (sum reading_count (reading_worth reading_count) rs).count ≡ min (length rs) 65535
count_sum [] = refl
count_sum (r ∷ rs) = ap₂ (λ m n. min (m + n) 65535) (reading_one r) (count_sum rs) ∙ omega arith

pub counts_readings : CountsReadings
counts_readings m q t = count_sum (readings t m q)

mutual
  reading_points : (r : Reading) → (reading_worth fewest_points r).points ≡ min (total_points r) 65535
  reading_points (by k p rs) = let h = readings_points rs in omega arith

  readings_points : (rs : Readings) → (readings_worth fewest_points rs).points ≡ min (total_points_of rs) 65535
  readings_points rnil = refl
  readings_points (rcons r rs) = let h = reading_points r in let k = readings_points rs in omega arith

at_most_each : (rs : List Reading) (r : Reading) → Member r rs → (sum fewest_points (reading_worth fewest_points) rs).points ≤ total_points r
at_most_each [] r h = absurd h
at_most_each (x ∷ rs) r h =
    ⊎_elim (λ (e : r ≡ x). let k = reading_points x in let l : total_points r ≡ total_points x = ap total_points e in omega arith)
    (λ k. let l = at_most_each rs r k in omega arith) h

cut_or_some : (rs : List Reading)
    → ((sum fewest_points (reading_worth fewest_points) rs).points ≡ 65535) ⊎ ((r : Reading) × Member r rs × (total_points r ≡ (sum fewest_points (reading_worth fewest_points) rs).points))
cut_or_some [] = inl refl
cut_or_some (x ∷ rs) = go (cases_lt (total_points x) 65535) (cases_lt (total_points x) (sum fewest_points (reading_worth fewest_points) rs).points) (cut_or_some rs)
  where
    rest : ℕ
    rest = (sum fewest_points (reading_worth fewest_points) rs).points

    all : ℕ
    all = min (reading_worth fewest_points x).points rest

    go : (total_points x < 65535) ⊎ (65535 ≤ total_points x) → (total_points x < rest) ⊎ (rest ≤ total_points x)
        → (rest ≡ 65535) ⊎ ((r : Reading) × Member r rs × (total_points r ≡ rest)) → (all ≡ 65535) ⊎ ((r : Reading) × Member r (x ∷ rs) × (total_points r ≡ all))
    go low (inl l) s = let e = reading_points x in ⊎_elim (λ k. inr (x, inl refl, omega arith)) (λ k. inl (omega arith)) low
    go low (inr l) s =
        let e = reading_points x in
        let c = (sum fewest_points (reading_worth fewest_points) rs).cut in
        ⊎_elim (λ k. inl (omega arith)) (λ r. let q = r.2 in inr (r.0, inr r.1, omega arith)) s

pub fewest_of_readings : FewestOfReadings
fewest_of_readings m q t = (
  λ r h. at_most_each (readings t m q) r (((readings_exact t m q).each r).1 h),
  ⊎_elim inl (λ s. inr (s.0, ((readings_exact t m q).each s.0).0 s.1, s.2)) (cut_or_some (readings t m q)),
)
