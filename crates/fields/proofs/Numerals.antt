-- A number is what decimal notation writes of it.
use Rattle.std.proofs.Common.{◌≡◌, ℕ, ◌+◌, ◌-◌, ◌*◌, ◌^◌, ◌<◌, ◌≤◌, Bool, true, false, cond, ◌&&◌, eqb, leb, List, [], ◌∷◌, length, get_or, Some, None, decimal, sym, refl, ap, ◌∙◌, ⊎_elim, arith, rules, le-leb, leb-true}
use Rattle.std.proofs.str.Laws.{order}
use borrow.Author.Tests.{eqb-false}
use Rattle.std.specs.Char.{is_ascii_digit}
use Rattle.std.specs.Str.{all_ascii_digits}
use Rattle.std.proofs.lemmas.Str.Parse.{IsNumeralModel, numerals_by_fold}
use Rattle.std.proofs.lemmas.Fmt.{digits_decimal, digits_value-decimal, decimal-digits_value, decimal_digit, first_decimal, decimal_nonempty}
use Rattle.fields.specs.Words.{onward, number_of, NumbersLaw}
use Rattle.fields.proofs.Walking.{no_leading}

abbrev read_on : ℕ → List ℕ → ℕ
read_on n [] = n
read_on n (c ∷ cs) = read_on (n * 10 + (c - 48)) cs

own : IsNumeralModel (λ ds. all_ascii_digits ds ≡ true) (read_on 0)
own = numerals_by_fold _ (search rules) read_on (search rules)

read_on_ge : (n : ℕ) (bs : List ℕ) → n ≤ read_on n bs
read_on_ge n [] = omega arith
read_on_ge n (b ∷ bs) = omega (arith, read_on_ge (n * 10 + (b - 48)) bs)

-- what is read on is a numeral of what comes out
onward_reads : (n m : ℕ) (bs : List ℕ) → n ≤ 65535 → onward n bs ≡ Some m → (all_ascii_digits bs ≡ true) × (read_on n bs ≡ m) × (m ≤ 65535)
onward_reads n m [] h e = let same : n ≡ m = grind arith in (refl, same, omega arith)
onward_reads n m (b ∷ bs) h e = at (onward_reads (n * 10 + (b - 48)) m bs) (is_ascii_digit b) (leb (n * 10 + (b - 48)) 65535) refl refl e
  where
    at : (n * 10 + (b - 48) ≤ 65535 → onward (n * 10 + (b - 48)) bs ≡ Some m → (all_ascii_digits bs ≡ true) × (read_on (n * 10 + (b - 48)) bs ≡ m) × (m ≤ 65535)) → (s t : Bool) → is_ascii_digit b ≡ s → leb (n * 10 + (b - 48)) 65535 ≡ t → cond (s && t) (onward (n * 10 + (b - 48)) bs) None ≡ Some m → (all_ascii_digits (b ∷ bs) ≡ true) × (read_on n (b ∷ bs) ≡ m) × (m ≤ 65535)
    at h true true p q e = let r = h (leb-true _ _ q) e in (ap (λ t. t && all_ascii_digits bs) p ∙ r.0, r.1, r.2)
    at h true false p q e = grind arith
    at h false t p q e = grind arith

onward_some : (n : ℕ) (bs : List ℕ) → all_ascii_digits bs ≡ true → read_on n bs ≤ 65535 → onward n bs ≡ Some (read_on n bs)
onward_some n [] d h = refl
onward_some n (b ∷ bs) d h = at (onward_some (n * 10 + (b - 48)) bs) (is_ascii_digit b) refl d
  where
    at : (all_ascii_digits bs ≡ true → read_on (n * 10 + (b - 48)) bs ≤ 65535 → onward (n * 10 + (b - 48)) bs ≡ Some (read_on (n * 10 + (b - 48)) bs)) → (s : Bool) → is_ascii_digit b ≡ s → (s && all_ascii_digits bs) ≡ true → onward n (b ∷ bs) ≡ Some (read_on n (b ∷ bs))
    at f true p d =
        let fits : leb (n * 10 + (b - 48)) 65535 ≡ true = le-leb _ _ (omega (arith, h, read_on_ge (n * 10 + (b - 48)) bs)) in
        ap (λ t. cond (t && leb (n * 10 + (b - 48)) 65535) (onward (n * 10 + (b - 48)) bs) None) p ∙ ap (λ t. cond t (onward (n * 10 + (b - 48)) bs) None) fits ∙ f d h
    at f false p d = grind arith

-- a number's field is not empty, and has no leading zero
number_shape : (bs : List ℕ) (n : ℕ) → number_of bs ≡ Some n → (0 < length bs) × (get_or bs 0 0 ≡ 48 → length bs ≡ 1) × (onward 0 bs ≡ Some n)
number_shape [] n e = grind arith
number_shape (b ∷ []) n e = (omega arith, λ _. refl, e)
number_shape (b ∷ c ∷ bs) n e = at (eqb b 48) refl e
  where
    at : (t : Bool) → eqb b 48 ≡ t → cond t None (onward 0 (b ∷ c ∷ bs)) ≡ Some n → (0 < length (b ∷ c ∷ bs)) × (b ≡ 48 → length (b ∷ c ∷ bs) ≡ 1) × (onward 0 (b ∷ c ∷ bs) ≡ Some n)
    at true p e = grind arith
    at false p e = (omega arith, λ z. absurd (eqb-false b 48 p z), e)

reads : (bs : List ℕ) (n : ℕ) → number_of bs ≡ Some n → (bs ≡ decimal n) × (n ≤ 65535)
reads bs n e =
    let s = number_shape bs n e in
    let r = onward_reads 0 n bs (omega arith) s.2 in
    (sym (decimal-digits_value own bs r.0 s.0 s.1 (omega (arith, r.1, r.2))) ∙ ap decimal r.1, r.2)

-- a decimal of two digits or more does not begin with 0
no_zero : (n : ℕ) → n < 2 ^ 64 → 1 < length (decimal n) → get_or (decimal n) 0 0 ≡ 48 → ⊥
no_zero n h long first = ⊎_elim
    (λ none. let z : n ≡ 0 = omega arith in absurd (omega (arith, ap (λ m. length (decimal m)) z, ap length (decimal_digit 0 (omega arith)))))
    (λ some. omega (arith, first_decimal n some h))
    (order n 1)

writes : (bs : List ℕ) (n : ℕ) → bs ≡ decimal n → n ≤ 65535 → number_of bs ≡ Some n
writes bs n e h =
    let small : n < 2 ^ 64 = omega arith in
    let value = digits_value-decimal own n small in
    ap number_of e ∙ no_leading (decimal n) (decimal_nonempty n small) (no_zero n small) ∙ onward_some 0 (decimal n) (digits_decimal own n small) (omega (arith, value)) ∙ ap Some value

pub numbers_law : NumbersLaw
numbers_law bs n = (reads bs n, writes bs n)
