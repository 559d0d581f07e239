-- Names and numbers, as the bytes of a field.
use Rattle.std.specs.Prelude.{◌≡◌, ℕ, ◌+◌, ◌-◌, ◌*◌, ◌≤◌, Bool, cond, ◌&&◌, ◌||◌, List, [], ◌∷◌, length, Some, None, decimal, Option, ◌==◌, nat_le}
use Rattle.std.specs.List.{list_all}
use Rattle.std.specs.Char.{is_ascii_digit, is_ascii_alphabetic}

-- a letter, a digit or a hyphen
abbrev pub sign : ℕ → Bool
sign b = is_ascii_alphabetic b || (is_ascii_digit b || b == 45)

-- 1 to 16 letters, digits or hyphens
abbrev pub is_name : List ℕ → Bool
is_name bs = nat_le 1 (length bs) && (nat_le (length bs) 16 && list_all sign bs)

-- a byte that may stand in a line
abbrev pub plain : ℕ → Bool
plain b = b == 9 || sign b

-- the number n with the digit b after it, if it is one and the number is at most 65,535
abbrev pub digit_after : ℕ → ℕ → Option ℕ
digit_after n b = cond (is_ascii_digit b && nat_le (n * 10 + (b - 48)) 65535) (Some (n * 10 + (b - 48))) None

-- the number n with the digits bs after it, if it is at most 65,535
abbrev pub onward : ℕ → List ℕ → Option ℕ
onward n [] = Some n
onward n (b ∷ bs) = cond (is_ascii_digit b && nat_le (n * 10 + (b - 48)) 65535) (onward (n * 10 + (b - 48)) bs) None

-- the number that a decimal numeral without leading zeros writes, if it is at most 65,535
abbrev pub number_of : List ℕ → Option ℕ
number_of [] = None
number_of (b ∷ []) = onward 0 (b ∷ [])
number_of (b ∷ c ∷ bs) = cond (b == 48) None (onward 0 (b ∷ c ∷ bs))

-- a field writes n exactly when it is n in decimal and n is at most 65,535
abbrev pub NumbersLaw : Type 0
NumbersLaw = (bs : List ℕ) (n : ℕ) → (number_of bs ≡ Some n → (bs ≡ decimal n) × (n ≤ 65535)) × (bs ≡ decimal n → n ≤ 65535 → number_of bs ≡ Some n)
