-- What a list is once its elements moved down by one.
use Rattle.std.proofs.Common.{◌≡◌, ℕ, ◌+◌, ◌-◌, ◌<◌, ◌≤◌, List, length, get_or, take, drop, sym, ap, ◌∙◌, ⊎_elim, add_assoc, arith, rules}
use Rattle.std.proofs.lemmas.List.{places, same_lists, get_or-take, get_or-drop}
use Rattle.std.proofs.lemmas.List.Edits.{length-remove, get_or-remove_below, get_or-remove_above}
use Rattle.std.proofs.lemmas.Bool.{cases_lt}
use Rattle.std.specs.List.{remove, CopiedTo, SameBelow, SameFrom}
use Rattle.ledger.specs.Closed.{closed}

pub closed_length : {X : Type 0} (xs : List X) (at end : ℕ) → at < end → end ≤ length xs → length (closed xs at end) ≡ length xs
unfolding closed
closed_length xs at end h k = search (rules, places)

pub closed_get_d : {X : Type 0} (xs : List X) (at end k : ℕ) (d : X) → at < end → end ≤ length xs
    → ((k < at → get_or (closed xs at end) k d ≡ get_or xs k d) × (at ≤ k → k + 1 < end → get_or (closed xs at end) k d ≡ get_or xs (k + 1) d) × (end ≤ k + 1 → get_or (closed xs at end) k d ≡ get_or xs k d))
unfolding closed
closed_get_d xs at end k d h l = (λ p. grind (arith, places), λ p q. grind (arith, places), λ p. grind (arith, places))

-- a list that copied the elements after `at` down by one
pub closed_from : {X : Type 0} (xs ys : List X) (at end : ℕ) → at < end → end ≤ length xs → length ys ≡ length xs
    → CopiedTo xs ys (at + 1) at (end - (at + 1)) → SameBelow xs ys at → SameFrom xs ys (at + (end - (at + 1))) → ys ≡ closed xs at end
closed_from xs ys at end h l n moved below from = same_lists _ _ (n ∙ sym (closed_length xs at end h l)) (λ k d j.
    let g = closed_get_d xs at end k d h l in
    ⊎_elim
    (λ (lt : k < at). below k d lt ∙ sym (g.0 lt))
    (λ (ge : at ≤ k). ⊎_elim
    (λ (lt : k + 1 < end). let e : at + 1 + (k - at) ≡ k + 1 = omega arith in moved k d ge (omega arith) ∙ ap (λ m. get_or xs m d) e ∙ sym (g.1 ge lt))
    (λ (le : end ≤ k + 1). from k d (omega arith) ∙ sym (g.2 le))
    (cases_lt (k + 1) end))
    (cases_lt k at))

pub closed_front : {X : Type 0} (xs : List X) (at end n : ℕ) → at < end → end ≤ length xs → n ≤ at → take n (closed xs at end) ≡ take n xs
closed_front xs at end n h l m =
    let len = closed_length xs at end h l in
    same_lists _ _ (search (rules, places)) (λ k d j. let g = closed_get_d xs at end k d h l in grind (arith, places))

pub closed_back : {X : Type 0} (xs : List X) (at end n : ℕ) → at < end → end ≤ length xs → end ≤ n → drop n (closed xs at end) ≡ drop n xs
closed_back xs at end n h l m =
    let len = closed_length xs at end h l in
    same_lists _ _ (search (rules, places)) (λ k d j. let g = closed_get_d xs at end (n + k) d h l in grind (arith, places))

pub closed_own : {X : Type 0} (xs : List X) (at k u : ℕ) → k < u → at + u ≤ length xs → take (u - 1) (drop at (closed xs (at + k) (at + u))) ≡ remove (take u (drop at xs)) k
closed_own xs at k u h l =
    let zs = closed xs (at + k) (at + u) in
    let ys = take u (drop at xs) in
    let len : length zs ≡ length xs = closed_length xs (at + k) (at + u) (omega arith) l in
    let ly : length ys ≡ u = search (rules, places) in
    let lz : length (take (u - 1) (drop at zs)) ≡ u - 1 = search (rules, places) in
    let lr : length (remove ys k) + 1 ≡ length ys = length-remove ys k (omega arith) in
    same_lists _ _ (omega arith) (λ i d j.
    let g = closed_get_d xs (at + k) (at + u) (at + i) d (omega arith) l in
    let lhs : get_or (take (u - 1) (drop at zs)) i d ≡ get_or zs (at + i) d = get_or-take (u - 1) (drop at zs) i d (omega arith) ∙ get_or-drop at zs i d in
    ⊎_elim
    (λ (lt : i < k). lhs ∙ g.0 (omega arith) ∙ sym (get_or-remove_below ys k d i lt (omega arith) ∙ get_or-take u (drop at xs) i d (omega arith) ∙ get_or-drop at xs i d))
    (λ (ge : k ≤ i). lhs ∙ g.1 (omega arith) (omega arith) ∙ ap (λ m. get_or xs m d) (add_assoc at i 1) ∙ sym (get_or-remove_above ys k d i ge (omega arith) ∙ get_or-take u (drop at xs) (i + 1) d (omega arith) ∙ get_or-drop at xs (i + 1) d))
    (cases_lt i k))
