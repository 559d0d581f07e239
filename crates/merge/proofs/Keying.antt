-- The children of a row, each by its name, with zeros past them.
use Rattle.std.proofs.Common.{◌≡◌, ℕ, suc, ◌+◌, ◌-◌, ◌<◌, ◌≤◌, List, [], ◌∷◌, ◌++◌, map, length, get_or, take, set, replicate, sym, ap, ◌∙◌, ap₂, append_assoc, arith}
use Rattle.std.proofs.Math.Seq.{set-append_seam}
use Rattle.std.proofs.lemmas.List.{take_more, take_all, length-take, length-map, map-append}

-- the first i of them
abbrev pub named : (ℕ → ℕ) → List ℕ → ℕ → List ℕ
named g xs i = map g (take i xs) ++ replicate (4 - i) 0

pub named_more : (g : ℕ → ℕ) (xs : List ℕ) (i v : ℕ) → i < length xs → length xs ≤ 4 → v ≡ g (get_or xs i 0) → set (named g xs i) i v ≡ named g xs (i + 1)
named_more g xs i v l few e =
    let done : List ℕ = map g (take i xs) in
    let bs : List ℕ = replicate (4 - (i + 1)) 0 in
    let n : length done ≡ i = simp (length-map, length-take) (omega arith) in
    let k : 4 - i ≡ suc (4 - (i + 1)) = omega arith in
    let zeros : replicate (4 - i) 0 ≡ 0 ∷ bs = ap (λ m. replicate m 0) k in
    let left : set (done ++ replicate (4 - i) 0) i v ≡ done ++ v ∷ bs = ap₂ (λ zs m. set (done ++ zs) m v) zeros (sym n) ∙ set-append_seam done 0 bs v in
    let right : map g (take (i + 1) xs) ≡ done ++ v ∷ [] = ap (map g) (take_more xs i 0 l) ∙ map-append g (take i xs) (get_or xs i 0 ∷ []) ∙ ap (λ y. done ++ y ∷ []) (sym e) in
    left ∙ sym (ap (λ z. z ++ bs) right ∙ append_assoc done (v ∷ []) bs)

pub named_all : (g : ℕ → ℕ) (xs : List ℕ) (i : ℕ) → i ≡ length xs → named g xs i ≡ map g xs ++ replicate (4 - length (map g xs)) 0
named_all g xs i e = ap₂ (λ z n. map g z ++ replicate (4 - n) 0) (take_all i xs (omega arith)) (e ∙ sym (length-map xs g))
