-- Laws of lines and fields.
use Rattle.std.proofs.Common.{◌≡◌, ℕ, ◌<◌, Bool, true, false, cond, not, eqb, List, [], ◌∷◌, length, is_some, Some, None, Option, sym, refl, ap, ◌∙◌, arith, Bor, ne_eqb, eqb-true}
use borrow.Author.Tests.{eqb-false}
use Rattle.std.specs.List.{AllByRecursion, onto_first}
use Rattle.std.specs.Option.{unwrap_or}
use Rattle.std.proofs.lemmas.Bool.{not-true, not-false}
use Rattle.fields.specs.Parts.{lines, fields, before, after, seen, left, ended, closed, tabbed, Lacks, AllParted}
use Rattle.fields.specs.Tokens.{classed, first, others}
use Rattle.fields.specs.Words.{number_of}

pub fields_cut : (bs : List ℕ) → fields bs ≡ before 9 bs ∷ left (after 9 bs)
fields_cut [] = refl
fields_cut (b ∷ bs) = elim (eqb b 9) as (λ t. cond t ([] ∷ fields bs) (onto_first b (fields bs)) ≡ cond t [] (b ∷ before 9 bs) ∷ left (cond t (Some bs) (after 9 bs))) [
  | true ↦ refl
  | false ↦ ap (onto_first b) (fields_cut bs)
]

-- one field more is read
pub one_field : (rest : Option (Bor (List ℕ))) (bytes : Bor (List ℕ)) → rest ≡ Some bytes → (f : List ℕ) (r : Option (Bor (List ℕ))) → f ≡ before 9 bytes.now → seen r ≡ after 9 bytes.now → left (seen rest) ≡ f ∷ left (seen r)
one_field rest bytes e f r front back = ap (λ o. left (seen o)) e ∙ fields_cut bytes.now ∙ (λ i. sym front i ∷ left (sym back i))

pub lexed : (rest : Option (Bor (List ℕ))) (bytes : Bor (List ℕ)) → rest ≡ Some bytes → (f : List ℕ) (r : Option (Bor (List ℕ))) (n : Option ℕ) → f ≡ before 9 bytes.now → seen r ≡ after 9 bytes.now → n ≡ number_of f → (classed n f ≡ first (left (seen rest))) × (left (seen r) ≡ others (left (seen rest)))
lexed rest bytes e f r n front back value =
    let whole = one_field rest bytes e f r front back in
    (ap (λ m. classed m f) value ∙ sym (ap first whole), sym (ap others whole))

lines_some : (b : ℕ) (bs : List ℕ) → (p : List ℕ) × (ps : List (List ℕ)) × (lines (b ∷ bs) ≡ p ∷ ps)
lines_some b bs = elim (eqb b 10) as (λ t. (p : List ℕ) × (ps : List (List ℕ)) × (cond t ([] ∷ lines bs) (onto_first b (lines bs)) ≡ p ∷ ps)) [
  | true ↦ ([], lines bs, refl)
  | false ↦ elim (lines bs) as (λ ls. (p : List ℕ) × (ps : List (List ℕ)) × (onto_first b ls ≡ p ∷ ps)) [ [] ↦ (b ∷ [], [], refl) | ◌∷◌ p ps ↦ (b ∷ p, ps, refl) ]
]

ended_onto_first : (b : ℕ) (ls : List (List ℕ)) (p : List ℕ) (ps : List (List ℕ)) → ls ≡ p ∷ ps → ended (onto_first b ls) ≡ b ∷ ended ls
ended_onto_first b ls p ps e = ap (λ l. ended (onto_first b l)) e ∙ sym (ap (λ l. b ∷ ended l) e)

pub lines_join : (bs : List ℕ) → ended (lines bs) ≡ closed bs
lines_join [] = refl
lines_join (b ∷ []) = at b (eqb b 10) refl
  where
    at : (b : ℕ) (t : Bool) → eqb b 10 ≡ t → ended (cond t ([] ∷ []) ((b ∷ []) ∷ [])) ≡ cond t (b ∷ []) (b ∷ 10 ∷ [])
    at b true e = ap (λ n. n ∷ []) (sym (eqb-true b 10 e))
    at b false e = refl
lines_join (b ∷ c ∷ bs) = at (lines_join (c ∷ bs)) (eqb b 10) refl
  where
    at : ended (lines (c ∷ bs)) ≡ closed (c ∷ bs) → (t : Bool) → eqb b 10 ≡ t → ended (cond t ([] ∷ lines (c ∷ bs)) (onto_first b (lines (c ∷ bs)))) ≡ b ∷ closed (c ∷ bs)
    at h true e = (λ i. sym (eqb-true b 10 e) i ∷ h i)
    at h false e = let s = lines_some c bs in ended_onto_first b _ s.0 s.1 s.2 ∙ ap (λ l. b ∷ l) h

lacks_onto_first : (s b : ℕ) (ls : List (List ℕ)) → (b ≡ s → ⊥) → AllByRecursion (Lacks s) ls → AllByRecursion (Lacks s) (onto_first b ls)
lacks_onto_first s b [] n a = ((n, tt), tt)
lacks_onto_first s b (p ∷ ps) n a = ((n, a.0), a.1)

pub lines_lack : (bs : List ℕ) → AllByRecursion (Lacks 10) (lines bs)
lines_lack [] = tt
lines_lack (b ∷ bs) = at (lines_lack bs) (eqb b 10) refl
  where
    at : AllByRecursion (Lacks 10) (lines bs) → (t : Bool) → eqb b 10 ≡ t → AllByRecursion (Lacks 10) (cond t ([] ∷ lines bs) (onto_first b (lines bs)))
    at h true e = (tt, h)
    at h false e = lacks_onto_first 10 b _ (eqb-false b 10 e) h

pub fields_lack : (bs : List ℕ) → AllByRecursion (Lacks 9) (fields bs)
fields_lack [] = (tt, tt)
fields_lack (b ∷ bs) = at (fields_lack bs) (eqb b 9) refl
  where
    at : AllByRecursion (Lacks 9) (fields bs) → (t : Bool) → eqb b 9 ≡ t → AllByRecursion (Lacks 9) (cond t ([] ∷ fields bs) (onto_first b (fields bs)))
    at h true e = (tt, h)
    at h false e = lacks_onto_first 9 b _ (eqb-false b 9 e) h

tabbed_grow : (b : ℕ) (p : List ℕ) (ps : List (List ℕ)) → tabbed (onto_first b (p ∷ ps)) ≡ b ∷ tabbed (p ∷ ps)
tabbed_grow b p [] = refl
tabbed_grow b p (q ∷ ps) = refl

tabbed_more : (ls : List (List ℕ)) (p : List ℕ) (ps : List (List ℕ)) → ls ≡ p ∷ ps → tabbed ([] ∷ ls) ≡ 9 ∷ tabbed ls
tabbed_more ls p ps e = ap (λ l. tabbed ([] ∷ l)) e ∙ sym (ap (λ l. 9 ∷ tabbed l) e)

pub fields_join : (bs : List ℕ) → tabbed (fields bs) ≡ bs
fields_join [] = refl
fields_join (b ∷ bs) = at (fields_join bs) (eqb b 9) refl
  where
    at : tabbed (fields bs) ≡ bs → (t : Bool) → eqb b 9 ≡ t → tabbed (cond t ([] ∷ fields bs) (onto_first b (fields bs))) ≡ b ∷ bs
    at h true e = tabbed_more _ _ _ (fields_cut bs) ∙ (λ i. sym (eqb-true b 9 e) i ∷ h i)
    at h false e = ap (λ l. tabbed (onto_first b l)) (fields_cut bs) ∙ tabbed_grow b _ _ ∙ ap (λ l. b ∷ tabbed l) (sym (fields_cut bs)) ∙ ap (λ l. b ∷ l) h

pub all_parted : AllParted
all_parted bs = record { sheet = lines_join bs; no_lf = lines_lack bs; line = fields_join bs; no_tab = fields_lack bs }

abbrev more : Option (List ℕ) → List (List ℕ)
more None = []
more (Some bs) = lines bs

lines_cut : (b : ℕ) (bs : List ℕ) → lines (b ∷ bs) ≡ before 10 (b ∷ bs) ∷ more (after 10 (b ∷ bs))
lines_cut b [] = elim (eqb b 10) as (λ t. cond t ([] ∷ []) ((b ∷ []) ∷ []) ≡ cond t [] (b ∷ []) ∷ more (cond t (Some []) None)) [ true ↦ refl | false ↦ refl ]
lines_cut b (c ∷ bs) = at (lines_cut c bs) (eqb b 10)
  where
    at : lines (c ∷ bs) ≡ before 10 (c ∷ bs) ∷ more (after 10 (c ∷ bs)) → (t : Bool) → cond t ([] ∷ lines (c ∷ bs)) (onto_first b (lines (c ∷ bs))) ≡ cond t [] (b ∷ before 10 (c ∷ bs)) ∷ more (cond t (Some (c ∷ bs)) (after 10 (c ∷ bs)))
    at h true = refl
    at h false = ap (onto_first b) h

after_shorter : (s : ℕ) (bs rest : List ℕ) → after s bs ≡ Some rest → length rest < length bs
after_shorter s [] rest e = grind arith
after_shorter s (b ∷ bs) rest e = at (after_shorter s bs rest) (eqb b s) e
  where
    at : (after s bs ≡ Some rest → length rest < length bs) → (t : Bool) → cond t (Some bs) (after s bs) ≡ Some rest → length rest < length (b ∷ bs)
    at h true e = let same : bs ≡ rest = grind arith in omega (arith, ap length same)
    at h false e = omega (arith, h e)

lines_parts : (bs : List ℕ) → 0 < length bs → lines bs ≡ before 10 bs ∷ more (after 10 bs)
lines_parts [] h = absurd (omega arith)
lines_parts (b ∷ bs) h = lines_cut b bs

-- the first line, and what follows it: nothing where it has no LF
pub line_first : (bs f : List ℕ) (o : Option (Bor (List ℕ))) (none rest : Bor (List ℕ)) → 0 < length bs → f ≡ before 10 bs → seen o ≡ after 10 bs → rest ≡ unwrap_or o none → none.now ≡ [] → (lines bs ≡ f ∷ lines rest.now) × (length rest.now < length bs)
line_first bs f (Some x) none rest h front back is e =
    let cut : after 10 bs ≡ Some rest.now = sym back ∙ ap (λ (y : Bor (List ℕ)). Some y.now) (sym is) in
    (lines_parts bs h ∙ (λ i. sym front i ∷ more (cut i)), after_shorter 10 bs rest.now cut)
line_first bs f None none rest h front back is e =
    let empty : rest.now ≡ [] = ap (λ (y : Bor (List ℕ)). y.now) is ∙ e in
    (lines_parts bs h ∙ (λ i. sym front i ∷ more (sym back i)) ∙ ap (λ r. f ∷ lines r) (sym empty), omega (arith, ap length empty))

pub none_left : (rest : Option (Bor (List ℕ))) (b : Bool) → is_some rest ≡ not b → b ≡ eqb (length (left (seen rest))) 0
none_left None b e = not-false b (sym e)
none_left (Some x) b e = not-true b (sym e) ∙ sym (ne_eqb (length (fields x.now)) 0 (let e = ap length (fields_cut x.now) in omega arith))
