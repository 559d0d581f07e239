-- Laws of the lines of a sheet.
use Rattle.std.proofs.Common.{◌≡◌, ℕ, ◌+◌, ◌≤◌, List, [], ◌∷◌, ◌++◌, length, Ok, Err, Result, sym, refl, ap, ◌∙◌, arith}
use Rattle.fields.specs.declared.fault.Fault.{Fault}
use Rattle.std.proofs.lemmas.Bool.{cond-true, le-leb}
use Rattle.fields.specs.declared.fault.Stop.{Stop}
use Rattle.fields.specs.declared.fault.Stop.TheVariants.{Refused, Memory}
use Rattle.fields.specs.Fault.{bind, Steps}
use Rattle.fields.specs.Parts.{lines}
use Rattle.sheet.specs.Entered.{Entered}
use Rattle.sheet.specs.Lines.{line_entered, lines_entered, lines_left, kept_by, ReadsSheet, EnteredInOrder, FirstFault}

pub entered_in_order : EnteredInOrder
entered_in_order l e [] bs = ap (λ n. lines_entered n e bs) (omega arith)
entered_in_order l e (a ∷ xs) bs = at (λ i. entered_in_order (l + 1) i xs bs) (line_entered l e a)
  where
    at : ((i : Entered) → lines_entered (l + 1) i (xs ++ bs) ≡ bind (lines_entered (l + 1) i xs) (λ j. lines_entered (l + 1 + length xs) j bs)) → (r : Result Entered Fault) → bind r (λ i. lines_entered (l + 1) i (xs ++ bs)) ≡ bind (bind r (λ i. lines_entered (l + 1) i xs)) (λ j. lines_entered (l + length (a ∷ xs)) j bs)
    at h (Ok i) = h i ∙ ap (λ n. bind (lines_entered (l + 1) i xs) (λ j. lines_entered n j bs)) (omega arith)
    at h (Err f) = refl

pub first_fault : FirstFault
first_fault l e [] f h = grind arith
first_fault l e (b ∷ bs) f h = at (λ i. first_fault (l + 1) i bs f) (line_entered l e b) refl h
  where
    at : ((i : Entered) → lines_entered (l + 1) i bs ≡ Err f → (xs : List (List ℕ)) × (c : List ℕ) × (cs : List (List ℕ)) × (j : Entered) × (bs ≡ xs ++ c ∷ cs) × (lines_entered (l + 1) i xs ≡ Ok j) × (line_entered (l + 1 + length xs) j c ≡ Err f)) → (r : Result Entered Fault) → line_entered l e b ≡ r → bind r (λ i. lines_entered (l + 1) i bs) ≡ Err f
        → (xs : List (List ℕ)) × (c : List ℕ) × (cs : List (List ℕ)) × (j : Entered) × (b ∷ bs ≡ xs ++ c ∷ cs) × (lines_entered l e xs ≡ Ok j) × (line_entered (l + length xs) j c ≡ Err f)
    at k (Ok i) p g =
        let r = k i g in
        (b ∷ r.0, r.1, r.2, r.3, ap (λ ls. b ∷ ls) r.4, ap (λ s. bind s (λ i. lines_entered (l + 1) i r.0)) p ∙ r.5, ap (λ n. line_entered n r.3 r.1) (omega arith) ∙ r.6)
    at k (Err x) p g = ([], b, bs, e, refl, refl, ap (λ n. line_entered n e b) (omega arith) ∙ p ∙ g)

-- reading ends at a line that stops it
pub read_stop : (e e' is : Entered) (bs b : List ℕ) (ls rest : List (List ℕ)) (l : ℕ) (stop : Stop) → length bs ≤ 32768 → lines_entered 1 e (lines bs) ≡ lines_entered l e' rest → lines_left 1 e (lines bs) ≡ lines_left l e' rest → rest ≡ b ∷ ls
    → Steps (line_entered l e' b) e' (Err stop) is → ReadsSheet e bs (Err stop) is
read_stop e e' is bs b ls rest l (Refused f) short h k parts s =
    let fits = le-leb (length bs) 32768 short in (
      cond-true _ _ _ fits ∙ h ∙ ap (lines_entered l e') parts ∙ ap (λ r. bind r (λ i. lines_entered (l + 1) i ls)) s.0,
      s.1 ∙ sym (cond-true _ _ _ fits ∙ k ∙ ap (lines_left l e') parts ∙ ap (λ r. kept_by r e' (λ i. lines_left (l + 1) i ls)) s.0),
    )
read_stop e e' is bs b ls rest l Memory short h k parts s = tt
