-- What a search lists, and what its answer tells.
use Rattle.std.proofs.Common.{◌≡◌, ℕ, zero, suc, ◌+◌, ◌<◌, ◌≤◌, Bool, true, false, cond, ◌⊎◌, ◌≢◌, List, [], ◌∷◌, ◌++◌, length, take, drop, Some, None, Option, Ok, Err, sym, refl, ap, ◌∙◌, subst, ap₂, inl, inr, ⊎_elim, arith, below_more}
use Rattle.std.specs.List.{AllByRecursion}
use Rattle.std.specs.Option.{MatchOption}
use Rattle.std.proofs.ByRecursion.{All-weaker}
use Rattle.std.proofs.Math.Seq.{take-append_seam, drop-append_seam}
use Rattle.std.proofs.lemmas.List.{length_push, map_push}
use Rattle.std.proofs.lemmas.Bool.{both_ways, cases_eq, lt-ltb, le-ltb, true≢false}
use Rattle.automata.specs.declared.row.Row.{Row}
use Rattle.automata.specs.Automaton.{Meaning, Production, production, shown, Sound}
use Rattle.automata.specs.Reading.{Member}
use Rattle.automata.proofs.Members.{member_cases, member_left, member_right}
use Rattle.automata.proofs.Sampled.{yes_accepts}
use Rattle.search.specs.declared.line.Line.{Line}
use Rattle.layers.specs.Marks.{each_marked, Ready, Unready, Stuck}
use Rattle.search.specs.Search.{Lines, Found, Tells, Leaf, search_checked}
use Rattle.refusals.specs.declared.refusal.SearchRefusal.TheVariants.{Start, Lines as FewLines}
use Rattle.search.specs.Searched.{SearchTells}
use Rattle.search.specs.Sweep.{line_states, Listed}
use Rattle.layers.specs.Trim.{Productive}
use Rattle.layers.proofs.Marking.{all_from_marked, marked_none, marked_lt, marked_more}
use Rattle.layers.proofs.Productives.{usable_productive, place_below, stuck_productive}

-- a further line, whose children stand on the lines before and whose state does not
lines_push : (m : Meaning) (earlier : List ℕ) (ls : List Line) (l : Line) (p : Production) → Lines m earlier ls → m.row l.state l.place ≡ Some p
    → AllByRecursion (λ c. Member c earlier ⊎ Member c (line_states ls)) p.children → (Member l.state earlier → ⊥) → (Member l.state (line_states ls) → ⊥) → Lines m earlier (ls ++ l ∷ [])
lines_push m earlier [] l p h e cs new new' = ((p, e, All-weaker (λ c. Member c earlier ⊎ Member c []) (λ c. Member c earlier) (λ c k. ⊎_elim (λ x. x) absurd k) p.children cs), new, tt)
lines_push m earlier (x ∷ ls) l p h e cs new new' = (
  h.0,
  h.1,
  lines_push m (x.state ∷ earlier) ls l p h.2 e
      (All-weaker (λ c. Member c earlier ⊎ Member c (line_states (x ∷ ls))) (λ c. Member c (x.state ∷ earlier) ⊎ Member c (line_states ls)) (λ c k. ⊎_elim (λ a. inl (inr a)) (λ b. ⊎_elim (λ i. inl (inl i)) (λ j. inr j) b) k) p.children cs)
      (λ k. ⊎_elim (λ i. new' (inl i)) new k) (λ k. new' (inr k)),
)

module _ (m : Meaning) (sm : Sound m) where
  line_productive : (earlier : List ℕ) → ((c : ℕ) → Member c earlier → Productive m c) → (l : Line) → (p : Production) × (m.row l.state l.place ≡ Some p) × AllByRecursion (λ c. Member c earlier) p.children → Productive m l.state
  line_productive earlier all l h =
      usable_productive m l.state l.place h.0 (place_below m sm l.state l.place h.0 h.1) h.1 (All-weaker (λ c. Member c earlier) (Productive m) all h.0.children h.2)

  lines_productive : (earlier : List ℕ) → ((c : ℕ) → Member c earlier → Productive m c) → (before : List Line) (l : Line) → Lines m earlier (before ++ l ∷ []) → Productive m l.state
  lines_productive earlier all [] l h = line_productive earlier all l h.0
  lines_productive earlier all (x ∷ before) l h =
      lines_productive (x.state ∷ earlier) (λ c k. ⊎_elim (λ (i : c ≡ x.state). subst (Productive m) (sym i) (line_productive earlier all x h.0)) (all c) k) before l h.2

  pub found_productive : (start : ℕ) (ls : List Line) → Found m start ls → Productive m start
  found_productive start ls f =
      let e = f.ends in
      subst (Productive m) e.3 (lines_productive [] (λ c h. absurd h) e.0 e.1 (subst (Lines m []) e.2 f.lines))

  -- lines tell that a ticket is accepted
  pub found_tells : (start n : ℕ) (ls : List Line) → 0 < n → Found m start ls → Tells m start n
  found_tells start n ls l f =
      let h = found_productive start ls f in
      (λ e. absurd (omega arith), λ no_ticket. absurd (no_ticket h.0 ((yes_accepts m start h.0).1 h.1)))

  -- stuck marks that miss the start tell that none is
  pub stuck_tells : (start : ℕ) (f : ℕ → Bool) → Stuck m f m.states → f start ≡ false → Tells m start 0
  stuck_tells start f stuck e =
      (λ _ t y. both_ways (f start) e (stuck_productive m sm f stuck start (t, (yes_accepts m start t).0 y)), λ _. refl)

module _ (m : Meaning) (start : ℕ) (marks : ℕ → Bool) (ls : List Line) (h : Listed m start marks ls) where
  children_stand : (p : Production) → each_marked marks p.children ≡ true → AllByRecursion (λ c. Member c [] ⊎ Member c (line_states ls)) p.children
  children_stand p all = all_from_marked (λ c. Member c [] ⊎ Member c (line_states ls)) marks (λ s e. inr ((h.marks_lines s).0 e)) p.children all

  pub push_lines : (l : Line) → marks l.state ≡ false → Ready m marks l.state l.place → Lines m [] (ls ++ l ∷ [])
  push_lines l un r = lines_push m [] ls l r.0 h.good r.1 (children_stand r.0 r.2) absurd (λ b. both_ways (marks l.state) un ((h.marks_lines l.state).1 b))

  pub found_start : (l : Line) → l.state ≡ start → Ready m marks start l.place → Found m start (ls ++ l ∷ [])
  found_start l es r = record { lines = push_lines l (ap marks es ∙ h.open_start) (subst (λ s. Ready m marks s l.place) (sym es) r); ends = (ls, l, refl, es) }

  pub listed_more : (l : Line) (marks' : ℕ → Bool) → l.state < m.states → l.state ≢ start → marks l.state ≡ false → Ready m marks l.state l.place
      → marks' l.state ≡ true → ((t : ℕ) → t ≢ l.state → marks' t ≡ marks t) → Listed m start marks' (ls ++ l ∷ [])
  listed_more l marks' lt ne un r here others =
      let now : line_states (ls ++ l ∷ []) ≡ line_states ls ++ l.state ∷ [] = map_push (λ x. x.state) ls l in
      record {
        good = push_lines l un r;
        marks_lines = λ t. (
          λ e. subst (Member t) (sym now) (⊎_elim (λ (i : t ≡ l.state). member_right t (line_states ls) (l.state ∷ []) (inl i))
              (λ other. member_left t (line_states ls) (l.state ∷ []) ((h.marks_lines t).0 (sym (others t other) ∙ e))) (cases_eq t l.state)),
          λ b. ⊎_elim (λ (i : t ≡ l.state). ap marks' i ∙ here)
              (λ other. others t other ∙ ⊎_elim (h.marks_lines t).1 (λ x. ⊎_elim (λ (j : t ≡ l.state). absurd (other j)) absurd x) (member_cases t (line_states ls) (l.state ∷ []) (subst (Member t) now b))) (cases_eq t l.state),
        );
        counted = length_push ls l ∙ ap (λ x. x + 1) h.counted ∙ sym (marked_more marks marks' l.state un here others m.states lt);
        open_start = others start (λ i. ne (sym i)) ∙ h.open_start;
      }

  -- there is room for one more line
  pub room : Sound m → (s : ℕ) → s < m.states → marks s ≡ false → length ls < m.states
  room sm s l un = subst (λ n. n < m.states) (sym h.counted) (marked_lt marks m.states s l un)

-- what is known of a row that was asked for and tried
abbrev pub Tried : Meaning → (ℕ → Bool) → ℕ → ℕ → Bool → Type 0
Tried m f s k b = (r : Option Row) × (shown r ≡ m.row s k) × MatchOption r (b ≡ false) (λ x. b ≡ each_marked f (production x).children)

pub tried_ready : (m : Meaning) (f : ℕ → Bool) (s k : ℕ) → Tried m f s k true → Ready m f s k
tried_ready m f s k (None, e, t) = absurd (true≢false t)
tried_ready m f s k (Some x, e, t) = (production x, sym e, sym t)

pub tried_unready : (m : Meaning) (f : ℕ → Bool) (s k : ℕ) → Tried m f s k false → (p : Production) → m.row s k ≡ Some p → each_marked f p.children ≡ false
tried_unready m f s k (None, e, t) p i = absurd (let z : ◌≡◌ {A = ℕ} 0 1 = cc in omega arith)
tried_unready m f s k (Some x, e, t) p i = let same : production x ≡ p = cc in subst (λ (z : Production). each_marked f z.children ≡ false) same (sym t)

-- what a search for a place of a ready row found
pub ready_among : (m : Meaning) → Sound m → (f : ℕ → Bool) (s n : ℕ) (r : Option ℕ) (P Q R : ℕ → Type 0) → n ≡ m.places
    → MatchOption r ((k : ℕ) → 0 ≤ k → k < n → (p : Production) → m.row s k ≡ Some p → each_marked f p.children ≡ false) (λ i. P i × Q i × Ready m f s i × R i) → MatchOption r (Unready m f s) (Ready m f s)
ready_among m sm f s n None P Q R e h = λ k p i. h k (omega arith) (omega (arith, e, place_below m sm s k p i)) p i
ready_among m sm f s n (Some k) P Q R e h = h.2

-- there is room for the last line too
pub room_for_all : (m : Meaning) → Sound m → (start : ℕ) (f : ℕ → Bool) (ls : List Line) → Listed m start f ls → (s l n : ℕ) → s ≡ m.states → start < s → s ≤ l → n ≡ length ls + 1 → n ≤ l
room_for_all m sm start f ls h s l n e below le long = let r = room m start f ls h sm start (omega arith) h.open_start in omega (arith, r)

-- a row without children is always ready
pub leaf_ready : (m : Meaning) (f : ℕ → Bool) (s : ℕ) → Unready m f s → Leaf m s → ⊥
leaf_ready m f s un leaf = true≢false (sym (ap (each_marked f) leaf.3) ∙ un leaf.0 leaf.1 leaf.2)

-- between the states of a sweep that began with count lines
pub record Swept (m : Meaning) (start count : ℕ) (marks : ℕ → Bool) (ls : List Line) (s : ℕ) : Type 0 where
  pub listed : Listed m start marks ls
  pub more : count ≤ length ls
  pub stuck : length ls ≡ count → Stuck m marks s
  pub unready : length ls ≡ count → Unready m marks start

pub swept_none : (m : Meaning) (start : ℕ) (marks : ℕ → Bool) (ls : List Line) → Listed m start marks ls → Unready m marks start → Swept m start (length ls) marks ls 0
swept_none m start marks ls h un = record { listed = h; more = omega arith; stuck = λ _ t l. absurd (omega arith); unready = λ _. un }

module _ (m : Meaning) (start count : ℕ) (marks : ℕ → Bool) (ls : List Line) (s : ℕ) (h : Swept m start count marks ls s) where
  pub swept_same : (marks s ≡ true) ⊎ ((s ≡ start) ⊎ Unready m marks s) → Swept m start count marks ls (s + 1)
  swept_same here = record {
    listed = h.listed;
    more = h.more;
    stuck = λ e. below_more (λ t. (marks t ≡ true) ⊎ Unready m marks t) s (h.stuck e) (⊎_elim inl (λ o. inr (⊎_elim (λ (i : s ≡ start). subst (Unready m marks) (sym i) (h.unready e)) (λ u. u) o)) here);
    unready = h.unready;
  }

  pub swept_more : (l : Line) (marks' : ℕ → Bool) → l.state < m.states → l.state ≢ start → marks l.state ≡ false → Ready m marks l.state l.place
      → marks' l.state ≡ true → ((t : ℕ) → t ≢ l.state → marks' t ≡ marks t) → Swept m start count marks' (ls ++ l ∷ []) (s + 1)
  swept_more l marks' lt ne un r here others =
      let longer : count < length (ls ++ l ∷ []) = grown (length ls) (length (ls ++ l ∷ [])) h.more (length_push ls l) in
      record {
        listed = listed_more m start marks ls h.listed l marks' lt ne un r here others;
        more = longer_le longer;
        stuck = λ e. absurd (never e longer);
        unready = λ e. absurd (never e longer);
      }
    where
      grown : (n k : ℕ) → count ≤ n → k ≡ n + 1 → count < k
      grown n k a b = omega arith

      longer_le : {k : ℕ} → count < k → count ≤ k
      longer_le a = omega arith

      never : {k : ℕ} → k ≡ count → count < k → ⊥
      never a b = omega arith

pub listed_none : (m : Meaning) (start : ℕ) (marks : ℕ → Bool) → ((s : ℕ) → marks s ≡ false) → Listed m start marks []
listed_none m start marks clear = record {
  good = tt;
  marks_lines = λ s. (λ e. absurd (both_ways (marks s) (clear s) e), λ b. absurd b);
  counted = sym (marked_none marks clear m.states);
  open_start = clear start;
}

-- a list written over the front of another
pub written : {X : Type 0} (n : ℕ) (xs ys zs : List X) → xs ≡ zs → n ≡ length zs → (take n (xs ++ drop n ys) ≡ zs) × (drop n (xs ++ drop n ys) ≡ drop n ys)
written n xs ys zs e k =
    let l : n ≡ length xs = k ∙ ap length (sym e) in
    (ap (λ j. take j (xs ++ drop n ys)) l ∙ take-append_seam xs (drop n ys) ∙ e, ap (λ j. drop j (xs ++ drop n ys)) l ∙ drop-append_seam xs (drop n ys))

pub checked_ok : (m : Meaning) (start room : ℕ) → start < m.states → m.states ≤ room → search_checked m start room ≡ Ok tt
checked_ok m start room l r = ap₂ (λ x y. cond x (cond y (Err FewLines) (Ok tt)) (Err Start)) (lt-ltb start m.states l) (le-ltb room m.states r)

pub search_tells : SearchTells
search_tells m sm start zero ls h = let e = h.1 refl in stuck_tells m sm start e.0 e.1 e.2
search_tells m sm start (suc n) ls h = found_tells m sm start (suc n) ls (omega arith) (h.0 (omega arith))
