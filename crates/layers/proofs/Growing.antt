-- Marks that grow: by one, by a row's children, and round after round.
use Rattle.std.proofs.Common.{◌≡◌, ℕ, zero, suc, ◌+◌, ◌-◌, ◌<◌, ◌≤◌, Bool, true, false, cond, not, ◌||◌, ◌⊎◌, ◌≢◌, List, [], ◌∷◌, ◌++◌, map, length, get_or, take, Some, Decides, sym, refl, ap, ◌∙◌, subst, inl, inr, ⊎_elim, arith, below_more}
use mathlib.Core.Path.{fun_ext}
use Rattle.std.specs.List.{AllByRecursion, list_any}
use Rattle.std.proofs.lemmas.List.{take_more, take_all, get_or-map, length-map}
use Rattle.std.proofs.lemmas.Bool.{and_parts, and_from, or_cases, or_parts, or_left, or_right, both_ways, cases_Bool, cases_eq, true≢false}
use Rattle.std.proofs.ByRecursion.{All-get_or}
use Rattle.automata.specs.declared.row.Row.{Row}
use Rattle.automata.specs.Automaton.{Meaning, Production, production, Sound, all_below}
use Rattle.automata.specs.Reading.{Member}
use Rattle.automata.specs.Rows.{rows_of}
use Rattle.automata.proofs.Members.{member_cases, member_map}
use Rattle.layers.specs.Marks.{each_marked, marked, Ready, Unready, Stuck}
use Rattle.layers.specs.Trim.{Productive, Kept, root, next}
use Rattle.layers.specs.Growth.{Grows, SomeReady, Led, AllProductive, AllKept, Spread}
use Rattle.layers.proofs.Marking.{marked_le, marked_more, all_from_marked, marked_from_all}
use Rattle.layers.proofs.Productives.{usable_productive, place_below, state_below, stuck_productive}
use Rattle.layers.proofs.Collecting.{rows_member, member_rows}
use Rattle.layers.proofs.Readiness.{row_within}

bit_keeps : (x y : Bool) → (x ≡ true → y ≡ true) → cond x 1 0 ≤ cond y 1 0
bit_keeps true true h = omega arith
bit_keeps true false h = absurd (true≢false (sym (h refl)))
bit_keeps false true h = omega arith
bit_keeps false false h = omega arith

pub marked_keeps : (f g : ℕ → Bool) → ((s : ℕ) → f s ≡ true → g s ≡ true) → (n : ℕ) → marked f n ≤ marked g n
marked_keeps f g h zero = omega arith
marked_keeps f g h (suc n) = omega (arith, marked_keeps f g h n, bit_keeps (f n) (g n) (h n))

pub all_marked_keeps : (f g : ℕ → Bool) → ((s : ℕ) → f s ≡ true → g s ≡ true) → (cs : List ℕ) → each_marked f cs ≡ true → each_marked g cs ≡ true
all_marked_keeps f g h [] e = refl
all_marked_keeps f g h (c ∷ cs) e = let parts = and_parts (f c) (each_marked f cs) e in and_from (g c) (each_marked g cs) (h c parts.0) (all_marked_keeps f g h cs parts.1)

pub grows_none : (f : ℕ → Bool) → Grows f f false
grows_none f = record { keeps = λ s e. e; rests = λ _. refl; more = λ e. absurd (true≢false (sym e)) }

-- one state is marked, which may be new
pub grows_one : (f g : ℕ → Bool) (s : ℕ) → s < 1024 → g s ≡ true → ((t : ℕ) → t ≢ s → g t ≡ f t) → Grows f g (not (f s))
grows_one f g s l here others = record {
  keeps = λ t e. ⊎_elim (λ (i : t ≡ s). ap g i ∙ here) (λ ne. others t ne ∙ e) (cases_eq t s);
  rests = λ e. fun_ext (λ t. ⊎_elim (λ (i : t ≡ s). ap g i ∙ here ∙ sym (not_new (f s) e) ∙ ap f (sym i)) (others t) (cases_eq t s));
  more = λ e. one_less (marked f 1024) (marked g 1024) (marked_more f g s (new (f s) e) here others 1024 l);
}
  where
    one_less : (x y : ℕ) → y ≡ x + 1 → x < y
    one_less x y e = omega arith

    not_new : (b : Bool) → not b ≡ false → b ≡ true
    not_new true e = refl
    not_new false e = sym e

    new : (b : Bool) → not b ≡ true → b ≡ false
    new true e = sym e
    new false e = refl

less_le : (x y z : ℕ) → x < y → y ≤ z → x < z
less_le x y z l k = omega arith

le_less : (x y z : ℕ) → x ≤ y → y < z → x < z
le_less x y z l k = omega arith

-- one growth after another
pub grows_then : (f g h : ℕ → Bool) (x y : Bool) → Grows f g x → Grows g h y → Grows f h (x || y)
grows_then f g h x y a b = record {
  keeps = λ s e. b.keeps s (a.keeps s e);
  rests = λ e. let no = or_parts x y e in b.rests no.1 ∙ a.rests no.0;
  more = λ e. some x y e a b;
}
  where
    some : (x y : Bool) → (x || y) ≡ true → Grows f g x → Grows g h y → marked f 1024 < marked h 1024
    some true y e a b = less_le (marked f 1024) (marked g 1024) (marked h 1024) (a.more refl) (marked_keeps g h b.keeps 1024)
    some false y e a b = le_less (marked f 1024) (marked g 1024) (marked h 1024) (marked_keeps f g a.keeps 1024) (b.more e)

-- a member at each index
pub member_at : {X : Type 0} (xs : List X) (i : ℕ) (d : X) → i < length xs → Member (get_or xs i d) xs
member_at [] i d l = absurd (omega arith)
member_at (x ∷ xs) zero d l = inl refl
member_at (x ∷ xs) (suc i) d l = inr (member_at xs i d (omega arith))

all_marked_append : (f : ℕ → Bool) (xs : List ℕ) (x : ℕ) → each_marked f xs ≡ true → f x ≡ true → each_marked f (xs ++ x ∷ []) ≡ true
all_marked_append f [] x e h = and_from (f x) true h refl
all_marked_append f (y ∷ xs) x e h = let parts = and_parts (f y) (each_marked f xs) e in and_from (f y) (each_marked f (xs ++ x ∷ [])) parts.0 (all_marked_append f xs x parts.1 h)

pub marked_member : (f : ℕ → Bool) (cs : List ℕ) (s : ℕ) → each_marked f cs ≡ true → Member s cs → f s ≡ true
marked_member f [] s e h = absurd h
marked_member f (c ∷ cs) s e h = let parts = and_parts (f c) (each_marked f cs) e in ⊎_elim (λ (i : s ≡ c). ap f i ∙ parts.0) (λ k. marked_member f cs s parts.1 k) h

-- the first i children are marked, and nothing else was
pub record Keeping (old new : ℕ → Bool) (added : Bool) (cs : List ℕ) (i : ℕ) : Type 0 where
  pub grows : Grows old new added
  pub front : each_marked new (take i cs) ≡ true
  pub from : (s : ℕ) → new s ≡ true → (old s ≡ true) ⊎ Member s cs

pub keeping_none : (f : ℕ → Bool) (cs : List ℕ) → Keeping f f false cs 0
keeping_none f cs = record { grows = grows_none f; front = refl; from = λ s e. inl e }

pub keeping_more : (old new new' : ℕ → Bool) (added r : Bool) (cs : List ℕ) (i : ℕ) → i < length cs → Keeping old new added cs i
    → Grows new new' r → new' (get_or cs i 0) ≡ true → ((s : ℕ) → s ≢ get_or cs i 0 → new' s ≡ new s) → Keeping old new' (added || r) cs (i + 1)
keeping_more old new new' added r cs i l h g here others =
    let c = get_or cs i 0 in
    record {
      grows = grows_then old new new' added r h.grows g;
      front = ap (each_marked new') (take_more cs i 0 l) ∙ all_marked_append new' (take i cs) c (all_marked_keeps new new' g.keeps (take i cs) h.front) here;
      from = λ s e. ⊎_elim (λ (j : s ≡ c). inr (subst (λ z. Member z cs) (sym j) (member_at cs i 0 l))) (λ ne. h.from s (sym (others s ne) ∙ e)) (cases_eq s c);
    }

pub keeping_all : (old new : ℕ → Bool) (added : Bool) (cs : List ℕ) (i : ℕ) → length cs ≤ i → Keeping old new added cs i → each_marked new cs ≡ true
keeping_all old new added cs i l h = ap (each_marked new) (sym (take_all i cs l)) ∙ h.front

-- the ready rows among the first have their children marked, and nothing else was marked
pub record Leading (f old new : ℕ → Bool) (added : Bool) (ps all : List Production) : Type 0 where
  pub grows : Grows old new added
  pub done : (p : Production) → Member p ps → each_marked f p.children ≡ true → each_marked new p.children ≡ true
  pub from : (s : ℕ) → new s ≡ true → (old s ≡ true) ⊎ Led f all s

pub leading_none : (f old : ℕ → Bool) (all : List Production) → Leading f old old false [] all
leading_none f old all = record { grows = grows_none old; done = λ p h. absurd h; from = λ s e. inl e }

module _ (f old new : ℕ → Bool) (added : Bool) (ps all : List Production) (p : Production) (h : Leading f old new added ps all) where
  -- an unready row
  pub leading_skip : each_marked f p.children ≡ false → Leading f old new added (ps ++ p ∷ []) all
  leading_skip un = record {
    grows = h.grows;
    done = λ q m e. ⊎_elim (λ k. h.done q k e) (λ k. ⊎_elim (λ (i : q ≡ p). absurd (both_ways (each_marked f p.children) un (subst (λ z. each_marked f z.children ≡ true) i e))) absurd k) (member_cases q ps (p ∷ []) m);
    from = h.from;
  }

  -- a ready row
  pub leading_row : (new' : ℕ → Bool) (r : Bool) → Member p all → each_marked f p.children ≡ true → Grows new new' r → each_marked new' p.children ≡ true
      → ((s : ℕ) → new' s ≡ true → (new s ≡ true) ⊎ Member s p.children) → Leading f old new' (added || r) (ps ++ p ∷ []) all
  leading_row new' r mp ready g now from = record {
    grows = grows_then old new new' added r h.grows g;
    done = λ q m e. ⊎_elim (λ k. all_marked_keeps new new' g.keeps q.children (h.done q k e)) (λ k. ⊎_elim (λ (i : q ≡ p). subst (λ z. each_marked new' z.children ≡ true) (sym i) now) absurd k) (member_cases q ps (p ∷ []) m);
    from = λ s e. ⊎_elim (h.from s) (λ k. inr (p, mp, ready, k)) (from s e);
  }

module _ (m : Meaning) (sm : Sound m) where
  pub some_ready : (f : ℕ → Bool) (s : ℕ) → SomeReady f (rows_of m s) → (k : ℕ) × Ready m f s k
  some_ready f s h = let r = rows_member m s m.places h.0 h.1 in (r.0, (h.0, r.2, h.2))

  pub none_ready : (f : ℕ → Bool) (s : ℕ) → (SomeReady f (rows_of m s) → ⊥) → Unready m f s
  none_ready f s h k p e = ⊎_elim (λ t. absurd (h (p, member_rows m s m.places k p (place_below m sm s k p e) e, t))) (λ x. x) (cases_Bool (each_marked f p.children))

  -- between the states of a round
  pub record Round (old new : ℕ → Bool) (added : Bool) (s : ℕ) : Type 0 where
    pub grows : Grows old new added
    pub right : AllProductive m new
    pub stuck : added ≡ false → Stuck m new s

  pub round_none : (old : ℕ → Bool) → AllProductive m old → Round old old false 0
  round_none old right = record { grows = grows_none old; right = right; stuck = λ _ t l. absurd (omega arith) }

  module _ (old new : ℕ → Bool) (added : Bool) (s : ℕ) (h : Round old new added s) where
    pub round_same : (new s ≡ true) ⊎ (SomeReady new (rows_of m s) → ⊥) → Round old new added (s + 1)
    round_same here = record {
      grows = h.grows;
      right = h.right;
      stuck = λ e. below_more (λ t. (new t ≡ true) ⊎ Unready m new t) s (h.stuck e) (⊎_elim inl (λ u. inr (none_ready new s u)) here);
    }

    pub round_more : (new' : ℕ → Bool) (r : Bool) → SomeReady new (rows_of m s) → Grows new new' r → new' s ≡ true → ((t : ℕ) → t ≢ s → new' t ≡ new t) → Round old new' (added || r) (s + 1)
    round_more new' r ready g here others =
        let k = some_ready new s ready in
        record {
          grows = grows_then old new new' added r h.grows g;
          right = λ t e. ⊎_elim (λ (i : t ≡ s). subst (Productive m) (sym i) (usable_productive m s k.0 k.1.0 (place_below m sm s k.0 k.1.0 k.1.1) k.1.1 (all_from_marked (Productive m) new h.right k.1.0.children k.1.2)))
              (λ ne. h.right t (sym (others t ne) ∙ e)) (cases_eq t s);
          stuck = λ e. let still = or_parts added r e in subst (λ z. Stuck m z (s + 1)) (sym (g.rests still.1))
              (below_more (λ t. (new t ≡ true) ⊎ Unready m new t) s (h.stuck still.0) (inl (ap (λ z. z s) (sym (g.rests still.1)) ∙ here)));
        }

  pub productive_decided : (marks : ℕ → Bool) → AllProductive m marks → Stuck m marks m.states → (s : ℕ) → Decides (marks s) (Productive m s)
  productive_decided marks right stuck s = (right s, stuck_productive m sm marks stuck s)

  -- between the states of a round over the kept ones
  pub record KeepRound (f old new : ℕ → Bool) (added : Bool) (s : ℕ) : Type 0 where
    pub grows : Grows old new added
    pub right : AllKept m new
    pub spread : added ≡ false → Spread m f new s

  pub keep_none : (f old : ℕ → Bool) → AllKept m old → KeepRound f old old false 0
  keep_none f old right = record { grows = grows_none old; right = right; spread = λ _ t l. absurd (omega arith) }

  module _ (f old new : ℕ → Bool) (added : Bool) (s : ℕ) (h : KeepRound f old new added s) where
    Here : (ℕ → Bool) → ℕ → Type 0
    Here g t = g t ≡ true → (k : ℕ) (p : Production) → m.row t k ≡ Some p → each_marked f p.children ≡ true → each_marked g p.children ≡ true

    pub keep_skip : new s ≡ false → KeepRound f old new added (s + 1)
    unfolding Here
    keep_skip un = record {
      grows = h.grows;
      right = h.right;
      spread = λ e. below_more (Here new) s (h.spread e) (λ k. absurd (both_ways (new s) un k));
    }

    pub keep_row : ((t : ℕ) → Decides (f t) (Productive m t)) → new s ≡ true → (new' : ℕ → Bool) (r : Bool) → Grows new new' r → ((p : Production) → Member p (rows_of m s) → each_marked f p.children ≡ true → each_marked new' p.children ≡ true)
        → ((t : ℕ) → new' t ≡ true → (new t ≡ true) ⊎ Led f (rows_of m s) t) → KeepRound f old new' (added || r) (s + 1)
    unfolding Here
    keep_row marks here new' r g done from = record {
      grows = grows_then old new new' added r h.grows g;
      right = λ t e. ⊎_elim (h.right t) (λ l. let k = rows_member m s m.places l.0 l.1 in next s k.0 l.0 t (h.right s here) k.2 (all_from_marked (Productive m) f (λ c e. (marks c).0 e) l.0.children l.2) l.3) (from t e);
      spread = λ e. let still = or_parts added r e in subst (λ z. Spread m f z (s + 1)) (sym (g.rests still.1))
          (below_more (Here new) s (h.spread still.0) (λ _ k p row all. subst (λ (z : ℕ → Bool). each_marked z p.children ≡ true) (g.rests still.1) (done p (member_rows m s m.places k p (place_below m sm s k p row) row) all)));
    }

  pub kept_marked : (f : ℕ → Bool) → ((s : ℕ) → Decides (f s) (Productive m s)) → (kept : ℕ → Bool) → Spread m f kept m.states → (f m.root ≡ true → kept m.root ≡ true) → {s : ℕ} → Kept m s → kept s ≡ true
  kept_marked f marks kept spread start (root h) = start ((marks m.root).1 h)
  kept_marked f marks kept spread start (next s k p c h e ps mc) =
      marked_member kept p.children c (spread s (state_below m sm s k p e) (kept_marked f marks kept spread start h) k p e (marked_from_all (Productive m) f (λ x g. (marks x).1 g) p.children ps)) mc

  pub rows_within : (s l : ℕ) → m.states ≤ l → AllByRecursion (λ p. all_below l p.children ≡ true) (rows_of m s)
  rows_within s l le = all_members (λ p. all_below l p.children ≡ true) (rows_of m s) (λ p h. let r = rows_member m s m.places p h in row_within m sm s r.0 p l le (sym r.2))
    where
      all_members : (P : Production → Type 0) (xs : List Production) → ((p : Production) → Member p xs → P p) → AllByRecursion P xs
      all_members P [] h = tt
      all_members P (x ∷ xs) h = (h x (inl refl), all_members P xs (λ p k. h p (inr k)))

module _ (f : ℕ → Bool) where
  pub ready_found : (rs : List Row) → list_any (λ r. each_marked f (production r).children) rs ≡ true → SomeReady f (map production rs)
  ready_found [] e = absurd (true≢false (sym e))
  ready_found (r ∷ rs) e = ⊎_elim (λ t. (production r, inl refl, t)) (λ t. let k = ready_found rs t in (k.0, inr k.1, k.2)) (or_cases (each_marked f (production r).children) (list_any (λ r. each_marked f (production r).children) rs) e)

  pub found_ready : (rs : List Row) → SomeReady f (map production rs) → list_any (λ r. each_marked f (production r).children) rs ≡ true
  found_ready [] k = absurd k.1
  found_ready (r ∷ rs) k =
      ⊎_elim (λ (i : k.0 ≡ production r). or_left (each_marked f (production r).children) (list_any (λ r. each_marked f (production r).children) rs) (subst (λ (p : Production). each_marked f p.children ≡ true) i k.2))
      (λ t. or_right (each_marked f (production r).children) (list_any (λ r. each_marked f (production r).children) rs) (found_ready rs (k.0, t, k.2))) k.1

module _ (rs : List Row) (i : ℕ) (d : Row) (l : i < length rs) where
  pub row_member : Member (production (get_or rs i d)) (map production rs)
  row_member = member_map production (get_or rs i d) rs (member_at rs i d l)

  pub row_closed : (P : Production → Type 0) → AllByRecursion P (map production rs) → P (production (get_or rs i d))
  row_closed P all = subst P (get_or-map production rs i d (production d) l) (All-get_or P (map production rs) i (production d) (omega (arith, length-map rs production)) all)

left_less : (n x y : ℕ) → x < y → y ≤ n → n - y < n - x
left_less n x y l h = omega arith

-- more marks, fewer left
pub grows_less : (f g : ℕ → Bool) (x : Bool) → Grows f g x → x ≡ true → 1024 - marked g 1024 < 1024 - marked f 1024
grows_less f g x h e = left_less 1024 (marked f 1024) (marked g 1024) (h.more e) (marked_le g 1024)
