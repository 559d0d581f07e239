use Rattle.std.proofs.Common.{◌≡◌, ◌+◌, ◌<◌, ◌≤◌, ◌++◌, [], length, take, drop, sym, refl, ap, ◌∙◌, subst, inl, inr, ⊎_elim, arith}
use Rattle.std.proofs.lemmas.Bool.{true≢false}
use Rattle.std.proofs.lemmas.List.{length-take-le}
use Rattle.layers.specs.Marks.{mark}
use Rattle.layers.proofs.Marking.{marked_le}
use Rattle.search.specs.Search.{Found}
use Rattle.search.specs.Sweep.{Listed}
use Rattle.search.proofs.Searches.{listed_none, found_start, found_tells, stuck_tells, leaf_ready, room, room_for_all, written, checked_ok}
use Rattle.search.proofs.search.search.Goals as goal

pub loop-place-init : goal.loop-place-init
loop-place-init g c =
    let m = g.A.Automaton.meaning c.args.automaton.now in
    let f = mark c.none-marks.result in
    (subst (Listed m c.args.start f) (sym c.new-order.ensures) (listed_none m c.args.start f c.none-marks.ensures), inl c.new-order.ensures, refl)

pub push-requires : goal.push-requires
push-requires g c =
    let m = g.A.Automaton.meaning c.args.automaton.now in
    let sm = g.A.Automaton.sound c.args.automaton.now in
    let h = c.loop-place.invariant.0 in
    let r = room m c.args.start (mark c.loop-place.marks) c.loop-place.order.items h sm c.args.start (omega (arith, c.states-states.ensures, c.if-start-states.false)) h.open_start in
    (omega arith, omega (arith, r, sm.few_states))

pub slice_bounds-copy_from_slice-end : goal.slice_bounds-copy_from_slice-end
slice_bounds-copy_from_slice-end g c = room_for_all (g.A.Automaton.meaning c.args.automaton.now) (g.A.Automaton.sound c.args.automaton.now) c.args.start (mark c.loop-place.marks) c.loop-place.order.items c.loop-place.invariant.0 c.states-states.result (length c.loop-place.lines) c.len-count.result c.states-states.ensures c.if-start-states.false (subst (λ k. c.states-states.result ≤ k) (sym c.loop-place.auto.lines) c.if-lines-states.false) (c.len-count.ensures.value ∙ c.push.ensures.len)

pub slice_bounds-copy_from_slice-end-in-Some : goal.slice_bounds-copy_from_slice-end-in-Some
slice_bounds-copy_from_slice-end-in-Some g c = sym (length-take-le _ _ (room_for_all (g.A.Automaton.meaning c.args.automaton.now) (g.A.Automaton.sound c.args.automaton.now) c.args.start (mark c.loop-place.marks) c.loop-place.order.items c.loop-place.invariant.0 c.states-states.result (length c.loop-place.lines) c.len-count.result c.states-states.ensures c.if-start-states.false (subst (λ k. c.states-states.result ≤ k) (sym c.loop-place.auto.lines) c.if-lines-states.false) (c.len-count.ensures.value ∙ c.push.ensures.len)))

pub copy_from_slice-requires : goal.copy_from_slice-requires
copy_from_slice-requires g c =
    length-take-le _ _ (room_for_all (g.A.Automaton.meaning c.args.automaton.now) (g.A.Automaton.sound c.args.automaton.now) c.args.start (mark c.loop-place.marks) c.loop-place.order.items c.loop-place.invariant.0 c.states-states.result (length c.loop-place.lines) c.len-count.result c.states-states.ensures c.if-start-states.false (subst (λ k. c.states-states.result ≤ k) (sym c.loop-place.auto.lines) c.if-lines-states.false) (c.len-count.ensures.value ∙ c.push.ensures.len))
    ∙ c.len-count.ensures.value ∙ ap length (sym c.as_slice.ensures.value)

pub returns-in-Some : goal.returns-in-Some
returns-in-Some g c =
    let m = g.A.Automaton.meaning c.args.automaton.now in
    let sm = g.A.Automaton.sound c.args.automaton.now in
    let start = c.args.start in
    let h = c.loop-place.invariant.0 in
    let ls = c.loop-place.order.items in
    let n = c.len-count.result in
    let l : start < m.states = omega (arith, c.states-states.ensures, c.if-start-states.false) in
    let r = room m start (mark c.loop-place.marks) ls h sm start l h.open_start in
    let long : n ≡ length ls + 1 = c.len-count.ensures.value ∙ c.push.ensures.len in
    let w = written n c.copy_from_slice.new.self c.loop-place.lines c.push.new.self.items (c.copy_from_slice.ensures.after ∙ c.as_slice.ensures.value) c.len-count.ensures.value in
    let found : Found m start (take n (c.copy_from_slice.new.self ++ drop n c.loop-place.lines)) =
    subst (Found m start) (sym (w.0 ∙ c.push.ensures.items)) (found_start m start (mark c.loop-place.marks) ls h (record { state = start; place = c.in-Some.place }) refl c.in-Some.ensures) in
    record {
      refused = checked_ok m start (length c.args.lines.now) l (omega (arith, c.states-states.ensures, c.if-lines-states.false));
      answers = (omega (arith, long, r, c.states-states.ensures, c.if-lines-states.false), λ _. found);
      searched = (λ _. found, λ z. absurd (omega (arith, long)));
      tells = found_tells m sm start n _ (omega (arith, long)) found;
      leaf = λ leaf. ⊎_elim (λ (e : ls ≡ []). long ∙ ap (λ xs. length xs + 1) e) (λ no-leaf. absurd (no-leaf leaf)) c.loop-place.invariant.1;
      beyond = w.1 ∙ ap (drop n) c.loop-place.invariant.2;
      same = λ e. absurd (true≢false e);
    }

pub returns-then-not-sweep : goal.returns-then-not-sweep
returns-then-not-sweep g c =
    let m = g.A.Automaton.meaning c.args.automaton.now in
    let sm = g.A.Automaton.sound c.args.automaton.now in
    let s = c.sweep.ensures in
    let f = mark c.sweep.new.marks in
    let stuck = s.stuck c.if-not-sweep.true in
    record {
      refused = checked_ok m c.args.start (length c.args.lines.now) (omega (arith, c.states-states.ensures, c.if-start-states.false)) (omega (arith, c.states-states.ensures, c.if-lines-states.false));
      answers = (omega arith, λ l. absurd (omega arith));
      searched = (λ l. absurd (omega arith), λ _. (f, stuck, s.listed.open_start));
      tells = stuck_tells m sm c.args.start f stuck s.listed.open_start;
      leaf = λ leaf. absurd (leaf_ready m (mark c.loop-place.marks) c.args.start c.in_default.ensures leaf);
      beyond = c.loop-place.invariant.2;
      same = λ e. absurd (true≢false e);
    }

pub loop-place-smaller : goal.loop-place-smaller
loop-place-smaller g c =
    let m = g.A.Automaton.meaning c.args.automaton.now in
    let s = c.sweep.ensures in
    omega (arith, s.more c.if-not-sweep.false, s.listed.counted, marked_le (mark c.sweep.new.marks) m.states)

pub loop-place-preserved : goal.loop-place-preserved
loop-place-preserved g c = (c.sweep.ensures.listed, inr (leaf_ready (g.A.Automaton.meaning c.args.automaton.now) (mark c.loop-place.marks) c.args.start c.in_default.ensures), c.loop-place.invariant.2)
