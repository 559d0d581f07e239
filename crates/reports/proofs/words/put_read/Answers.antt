use Rattle.std.proofs.Common.{◌≡◌, List, ℕ, OnOk, codes, string_bytes, count_by, nat_lt, ap, ◌∙◌, subst}
use Rattle.reports.specs.Words.{count_text}
use Rattle.reports.proofs.Told.{six}
use Rattle.reports.proofs.words.put_read.Goals as goal

pub returns : goal.returns
returns c =
    subst (λ (x : List ℕ). OnOk c.put_count-6.result (string_bytes c.put_count-6.new.out ≡ x))
    (six _ _ _ _ _ _ _ _ _ _ _ _ _ _ _ _ _ _ _ _
    (ap (λ n. count_text n (codes " forms, ")) c.len.ensures) (ap (λ n. count_text n (codes " states, ")) c.len-2.ensures) (ap (λ n. count_text n (codes " rows, ")) c.count_rows.ensures)
    (ap (λ n. count_text n (codes " levels, ")) (c.count_levels.ensures ∙ ap (count_by (λ level. nat_lt 0 level)) c.deref.ensures.value)) (ap (λ n. count_text n (codes " bars, ")) c.len-3.ensures) (ap (λ n. count_text n (codes " tickets\n")) c.len-4.ensures)
    c.in_ok-push_str.ensures.bytes c.in_ok-put_count.ensures c.in_ok-put_count-2.ensures c.in_ok-put_count-3.ensures c.in_ok-put_count-4.ensures c.in_ok-put_count-5.ensures)
    c.put_count-6.ensures
