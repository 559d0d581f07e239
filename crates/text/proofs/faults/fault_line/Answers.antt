use Rattle.std.proofs.Common.{◌∙◌}
use Rattle.text.proofs.Lines.{fault_whole}
use Rattle.text.proofs.faults.fault_line.Goals as goal

pub returns : goal.returns
returns c =
    record { value = fault_whole _ _ _ _ _ _ _ _ _ _ _ _ _ (c.as_bytes.ensures.value ∙ c.layer.ensures) c.number.ensures c.new-out.ensures.items c.in_ok-push.ensures.items c.in_ok-put_field.ensures c.in_ok-put_number.ensures c.in_ok-put_number-2.ensures c.in_ok-put_number-3.ensures c.in_ok-push-2.ensures.items }
