-- The words that tell a fault to a person.
use Rattle.std.specs.Prelude.{ℕ, cond, List, ◌++◌, codes, decimal, ◌==◌}
use Rattle.refusals.specs.Words.{words}
use Rattle.fields.specs.declared.fault.Fault.{Fault}

-- line and field are told unless they are 0
abbrev pub fault_words : Fault → List ℕ
fault_words f =
    cond (f.line == 0) (codes "refused: " ++ words f.refusal)
    (cond (f.field == 0) (codes "refused at line " ++ (decimal f.line ++ (codes ": " ++ words f.refusal)))
    (codes "refused at line " ++ (decimal f.line ++ (codes ", field " ++ (decimal f.field ++ (codes ": " ++ words f.refusal))))))
