-- The sentence that tells a fault to a person.
use Rattle.std.specs.Prelude.{ℕ, List, [], ◌∷◌, ◌++◌}
use Rattle.fields.specs.declared.fault.Fault.{Fault}
use Rattle.fields.specs.Sentence.{fault_words}

-- LF (10) ends it
abbrev pub sentence_text : Fault → List ℕ
sentence_text f = fault_words f ++ 10 ∷ []
