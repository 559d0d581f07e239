use Rattle.std.proofs.Common.{◌≡◌, ◌++◌, map, length, Ok, vec_items}
use Rattle.fields.specs.Names.{places_at}
use Rattle.fields.specs.Fault.{bind}
use Rattle.fields.specs.Tokens.{to_read, line_of}
use Rattle.fields.proofs.lexer.Lexer.places.Given as goal

abbrev pub invariant-loop-self : goal.invariant-loop-self
invariant-loop-self l =
    (places_at (map vec_items l.names) (line_of l.initial.self) l.field (to_read l.initial.self)
    ≡ bind (places_at (map vec_items l.names) (line_of l.initial.self) l.at (to_read l.self)) (λ ps. Ok (vec_items l.found ++ ps)))
    × (line_of l.self ≡ line_of l.initial.self)

abbrev pub decreases-loop-self : goal.decreases-loop-self
decreases-loop-self l = length (to_read l.self)
