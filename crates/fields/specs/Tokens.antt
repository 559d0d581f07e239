-- What the lexer yields: a field that is a number is a number, any other a name, to be checked by whoever wants one.
use Rattle.std.specs.Prelude.{ℕ, List, [], ◌∷◌, Some, None, Option}
use Rattle.fields.specs.declared.lexer.Token.{Token}
use Rattle.fields.specs.declared.lexer.Token.TheVariants.{Name, Number, End}
use Rattle.fields.specs.declared.lexer.Lexer.{Lexer}
use Rattle.fields.specs.Parts.{left, seen}
use Rattle.fields.specs.Words.{number_of}

pub data Word : Type 0 where
  text : List ℕ → Word
  numeral : List ℕ → ℕ → Word
  end : Word

-- what a token says
abbrev pub word : Token → Word
word (Name x) = text x.now
word (Number x n) = numeral x.now n
word End = end

abbrev pub classed : Option ℕ → List ℕ → Word
classed None f = text f
classed (Some n) f = numeral f n

-- the next word of the fields that are left, and those after it
abbrev pub first : List (List ℕ) → Word
first [] = end
first (f ∷ fs) = classed (number_of f) f

abbrev pub others : List (List ℕ) → List (List ℕ)
others [] = []
others (f ∷ fs) = fs

abbrev pub head : List (List ℕ) → List ℕ
head [] = []
head (f ∷ fs) = f

-- the fields that a lexer has still to read
abbrev pub to_read : Lexer → List (List ℕ)
to_read l = left (seen l.rest)

-- the number of its line
abbrev pub line_of : Lexer → ℕ
line_of l = l.line

-- a word's bytes, and its number
abbrev pub spelled : Word → List ℕ
spelled (text f) = f
spelled (numeral f n) = f
spelled end = []

abbrev pub numbered : Word → Option ℕ
numbered (text f) = None
numbered (numeral f n) = Some n
numbered end = None
