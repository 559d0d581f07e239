-- What a register holds, and the list of rows lent to it. How the rows lie in that list is free: only what is held counts.
use Rattle.std.specs.Prelude.{true, false, List}
use Rattle.automata.specs.declared.row.Row.{Row}
use Rattle.automata.specs.Automaton.{Meaning}
use Rattle.register.specs.declared.open.Open.{Open}
use Rattle.register.specs.declared.sealed.Sealed.{Sealed}
use Rattle.register.specs.declared.book.Book.{Book}
use Rattle.ledger.specs.Ledger.{Ledger, book}
use Rattle.ledger.specs.Layout.{laid_out}

abbrev pub held : Open → Ledger
held r = laid_out r.rows.now r.table false

abbrev pub held_sealed : Sealed → Ledger
held_sealed r = laid_out r.rows.now r.table true

abbrev pub lent : Open → List Row
lent r = r.rows.now

abbrev pub lent_sealed : Sealed → List Row
lent_sealed r = r.rows.now

-- the meaning of a book: the book over what its register holds
abbrev pub book_meaning : Book → Meaning
book_meaning b = book (laid_out b.rows.now b.table true)
