-- A lemma and no definition: every book is sound.
use Rattle.std.specs.Prelude.{true, refl}
use Rattle.automata.specs.Automaton.{Sound}
use Rattle.ledger.specs.Layout.{laid_out}
use Rattle.ledger.specs.Soundness.{good_from, good_sound}
use Rattle.register.specs.declared.book.Book.{Book}
use Rattle.register.specs.Held.{book_meaning}

pub book_sound : (b : Book) → Sound (book_meaning b)
unfolding laid_out
book_sound b = good_sound (laid_out b.rows.now b.table true) (good_from (laid_out b.rows.now b.table true) b.good) refl
