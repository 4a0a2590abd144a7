use Rattle.std.specs.Prelude.{Some}
use Rattle.vt_turns.proofs.shared.Turns.book.Given as goal

abbrev pub ghosts-book_as : goal.ghosts-book_as
ghosts-book_as g a = record { part = Some a.part.now }
