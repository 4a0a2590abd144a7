use Rattle.std.proofs.Common.{◌∙◌, ap}
use Rattle.std.specs.Prelude.{Some, None}
use Rattle.vt_turns.specs.Views.{turn_of}
use Rattle.vt_turns.proofs.Lists.{at_put_here}
use Rattle.vt_turns_example.proofs.store.Store.put_back.Goals as goal

pub give-requires-clause-held : goal.give-requires-clause-held
give-requires-clause-held c = let b = c.requires.books in ap (λ v. turn_of v c.args.number) (c.book.ensures.view b.0 b.1) ∙ at_put_here None c.args.pass.now.me.0.turns c.args.number (Some c.args.part)
