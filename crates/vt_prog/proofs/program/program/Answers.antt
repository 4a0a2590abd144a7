-- the words behind the name are those that are handed over
use Rattle.std.specs.Prelude.{drop, map}
use Rattle.std.proofs.Common.{ap, ◌∙◌}
use Rattle.vt_prog.proofs.Words.{done_by_same, where_ok}
use Rattle.vt_prog.proofs.program.program.Goals as goal

pub returns-in-Ok-clause-did : goal.returns-in-Ok-clause-did
returns-in-Ok-clause-did g c = where_ok _ c.in-Ok.is (done_by_same c.run.ensures.did
    (ap (map _) (c.words_of.ensures ∙ ap (drop 1) c.deref.ensures.value)))
