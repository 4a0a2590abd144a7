use Rattle.vt_core.proofs.store.Core.test.Given as goal

abbrev pub ghosts-test_on : goal.ghosts-test_on
ghosts-test_on g a = record { name = a.blank.name; parts = a.blank.parts }
