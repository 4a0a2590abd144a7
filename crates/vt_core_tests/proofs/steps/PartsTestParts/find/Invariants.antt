use Rattle.vt_core_tests.proofs.steps.PartsTestParts.find.Given as goal

abbrev pub ghosts-find_on : goal.ghosts-find_on
ghosts-find_on g a = record { name = a.blank.name; parts = a.blank.parts }
