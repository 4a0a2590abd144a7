use Rattle.vt_core_tests.proofs.steps.PartsTestParts.write.Given as goal

abbrev pub ghosts-write_on : goal.ghosts-write_on
ghosts-write_on g a = record { name = a.blank.name; parts = a.blank.parts }
