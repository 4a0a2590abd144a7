use Rattle.vt_log_tests.proofs.logs.LogTestLog.walk.Given as goal

abbrev pub ghosts-walk_back : goal.ghosts-walk_back
ghosts-walk_back g a = record { name = a.blank.name; parts = a.blank.parts }
