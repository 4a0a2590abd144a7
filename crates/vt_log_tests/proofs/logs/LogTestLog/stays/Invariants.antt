use Rattle.vt_log_tests.proofs.logs.LogTestLog.stays.Given as goal

abbrev pub ghosts-fails_back : goal.ghosts-fails_back
ghosts-fails_back g a = record { name = a.blank.name; parts = a.blank.parts }
