use Rattle.vt_log_tests.proofs.logs.LogTestLog.stops.Given as goal

abbrev pub ghosts-stops_back : goal.ghosts-stops_back
ghosts-stops_back g a = record { name = a.blank.name; parts = a.blank.parts }
