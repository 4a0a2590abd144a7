use Rattle.vt_recover.proofs.recalling.read_back.Given as goal

abbrev pub ghosts-read_back_on : goal.ghosts-read_back_on
ghosts-read_back_on g a = record { name = a.blank.name; parts = a.blank.parts }
