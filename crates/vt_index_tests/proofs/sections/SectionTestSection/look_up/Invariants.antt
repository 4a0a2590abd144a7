use Rattle.vt_index_tests.proofs.sections.SectionTestSection.look_up.Given as goal

abbrev pub ghosts-counted : goal.ghosts-counted
ghosts-counted g a = record { name = a.blank.name; parts = a.blank.parts }
