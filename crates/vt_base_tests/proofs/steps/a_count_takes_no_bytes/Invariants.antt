use Rattle.vt_base_tests.proofs.steps.a_count_takes_no_bytes.Given as goal

abbrev pub ghosts-size_after_two : goal.ghosts-size_after_two
ghosts-size_after_two a = record { name = a.blank.name; parts = a.blank.parts }
