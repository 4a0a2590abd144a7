use Rattle.vt_turns.proofs.shared.Turns.load_bit.Given as goal

abbrev pub ghosts-load_bit_as : goal.ghosts-load_bit_as
ghosts-load_bit_as g a = record { place = a.place }
