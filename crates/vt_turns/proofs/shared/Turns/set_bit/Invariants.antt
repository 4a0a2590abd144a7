use Rattle.vt_turns.proofs.shared.Turns.set_bit.Given as goal

abbrev pub ghosts-set_bit_as : goal.ghosts-set_bit_as
ghosts-set_bit_as g a = record { place = a.place }
