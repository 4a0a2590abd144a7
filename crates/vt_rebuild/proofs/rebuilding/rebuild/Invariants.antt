use Rattle.vt_rebuild.proofs.rebuilding.rebuild.Given as goal

abbrev pub ghosts-rebuild_on : goal.ghosts-rebuild_on
ghosts-rebuild_on g a = record { name = a.blank.name; parts = a.blank.parts }
