-- What a folder that is watched is made of.
use Rattle.run_archives.specs.declared.watched.Watched.{Watched}

-- the folder itself
abbrev pub watched_folder : {F K : Type 0} → Watched F K → F
watched_folder watched = watched.folder
