-- each byte is known by how it stands
use Rattle.run_archives.proofs.Quoted.{same_path}
use Rattle.run_archives.proofs.skipped.paths_are_told_apart.Goals as goal

pub returns : goal.returns
returns c = same_path
