use Rattle.std.proofs.Common.{◌≡◌, take}
use Rattle.std.specs.Prelude.{map}
use Rattle.vt_conf.specs.Configuration.{file_of, said}
use Rattle.vt_conf.proofs.said.files_of.Given as goal

abbrev pub invariant-loop-setting : goal.invariant-loop-setting
invariant-loop-setting l = l.files.items ≡ map file_of (said l.keyword (take l.setting-index l.settings))
