-- the names so far
use Rattle.std.proofs.Common.{◌≡◌, take}
use Rattle.std.specs.Prelude.{string_bytes}
use Rattle.vt_host.specs.Paths.{path_in}
use Rattle.vt_host.proofs.folder.path_in.Given as goal

abbrev pub invariant-loop-name : goal.invariant-loop-name
invariant-loop-name l = string_bytes l.path ≡ path_in l.fn.folder (take l.name-index l.names)
