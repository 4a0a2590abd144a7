use Rattle.std.proofs.Common.{◌≡◌, take, map}
use Rattle.vt_arena.specs.Arena.{version_counted}
use Rattle.vt_log.proofs.mounting.versions_of.Given as goal

-- the versions so far
abbrev pub invariant-loop-found : goal.invariant-loop-found
invariant-loop-found l = l.versions.items ≡ map (λ f. version_counted f.head) (take l.found-index l.heads)
