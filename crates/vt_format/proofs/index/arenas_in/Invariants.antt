use Rattle.std.proofs.Common.{◌≡◌, take}
use Rattle.vt_log.specs.Logs.{arena_count}
use Rattle.vt_part.specs.Parts.{tables_of}
use Rattle.vt_format.proofs.index.arenas_in.Given as goal

-- those of the partitions so far
abbrev pub invariant-loop-part : goal.invariant-loop-part
invariant-loop-part g l = l.arenas ≡ arena_count (tables_of (take l.part-index l.parts))
