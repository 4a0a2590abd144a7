-- What a log in memory stands for.
use Rattle.std.specs.Prelude.{map}
use Rattle.vt_part.specs.Parts.{disk_of, tables_of}
use Rattle.vt_log.specs.declared.log.Log.TheInside.{Inside}
use Rattle.vt_log.specs.Log.{LogState}

-- what contracts see of a log
abbrev pub state_of : {D S : Type 0} → Inside D S → LogState D
state_of l = record {
  disks = map (λ part. disk_of part) l.parts.items;
  tables = tables_of l.parts.items;
  layout = l.layout;
  heads = l.heads.items;
  versions = l.versions.items;
  base = l.base;
  committing = l.committing;
  arena = l.arena;
  queue = l.queue;
  filling = l.filling;
  durable = l.durable;
  calls = l.calls.made;
  stopped = l.calls.stopped;
}
