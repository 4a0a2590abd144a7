-- What the type of this crate is seen as.
use Rattle.vt_icache.specs.Index.{IndexState}
use Rattle.vt_icache.specs.Keeping.{dirty_infos, clean_entries}
use Rattle.vt_icache.specs.declared.cache.IndexCache.TheInside.{Inside}

-- a cache in memory
abbrev pub state_of : Inside → IndexState
state_of s = record {
  dirty = dirty_infos s.infos s.dirty;
  room = s.room;
  clean = clean_entries s.clean;
  clean_room = s.clean.cap;
}
