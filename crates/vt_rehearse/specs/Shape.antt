-- The store of a rehearsal.
use Rattle.vt_empty.specs.declared.shape.Shape.{Shape}
use Rattle.vt_shard.specs.declared.mounting.Sizes.{Sizes}

-- three arenas, which have room for 8,192 bytes each; two sections of one bucket; and a filter of
-- 8 KiB, of whose bits a score has four
abbrev pub the_shape : Shape
the_shape = record {
  arenas = 3;
  arena_len = 32768;
  sections = 2;
  buckets = 1;
  filter = 8192;
  positions = 4;
}

-- how many blocks and how many entries that are on its disk each shard keeps in memory
abbrev pub the_sizes : Sizes
the_sizes = record { lumps = 16; clean = 16 }
