-- The shape of a store.
use Rattle.std.specs.Prelude.{ℕ, ◌*◌, ◌<◌, ◌≤◌, replicate}
use Rattle.vt_bloom.specs.Bits.{AreCounts}
use Rattle.vt_bloom.specs.Size.{IsFilterSize}
use Rattle.vt_core.specs.declared.TheConstants.{MOST_ARENAS, MOST_BUCKETS}
use Rattle.vt_empty.specs.declared.shape.Shape.{Shape}
use Rattle.vt_model.specs.Places.{Setup}
use Rattle.vt_model.specs.declared.TheConstants.{WRITTEN_VERSION}
use Rattle.vt_part.specs.Table.{IsArenaSize}

-- a store may have it: an arena and a bucket at least, and no more than a store has
pub record IsShape (shape : Shape) : Type 0 where
  pub some_arena : 0 < shape.arenas
  pub arenas : shape.arenas ≤ MOST_ARENAS
  pub arena_len : IsArenaSize shape.arena_len
  pub some_section : 0 < shape.sections
  pub some_bucket : 0 < shape.buckets
  pub buckets : shape.sections * shape.buckets ≤ MOST_BUCKETS
  pub m : ℕ
  pub filter : IsFilterSize m shape.filter
  pub counts : AreCounts m shape.positions

-- the setup of a store of this shape without blocks
abbrev pub setup_for : Shape → Setup
setup_for shape = record {
  arenas = replicate shape.arenas shape.arena_len;
  versions = replicate shape.arenas WRITTEN_VERSION;
  base = 0;
  sections = replicate shape.sections shape.buckets;
}
