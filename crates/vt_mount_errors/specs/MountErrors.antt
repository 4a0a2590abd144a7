-- What is told of a part's refusal: each as the store's own, under the number of the part. Parts are
-- counted from 0: the partitions of arenas, the index sections, the Bloom filter.
use Rattle.std.specs.Prelude.{◌≢◌, ⊤, ℕ, ◌<◌, List, slice_get}
use Rattle.std.specs.Option.{option_map_or}
use Rattle.vt_base.specs.Damage.{Differ}
use Rattle.vt_base.specs.declared.mount.MountBad.{MountBad}
use Rattle.vt_base.specs.declared.mount.MountBad.TheVariants.{Fault, NotFormatted, TooSmall, DuplicateName, Disagree, Damaged, NoMemory}
use Rattle.vt_base.specs.declared.mount.MountField.{MountField}
use Rattle.vt_base.specs.declared.mount.MountField.TheVariants.{Version, Number, Sealed, Used, Last, Clumps, ArenaSize, Count, M, K}
use Rattle.vt_base.specs.declared.why.Site.TheVariants.{Bucket}
use Rattle.vt_part.specs.declared.error.Field.{Field as PartField}
use Rattle.vt_part.specs.declared.error.Field.TheVariants as part_field
use Rattle.vt_part.specs.declared.error.PartBad.{PartBad}
use Rattle.vt_part.specs.declared.error.PartBad.TheVariants as part_bad
use Rattle.vt_part.specs.declared.layout.ArenaRegion.{ArenaRegion}
use Rattle.vt_arena.specs.declared.error.ArenaBad.{ArenaBad}
use Rattle.vt_arena.specs.declared.error.ArenaBad.TheVariants as arena_bad
use Rattle.vt_arena.specs.declared.error.Field.{Field as ArenaField}
use Rattle.vt_arena.specs.declared.error.Field.TheVariants as arena_field
use Rattle.vt_isect.specs.declared.error.SectBad.{SectBad}
use Rattle.vt_isect.specs.declared.error.SectBad.TheVariants as sect_bad
use Rattle.vt_isect.specs.declared.error.ShardErr.{ShardErr}
use Rattle.vt_isect.specs.declared.error.ShardErr.TheVariants as shard_err
use Rattle.vt_bloom.specs.declared.error.BloomError.{BloomError}
use Rattle.vt_bloom.specs.declared.error.BloomError.TheVariants as bloom_error
use Rattle.vt_bloom.specs.declared.error.Field.{Field as BloomField}
use Rattle.vt_bloom.specs.declared.error.Field.TheVariants as bloom_field
use Rattle.vt_log.specs.declared.error.LogBad.{LogBad}
use Rattle.vt_log.specs.declared.error.LogBad.TheVariants as log_bad

-- the field of a partition's table, as one of a store
abbrev pub field_of_part : PartField → MountField
field_of_part part_field.Version = Version
field_of_part part_field.ArenaSize = ArenaSize
field_of_part part_field.Count = Count

-- the refusal of a partition of arenas with this number, as one of a store
abbrev pub of_part : (part : ℕ) → PartBad → MountBad
of_part part part_bad.Fault = Fault
of_part part (part_bad.TooSmall len need) = TooSmall part len need
of_part part part_bad.NotFormatted = NotFormatted part
of_part part (part_bad.Torn field found want) = Disagree part (field_of_part field) found want
of_part part (part_bad.DuplicateName first second) = DuplicateName first second
of_part part part_bad.NoMemory = NoMemory

-- the field of an arena's head, as one of a store
abbrev pub field_of_arena : ArenaField → MountField
field_of_arena arena_field.Version = Version
field_of_arena arena_field.Number = Number
field_of_arena arena_field.Sealed = Sealed
field_of_arena arena_field.Used = Used
field_of_arena arena_field.Last = Last

-- the refusal of an arena in the partition with this number, as one of a store
abbrev pub of_arena : (part : ℕ) → ArenaBad → MountBad
of_arena part arena_bad.Fault = Fault
of_arena part arena_bad.NotFormatted = NotFormatted part
of_arena part (arena_bad.Torn field found want) = Disagree part (field_of_arena field) found want
of_arena part arena_bad.NoMemory = NoMemory

-- the partition of an arena of this layout, or 0 where there is no such arena
abbrev pub partition_of : List ArenaRegion → (arena : ℕ) → ℕ
partition_of layout arena = option_map_or (λ r. r.part) (slice_get layout arena) 0

-- the log of partitions with this layout
abbrev pub of_log : List ArenaRegion → LogBad → MountBad
of_log layout (log_bad.Part bad) = of_part 0 bad
of_log layout (log_bad.Arena arena bad) = of_arena (partition_of layout arena) bad
of_log layout (log_bad.Order arena clumps) = Disagree (partition_of layout arena) Clumps clumps 0
of_log layout log_bad.Fault = Fault
of_log layout log_bad.NoMemory = NoMemory

-- the refusal of an index section, the part with this number, as one of a store
abbrev pub of_section : (part : ℕ) → SectBad → MountBad
of_section part sect_bad.Fault = Fault
of_section part (sect_bad.TooSmall len need) = TooSmall part len need
of_section part sect_bad.NotFormatted = NotFormatted part
of_section part (sect_bad.Torn field found want) = Disagree part Version found want
of_section part sect_bad.NoMemory = NoMemory

-- the field of a filter's frame, as one of a store
abbrev pub field_of_filter : BloomField → MountField
field_of_filter bloom_field.Version = Version
field_of_filter bloom_field.M = M
field_of_filter bloom_field.K = K

-- the refusal of a filter, the part with this number, as one of a store
abbrev pub of_filter : (part : ℕ) → BloomError → MountBad
of_filter part bloom_error.Fault = Fault
of_filter part (bloom_error.TooSmall len need) = TooSmall part len need
of_filter part bloom_error.NotFormatted = NotFormatted part
of_filter part (bloom_error.Torn field found want) =
    Disagree part (field_of_filter field) found want
of_filter part bloom_error.NoMemory = NoMemory

-- a shard, while the log is read back; a stop comes behind a fault alone
abbrev pub of_shard : ShardErr → MountBad
of_shard shard_err.Fault = Fault
of_shard (shard_err.Stopped call) = Fault
of_shard (shard_err.Damaged bucket want found) = Damaged (Bucket bucket) want found

-- Two values that a refusal tells are two: less than is needed, what was found and what was wanted,
-- or two partitions.
abbrev pub NamesTwo : MountBad → Type 0
NamesTwo Fault = ⊤
NamesTwo (NotFormatted part) = ⊤
NamesTwo (TooSmall part len need) = len < need
NamesTwo (DuplicateName first second) = first < second
NamesTwo (Disagree part field found want) = found ≢ want
NamesTwo (Damaged site want found) = Differ want found
NamesTwo NoMemory = ⊤
