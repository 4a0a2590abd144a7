-- The devices of a store that were formatted.
use Rattle.std.specs.Prelude.{◌⊎◌, ℕ, List, map}
use Rattle.std.specs.List.{All}
use Rattle.vt_core.specs.Files.{PerDevice}
use Rattle.vt_disk.specs.Members.{DiskOf}
use Rattle.vt_empty.specs.Formatted.{AreEmptyLogs, AreUnfilled, IsUnset}
use Rattle.vt_isect.specs.Layout.{buckets_in}
use Rattle.vt_log.specs.Answers.{HoldTheSame}
use Rattle.vt_model.specs.declared.TheConstants.{WRITTEN_VERSION}
use Rattle.vt_model.specs.Places.{Setup}
use Rattle.vt_part.specs.Layout.{layout_of}
use Rattle.vt_part.specs.Table.{Table}

-- all devices of a store, whose partitions of arenas have these tables
pub record AreFormatted {D : Type 0} (disk : DiskOf D) (tables : List Table)
    (devices : PerDevice D) : Type 0 where
  pub partitions : AreEmptyLogs disk tables devices.partitions
  pub total : ℕ
  pub sections : AreUnfilled disk 0 total devices.sections
  pub filter : All (IsUnset disk) devices.filter

-- The setup of a store without blocks on them, whose arenas count as of the version that is written.
abbrev pub setup_on : {D : Type 0} → DiskOf D → List Table → PerDevice D → Setup
setup_on disk tables devices = record {
  arenas = map (λ r. r.region.len) (layout_of tables);
  versions = map (λ r. WRITTEN_VERSION) (layout_of tables);
  base = 0;
  sections = map (λ device. buckets_in (disk.size device)) devices.sections;
}

-- The arenas hold what they held, and so does the filter, or it has no bit set. The sections are in
-- use, whatever they were before, and have no entries.
pub record HasNewIndex {D : Type 0} (disk : DiskOf D) (old new : PerDevice D) : Type 0 where
  pub partitions : HoldTheSame disk old.partitions new.partitions
  pub total : ℕ
  pub sections : AreUnfilled disk 0 total new.sections
  pub filter : HoldTheSame disk old.filter new.filter ⊎ All (IsUnset disk) new.filter
