-- Which history the devices of a store stand for, taken together: the log in the arenas, and the
-- index and the Bloom filter, which never say more than the log has (Quinlan and Dorward 2002).
use Rattle.std.specs.Prelude.{◌≡◌, ℕ, ◌≤◌, Some, List, length, take, map, slice_get}
use Rattle.vt_model.specs.History.{History}
use Rattle.vt_model.specs.Places.{Setup}
use Rattle.vt_part.specs.Layout.{layout_of}
use Rattle.vt_part.specs.Table.{Table, IsPartition}
use Rattle.vt_log.specs.Logs.{LogStandsFor}
use Rattle.vt_bloom.specs.Frame.{Saved, HasSaved, Covers}
use Rattle.vt_core.specs.Files.{DeviceFiles}
use Rattle.vt_recover.specs.Sections.{SectionStandsFor}

-- the scores of a history's blocks
abbrev pub scores_of : (List ℕ → List ℕ) → History → List (List ℕ)
scores_of score g = map (λ e. score e.block.bytes) g

-- the file has a filter saved whose mark is true of this history
pub record FilterStandsFor (score : List ℕ → List ℕ) (g : History) (file : List ℕ) : Type 0 where
  pub saved : Saved
  pub has : HasSaved saved file
  pub covers : Covers (scores_of score g) saved

-- the files are partitions with these tables
pub record ArePartitions (tables : List Table) (files : List (List ℕ)) : Type 0 where
  pub many : length files ≡ length tables
  pub each : (i : ℕ) (t : Table) (file : List ℕ) → slice_get tables i ≡ Some t
      → slice_get files i ≡ Some file → IsPartition t file

-- The files stand for the first n blocks of a history: on partitions with these tables their log is
-- these, with a base from the arena that was filled last with them to the one that is being filled
-- now; and their sections and their filter say nothing of later blocks.
pub record StandsFor (score : List ℕ
    → List ℕ) (c : Setup) (tables : List Table) (files : DeviceFiles)
    (h : History) (n : ℕ) : Type 0 where
  pub partitions : ArePartitions tables files.partitions
  pub log : LogStandsFor score c (layout_of tables) files.partitions h n
  pub many : length files.sections ≡ length c.sections
  pub sections : (i : ℕ) (file : List ℕ) → slice_get files.sections i ≡ Some file
      → SectionStandsFor score c (take n h) i file
  pub filter : (i : ℕ) (file : List ℕ) → slice_get files.filter i ≡ Some file
      → FilterStandsFor score (take n h) file

-- The files stand for a prefix of the history that has this many blocks at least.
pub record StandForPrefix (score : List ℕ → List ℕ) (c : Setup) (tables : List Table) (least : ℕ)
    (files : DeviceFiles) (h : History) : Type 0 where
  pub n : ℕ
  pub keeps : least ≤ n
  pub within : n ≤ length h
  pub stands : StandsFor score c tables files h n
