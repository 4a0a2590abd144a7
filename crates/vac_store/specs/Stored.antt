-- A folder that is archived into the store that a configuration names, on partitions that are handed
-- out by name.
use Rattle.std.specs.Prelude.{ℕ, ◌≡◌, ◌+◌, ◌≤◌, Option, Result, IfErr, IfOk, List, [], ◌++◌, length}
use Rattle.vt_base.specs.declared.why.Why.{Why}
use Rattle.vt_conf.specs.declared.conf.Conf.{Conf}
use Rattle.vt_disk.specs.Members.{DiskOf}
use Rattle.vt_model.specs.History.{Block, History}
use Rattle.vt_model.specs.Places.{Setup}
use Rattle.vt_part.specs.Table.{Table}
use Rattle.vt_partitions.specs.Parts.{Standing}
use Rattle.vt_core.specs.Files.{PerDevice}
use Rattle.vt_core.specs.Mounting.{AllStandFor, EachStands}
use Rattle.vt_open.specs.Names.{AreUnder}
use Rattle.vt_use.specs.Uses.{Uses}
use Rattle.vac_write.specs.declared.archived.Archived.{Archived}
use Rattle.vac_write.specs.declared.error.VacErr.{VacErr}
use Rattle.vac_write.specs.Archiving.{FolderRead, IsSeen, PutsFor}
use Rattle.vac_write.specs.Tried.{Tried, found}
use Rattle.vac_store.specs.declared.outcome.ArchiveError.{ArchiveError}
use Rattle.vac_store.specs.declared.outcome.ArchivedAt.{ArchivedAt}
use Rattle.vac_store.specs.Storing.{ArchivesByJob, IsBecause, StandsIn, all_written}

-- the store was opened, a folder was archived into it by its job, with this answer, and it was closed
abbrev pub UsesFor : {D : Type 0} → (List ℕ → List ℕ) → DiskOf D → (told : Type 0) → Conf
    → (now bsize : ℕ) → (folder : FolderRead) → (answer : Result Archived VacErr)
    → (said : Option Why) → (added : ℕ) → (closed : Result (Unit {0}) Why)
    → (old new : List ℕ → Standing D) → Type 0
UsesFor score disk told conf now bsize folder answer said added closed old new =
    Uses score disk told conf (ArchivesByJob score disk now bsize folder answer said added closed) old
    new

-- What it leaves of partitions that read as history `g`: whatever calls failed, and whatever a crash
-- then leaves of them, they stand for all of it, and for the first of the blocks that are put for the
-- folder's archive, each if the model adds it. Where a score is told, they stand for all of these, and
-- it is told how many are new.
pub record KeepsStored {D : Type 0} (score : List ℕ → List ℕ) (disk : DiskOf D) (conf : Conf)
    (bsize : ℕ) (folder : FolderRead) (result : Result ArchivedAt ArchiveError)
    (new : List ℕ → Standing D) (tables : List Table) (c : Setup) (g : History) : Type 0 where
  pub tried : Tried
  pub is : IsSeen folder tried
  pub all_blocks : List Block
  pub puts : PutsFor score bsize tried all_blocks
  pub put : List Block
  pub rest : List Block
  pub blocks : put ++ rest ≡ all_blocks
  pub last : History
  pub last_is : last ≡ all_written score c g put
  pub back : PerDevice D
  pub under : AreUnder new conf back
  pub least : ℕ
  pub all : length g ≤ least
  pub stands : EachStands score disk c tables least back last
  pub because : IfErr result (IsBecause score c last rest folder (found tried))
  pub done : IfOk result (λ s. (rest ≡ []) × StandsIn score bsize tried last s.archived
      × (length last ≡ length g + s.blocks)
      × AllStandFor score disk c tables back last (length last))
