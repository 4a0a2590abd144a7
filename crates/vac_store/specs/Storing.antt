-- A folder that is archived into a store of blocks, and into one on devices.
use Rattle.std.specs.Prelude.{ℕ, ◌≡◌, ◌+◌, true, Option, Some, None, Result, Ok, Err, IfOk, IfErr, List, [], ◌∷◌, ◌++◌, length}
use Rattle.vt_base.specs.Faults.{HasRisen}
use Rattle.vt_base.specs.Protocol.{write}
use Rattle.vt_base.specs.declared.why.Why.{Why}
use Rattle.vt_disk.specs.Members.{DiskOf}
use Rattle.vt_out.specs.declared.folder_item.Facts.{Facts}
use Rattle.vt_out.specs.FolderItems.{Items}
use Rattle.vt_model.specs.History.{Block, History, held}
use Rattle.vt_model.specs.Places.{Setup}
use Rattle.vt_tree.specs.declared.error.TreeErr.TheVariants as trees
use Rattle.vt_tree.specs.Calls.{Call}
use Rattle.vt_tree.specs.Maps.{Maps}
use Rattle.vt_core.specs.Core.{CoreState, devices_of, setup_of}
use Rattle.vt_core.specs.Mounting.{AllStandFor, EachStands}
use Rattle.vt_core.specs.Sound.{IsSound}
use Rattle.vt_requests.specs.Answers.{KeepsAll}
use Rattle.vt_use.specs.Answers.{HasFailed, IsAnswer}
use Rattle.vt_use.specs.LocalJobs.{DoesOnStore}
use Rattle.vt_use.specs.Stores.{store_on}
use Rattle.vt_use.specs.Uses.{UsesCore}
use Rattle.vt_use.specs.declared.used_at.StoreError.{StoreError}
use Rattle.vt_use.specs.declared.used_at.StoreError.TheVariants.{Unopened, Refused, Server}
use Rattle.vt_use.specs.declared.used_at.UsedAt.{UsedAt}
use Rattle.vt_use.specs.Blocks.{written_to}
use Rattle.vt_blocks.specs.Local.{DoesLocal, HoldsLocal}
use Rattle.vac_model.specs.Archives.{archive_of}
use Rattle.vac_model.specs.Kept.{archived, skipped}
use Rattle.vac_model.specs.Limits.{Unfit, first_unfit}
use Rattle.vac_model.specs.Trees.{IsTreeOf}
use Rattle.vac_write.specs.declared.archived.Archived.{Archived}
use Rattle.vac_write.specs.declared.error.VacErr.{VacErr}
use Rattle.vac_write.specs.declared.error.VacErr.TheVariants.{FolderFault, Tree}
use Rattle.vac_write.specs.Archiving.{FolderRead, HasRisenBy, IsSeen, IsUnlisted, PutsFor, WritesArchive, GivesUpArchive, IsGivenUpAs}
use Rattle.vac_write.specs.Tried.{Tried, found, failed_at}
use Rattle.vac_store.specs.declared.outcome.ArchiveError.{ArchiveError}
use Rattle.vac_store.specs.declared.outcome.ArchiveError.TheVariants.{Store, Folder}
use Rattle.vac_store.specs.declared.outcome.ArchivedAt.{ArchivedAt}

-- ---- what is told

-- why no folder was archived, of a store that said no for this reason, if it did
abbrev pub told : VacErr → Option StoreError → ArchiveError
told (Tree (trees.Block err)) (Some bad) = Store bad
told err refusal = Folder err

-- what it comes to, of a store with so many blocks that are new or were sent, whose use ended so:
-- what failed first is told
abbrev pub came_to : Result Archived VacErr → (refusal : Option StoreError) → (blocks : ℕ)
    → (closed : Result (Unit {0}) StoreError) → Result ArchivedAt ArchiveError
came_to (Ok a) refusal blocks (Ok done) = Ok (record { archived = a; blocks = blocks })
came_to (Ok a) refusal blocks (Err bad) = Err (Store bad)
came_to (Err err) refusal blocks closed = Err (told err refusal)

-- and what an archiving comes to: the same of a store that was used, or why none was
abbrev pub archived_at : Result (UsedAt (Result Archived VacErr)) StoreError
    → Result ArchivedAt ArchiveError
archived_at (Ok used) = came_to used.output used.refusal used.blocks used.closed
archived_at (Err bad) = Err (Store bad)

-- As many calls of the folder have failed as files and folders are told as those of which one has.
-- Where there is no archive for a failed call, that one alone has. Where there is none for something
-- else, some may have.
abbrev pub CountsFailuresAt : Result ArchivedAt ArchiveError → (old new : ℕ) → Type 0
CountsFailuresAt (Ok s) old new = HasRisenBy (length s.archived.failed) old new
CountsFailuresAt (Err (Folder FolderFault)) old new = HasRisen old new
CountsFailuresAt (Err bad) old new = (n : ℕ) × HasRisenBy n old new

-- ---- what is done

-- A folder was archived so into a store of blocks, by these calls, or that was given up.
pub record ArchivesOrGivesUp {S : Type 0} (does : S → Call → S → Type 0) (holds : S → Maps → Type 0)
    (score_of : List ℕ → List ℕ) (bsize : ℕ) (folder : FolderRead)
    (answer : Result Archived VacErr) (calls : List Call) (old new : S) : Type 0 where
  pub archives : IfOk answer (λ a.
      (w : WritesArchive does holds score_of old new bsize folder a) × (w.calls ≡ calls))
  pub gives_up : IfErr answer (λ err.
      (w : GivesUpArchive does holds score_of old new bsize folder err) × (w.calls ≡ calls))

-- so a store on devices is used by the job that archives a folder
abbrev pub ArchivesByJob : {D : Type 0} → (List ℕ → List ℕ) → DiskOf D → (now bsize : ℕ)
    → (folder : FolderRead) → (answer : Result Archived VacErr) → (said : Option Why)
    → (added : ℕ) → (closed : Result (Unit {0}) Why) → (old new : CoreState D) → Type 0
ArchivesByJob score disk now bsize folder answer said added closed old new =
    UsesCore score disk now true (DoesOnStore (store_on score disk)
    (ArchivesOrGivesUp (DoesLocal (store_on score disk)) (HoldsLocal (store_on score disk) score) score
    bsize folder answer) said) added closed old new

-- ---- what follows

-- the history behind writes of these blocks: with each that the model adds
abbrev pub all_written : (List ℕ → List ℕ) → Setup → History → List Block → History
all_written score c h [] = h
all_written score c h (b ∷ blocks) =
    all_written score c (written_to score c h b.kind b.bytes) blocks

-- An archive that was told stands in this history: its score is that of the archive of what was found
-- in a folder, and stands for it; it tells what was skipped, and of what a call has failed.
pub record StandsIn (score : List ℕ → List ℕ) (bsize : ℕ) (tried : Tried) (last : History)
    (a : Archived) : Type 0 where
  pub fit : first_unfit (found tried) ≡ None
  pub score_is : a.score.0 ≡ (archive_of score bsize (found tried)).score
  pub left_out : a.skipped ≡ skipped (found tried)
  pub failed : a.failed ≡ failed_at [] tried
  pub tree : IsTreeOf (held score last) a.score.0 (archived (found tried))

-- which refusal this folder is given up for, of which this is the first thing that is unfit
abbrev pub IsUnfitAs : FolderRead → VacErr → Option Unfit → Type 0
IsUnfitAs folder (Tree (trees.Block err)) unfit = ⊥
IsUnfitAs folder err unfit = IsGivenUpAs (IsUnlisted folder) err unfit

-- the model refuses so the next of these blocks, or the store failed
abbrev pub IsRefusedFor : (List ℕ → List ℕ) → Setup → History → (rest : List Block) → Why → Type 0
IsRefusedFor score c last [] why = HasFailed (Err why)
IsRefusedFor score c last (b ∷ rest) why =
    IsAnswer score c last (write b.kind b.bytes) (Err why)

-- why there is no archive, of which these blocks aren't in the history
abbrev pub IsBecause : (List ℕ → List ℕ) → Setup → History → (rest : List Block) → FolderRead
    → (seen : Items Facts) → ArchiveError → Type 0
IsBecause score c last rest folder seen (Folder err) = IsUnfitAs folder err (first_unfit seen)
IsBecause score c last rest folder seen (Store (Refused why)) = IsRefusedFor score c last rest why
IsBecause score c last rest folder seen (Store (Unopened bad)) = ⊥
IsBecause score c last rest folder seen (Store (Server bad)) = ⊥

-- What the devices hold then: the history, and of the blocks that are put for the folder's archive the
-- first, each if the model adds it. A crash leaves a prefix of that with all that is durable. Where a
-- score is told, these are all of them, it is told how many are new, and no crash takes one away.
pub record KeepsFolder {D : Type 0} (score : List ℕ → List ℕ) (disk : DiskOf D) (bsize : ℕ)
    (folder : FolderRead) (result : Result ArchivedAt ArchiveError) (h : History)
    (old new : CoreState D) : Type 0 where
  pub tried : Tried
  pub is : IsSeen folder tried
  pub all : List Block
  pub puts : PutsFor score bsize tried all
  pub put : List Block
  pub rest : List Block
  pub blocks : put ++ rest ≡ all
  pub last : History
  pub last_is : last ≡ all_written score (setup_of old) h put
  pub sound : IsSound score disk new last
  pub keeps : KeepsAll disk old new
  pub stands : EachStands score disk (setup_of old) old.log.tables new.log.durable (devices_of new)
      last
  pub because : IfErr result (IsBecause score (setup_of old) last rest folder (found tried))
  pub done : IfOk result (λ s. (rest ≡ []) × StandsIn score bsize tried last s.archived
      × (length last ≡ length h + s.blocks)
      × AllStandFor score disk (setup_of old) old.log.tables (devices_of new) last (length last))
