-- What archiving a folder leaves (vac(1)).
use Rattle.std.specs.Prelude.{ℕ, ◌≡◌, ◌+◌, ◌-◌, ◌<◌, ◌≤◌, ◌^◌, min, ⊤, Bool, true, false, IsTrue, Option, Some, None, Result, Ok, Err, List, [], ◌∷◌, ◌++◌, length, map}
use Rattle.vt_base.specs.Faults.{HasRisen}
use Rattle.vt_base.specs.Protocol.{Operation, sync as sync_all}
use Rattle.vt_out.specs.declared.folder_item.Facts.{Facts}
use Rattle.vt_out.specs.FolderItems.{FailingPaths, Items}
use Rattle.vt_out.specs.declared.folder.Folder.{Ghosts as FolderOf}
use Rattle.vt_out.specs.declared.files.OutErr.{OutErr}
use Rattle.vt_out.specs.declared.files.OutErr.TheVariants.{Failed}
use Rattle.vt_out.specs.declared.files.OutErr.TheVariants as outs
use Rattle.vt_model.specs.History.{Block}
use Rattle.vt_tree.specs.declared.error.BlockErr.{BlockErr}
use Rattle.vt_tree.specs.declared.error.TreeErr.{TreeErr}
use Rattle.vt_tree.specs.declared.error.TreeErr.TheVariants as trees
use Rattle.vt_tree.specs.Calls.{Call, asked_of, write_of_block, refusals_of}
use Rattle.vt_tree.specs.Making.{Makes, EndsBy, after_all}
use Rattle.vt_tree.specs.Maps.{Maps, with_blocks}
use Rattle.vt_tree.specs.Reading.{refusal_in}
use Rattle.vac_model.specs.Archives.{archive_of}
use Rattle.vac_model.specs.Kept.{archived, count, in_order, skipped}
use Rattle.vac_model.specs.Limits.{Unfit, bad_name, too_long, too_deep, first_unfit, HaveTimes}
use Rattle.vac_model.specs.Trees.{IsTreeOf}
use Rattle.vac_write.specs.declared.archived.Archived.{Archived}
use Rattle.vac_write.specs.declared.error.VacErr.{VacErr}
use Rattle.vac_write.specs.declared.error.VacErr.TheVariants.{FolderFault, Tree, BadName, TooDeep, NoMemory}
use Rattle.vac_write.specs.Tried.{Tried, whole, found, failed_at, failures, LacksOnly, begun_in, AreBegun, AreWoven}

-- so many calls have failed; the count stands still at the end of its type
abbrev pub HasRisenBy : (n old new : ℕ) → Type 0
HasRisenBy n old new = new ≡ min (old + n) (2 ^ 64 - 1)

-- as many have at least
abbrev pub HasRisenAtLeast : (n old new : ℕ) → Type 0
HasRisenAtLeast n old new = min (old + n) (2 ^ 64 - 1) ≤ new

-- A folder that is archived: what it holds, and at which paths a call of it may fail, where it tells
-- them; and how many of its calls have failed before and behind.
pub record FolderRead : Type 0 where
  pub tells : Bool
  pub held : Items Facts
  pub failing : FailingPaths
  pub faults : ℕ
  pub faults' : ℕ

-- a folder that was so before it was archived, and so behind
abbrev pub folder_read : {F : Type 0} → FolderOf F → (before after : F) → FolderRead
folder_read folder before after = record {
  tells = folder.tells;
  held = folder.holds before;
  failing = folder.may_fail before;
  faults = folder.faults before;
  faults' = folder.faults after;
}

-- So a folder may have been tried: all that it holds was, in the order of names, and of each file and
-- each folder in it that is left out for a failed call one may fail, where it tells them; and at least
-- as many calls have failed as are left out so.
pub record IsSeen (folder : FolderRead) (tried : Tried) : Type 0 where
  pub all : IsTrue folder.tells → whole tried ≡ in_order folder.held
  pub lacks : IsTrue folder.tells → LacksOnly folder.failing [] tried
  pub counted : HasRisenAtLeast (failures tried) folder.faults folder.faults'

-- the listing of the folder itself may fail, if it tells so
abbrev pub IsUnlisted : FolderRead → Type 0
IsUnlisted folder = IsTrue folder.tells → IsTrue (folder.failing.list [])

-- these blocks are put in order, and then all is synced
abbrev pub asked_for_all : List Block → List Operation
asked_for_all blocks = map write_of_block blocks ++ sync_all ∷ []

-- What is put for an archive of what was found in a folder: the archive's blocks, in order, and
-- between them the first blocks of each file of which a read has failed.
pub record PutsFor (score_of : List ℕ → List ℕ) (bsize : ℕ) (tried : Tried) (all : List Block)
    : Type 0 where
  pub begun : AreBegun score_of bsize tried
  pub woven : AreWoven (begun_in tried) (archive_of score_of bsize (found tried)).blocks all

-- A store that held these maps holds these blocks too, among them those of an archive, all of it is
-- synced, and the archive's score stands for its folder.
pub record KeepsArchive {S : Type 0} (holds : S → Maps → Type 0) (score_of : List ℕ → List ℕ)
    (s' : S) (m : Maps) (bsize : ℕ) (all : List Block) (seen : Items Facts) : Type 0 where
  pub maps : Maps
  pub held : maps.held ≡ with_blocks score_of all m.held
  pub synced : maps.synced ≡ maps.held
  pub holds_them : holds s' maps
  pub tree : IsTreeOf maps.held (archive_of score_of bsize seen).score (archived seen)

-- A folder was archived, as far as it could be read: the blocks of the archive of what was found
-- were put, each behind those that it names, the store was synced behind them, and nothing else was
-- asked for but what was put of files of which a read has failed. What was skipped is told, and of
-- what a call has failed.
pub record WritesArchive {S : Type 0} (does : S → Call → S → Type 0) (holds : S → Maps → Type 0)
    (score_of : List ℕ → List ℕ) (s s' : S) (bsize : ℕ) (folder : FolderRead)
    (a : Archived) : Type 0 where
  pub tried : Tried
  pub is : IsSeen folder tried
  pub fit : first_unfit (found tried) ≡ None
  pub few : count (archived (found tried)) < 2 ^ 64
  pub times : HaveTimes (found tried)
  pub score : a.score.0 ≡ (archive_of score_of bsize (found tried)).score
  pub left_out : a.skipped ≡ skipped (found tried)
  pub failed : a.failed ≡ failed_at [] tried
  pub all : List Block
  pub puts : PutsFor score_of bsize tried all
  pub calls : List Call
  pub made : Makes does s calls s'
  pub accepted : refusals_of calls ≡ []
  pub asked : map asked_of calls ≡ asked_for_all all
  pub keeps : (m : Maps) → holds s m → KeepsArchive holds score_of s' m bsize all (found tried)

-- A folder that holds this was archived whole: the blocks of its archive were put, each behind those
-- that it names, the store was synced behind them, and nothing else was asked for.
pub record WritesWhole {S : Type 0} (does : S → Call → S → Type 0) (holds : S → Maps → Type 0)
    (score_of : List ℕ → List ℕ) (s s' : S) (bsize : ℕ) (held : Items Facts) (a : Archived)
    : Type 0 where
  pub fit : first_unfit held ≡ None
  pub few : count (archived held) < 2 ^ 64
  pub times : HaveTimes held
  pub score : a.score.0 ≡ (archive_of score_of bsize held).score
  pub left_out : a.skipped ≡ skipped held
  pub calls : List Call
  pub made : Makes does s calls s'
  pub accepted : refusals_of calls ≡ []
  pub asked : map asked_of calls ≡ asked_for_all (archive_of score_of bsize held).blocks
  pub keeps : (m : Maps) → holds s m
      → KeepsArchive holds score_of s' m bsize (archive_of score_of bsize held).blocks held

-- which refusal a folder is given up for, of which this is the first thing that is unfit, and this what
-- holds where a call of it has failed
abbrev pub IsGivenUpAs : (failed : Type 0) → VacErr → Option Unfit → Type 0
IsGivenUpAs failed FolderFault unfit = failed
IsGivenUpAs failed (Tree (trees.Block err)) unfit = ⊤
IsGivenUpAs failed (Tree trees.SourceFault) unfit = ⊥
IsGivenUpAs failed (Tree (trees.BadEntry bad)) unfit = ⊥
IsGivenUpAs failed (Tree (trees.BadBlock depth len)) unfit = ⊥
IsGivenUpAs failed (Tree trees.TooLong) unfit = unfit ≡ Some too_long
IsGivenUpAs failed (Tree trees.NoMemory) unfit = ⊤
IsGivenUpAs failed (BadName path) unfit = unfit ≡ Some (bad_name path)
IsGivenUpAs failed (TooDeep path) unfit = unfit ≡ Some (too_deep path)
IsGivenUpAs failed NoMemory unfit = ⊤

-- what a stream that was given up is answered with: its source is a file of the folder
abbrev pub of_stream : TreeErr → VacErr
of_stream (trees.Block err) = Tree (trees.Block err)
of_stream trees.SourceFault = FolderFault
of_stream (trees.BadEntry bad) = Tree (trees.BadEntry bad)
of_stream (trees.BadBlock depth len) = Tree (trees.BadBlock depth len)
of_stream trees.TooLong = Tree trees.TooLong
of_stream trees.NoMemory = NoMemory

-- what a failed call of the folder is answered with
abbrev pub of_call : OutErr → VacErr
of_call Failed = FolderFault
of_call outs.NoMemory = NoMemory

-- Whether an error tells of a failed call of the folder.
abbrev pub is_folder_fault : VacErr → Bool
is_folder_fault FolderFault = true
is_folder_fault (Tree err) = false
is_folder_fault (BadName path) = false
is_folder_fault (TooDeep path) = false
is_folder_fault NoMemory = false

-- the refusal of a call of the store that is handed on, if one is
abbrev pub refusal_of : VacErr → Option BlockErr
refusal_of FolderFault = None
refusal_of (Tree err) = refusal_in err
refusal_of (BadName path) = None
refusal_of (TooDeep path) = None
refusal_of NoMemory = None

-- Archiving was given up: of what is asked for an archive of what was found until then, and of all
-- that stands behind it, the first was asked, and nothing else. No call was refused but the last,
-- where that is told. Where that is for a failed call of the folder, one that lists the folder
-- itself may fail, and nothing was asked.
pub record GivesUpArchive {S : Type 0} (does : S → Call → S → Type 0) (holds : S → Maps → Type 0)
    (score_of : List ℕ → List ℕ) (s s' : S) (bsize : ℕ) (folder : FolderRead)
    (err : VacErr) : Type 0 where
  pub tried : Tried
  pub is : IsSeen folder tried
  pub cause : IsGivenUpAs (IsUnlisted folder) err (first_unfit (found tried))
  pub all : List Block
  pub puts : PutsFor score_of bsize tried all
  pub calls : List Call
  pub made : Makes does s calls s'
  pub refused : EndsBy (refusal_of err) calls
  pub unlisted : is_folder_fault err ≡ true → calls ≡ []
  pub rest : List Operation
  pub asked : map asked_of calls ++ rest ≡ asked_for_all all
  pub keeps : (m : Maps) → holds s m → holds s' (after_all score_of calls m)

-- ---- failed calls of the folder

-- As many calls have failed as files and folders are told as those of which one has. Where it
-- is given up for a failed call, that one alone has. Where it is for something else, some may have.
abbrev pub CountsFailures : Result Archived VacErr → (old new : ℕ) → Type 0
CountsFailures (Ok a) old new = HasRisenBy (length a.failed) old new
CountsFailures (Err FolderFault) old new = HasRisen old new
CountsFailures (Err err) old new = (n : ℕ) × HasRisenBy n old new
