-- The command `vac STORE FOLDER`, with `-b BSIZE`: archives a folder into the store of a configuration,
-- or at a server, and prints what the archive is found by (vac(1)).
use Rattle.std.specs.Prelude.{ℕ, ◌≡◌, ◌⊎◌, ◌≤◌, ◌++◌, true, IsTrue, Option, Some, None, List, [], ◌∷◌, Result, Ok, Err, codes, decimal}
use Rattle.hex.specs.Hex.{encode_lower}
use Rattle.vt_base.specs.Faults.{HasRisen}
use Rattle.vt_conf.specs.Numbers.{wrong_digit}
use Rattle.vt_disk.specs.Members.{DiskOf}
use Rattle.vt_out.specs.FolderStanding.{there}
use Rattle.vt_tree.specs.declared.error.TreeErr.TheVariants as trees
use Rattle.vac_model.specs.declared.TheConstants.{MIN_BLOCK_SIZE, MAX_BLOCK_SIZE}
use Rattle.vac_write.specs.declared.error.VacErr.{VacErr}
use Rattle.vac_write.specs.declared.error.VacErr.TheVariants as vac
use Rattle.vac_write.specs.Archiving.{FolderRead, HasRisenBy}
use Rattle.vt_use.specs.Places.{UsesAt}
use Rattle.vt_use.specs.declared.used_at.StoreAt.{StoreAt}
use Rattle.vt_use.specs.declared.used_at.StoreError.{StoreError}
use Rattle.vt_use.specs.declared.used_at.UsedAt.{UsedAt}
use Rattle.vac_write.specs.declared.archived.Archived.{Archived}
use Rattle.vac_store.specs.declared.outcome.ArchiveError.{ArchiveError}
use Rattle.vac_store.specs.declared.outcome.ArchiveError.TheVariants as bads
use Rattle.vac_store.specs.declared.outcome.ArchivedAt.{ArchivedAt}
use Rattle.vac_store.specs.Storing.{ArchivesOrGivesUp, CountsFailuresAt, archived_at}
use Rattle.run_base.specs.declared.error.CommandError.{CommandError}
use Rattle.run_base.specs.declared.error.CommandError.TheVariants.{BadName, BadNumber, FolderFault, NoMemory, TooDeep, TooLong, WriteFault}
use Rattle.run_base.specs.Blocks.{IsStoreRefusal}
use Rattle.run_base.specs.Change.{AreUnused, StreamChange, DialerChange, FilesChange, FoldersChange, IsUntouched, NoneDialled, NoneHandedOut, NoneRead, PartsChange}
use Rattle.run_base.specs.Errors.{CommandOutcome}
use Rattle.run_base.specs.Formatting.{Prints}
use Rattle.run_base.specs.Members.{LinkOf}
use Rattle.run_base.specs.Places.{FindsAt, FindsNoneAt}
use Rattle.run_archives.specs.Skipped.{left_out_lines}

-- ---- its words

-- the block size that is asked for: 8,192, where none is
abbrev pub AsksForSize : Option (List ℕ) → (bsize : ℕ) → Type 0
AsksForSize None bsize = bsize ≡ 8192
AsksForSize (Some word) bsize =
    (word ≡ decimal bsize) × (MIN_BLOCK_SIZE ≤ bsize) × (bsize ≤ MAX_BLOCK_SIZE)

-- a word that asks for none, by its first byte that is no digit of one
abbrev pub AsksForNoSize : Option (List ℕ) → CommandError → Type 0
AsksForNoSize None failure = ⊥
AsksForNoSize (Some word) failure =
    ((bsize : ℕ) → ¬ AsksForSize (Some word) bsize) × (failure ≡ BadNumber (wrong_digit word))

-- ---- what is told

-- what an archive is found by
abbrev pub archive_line : (score : List ℕ) → List ℕ
archive_line score = codes "vac:" ++ (encode_lower score ++ 10 ∷ [])

-- what comes of an archive whose line was printed: where a call has failed on a file or a folder, a
-- fault of reading
abbrev pub outcome_behind : (failed : List (List ℕ)) → CommandOutcome
outcome_behind [] = Ok tt
outcome_behind (path ∷ failed) = Err FolderFault

-- what the archive is found by was written, and what comes of it then is the outcome; or a write
-- failed behind a front of it
abbrev pub PrintsArchive : {K : Type 0} → Archived → CommandOutcome → StreamChange K → Type 0
PrintsArchive archived outcome sink =
    (Prints (archive_line archived.score.0) (Ok tt) sink
    × (outcome ≡ outcome_behind archived.failed))
    ⊎ (Prints (archive_line archived.score.0) (Err WriteFault) sink × (outcome ≡ Err WriteFault))

-- why a folder isn't archived; the place of what is unfit is 0
abbrev pub unfit_for : VacErr → CommandError
unfit_for vac.FolderFault = FolderFault
unfit_for (vac.Tree trees.TooLong) = TooLong 0
unfit_for (vac.Tree err) = NoMemory
unfit_for (vac.BadName path) = BadName 0
unfit_for (vac.TooDeep path) = TooDeep 0
unfit_for vac.NoMemory = NoMemory

-- what is told where a folder isn't archived into a store at this place
abbrev pub IsArchiveRefusal : (file : List ℕ) → StoreAt → ArchiveError → CommandError → Type 0
IsArchiveRefusal file at (bads.Store bad) failure = IsStoreRefusal file bad at failure
IsArchiveRefusal file at (bads.Folder err) failure = failure ≡ unfit_for err

-- ---- what is done

-- what stands under each name is what stood there
abbrev pub StandAgain : FoldersChange → Type 0
StandAgain folders =
    IsTrue folders.tells → (name : List ℕ) → folders.new name ≡ folders.old name

-- This folder was archived into the store at this place, with this result; or that
-- wasn't used, for its cause.
pub record ArchivesAt {P D N L : Type 0} (score : List ℕ → List ℕ) (disk : DiskOf D)
    (link : LinkOf L) (at : StoreAt) (now bsize : ℕ)
    (folder : FolderRead) (result : Result ArchivedAt ArchiveError) (parts : PartsChange P D)
    (dialer : DialerChange N L) : Type 0 where
  pub used : Result (UsedAt (Result Archived VacErr)) StoreError
  pub uses : UsesAt score disk link at now true (λ answer S act holds calls from to.
      ArchivesOrGivesUp act holds score bsize folder answer calls from to) used parts dialer
  pub result_is : result ≡ archived_at used

-- The folder of this name was archived into the store at this place, with this result, and is back. The
-- time `now` is what a clump was stamped with. As many of its calls have failed as paths are told of
-- which one has; and where there is no archive for a failed call that one alone.
pub record StoresFolder {P D N L : Type 0} (score : List ℕ → List ℕ) (disk : DiskOf D)
    (link : LinkOf L) (now : ℕ) (name : List ℕ) (at : StoreAt) (bsize : ℕ)
    (result : Result ArchivedAt ArchiveError) (folders : FoldersChange) (parts : PartsChange P D)
    (dialer : DialerChange N L) : Type 0 where
  -- the folder that stood there, of which no call had failed before
  pub folder : FolderRead
  pub handed_out : IsTrue folders.tells
      → IsTrue folder.tells × (folders.old name ≡ there folder.held folder.failing)
  pub fresh : folder.faults ≡ 0
  pub back : StandAgain folders
  pub rose : HasRisenBy folder.faults' folders.faults folders.faults'
  pub archives : ArchivesAt score disk link at now bsize folder result parts dialer
  pub counted : CountsFailuresAt result folders.faults folders.faults'

-- why no folder was handed out: a call failed, as where there is none, or memory ran out
abbrev pub HandsOutNone : FoldersChange → CommandError → Type 0
HandsOutNone folders FolderFault = HasRisen folders.faults folders.faults'
HandsOutNone folders NoMemory = folders.faults' ≡ folders.faults
HandsOutNone folders failure = ⊥

-- there is none of this name, no partition was handed out, and no link made
pub record FindsNoFolder {P D N L : Type 0} (failure : CommandError) (folders : FoldersChange)
    (parts : PartsChange P D) (dialer : DialerChange N L) : Type 0 where
  pub none : HandsOutNone folders failure
  pub same : StandAgain folders
  pub unused : NoneHandedOut parts
  pub undialled : NoneDialled dialer

-- why nothing was stored: there is no such folder, or it wasn't archived
abbrev pub StoresNone : {P D N L : Type 0} → (List ℕ → List ℕ) → DiskOf D → LinkOf L
    → (now : ℕ) → (file name : List ℕ) → StoreAt → (bsize : ℕ) → CommandError → FoldersChange → PartsChange P D
    → DialerChange N L → Type 0
StoresNone score disk link now file name at bsize failure folders parts dialer =
    FindsNoFolder failure folders parts dialer
    ⊎ ((bad : ArchiveError)
    × StoresFolder score disk link now name at bsize (Err bad) folders parts dialer
    × IsArchiveRefusal file at bad failure)

-- no folder was handed out, no partition, and no link made
abbrev pub NoneOut : {P D N L : Type 0} → FoldersChange → PartsChange P D → DialerChange N L → Type 0
NoneOut folders parts dialer = AreUnused folders × NoneHandedOut parts × NoneDialled dialer

-- why there is no archive: the word asks for no size; or no store was found, as where its configuration
-- wasn't read; or nothing was stored in blocks of the size that is asked for
abbrev pub ArchivesNone : {I P D N L : Type 0} → (List ℕ → List ℕ) → DiskOf D → LinkOf L
    → (now : ℕ) → (store name : List ℕ) → (size_word : Option (List ℕ)) → CommandError → FilesChange I
    → FoldersChange → PartsChange P D → DialerChange N L → Type 0
ArchivesNone score disk link now store name size_word failure files folders parts dialer =
    (AsksForNoSize size_word failure × NoneRead files × NoneOut folders parts dialer)
    ⊎ ((bsize : ℕ) × AsksForSize size_word bsize
    × ((FindsNoneAt store files failure × NoneOut folders parts dialer)
    ⊎ ((at : StoreAt) × FindsAt store files at
    × StoresNone score disk link now store name at bsize failure folders parts dialer)))

-- The folder was stored in blocks of the size that is asked for.
pub record Archives {I P D N L : Type 0} (score : List ℕ → List ℕ) (disk : DiskOf D)
    (link : LinkOf L) (now : ℕ) (store name : List ℕ) (size_word : Option (List ℕ)) (stored : ArchivedAt)
    (files : FilesChange I) (folders : FoldersChange) (parts : PartsChange P D)
    (dialer : DialerChange N L) : Type 0 where
  pub bsize : ℕ
  pub asks : AsksForSize size_word bsize
  pub at : StoreAt
  pub finds : FindsAt store files at
  pub stores : StoresFolder score disk link now name at bsize (Ok stored) folders parts dialer

-- it is told why there is none, and nothing is printed
pub record TellsNone {I P D N L K : Type 0} (score : List ℕ → List ℕ) (disk : DiskOf D)
    (link : LinkOf L) (now : ℕ) (store name : List ℕ) (size_word : Option (List ℕ)) (preface : List ℕ)
    (outcome : CommandOutcome) (files : FilesChange I) (folders : FoldersChange)
    (parts : PartsChange P D) (dialer : DialerChange N L) (sink : StreamChange K) : Type 0 where
  pub failure : CommandError
  pub outcome_is : outcome ≡ Err failure
  pub none : ArchivesNone score disk link now store name size_word failure files folders parts dialer
  pub nothing : preface ≡ []
  pub unwritten : IsUntouched sink

-- The folder was stored, as far as it could be read; each path that was left out is told, before the
-- line on the fault sink, and what the archive is found by is printed.
pub record TellsArchived {I P D N L K : Type 0} (score : List ℕ → List ℕ) (disk : DiskOf D)
    (link : LinkOf L) (now : ℕ) (store name : List ℕ) (size_word : Option (List ℕ)) (preface : List ℕ)
    (outcome : CommandOutcome) (files : FilesChange I) (folders : FoldersChange)
    (parts : PartsChange P D) (dialer : DialerChange N L) (sink : StreamChange K) : Type 0 where
  pub stored : ArchivedAt
  pub archives : Archives score disk link now store name size_word stored files folders parts dialer
  pub left_out : preface ≡ left_out_lines stored.archived
  pub printed : PrintsArchive stored.archived outcome sink

-- its folder was stored at this time, or it is told why not
abbrev pub DoesVac : {I P D N L K : Type 0} → (List ℕ → List ℕ) → DiskOf D → LinkOf L
    → (now : ℕ) → (store name : List ℕ) → (size_word : Option (List ℕ)) → (preface : List ℕ) → CommandOutcome
    → FilesChange I → FoldersChange → PartsChange P D → DialerChange N L → StreamChange K → Type 0
DoesVac score disk link now store name size_word preface outcome files folders parts dialer sink =
    TellsNone score disk link now store name size_word preface outcome files folders parts dialer sink
    ⊎ TellsArchived score disk link now store name size_word preface outcome files folders parts dialer
    sink
