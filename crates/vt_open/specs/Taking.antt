-- How partitions are handed out under the names of files, and are handed back.
use Rattle.std.specs.Prelude.{◌≡◌, ◌≢◌, ◌⊎◌, ℕ, ◌+◌, ◌<◌, ◌≤◌, IsTrue, List, ◌++◌, Some, length, map, take, slice_get}
use Rattle.std.specs.List.{All, AllPairs, AllZip, Contains}
use Rattle.vt_base.specs.Faults.{HasRisen}
use Rattle.vt_base.specs.declared.mount.MountBad.{MountBad}
use Rattle.vt_base.specs.declared.mount.MountBad.TheVariants.{NoMemory}
use Rattle.vt_conf.specs.declared.conf.PartFile.{PartFile}
use Rattle.vt_recover.specs.Refusals.{CountsRefusal}
use Rattle.vt_disk.specs.Calls.{OnlyReads}
use Rattle.vt_disk.specs.Members.{DiskOf}
use Rattle.vt_log.specs.Answers.{HoldTheSame}
use Rattle.vt_open.specs.declared.error.OpenError.{OpenError}
use Rattle.vt_open.specs.declared.error.OpenError.TheVariants.{Missing, Refused}
use Rattle.vt_open.specs.Names.{StandUnder, names_of}
use Rattle.vt_part.specs.declared.error.PartBad.{PartBad}
use Rattle.vt_part.specs.declared.part.Part.{Part}
use Rattle.vt_part.specs.Faults.{RefusesPartMount, NamesPartCause}
use Rattle.vt_part.specs.Parts.{disk_of, table_of}
use Rattle.vt_part.specs.Table.{Table, IsPartition, IsTable, arenas_end, head_of}
use Rattle.vt_partitions.specs.Parts.{Standing, StaysThere, lent}
use Rattle.vt_mount_errors.specs.MountErrors.{of_part}

-- These devices were handed out under the names of these files, each once, as they stood there. So
-- far as the partitions tell what stands under their names: `told`.
pub record AreTaken {D : Type 0} (told : Type 0) (files : List PartFile)
    (old new : List ℕ → Standing D) (devices : List D) : Type 0 where
  pub many : length devices ≡ length files
  pub stood : told → StandUnder old files devices
  pub out : told → (name : List ℕ) → Contains (names_of files) name → new name ≡ lent
  pub apart : told → AllPairs (λ a b. a ≢ b) (names_of files)
  pub others : told → (name : List ℕ) → ¬ Contains (names_of files) name → new name ≡ old name

-- These devices were handed back: they stand there now, if they were handed out under these names,
-- each once.
pub record AreHandedBack {D : Type 0} (told : Type 0) (files : List PartFile)
    (old new : List ℕ → Standing D) (devices : List D) : Type 0 where
  pub many : length devices ≡ length files
  pub stand : told → ((name : List ℕ) → Contains (names_of files) name → old name ≡ lent)
      → AllPairs (λ a b. a ≢ b) (names_of files) → StandUnder new files devices
  pub others : told → (name : List ℕ) → ¬ Contains (names_of files) name → new name ≡ old name

-- the partitions of the first of these files were handed out, and are back
pub record AreBack {D : Type 0} (disk : DiskOf D) (told : Type 0) (files : List PartFile)
    (old new : List ℕ → Standing D) (handed back : List D) : Type 0 where
  pub front : List PartFile
  pub behind : List PartFile
  pub files_are : files ≡ front ++ behind
  pub many : length handed ≡ length front
  pub stood : told → StandUnder old front handed
  pub stand : told → StandUnder new front back
  pub stay : told → (name : List ℕ) → ¬ Contains (names_of front) name
      → StaysThere disk (old name) (new name)
  pub others : told → (name : List ℕ) → ¬ Contains (names_of files) name → new name ≡ old name

-- ---- partitions of arenas

-- the device has a table of arenas, where it tells what it holds
abbrev pub HasTable : {D : Type 0} → DiskOf D → D → Type 0
HasTable disk device = IsTrue disk.tells → (t : Table) × IsPartition t (disk.bytes device)

-- The table of the device was read, by one call.
pub record IsMountedPart {D : Type 0} (disk : DiskOf D) (device : D) (part : Part D) : Type 0 where
  pub reads : OnlyReads disk 1 device (disk_of part)
  pub faults_are : disk.faults (disk_of part) ≡ disk.faults device
  pub partition : IsTrue disk.tells → IsPartition (table_of part) (disk.bytes device)
  pub table : IsTable (table_of part)
  pub room : arenas_end (table_of part) ≤ disk.size (disk_of part)

-- such partitions were handed out, and their tables were read
pub record AreTakenArenas {D : Type 0} (disk : DiskOf D) (told : Type 0) (files : List PartFile)
    (old new : List ℕ → Standing D) (arenas : List (Part D)) : Type 0 where
  pub handed : List D
  pub taken : AreTaken told files old new handed
  pub mounted : AllZip (IsMountedPart disk) handed arenas

-- ---- why not all are handed out

-- The last device that was handed out has no table of arenas, and all before it have one.
pub record TableIsRefused {D : Type 0} (disk : DiskOf D) (first arenas : ℕ) (handed : List D)
    (bad : MountBad) : Type 0 where
  pub i : ℕ
  pub last : length handed ≡ i + 1
  pub within : i < arenas
  pub before : All (HasTable disk) (take i handed)
  pub device : D
  pub at : slice_get handed i ≡ Some device
  pub why : PartBad
  pub bad_is : bad ≡ of_part (first + i) why
  pub names : NamesPartCause (disk.size device) why
  pub refuses : IsTrue disk.tells
      → RefusesPartMount (disk.size device) (head_of (disk.bytes device)) why

-- The partition behind those that were handed out wasn't, which the count of failed calls tells; or
-- a table is refused, or memory runs out.
abbrev pub IsTakingCause : {D : Type 0} → DiskOf D → (first arenas files : ℕ)
    → (faults faults' : ℕ) → (handed back : List D) → OpenError → Type 0
IsTakingCause disk first arenas files faults faults' handed back (Missing part) =
    (part ≡ first + length handed) × (length handed < files) × HasRisen faults faults'
    × (map disk.faults back ≡ map disk.faults handed) × All (HasTable disk) (take arenas handed)
IsTakingCause disk first arenas files faults faults' handed back (Refused bad) =
    (faults' ≡ faults) × CountsRefusal bad (map disk.faults handed) (map disk.faults back)
    × ((bad ≡ NoMemory) ⊎ TableIsRefused disk first arenas handed bad)

-- Not all partitions of these files were handed out, of which the first has this number, and so
-- many are of arenas. Those that were are back, and hold what they held.
pub record RefusesTaking {D : Type 0} (disk : DiskOf D) (told : Type 0) (first arenas : ℕ)
    (files : List PartFile) (old new : List ℕ → Standing D) (faults faults' : ℕ) (bad : OpenError)
    : Type 0 where
  pub handed : List D
  pub back : List D
  pub are : AreBack disk told files old new handed back
  pub held : HoldTheSame disk handed back
  pub cause : IsTakingCause disk first arenas (length files) faults faults' handed back bad
