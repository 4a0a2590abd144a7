-- What formatting an index does to the partitions that a configuration names (venti(8), fmtindex).
use Rattle.std.specs.Prelude.{ℕ, ◌≡◌, ◌≢◌, ◌⊎◌, ⊤, ◌+◌, ◌*◌, ◌<◌, ◌≤◌, IsTrue, Option, Some, None, Result, Ok, Err, List, [], ◌∷◌, ◌++◌, length, map, slice_get, IfErr, IfOk, OnOk}
use Rattle.std.specs.List.{All, AllPairs, Contains}
use Rattle.vt_base.specs.Faults.{HasRisen}
use Rattle.vt_base.specs.declared.mount.MountBad.{MountBad}
use Rattle.vt_base.specs.declared.mount.MountBad.TheVariants.{NoMemory}
use Rattle.vt_conf.specs.declared.conf.Conf.{Conf}
use Rattle.vt_conf.specs.declared.conf.PartFile.{PartFile}
use Rattle.vt_disk.specs.Disk.{Only}
use Rattle.vt_disk.specs.Members.{DiskOf}
use Rattle.vt_format.specs.declared.index.Index.{Index}
use Rattle.vt_format.specs.declared.index.IndexError.{IndexError}
use Rattle.vt_format.specs.declared.index.IndexError.TheVariants.{Fault, Refused, Stopped}
use Rattle.vt_format.specs.Opening.{FindsArenas, FindsSections, NamesCause}
use Rattle.vt_format.specs.Usage.{AreUsed, LeavesMidway, StopsAtSection, total_buckets, head_in}
use Rattle.vt_isect.specs.declared.head.Head.{Head}
use Rattle.vt_isect.specs.declared.TheConstants.{FRAME_LEN}
use Rattle.vt_isect.specs.Head.{IsHeadFrame}
use Rattle.vt_isect.specs.Layout.{IsSection, buckets_in, head_place}
use Rattle.vt_isect.specs.Section.{SectionState}
use Rattle.vt_log.specs.Log.{disks_of}
use Rattle.vt_part.specs.declared.part.Part.{Part}
use Rattle.vt_part.specs.Parts.{tables_of}
use Rattle.vt_partitions.specs.Parts.{Standing, there, StaysThere}
use Rattle.vt_twin.specs.Frames.{current_frame}

-- ---- the files that a configuration names, in the order of their partitions

-- the file, as a list
abbrev pub listed : Option PartFile → List PartFile
listed None = []
listed (Some file) = file ∷ []

-- the files of the sections, and behind them that of the filter
abbrev pub files_behind : Conf → List PartFile
files_behind conf = conf.sections.items ++ listed conf.filter

-- all files of a configuration, in the order in which the parts are counted
abbrev pub files_in_order : Conf → List PartFile
files_in_order conf = conf.arenas.items ++ files_behind conf

-- ---- how a partition is left

-- nothing is written before all is mounted: neither where something is refused, nor where a call
-- fails by which that is found
abbrev pub LeavesUnwritten : Result Index IndexError → Type 0
LeavesUnwritten (Ok it) = ⊥
LeavesUnwritten (Err (Fault part)) = ⊤
LeavesUnwritten (Err (Refused bad)) = ⊤
LeavesUnwritten (Err (Stopped part)) = ⊥

-- no call has failed
abbrev pub HasNoFault : Result Index IndexError → Type 0
HasNoFault (Ok it) = ⊤
HasNoFault (Err (Fault part)) = ⊥
HasNoFault (Err (Refused bad)) = ⊤
HasNoFault (Err (Stopped part)) = ⊥

-- A partition is left as long as it was, and where nothing is written it has its bytes and its
-- images. A fault of it is told.
pub record IsPartLeft {D : Type 0} (disk : DiskOf D) (result : Result Index IndexError)
    (old new : D)
    : Type 0 where
  pub size : disk.size new ≡ disk.size old
  pub unwritten : LeavesUnwritten result → StaysThere disk (there old) (there new)
  pub quiet : HasNoFault result → disk.faults new ≡ disk.faults old

-- what stood under a name stands there again
abbrev pub LeavesThere : {D : Type 0} → DiskOf D → Result Index IndexError → (old new : Standing D)
    → Type 0
LeavesThere disk result (there old) (there new) = IsPartLeft disk result old new
LeavesThere disk result old new = new ≡ old

-- The section that stood there is in use: it has its name, and its buckets, which are so many, from
-- this number on, of so many in all, have no entries, whatever a crash leaves. That takes two calls
-- for each bucket, and 27 more at most.
pub record PutsSectionToUse {D : Type 0} (disk : DiskOf D) (first count total : ℕ)
    (old new : Standing D)
    : Type 0 where
  pub before : D
  pub after : D
  pub was : old ≡ there before
  pub is : new ≡ there after
  pub buckets : count ≡ buckets_in (disk.size before)
  pub name : List ℕ
  pub head : Head
  pub named : IsHeadFrame name head (current_frame head_place FRAME_LEN (disk.bytes before))
  pub images : (c : List ℕ) → disk.images after c
      → IsSection name (head_in 1 first count total) count (λ n. []) c
  pub settled : Only (disk.bytes after) (disk.images after)
  pub calls : disk.calls after ≤ disk.calls before + (2 * count + 27)

-- The sections of these files are in use, one behind the other, to the last bucket of all.
abbrev pub ArePutToUse : {D : Type 0} → DiskOf D → (old new : List ℕ → Standing D)
    → (first total : ℕ) → List PartFile → Type 0
ArePutToUse disk old new first total [] = total ≡ first
ArePutToUse disk old new first total (file ∷ files) =
    (count : ℕ) × PutsSectionToUse disk first count total (old file.name) (new file.name)
    × ArePutToUse disk old new (first + count) total files

-- Where a call failed of the section with number `part`, this became of one of them, the section with
-- this number: it is in use where it stands before that one, and as it was where it stands behind
-- it. That one itself is left midway, whatever a crash leaves.
pub record StopsSection {D : Type 0} (disk : DiskOf D) (first count total number part : ℕ)
    (old new : Standing D) : Type 0 where
  pub before : D
  pub after : D
  pub was : old ≡ there before
  pub is : new ≡ there after
  pub buckets : count ≡ buckets_in (disk.size before)
  pub name : List ℕ
  pub head : Head
  pub named : IsHeadFrame name head (current_frame head_place FRAME_LEN (disk.bytes before))
  pub used : number < part → PutsSectionToUse disk first count total old new
  pub midway : number ≡ part → (file : List ℕ) → disk.images after file
      → LeavesMidway name head first count total (disk.images before) file
  pub stays : part < number → StaysThere disk old new

-- What became of each of the sections of these files where a call failed of one of them.
abbrev pub StopsSections : {D : Type 0} → DiskOf D → (old new : List ℕ → Standing D)
    → (first total number part : ℕ) → List PartFile → Type 0
StopsSections disk old new first total number part [] = total ≡ first
StopsSections disk old new first total number part (file ∷ files) =
    (count : ℕ)
    × StopsSection disk first count total number part (old file.name) (new file.name)
    × StopsSections disk old new (first + count) total (number + 1) part files

-- Where formatting an index stopped, and what the partitions are then.
abbrev pub StopsIndex : {D : Type 0} → DiskOf D → (old new : List ℕ → Standing D)
    → (first total number : ℕ) → List PartFile → IndexError → Type 0
StopsIndex disk old new first total number files (Fault part) = ⊤
StopsIndex disk old new first total number files (Refused bad) = ⊤
StopsIndex disk old new first total number files (Stopped part) =
    StopsSections disk old new first total number part files

-- ---- why it isn't done

-- Formatting the index is done, or stopped, only where nothing is refused, and refused for the
-- first cause.
abbrev pub AnswersFor : (found : Option MountBad → Type 0) → Result Index IndexError → Type 0
AnswersFor found (Ok it) = found None
AnswersFor found (Err (Fault part)) = ⊤
AnswersFor found (Err (Refused bad)) = (bad ≡ NoMemory) ⊎ found (Some bad)
AnswersFor found (Err (Stopped part)) = found None

-- The count of faults rose of the partition with this number, where those of these files are
-- counted from `number` on.
pub record FailsAt {D : Type 0} (disk : DiskOf D) (told : Type 0) (number : ℕ)
    (files : List PartFile) (old new : List ℕ → Standing D) (part : ℕ) : Type 0 where
  pub before : D
  pub after : D
  pub rose : HasRisen (disk.faults before) (disk.faults after)
  pub place : ℕ
  pub file : PartFile
  pub part_is : part ≡ number + place
  pub file_is : slice_get files place ≡ Some file
  pub was : told → old file.name ≡ there before
  pub is : told → new file.name ≡ there after

-- The partition with this number is the first of these files that wasn't handed out, where they are
-- counted from `number` on. Those in front of it were: each stood there, under a name of its own.
-- Those behind it weren't asked for: under all other names stands what stood there.
pub record IsFirstMissing {D : Type 0} (told : Type 0) (number : ℕ) (files : List PartFile)
    (old new : List ℕ → Standing D) (part : ℕ) : Type 0 where
  pub front : List PartFile
  pub file : PartFile
  pub behind : List PartFile
  pub files_are : files ≡ front ++ file ∷ behind
  pub part_is : part ≡ number + length front
  pub handed : told → All (λ one. (device : D) × (old one.name ≡ there device)) front
  pub apart : told → AllPairs (λ a b. a.name ≢ b.name) front
  pub others : told → (name : List ℕ)
      → ¬ Contains (map (λ one. one.name) (front ++ file ∷ [])) name → new name ≡ old name

-- What failed: the partition with this number is the first that wasn't handed out, and the count of
-- that rose, or a call of it did.
abbrev pub IndexFails : {D : Type 0} → DiskOf D → (told : Type 0) → (number : ℕ) → List PartFile
    → (old new : List ℕ → Standing D) → (faults faults' : ℕ) → IndexError → Type 0
IndexFails disk told number files old new faults faults' (Fault None) =
    (faults' ≡ faults) × (part : ℕ) × FailsAt disk told number files old new part
IndexFails disk told number files old new faults faults' (Fault (Some part)) =
    (HasRisen faults faults' × IsFirstMissing told number files old new part)
    ⊎ ((faults' ≡ faults) × FailsAt disk told number files old new part)
IndexFails disk told number files old new faults faults' (Refused bad) = faults' ≡ faults
IndexFails disk told number files old new faults faults' (Stopped part) =
    (faults' ≡ faults) × FailsAt disk told number files old new part

-- ---- what is opened meanwhile

-- These sections were opened, from the partition with this number on, and have so many buckets with
-- those behind them: all are in use, or one of them isn't, or nothing became of them.
abbrev pub LeavesOpened : {D : Type 0} → DiskOf D → (number total : ℕ) → Result Index IndexError
    → (olds news : List (SectionState D)) → Type 0
LeavesOpened disk number total (Ok it) olds news = AreUsed disk it.buckets olds news
LeavesOpened disk number total (Err (Fault part)) olds news = news ≡ olds
LeavesOpened disk number total (Err (Refused bad)) olds news = news ≡ olds
LeavesOpened disk number total (Err (Stopped part)) olds news =
    (i : ℕ) × (part ≡ number + i) × StopsAtSection disk i total olds news

-- one of so many opened ones is the one that is stopped
abbrev pub IsStoppedAmong : (number count : ℕ) → IndexError → Type 0
IsStoppedAmong number count (Fault part) = ⊥
IsStoppedAmong number count (Refused bad) = ⊥
IsStoppedAmong number count (Stopped part) = (number ≤ part) × (part < number + count)

-- These disks of partitions of arenas are as they were, but for calls that failed.
pub record AreArenasLeft {D : Type 0} (disk : DiskOf D) (result : Result Index IndexError)
    (olds news : List D) : Type 0 where
  pub many : length news ≡ length olds
  pub each : (i : ℕ) (old new : D) → slice_get olds i ≡ Some old → slice_get news i ≡ Some new
      → StaysThere disk (there old) (there new)
      × (HasNoFault result → disk.faults new ≡ disk.faults old)

-- a call of one of them failed, by which the log is found
abbrev pub FindsFault : {D : Type 0} → DiskOf D → (olds news : List D) → IndexError → Type 0
FindsFault {D} disk olds news (Fault None) = (i : ℕ) × (old : D) × (new : D)
    × (slice_get olds i ≡ Some old) × (slice_get news i ≡ Some new)
    × HasRisen (disk.faults old) (disk.faults new)
FindsFault disk olds news (Fault (Some part)) = ⊥
FindsFault disk olds news (Refused bad) = ⊥
FindsFault disk olds news (Stopped part) = ⊥

-- ---- what is done behind the partitions that are open

-- The sections of these files are opened behind those that are open, and then the filter; and all
-- are put to use.
pub record IndexesSections {D : Type 0} (disk : DiskOf D) (told : Type 0) (conf : Conf)
    (files : List PartFile) (old new : List ℕ → Standing D) (faults faults' : ℕ)
    (olds news : List (SectionState D)) (result : Result Index IndexError) : Type 0 where
  pub used : IfOk result (λ it. told → IsTrue disk.tells
      → ArePutToUse disk old new (total_buckets olds) it.buckets files)
  pub total : ℕ
  pub stopped : IfErr result (λ bad. told → IsTrue disk.tells
      → StopsIndex disk old new (total_buckets olds) total
      (length conf.arenas.items + length olds) files bad)
  pub sections : IfOk result (λ it. it.sections ≡ length conf.sections.items)
  pub found : told → IsTrue disk.tells → AnswersFor (FindsSections disk old conf.filter
      (length conf.arenas.items + length olds) (total_buckets olds) files) result
  pub differs : IfErr result NamesCause
  pub cause : IfErr result (λ bad.
      ((faults' ≡ faults) × IsStoppedAmong (length conf.arenas.items) (length olds) bad)
      ⊎ IndexFails disk told (length conf.arenas.items + length olds) (files ++ listed conf.filter)
      old new faults faults' bad)
  pub none : OnOk result (faults' ≡ faults)
  pub back : told → (name : List ℕ) → LeavesThere disk result (old name) (new name)
  pub stays : told → (name : List ℕ) → ¬ Contains (map (λ file. file.name) files) name
      → StaysThere disk (old name) (new name)
  pub left : LeavesOpened disk (length conf.arenas.items) total result olds news

-- The partitions of arenas of these files are opened behind those that are open, then the log is
-- found, and the same is done of all sections.
pub record IndexesArenas {D : Type 0} (disk : DiskOf D) (told : Type 0) (conf : Conf)
    (files : List PartFile) (old new : List ℕ → Standing D) (faults faults' : ℕ)
    (olds news : List (Part D)) (result : Result Index IndexError) : Type 0 where
  pub used : IfOk result (λ it. told → IsTrue disk.tells
      → ArePutToUse disk old new 0 it.buckets conf.sections.items)
  pub total : ℕ
  pub stopped : IfErr result (λ bad. told → IsTrue disk.tells
      → StopsIndex disk old new 0 total (length conf.arenas.items) conf.sections.items bad)
  pub sections : IfOk result (λ it. it.sections ≡ length conf.sections.items)
  pub found : told → IsTrue disk.tells → AnswersFor (FindsArenas disk old conf (tables_of olds)
      (map disk.bytes (disks_of olds)) files) result
  pub differs : IfErr result NamesCause
  pub cause : IfErr result (λ bad.
      ((faults' ≡ faults) × FindsFault disk (disks_of olds) (disks_of news) bad)
      ⊎ IndexFails disk told (length olds) (files ++ files_behind conf) old new faults faults' bad)
  pub none : OnOk result (faults' ≡ faults)
  pub back : told → (name : List ℕ) → LeavesThere disk result (old name) (new name)
  pub stays : told → (name : List ℕ)
      → ¬ Contains (map (λ file. file.name) conf.sections.items) name
      → StaysThere disk (old name) (new name)
  pub left : AreArenasLeft disk result (disks_of olds) (disks_of news)
