-- What opening the partitions that a configuration names finds: the first refusal, in their order,
-- or none.
use Rattle.std.specs.Prelude.{ℕ, ◌≡◌, ◌⊎◌, ⊤, ◌+◌, ◌<◌, ◌≤◌, false, IsTrue, Option, Some, None, Result, Ok, Err, List, [], ◌∷◌, ◌++◌, length, map}
use Rattle.vt_base.specs.Faults.{HasRisen}
use Rattle.vt_base.specs.declared.mount.MountBad.{MountBad}
use Rattle.vt_base.specs.declared.mount.MountBad.TheVariants as mount_bad
use Rattle.vt_base.specs.declared.mount.MountField.TheVariants.{Arenas, Buckets}
use Rattle.vt_bloom.specs.declared.error.BloomError.{BloomError}
use Rattle.vt_bloom.specs.Bloom.{BloomState}
use Rattle.vt_bloom.specs.Faults.{RefusesShort, first_bad_filter}
use Rattle.vt_bloom.specs.Frame.{Saved, HasSaved, current_of}
use Rattle.vt_bloom.specs.Size.{IsLargest}
use Rattle.vt_conf.specs.declared.conf.Conf.{Conf}
use Rattle.vt_conf.specs.declared.conf.PartFile.{PartFile}
use Rattle.vt_disk.specs.Calls.{OnlyReads}
use Rattle.vt_disk.specs.Members.{DiskOf}
use Rattle.vt_format.specs.declared.index.IndexError.{IndexError}
use Rattle.vt_format.specs.declared.index.IndexError.TheVariants.{Fault, Refused, Stopped}
use Rattle.vt_format.specs.declared.TheConstants.{MAX_ARENAS, MAX_BUCKETS}
use Rattle.vt_mount_errors.specs.MountErrors.{NamesTwo as TellsTwo, of_filter, of_log, of_part, of_section}
use Rattle.vt_format.specs.Usage.{IsOpened}
use Rattle.vt_isect.specs.declared.error.SectBad.{SectBad}
use Rattle.vt_isect.specs.declared.TheConstants.{FRAME_LEN}
use Rattle.vt_isect.specs.Faults.{first_bad_section}
use Rattle.vt_isect.specs.Head.{IsHeadFrame}
use Rattle.vt_isect.specs.Layout.{buckets_in, head_place}
use Rattle.vt_isect.specs.Section.{SectionState}
use Rattle.vt_log.specs.declared.error.LogBad.{LogBad}
use Rattle.vt_log.specs.Faults.{AreReadAt, RefusesLogMount, first_bad_log}
use Rattle.vt_log.specs.Logs.{arena_count}
use Rattle.vt_part.specs.declared.error.PartBad.{PartBad}
use Rattle.vt_part.specs.declared.part.Part.{Part}
use Rattle.vt_part.specs.Faults.{first_bad_part}
use Rattle.vt_part.specs.Layout.{AreDistinct, layout_of}
use Rattle.vt_part.specs.Parts.{disk_of, table_of}
use Rattle.vt_part.specs.Table.{Table, IsPartition, arenas_end, head_of}
use Rattle.vt_partitions.specs.Parts.{Standing, there}
use Rattle.vt_twin.specs.Frames.{current_frame}

-- ---- one partition, with this number

-- a partition of arenas behind so many arenas: it is none, or passes the limit
abbrev pub RefusesArenaPart : {D : Type 0} → DiskOf D → (number before : ℕ) → (d : D) → MountBad
    → Type 0
RefusesArenaPart disk number before d bad =
    ((why : PartBad) × (first_bad_part (disk.size d) (head_of (disk.bytes d)) ≡ Some why)
    × (bad ≡ of_part number why))
    ⊎ ((t : Table) × IsPartition t (disk.bytes d) × (MAX_ARENAS < before + t.count)
    × (bad ≡ mount_bad.Disagree number Arenas (before + t.count) MAX_ARENAS))

-- no test of a section's head fails, or this one does
abbrev pub section_bad : {D : Type 0} → DiskOf D → (d : D) → Option SectBad
section_bad disk d =
    first_bad_section (disk.size d) (current_frame head_place FRAME_LEN (disk.bytes d))

-- a section behind so many buckets: it is none, or passes the limit
abbrev pub RefusesSection : {D : Type 0} → DiskOf D → (number before : ℕ) → (d : D) → MountBad
    → Type 0
RefusesSection disk number before d bad =
    ((why : SectBad) × (section_bad disk d ≡ Some why) × (bad ≡ of_section number why))
    ⊎ ((section_bad disk d ≡ None) × (MAX_BUCKETS < before + buckets_in (disk.size d))
    × (bad ≡ mount_bad.Disagree number Buckets (before + buckets_in (disk.size d)) MAX_BUCKETS))

-- the partition of a filter that is none
abbrev pub RefusesFilter : {D : Type 0} → DiskOf D → (number : ℕ) → (d : D) → MountBad → Type 0
RefusesFilter disk number d bad = (why : BloomError) × (bad ≡ of_filter number why)
    × (RefusesShort (disk.size d) why
    ⊎ ((m : ℕ) × IsLargest (disk.size d) m
    × (first_bad_filter m (current_of m (disk.bytes d)) ≡ Some why)))

-- ---- all of them, by what stands under their names

-- the filter, if there is one
abbrev pub FindsFilter : {D : Type 0} → DiskOf D → (standing : List ℕ → Standing D)
    → Option PartFile → (number : ℕ) → (found : Option MountBad) → Type 0
FindsFilter disk standing None number found = found ≡ None
FindsFilter {D} disk standing (Some file) number found =
    (d : D) × (standing file.name ≡ there d)
    × (((bad : MountBad) × RefusesFilter disk number d bad × (found ≡ Some bad))
    ⊎ ((saved : Saved) × HasSaved saved (disk.bytes d) × (found ≡ None)))

-- the sections of these files, behind so many partitions and buckets, and then the filter
abbrev pub FindsSections : {D : Type 0} → DiskOf D → (standing : List ℕ → Standing D)
    → (filter : Option PartFile) → (number before : ℕ) → List PartFile → (found : Option MountBad)
    → Type 0
FindsSections disk standing filter number before [] found =
    FindsFilter disk standing filter number found
FindsSections {D} disk standing filter number before (file ∷ files) found =
    (d : D) × (standing file.name ≡ there d)
    × (((bad : MountBad) × RefusesSection disk number before d bad × (found ≡ Some bad))
    ⊎ ((section_bad disk d ≡ None) × (before + buckets_in (disk.size d) ≤ MAX_BUCKETS)
    × FindsSections disk standing filter (number + 1) (before + buckets_in (disk.size d)) files
    found))

-- The log of the partitions with these tables and contents, and then the sections and the filter.
abbrev pub FindsLog : {D : Type 0} → DiskOf D → (standing : List ℕ → Standing D) → Conf
    → List Table → (contents : List (List ℕ)) → (found : Option MountBad) → Type 0
FindsLog disk standing conf tables contents found =
    (fields : List (List ℕ)) × AreReadAt (layout_of tables) contents fields
    × (((why : LogBad) × RefusesLogMount (map (λ t. t.name) tables) (layout_of tables) fields why
    × (found ≡ Some (of_log (layout_of tables) why)))
    ⊎ (AreDistinct (map (λ t. t.name) tables)
    × (first_bad_log false 0 (layout_of tables) fields ≡ None)
    × FindsSections disk standing conf.filter (length tables) 0 conf.sections.items found))

-- the partitions of arenas of these files, behind those with these tables and contents, and then
-- the log
abbrev pub FindsArenas : {D : Type 0} → DiskOf D → (standing : List ℕ → Standing D) → Conf
    → List Table → (contents : List (List ℕ)) → List PartFile → (found : Option MountBad) → Type 0
FindsArenas disk standing conf tables contents [] found =
    FindsLog disk standing conf tables contents found
FindsArenas {D} disk standing conf tables contents (file ∷ files) found =
    (d : D) × (standing file.name ≡ there d)
    × (((bad : MountBad) × RefusesArenaPart disk (length tables) (arena_count tables) d bad
    × (found ≡ Some bad))
    ⊎ ((t : Table) × IsPartition t (disk.bytes d) × (arena_count tables + t.count ≤ MAX_ARENAS)
    × FindsArenas disk standing conf (tables ++ t ∷ []) (contents ++ disk.bytes d ∷ []) files
    found))

-- ---- what the calls answer

-- A refusal is neither a fault nor damage, and two values that it tells are two.
abbrev pub IsRefusalByTest : MountBad → Type 0
IsRefusalByTest mount_bad.Fault = ⊥
IsRefusalByTest (mount_bad.Damaged site want found) = ⊥
IsRefusalByTest bad = TellsTwo bad

-- a refusal is one by a test, which names what differs
abbrev pub NamesCause : IndexError → Type 0
NamesCause (Fault part) = ⊤
NamesCause (Refused bad) = IsRefusalByTest bad
NamesCause (Stopped part) = ⊤

-- a fault is told with the number of its partition
abbrev pub index_error : (part : Option ℕ) → MountBad → IndexError
index_error part mount_bad.Fault = Fault part
index_error part (mount_bad.NotFormatted number) = Refused (mount_bad.NotFormatted number)
index_error part (mount_bad.TooSmall number len need) = Refused (mount_bad.TooSmall number len need)
index_error part (mount_bad.DuplicateName first second) =
    Refused (mount_bad.DuplicateName first second)
index_error part (mount_bad.Disagree number field found want) =
    Refused (mount_bad.Disagree number field found want)
index_error part (mount_bad.Damaged site want found) = Refused (mount_bad.Damaged site want found)
index_error part mount_bad.NoMemory = Refused mount_bad.NoMemory

-- Opening a disk as the partition with this number is refused: a call failed, memory ran out, or it
-- is one that can't be opened. Nothing is written.
abbrev pub RefusesDisk : {D : Type 0} → DiskOf D → (number : ℕ) → (Refuses : MountBad → Type 0)
    → IndexError → (old new : D) → Type 0
RefusesDisk disk number Refuses (Fault part) old new =
    (part ≡ Some number) × HasRisen (disk.faults old) (disk.faults new)
RefusesDisk disk number Refuses (Refused bad) old new =
    IsRefusalByTest bad × (disk.faults new ≡ disk.faults old)
    × (IsTrue disk.tells → (bad ≡ mount_bad.NoMemory) ⊎ Refuses bad)
RefusesDisk disk number Refuses (Stopped part) old new = ⊥

-- The device is opened as a partition of arenas.
pub record IsOpenedAs {D : Type 0} (disk : DiskOf D) (before : ℕ) (d : D) (part : Part D)
    : Type 0 where
  pub reads : OnlyReads disk 1 d (disk_of part)
  pub faults : disk.faults (disk_of part) ≡ disk.faults d
  pub partition : IsTrue disk.tells → IsPartition (table_of part) (disk.bytes d)
  pub room : arenas_end (table_of part) ≤ disk.size (disk_of part)
  pub few : before + (table_of part).count ≤ MAX_ARENAS

-- the device is a partition of arenas, or it is told why not
abbrev pub OpensArenas : {D : Type 0} → DiskOf D → (number before : ℕ) → (d : D)
    → Result (Part D) (IndexError × D) → Type 0
OpensArenas disk number before d (Ok part) = IsOpenedAs disk before d part
OpensArenas disk number before d (Err refusal) = OnlyReads disk 1 d refusal.1
    × RefusesDisk disk number (RefusesArenaPart disk number before d) refusal.0 d refusal.1

-- The device is opened as a section.
pub record IsOpenedSection {D : Type 0} (disk : DiskOf D) (before : ℕ) (d : D) (t : SectionState D)
    : Type 0 where
  pub opened : IsOpened disk t
  pub reads : OnlyReads disk 3 d t.disk
  pub faults : disk.faults t.disk ≡ disk.faults d
  pub head : IsTrue disk.tells
      → IsHeadFrame t.name t.head (current_frame head_place FRAME_LEN (disk.bytes d))
  pub accepted : IsTrue disk.tells → section_bad disk d ≡ None
  pub buckets : t.buckets ≡ buckets_in (disk.size d)
  pub few : before + t.buckets ≤ MAX_BUCKETS

-- the device is an index section, or it is told why not
abbrev pub OpensSection : {D : Type 0} → DiskOf D → (number before : ℕ) → (d : D)
    → Result (SectionState D) (IndexError × D) → Type 0
OpensSection disk number before d (Ok t) = IsOpenedSection disk before d t
OpensSection disk number before d (Err refusal) = OnlyReads disk 3 d refusal.1
    × RefusesDisk disk number (RefusesSection disk number before d) refusal.0 d refusal.1

-- The device is opened as a filter.
abbrev pub OpensSavedFilter : {D : Type 0} → DiskOf D → (number : ℕ) → (d : D)
    → Result (BloomState D) (IndexError × D) → Type 0
OpensSavedFilter disk number d (Ok filter) = OnlyReads disk 3 d filter.disk
    × (disk.faults filter.disk ≡ disk.faults d)
    × (IsTrue disk.tells → (saved : Saved) × HasSaved saved (disk.bytes d))
OpensSavedFilter disk number d (Err refusal) = OnlyReads disk 3 d refusal.1
    × RefusesDisk disk number (RefusesFilter disk number d) refusal.0 d refusal.1
