-- Why a store isn't found. A part's own refusal is told as the store's, under the part's number.
use Rattle.std.specs.Prelude.{◌≡◌, ◌⊎◌, ◌==◌, ⊤, ℕ, Bool, ◌+◌, ◌<◌, ◌≤◌, not, if◌then◌else◌, IsTrue, MatchOption, Option, None, Some, Result, Ok, Err, List, length, map, sum, sum_by, take, slice_get}
use Rattle.std.specs.Option.{option_map, option_to_list}
use Rattle.vt_base.specs.Damage.{Differ}
use Rattle.vt_base.specs.declared.place.Entry.{Entry}
use Rattle.vt_base.specs.declared.mount.MountBad.{MountBad}
use Rattle.vt_base.specs.declared.mount.MountBad.TheVariants.{Fault, Disagree, Damaged, NoMemory}
use Rattle.vt_base.specs.declared.mount.MountField.{MountField}
use Rattle.vt_base.specs.declared.mount.MountField.TheVariants.{Count, State, First, Total, Mark, Crowd, Arenas, Buckets}
use Rattle.vt_base.specs.declared.why.FieldValue.{FieldValue}
use Rattle.vt_base.specs.declared.why.Site.{Site}
use Rattle.vt_base.specs.declared.why.Site.TheVariants.{Clump, Bucket}
use Rattle.vt_disk.specs.Members.{DiskOf}
use Rattle.vt_model.specs.History.{History}
use Rattle.vt_model.specs.Places.{Setup, bucket_count, crowd, first_bucket}
use Rattle.vt_model.specs.declared.TheConstants.{BUCKET_ROOM}
use Rattle.vt_part.specs.Layout.{layout_of}
use Rattle.vt_part.specs.Table.{Table}
use Rattle.vt_part.specs.declared.layout.ArenaRegion.{ArenaRegion}
use Rattle.vt_arena.specs.declared.error.BackBad.TheVariants as back_bad
use Rattle.vt_arena.specs.declared.directory.At.{At}
use Rattle.vt_arena.specs.declared.head.ArenaHead.{ArenaHead}
use Rattle.vt_arena.specs.Directory.{IsReached, first_bad_walked, what_is_walked}
use Rattle.vt_isect.specs.declared.error.ShardErr.TheVariants as shard_err
use Rattle.vt_isect.specs.declared.head.Head.{Head}
use Rattle.vt_isect.specs.Merging.{IsDamage}
use Rattle.vt_arena.specs.Heads.{clump_count_in, fields_of, own_fields}
use Rattle.vt_log.specs.Answers.{HoldTheSame}
use Rattle.vt_log.specs.Faults.{AreReadAt, RefusesLogMount, first_bad_log}
use Rattle.vt_log.specs.Logs.{IsLog, arena_count, versions_of}
use Rattle.vt_log.specs.Whole.{IsHeadFor}
use Rattle.vt_log.specs.declared.error.LogBad.{LogBad}
use Rattle.vt_mount_errors.specs.MountErrors.{of_log}
use Rattle.vt_core.specs.declared.TheConstants.{MOST_ARENAS, MOST_BUCKETS}
use Rattle.vt_recover.specs.declared.devices.Devices.{Devices}
use Rattle.vt_core.specs.declared.mounting.Tally.{Tally}
use Rattle.vt_core.specs.Files.{PerDevice, all_of}
use Rattle.vt_core.specs.Mounting.{IsSetupOf, IsHeadRead, IsMarkRead, KeepsLimits, devices_in, tables_in}
use Rattle.vt_recover.specs.Sections.{SectionStandsFor, section_buckets}
use Rattle.vt_recover.specs.Refusals.{SectionIsRefused, FilterIsRefused, CountsRefusal}

-- ---- the tests, in order

-- parts are counted from 0: the partitions of arenas, the sections, the filter
abbrev pub section_part : {D : Type 0} → PerDevice D → (i : ℕ) → ℕ
section_part devices i = length devices.partitions + i

-- the filter's number among the parts, which comes last
abbrev pub filter_part : {D : Type 0} → PerDevice D → ℕ
filter_part devices = length devices.partitions + length devices.sections

-- the log is refused, for two partitions of one name or for an arena
pub record LogIsRefused {D : Type 0} (disk : DiskOf D) (tables : List Table)
    (devices : PerDevice D) (bad : MountBad) : Type 0 where
  pub why : LogBad
  pub bad_is : bad ≡ of_log (layout_of tables) why
  pub fields : List (List ℕ)
  pub read : IsTrue disk.tells
      → AreReadAt (layout_of tables) (map disk.bytes devices.partitions) fields
  pub refuses : RefusesLogMount (map (λ t. t.name) tables) (layout_of tables) fields why

-- the first of these counts with which their sum passes a limit
pub record IsFirstPast (limit : ℕ) (counts : List ℕ) (i : ℕ) : Type 0 where
  pub within : i < length counts
  pub before : sum (take i counts) ≤ limit
  pub past : limit < sum (take (i + 1) counts)

-- So many things there are, by the counts of parts of which the first has this number, and with
-- that part they first passed a limit, if they did.
pub record IsTally (limit first : ℕ) (counts : List ℕ) (t : Tally) : Type 0 where
  pub total : t.sum ≡ sum counts
  pub past : MatchOption t.past (sum counts ≤ limit)
      (λ part. (i : ℕ) × (part ≡ first + i) × IsFirstPast limit counts i)

-- The sum of the counts of all parts passes no limit, or a part is refused with which it does.
abbrev pub PassesOrRefuses : (field : MountField) → (limit first : ℕ) → (counts : List ℕ)
    → Result ℕ MountBad → Type 0
PassesOrRefuses field limit first counts (Ok n) = (n ≡ sum counts) × (sum counts ≤ limit)
PassesOrRefuses field limit first counts (Err bad) = (i : ℕ) × IsFirstPast limit counts i
    × (bad ≡ Disagree (first + i) field (sum counts) limit)

-- there are more arenas, or more buckets, than a store may have, with this part of it
abbrev pub PassesLimits : {D : Type 0} → (tables : List Table) → PerDevice D → Setup → MountBad
    → Type 0
PassesLimits tables devices c bad =
    ((part : ℕ) × IsFirstPast MOST_ARENAS (map (λ t. t.count) tables) part
    × (bad ≡ Disagree part Arenas (arena_count tables) MOST_ARENAS))
    ⊎ ((i : ℕ) × IsFirstPast MOST_BUCKETS c.sections i
    × (bad ≡ Disagree (section_part devices i) Buckets (bucket_count c) MOST_BUCKETS))

-- the first field of a head that isn't that of so many buckets from this one on, of so many over all
abbrev pub wrong_head : (part first count total : ℕ) → Head → Option MountBad
wrong_head part first count total head =
    if not (head.state == 1) then Some (Disagree part State head.state 1)
    else if not (head.first == first) then Some (Disagree part First head.first first)
    else if not (head.count == count) then Some (Disagree part Count head.count count)
    else if not (head.total == total) then Some (Disagree part Total head.total total)
    else None

-- the first field of the head of section i that isn't as the sections together want it
abbrev pub first_wrong_field : (part : ℕ) → Setup → (i : ℕ) → Head → Option MountBad
first_wrong_field part c i head =
    wrong_head part (first_bucket c.sections i) (section_buckets c i) (bucket_count c) head

-- a section's head says something else than the other sections call for, and that is told
pub record HeadIsWrong {D : Type 0} (disk : DiskOf D) (devices : PerDevice D) (c : Setup)
    (bad : MountBad) : Type 0 where
  pub i : ℕ
  pub head : Head
  pub read : IsHeadRead disk devices i head
  pub wrong : first_wrong_field (section_part devices i) c i head ≡ Some bad

-- the part of the store with this number has this mark
abbrev pub HasMark : {D : Type 0} → DiskOf D → PerDevice D → (part mark : ℕ) → Type 0
HasMark disk devices part mark =
    ((i : ℕ) × (head : Head) × (part ≡ section_part devices i)
    × IsHeadRead disk devices i head × (mark ≡ head.mark))
    ⊎ ((part ≡ filter_part devices) × IsMarkRead disk devices mark)

-- this is what mounting reads of all arenas, the fields of their heads first, as their devices have it
-- where these tell
abbrev pub AreHeadsRead : {D : Type 0} → DiskOf D → (tables : List Table) → PerDevice D
    → (fields : List (List ℕ)) → Type 0
AreHeadsRead disk tables devices fields = IsTrue disk.tells
    → AreReadAt (layout_of tables) (map disk.bytes devices.partitions) fields

-- a mark is above the log's length
pub record MarkIsWrong {D : Type 0} (disk : DiskOf D) (tables : List Table)
    (devices : PerDevice D) (bad : MountBad) : Type 0 where
  pub part : ℕ
  pub mark : ℕ
  pub has : HasMark disk devices part mark
  pub fields : List (List ℕ)
  pub read : AreHeadsRead disk tables devices fields
  pub above : sum_by clump_count_in fields < mark
  pub bad_is : bad ≡ Disagree part Mark mark (sum_by clump_count_in fields)

-- Every test passes that comes before the log is read back: of the arenas' heads, of how many
-- arenas and buckets there are, of each section's head, and of the marks.
pub record PassesTests {D : Type 0} (disk : DiskOf D) (tables : List Table)
    (devices : PerDevice D) (c : Setup) : Type 0 where
  pub limits : KeepsLimits tables c
  pub fields : List (List ℕ)
  pub read : AreHeadsRead disk tables devices fields
  pub log : first_bad_log Bool.false 0 (layout_of tables) fields ≡ None
  pub heads : (i : ℕ) (device : D) → slice_get devices.sections i ≡ Some device → (head : Head)
      × IsHeadRead disk devices i head
      × (first_wrong_field (section_part devices i) c i head ≡ None)
      × (head.mark ≤ sum_by clump_count_in fields)
  pub mark : (i : ℕ) (device : D) → slice_get devices.filter i ≡ Some device → (mark : ℕ)
      × IsMarkRead disk devices mark × (mark ≤ sum_by clump_count_in fields)

-- The log gives more blocks of a bucket of section i than a bucket has room for. Where the section
-- agrees with the log, by a setup with its versions, these are the log's own.
pub record BucketIsCrowded {D : Type 0} (score : List ℕ → List ℕ) (disk : DiskOf D)
    (tables : List Table) (devices : PerDevice D) (c : Setup) (bad : MountBad) : Type 0 where
  pub i : ℕ
  pub device : D
  pub at : slice_get devices.sections i ≡ Some device
  pub found : ℕ
  pub above : BUCKET_ROOM < found
  pub bad_is : bad ≡ Disagree (section_part devices i) Crowd found BUCKET_ROOM
  pub crowded : (g : History) (base : ℕ) → IsTrue disk.tells
      → (log : IsLog score (layout_of tables) (map disk.bytes devices.partitions) g base)
      → c.versions ≡ versions_of log.contents
      → SectionStandsFor score c g i (disk.bytes device)
      → (bucket : ℕ) × (found ≤ crowd score (bucket_count c) g bucket)

-- What a walk of an arena reads, an entry of its directory or a header that stands for one, differs
-- from what was wanted, as its device has it where that tells. The walk came there from the arena's
-- head, which is spelled as it was read, and for which the arena has room.
pub record IsDamagedEntry {D : Type 0} (disk : DiskOf D) (tables : List Table)
    (devices : PerDevice D) (arena : ℕ) (want found : FieldValue) : Type 0 where
  pub r : ArenaRegion
  pub arena_is : slice_get (layout_of tables) arena ≡ Some r
  pub device : D
  pub disk_is : slice_get devices.partitions r.part ≡ Some device
  pub fields : List (List ℕ)
  pub read : AreHeadsRead disk tables devices fields
  pub head : ArenaHead
  pub spelled : option_map own_fields (slice_get fields arena) ≡ Some (fields_of head)
  pub fits : IsHeadFor r head
  pub at : At
  pub some : 0 < at.index
  pub reached : IsReached disk.tells head r.region (disk.bytes device) at
  pub bytes : List ℕ
  pub bytes_are : IsTrue disk.tells → bytes ≡ what_is_walked head r.region at (disk.bytes device)
  pub bad : first_bad_walked head at bytes ≡ Some (back_bad.Damaged want found)

-- What was read back differs from what was wanted: an entry of a directory, a header that stands for
-- one, or a bucket's frame, as it was read or with the entries that were to be put into it.
abbrev pub IsDamageAt : {D : Type 0} → DiskOf D → List Table → PerDevice D → Site
    → (want found : FieldValue) → Type 0
IsDamageAt disk tables devices (Clump place) want found =
    IsDamagedEntry disk tables devices place.arena want found
IsDamageAt disk tables devices (Bucket n) want found =
    (frame : List ℕ) × (group : List Entry)
    × IsDamage n group frame (shard_err.Damaged n want found)

-- what is told as damaged is damaged, on a device of the store
pub record IsFoundDamaged {D : Type 0} (disk : DiskOf D) (tables : List Table)
    (devices : PerDevice D) (bad : MountBad) : Type 0 where
  pub site : Site
  pub want : FieldValue
  pub found : FieldValue
  pub bad_is : bad ≡ Damaged site want found
  pub differ : Differ want found
  pub read : IsDamageAt disk tables devices site want found

-- Whatever the devices hold, a refusal is that of one of these tests, where those of what is read
-- back come last; a fault and want of memory need none.
abbrev pub IsRefusedMount : {D : Type 0} → (List ℕ → List ℕ) → DiskOf D → (tables : List Table)
    → PerDevice D → Setup → MountBad → Type 0
IsRefusedMount score disk tables devices c bad =
    (bad ≡ Fault) ⊎ (bad ≡ NoMemory)
    ⊎ LogIsRefused disk tables devices bad
    ⊎ SectionIsRefused disk (length devices.partitions) devices.sections bad
    ⊎ FilterIsRefused disk (filter_part devices) devices.filter bad
    ⊎ PassesLimits tables devices c bad
    ⊎ HeadIsWrong disk devices c bad
    ⊎ MarkIsWrong disk tables devices bad
    ⊎ (PassesTests disk tables devices c
    × (BucketIsCrowded score disk tables devices c bad ⊎ IsFoundDamaged disk tables devices bad))

-- the refusal of a test that comes before the log is read back
abbrev pub IsBeforeReading : MountBad → Type 0
IsBeforeReading (Disagree part Crowd found want) = ⊥
IsBeforeReading (Damaged site want found) = ⊥
IsBeforeReading Fault = ⊥
IsBeforeReading NoMemory = ⊥
IsBeforeReading bad = ⊤

-- all that is said of a refusal to mount, beside what the devices stand for then: each is handed
-- back in its place, and nothing is written before the log is read back
pub record RefusesToMount {D : Type 0} (score : List ℕ
    → List ℕ) (disk : DiskOf D) (tables : List Table)
    (devices : PerDevice D) (bad : MountBad) (back : Devices D) : Type 0 where
  pub cause : (c : Setup) → IsSetupOf disk tables devices c
      → IsRefusedMount score disk tables devices c bad
  pub counts : CountsRefusal bad (map disk.faults (all_of devices))
      (map disk.faults (all_of (devices_in back)))
  pub early : IsBeforeReading bad → HoldTheSame disk devices.sections (devices_in back).sections
  pub tables_are : tables_in back ≡ tables
  pub sections : length back.sections.items ≡ length devices.sections
  pub filter : length (option_to_list back.filter) ≡ length devices.filter
  pub sizes : map disk.size (all_of (devices_in back)) ≡ map disk.size (all_of devices)
