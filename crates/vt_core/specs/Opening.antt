-- How the sections and the filter of a store are opened, and what is tested of them before its log
-- is read back.
use Rattle.std.specs.Prelude.{◌≡◌, ◌⊎◌, ⊤, ℕ, ◌+◌, ◌<◌, ◌≤◌, IsTrue, IfOk, IfErr, Option, Some, None, Result, Ok, Err, Vec, List, length, map, sum, slice_get, sum_by}
use Rattle.std.specs.declared.alloc.Global.{Global}
use Rattle.std.specs.List.{All, AllZip}
use Rattle.std.specs.Option.{option_map, option_to_list}
use Rattle.vt_base.specs.declared.mount.MountBad.{MountBad}
use Rattle.vt_base.specs.declared.mount.MountBad.TheVariants.{Disagree, Fault, NoMemory}
use Rattle.vt_base.specs.declared.mount.MountField.TheVariants.{Buckets, Mark}
use Rattle.vt_disk.specs.Calls.{IsSynced}
use Rattle.vt_disk.specs.Members.{DiskOf}
use Rattle.vt_model.specs.History.{History}
use Rattle.vt_model.specs.Places.{Setup, first_bucket}
use Rattle.vt_isect.specs.Layout.{buckets_in}
use Rattle.vt_isect.specs.Section.{SectionState, mounted_section}
use Rattle.vt_bloom.specs.Bits.{Filter}
use Rattle.vt_bloom.specs.Bloom.{BloomState}
use Rattle.vt_shard.specs.declared.mounting.Sizes.{Sizes}
use Rattle.vt_log.specs.Answers.{HoldTheSame}
use Rattle.vt_log.specs.Log.{IsMountedLog, LogState}
use Rattle.vt_log.specs.Logs.{IsLog, arena_count}
use Rattle.vt_log.specs.Mounting.{reads_to_find_all}
use Rattle.vt_log.specs.Sound.{IsSoundLog}
use Rattle.vt_log.specs.Whole.{IsWholeLog}
use Rattle.vt_part.specs.Layout.{layout_of}
use Rattle.vt_part.specs.Table.{Table}
use Rattle.vt_core.specs.declared.TheConstants.{MOST_ARENAS, MOST_BUCKETS}
use Rattle.vt_recover.specs.declared.devices.Devices.{Devices}
use Rattle.vt_core.specs.declared.mounting.Beside.{Beside}
use Rattle.vt_core.specs.Core.{CoreState}
use Rattle.vt_core.specs.Files.{PerDevice}
use Rattle.vt_core.specs.Mounting.{IsLogOf, IsLogRead, KeepsLimits, LeavesStanding, MountsStore, devices_after}
use Rattle.vt_core.specs.Stands.{FilterStandsFor}
use Rattle.vt_recover.specs.Sections.{SectionStandsFor}
use Rattle.vt_recover.specs.Opening.{HasRoomForDevices, IsFoundSection, OpensFilter}
use Rattle.vt_recover.specs.Refusals.{SectionIsRefused, FilterIsRefused}
use Rattle.vt_core.specs.Refusals.{PassesOrRefuses, RefusesToMount, wrong_head}

-- ---- tests

-- how many buckets each has
abbrev pub buckets_in_each : {D : Type 0} → List (SectionState D) → List ℕ
buckets_in_each sections = map (λ s. s.buckets) sections

-- what is wrong with the head of section i, whose first is this part of the store
abbrev pub wrong_at : {D : Type 0} → (part : ℕ) → List (SectionState D) → (i : ℕ)
    → SectionState D → Option MountBad
wrong_at part sections i s = wrong_head (part + i) (first_bucket (buckets_in_each sections) i)
    s.buckets (sum (buckets_in_each sections)) s.head

-- all heads are right, or one is refused
abbrev pub TestsHeads : {D U : Type 0} → (part : ℕ) → List (SectionState D)
    → Result U MountBad → Type 0
TestsHeads {D} part sections (Ok done) = (i : ℕ) (s : SectionState D)
    → slice_get sections i ≡ Some s → wrong_at part sections i s ≡ None
TestsHeads {D} part sections (Err bad) = (i : ℕ) × (s : SectionState D)
    × (slice_get sections i ≡ Some s) × (wrong_at part sections i s ≡ Some bad)

-- a part of the store has a mark that is above the log's length
abbrev pub IsMarkOf : {D : Type 0} → (part : ℕ) → List (SectionState D) → Option (BloomState D)
    → (of mark : ℕ) → Type 0
IsMarkOf {D} part sections bloom of mark =
    ((i : ℕ) × (s : SectionState D) × (slice_get sections i ≡ Some s) × (of ≡ part + i)
    × (mark ≡ s.head.mark))
    ⊎ ((b : BloomState D) × (bloom ≡ Some b) × (of ≡ part + length sections) × (mark ≡ b.mark))

-- no section's mark, and not the filter's, is above the log's length; or the first that is, is told
abbrev pub TestsMarks : {D U : Type 0} → (part : ℕ) → List (SectionState D)
    → Option (BloomState D) → (len : ℕ) → Result U MountBad → Type 0
TestsMarks {D} part sections bloom len (Ok done) =
    ((i : ℕ) (s : SectionState D) → slice_get sections i ≡ Some s → s.head.mark ≤ len)
    × ((b : BloomState D) → bloom ≡ Some b → b.mark ≤ len)
TestsMarks {D} part sections bloom len (Err bad) = (of : ℕ) × (mark : ℕ)
    × IsMarkOf part sections bloom of mark × (len < mark) × (bad ≡ Disagree of Mark mark len)

-- All tests of the parts of a store, in order.
abbrev pub TestsParts : {D U : Type 0} → (part : ℕ) → List (SectionState D)
    → Option (BloomState D) → (len : ℕ) → Result U MountBad → Type 0
TestsParts part sections bloom len (Ok done) =
    (sum (buckets_in_each sections) ≤ MOST_BUCKETS) × TestsHeads part sections (Ok done)
    × TestsMarks part sections bloom len (Ok done)
TestsParts part sections bloom len (Err bad) =
    PassesOrRefuses Buckets MOST_BUCKETS part (buckets_in_each sections) (Err bad)
    ⊎ TestsHeads {U = ⊤} part sections (Err bad)
    ⊎ TestsMarks {U = ⊤} part sections bloom len (Err bad)

-- ---- what stands beside the log

-- The sections and the filter of these devices were found, and pass each test on a log of so many
-- blocks; the first section is this part of the store.
pub record IsBeside {D : Type 0} (disk : DiskOf D) (part len : ℕ) (devices : List D)
    (filter : Option D) (b : Beside D) : Type 0 where
  pub sections : AllZip (IsFoundSection disk) devices b.sections.items
  pub filter_is : OpensFilter disk filter b.bloom b.bits
  pub tests : TestsParts {U = ⊤} part b.sections.items b.bloom len (Ok tt)
  pub room : HasRoomForDevices (length devices) b.room

-- Why the sections and the filter of these devices are refused: one of the devices is, or one of
-- the tests fails.
abbrev pub RefusesBeside : {D : Type 0} → DiskOf D → (part len : ℕ) → List D → Option D → MountBad
    → Type 0
RefusesBeside {D} disk part len devices filter bad =
    (bad ≡ NoMemory)
    ⊎ SectionIsRefused disk part devices bad
    ⊎ FilterIsRefused disk (part + length devices) (option_to_list filter) bad
    ⊎ ((sections : List (SectionState D)) × (bloom : Option (BloomState D)) × (bits : Filter)
    × AllZip (IsFoundSection disk) devices sections × OpensFilter disk filter bloom bits
    × TestsParts {U = ⊤} part sections bloom len (Err bad))

-- the sections and the filter that are read agree with a history, and the buckets pass no limit
pub record AgreeWith {D : Type 0} (score : List ℕ → List ℕ) (disk : DiskOf D) (c : Setup)
    (g : History) (devices : List D) (filter : Option D) : Type 0 where
  pub setup : c.sections ≡ map (λ device. buckets_in (disk.size device)) devices
  pub buckets : sum c.sections ≤ MOST_BUCKETS
  pub some : All (λ n. 0 < n) c.sections
  pub sections : (i : ℕ) (device : D) → slice_get devices i ≡ Some device
      → SectionStandsFor score c g i (disk.bytes device)
  pub filter_is : (device : D) → filter ≡ Some device
      → FilterStandsFor score g (disk.bytes device)

-- all devices of a store whose log stands on these
abbrev pub with_log : {D : Type 0} → (log : List D) → (sections : List D) → Option D → PerDevice D
with_log log sections filter =
    record { partitions = log; sections = sections; filter = option_to_list filter }

-- the devices, as opening sections and filter beside the log left them
abbrev pub beside_after : {D : Type 0} → (log : List D)
    → Result (Beside D) (MountBad × Vec D Global × Option D) → PerDevice D
beside_after log (Ok b) =
    with_log log (map (λ s. s.disk) b.sections.items) (option_map (λ b. b.disk) b.bloom)
beside_after log (Err refusal) = with_log log refusal.1.items refusal.2

-- each device holds what it held
pub record AreHeld {D : Type 0} (disk : DiskOf D) (old new : PerDevice D) : Type 0 where
  pub partitions : HoldTheSame disk old.partitions new.partitions
  pub sections : HoldTheSame disk old.sections new.sections
  pub filter : HoldTheSame disk old.filter new.filter

-- ---- all of it

-- The log was found on these disks, which are settled now and hold what they held. It is sound for
-- what they stand for, where they tell.
pub record IsLogFound {D : Type 0} (score : List ℕ → List ℕ) (disk : DiskOf D) (before : List D)
    (sections : List D) (filter : Option D) (log : LogState D) : Type 0 where
  pub whole : IsWholeLog disk log
  pub mounted : IsMountedLog log
  pub layout : log.layout ≡ layout_of log.tables
  pub arenas : arena_count log.tables ≤ MOST_ARENAS
  pub read : IsLogRead disk log.tables (with_log before sections filter) log
  pub found : (g : History) (base : ℕ) → IsTrue disk.tells
      → IsLog score (layout_of log.tables) (map disk.bytes before) g base
      → IsSoundLog score disk log g × (log.base ≡ base) × (log.durable ≡ length g)
  pub held : HoldTheSame disk before log.disks
  pub settled : All (IsSynced disk) log.disks
  pub faults : map disk.faults log.disks ≡ map disk.faults before
  pub calls : IsTrue disk.tells → sum_by disk.calls log.disks
      ≤ sum_by disk.calls before + length before
      + reads_to_find_all (layout_of log.tables) read.fields

-- all that is said of a mount
pub record IsMountOf {D : Type 0} (score : List ℕ → List ℕ) (disk : DiskOf D) (tables : List Table)
    (devices : PerDevice D) (sizes : Sizes) (sessions : ℕ)
    (result : Result (CoreState D) (MountBad × Devices D)) : Type 0 where
  pub mounts : IfOk result (MountsStore score disk tables devices sizes sessions)
  pub found : (c : Setup) (h g : History) (base : ℕ) → IsTrue disk.tells
      → IsLogOf score disk tables devices c h g base → KeepsLimits tables c
      → IfErr result (λ refusal. (refusal.0 ≡ Fault) ⊎ (refusal.0 ≡ NoMemory))
  pub standing : IsTrue disk.tells
      → LeavesStanding score disk tables devices (devices_after result)
  pub refused : IfErr result
      (λ refusal. RefusesToMount score disk tables devices refusal.0 refusal.1)
