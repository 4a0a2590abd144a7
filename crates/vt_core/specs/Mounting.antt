-- How a store is found.
use Rattle.std.specs.Prelude.{◌≡◌, ◌⊎◌, ℕ, ◌<◌, ◌≤◌, IsTrue, None, Some, List, [], length, map, replicate, take, slice_get, Result, Ok, Err, ◌+◌, ◌-◌, sum_by}
use Rattle.std.specs.List.{All}
use Rattle.std.specs.Option.{option_to_list}
use Rattle.lru.specs.LruCache.{lru_cache}
use Rattle.vt_base.specs.declared.mount.MountBad.{MountBad}
use Rattle.vt_disk.specs.Members.{DiskOf}
use Rattle.vt_model.specs.History.{History}
use Rattle.vt_model.specs.Legal.{IsLegal}
use Rattle.vt_model.specs.Places.{Setup, current_arena, bucket_count}
use Rattle.vt_twin.specs.Frames.{current_frame}
use Rattle.vt_part.specs.Layout.{layout_of, AreDistinct}
use Rattle.vt_part.specs.Parts.{tables_of}
use Rattle.vt_part.specs.Table.{Table}
use Rattle.vt_isect.specs.declared.TheConstants.{FRAME_LEN}
use Rattle.vt_isect.specs.declared.head.Head.{Head}
use Rattle.vt_isect.specs.Head.{IsHeadFrame}
use Rattle.vt_isect.specs.Layout.{head_place, buckets_in}
use Rattle.vt_bloom.specs.Bloom.{BloomState}
use Rattle.vt_bloom.specs.Frame.{Saved, HasSaved}
use Rattle.vt_log.specs.Answers.{HoldTheSame}
use Rattle.vt_log.specs.Faults.{AreReadAt, IsMountedBy}
use Rattle.vt_log.specs.Log.{IsMountedLog, LogState, disks_of}
use Rattle.vt_log.specs.Logs.{IsLog, arena_count}
use Rattle.vt_log.specs.Mounting.{reads_to_find_all}
use Rattle.vt_shard.specs.Shard.{ShardState}
use Rattle.vt_shard.specs.declared.mounting.Sizes.{Sizes}
use Rattle.vt_core.specs.declared.TheConstants.{MOST_ARENAS, MOST_BUCKETS}
use Rattle.vt_recover.specs.declared.devices.Devices.{Devices}
use Rattle.vt_core.specs.Core.{CoreState, setup_of, devices_of, stops_of}
use Rattle.vt_core.specs.Files.{PerDevice, DeviceFiles, AreImages, all_of}
use Rattle.vt_core.specs.Sound.{IsSound}
use Rattle.vt_core.specs.Stands.{ArePartitions, StandsFor, StandForPrefix, FilterStandsFor}
use Rattle.vt_recover.specs.Sections.{SectionStandsFor}
use Rattle.vt_recover.specs.Marks.{AreCovered, LacksMany}

-- ---- devices

-- the devices that are handed in, or back
abbrev pub devices_in : {D : Type 0} → Devices D → PerDevice D
devices_in devices = record {
  partitions = disks_of devices.parts.items;
  sections = devices.sections.items;
  filter = option_to_list devices.filter;
}

-- the tables of the partitions that are handed in
abbrev pub tables_in : {D : Type 0} → Devices D → List Table
tables_in devices = tables_of devices.parts.items

-- The devices that there are after mounting, whatever the answer.
abbrev pub devices_after : {D : Type 0} → Result (CoreState D) (MountBad × Devices D) → PerDevice D
devices_after (Ok core) = devices_of core
devices_after (Err refusal) = devices_in refusal.1

-- the setup that partitions with these tables and the devices of these sections have, whatever its
-- base and its arenas' versions, which the arenas themselves tell
pub record IsSetupOf {D : Type 0} (disk : DiskOf D) (tables : List Table) (devices : PerDevice D)
    (c : Setup) : Type 0 where
  pub arenas : c.arenas ≡ map (λ r. r.region.len) (layout_of tables)
  pub sections : c.sections ≡ map (λ device. buckets_in (disk.size device)) devices.sections

-- every combination of images stands for a prefix of one history that has this many blocks at least
abbrev pub EachStands : {D : Type 0} → (List ℕ → List ℕ) → DiskOf D → Setup → List Table
    → (least : ℕ) → PerDevice D → History → Type 0
EachStands score disk c tables least devices h =
    (files : DeviceFiles) → AreImages disk devices files
    → StandForPrefix score c tables least files h

-- Every combination of images stands for the first n blocks of one history.
abbrev pub AllStandFor : {D : Type 0} → (List ℕ → List ℕ) → DiskOf D → Setup → List Table
    → PerDevice D → History → (n : ℕ) → Type 0
AllStandFor score disk c tables devices h n = (files : DeviceFiles) → AreImages disk devices files
    → StandsFor score c tables files h n

-- ---- a store that is found

-- Arenas and buckets over all pass no limit, each section has a bucket, and no two partitions have
-- one name.
pub record KeepsLimits (tables : List Table) (c : Setup) : Type 0 where
  pub arenas : arena_count tables ≤ MOST_ARENAS
  pub buckets : bucket_count c ≤ MOST_BUCKETS
  pub sections : All (λ n. 0 < n) c.sections
  pub names : AreDistinct (map (λ t. t.name) tables)

-- These devices stand for prefixes of a legal history, and this is the log that is read of them.
pub record IsLogOf {D : Type 0} (score : List ℕ → List ℕ) (disk : DiskOf D) (tables : List Table)
    (devices : PerDevice D) (c : Setup) (h g : History) (base : ℕ) : Type 0 where
  pub legal : IsLegal score c h
  pub setup : IsSetupOf disk tables devices c
  pub each : EachStands score disk c tables 0 devices h
  pub read : IsLog score (layout_of tables) (map disk.bytes devices.partitions) g base

-- What is read is a prefix of the history, with its base, and the sections and the filter that are
-- read agree with it.
pub record IsReadAs {D : Type 0} (score : List ℕ → List ℕ) (disk : DiskOf D) (c : Setup)
    (tables : List Table) (devices : PerDevice D) (h g : History) (base : ℕ) : Type 0 where
  pub n : ℕ
  pub within : n ≤ length h
  pub prefix : g ≡ take n h
  pub least : current_arena c (take n h) ≤ base
  pub most : base ≤ current_arena c h
  pub partitions : ArePartitions tables (map disk.bytes devices.partitions)
  pub sections : (i : ℕ) (device : D) → slice_get devices.sections i ≡ Some device
      → SectionStandsFor score c g i (disk.bytes device)
  pub filter : (i : ℕ) (device : D) → slice_get devices.filter i ≡ Some device
      → FilterStandsFor score g (disk.bytes device)

-- the store has the log that is read, with just its blocks and its base, and all of them are durable
pub record Recalls {D : Type 0} (score : List ℕ → List ℕ) (disk : DiskOf D) (c : Setup)
    (g : History) (base : ℕ) (k : CoreState D) : Type 0 where
  pub sound : IsSound score disk k g
  pub setup : setup_of k ≡ record c { base = base }
  pub durable : k.log.durable ≡ length g

-- the log is that of the heads of the arenas, of which this is read on the devices where these tell
pub record IsLogRead {D : Type 0} (disk : DiskOf D) (tables : List Table) (devices : PerDevice D)
    (l : LogState D) : Type 0 where
  pub fields : List (List ℕ)
  pub read : IsTrue disk.tells
      → AreReadAt (layout_of tables) (map disk.bytes devices.partitions) fields
  pub mounted : IsMountedBy (map (λ t. t.name) tables) (layout_of tables) fields l

-- this is the head of section i, as its device has it where that tells
pub record IsHeadRead {D : Type 0} (disk : DiskOf D) (devices : PerDevice D) (i : ℕ) (head : Head)
    : Type 0 where
  pub device : D
  pub at : slice_get devices.sections i ≡ Some device
  pub read : IsTrue disk.tells → (name : List ℕ)
      × IsHeadFrame name head (current_frame head_place FRAME_LEN (disk.bytes device))

-- this is the filter's mark, as its device has it where that tells
pub record IsMarkRead {D : Type 0} (disk : DiskOf D) (devices : PerDevice D) (mark : ℕ) : Type 0
  where
    pub device : D
    pub at : slice_get devices.filter 0 ≡ Some device
    pub read : IsTrue disk.tells → (saved : Saved) × HasSaved saved (disk.bytes device)
        × (mark ≡ saved.mark)

-- a shard keeps so many blocks and so many clean entries in memory, and no block yet
abbrev pub HasRoomOf : {D : Type 0} → Sizes → ShardState D → Type 0
HasRoomOf sizes s = (s.lumps ≡ lru_cache [] sizes.lumps) × (s.index.clean_room ≡ sizes.clean)

-- Whatever its devices hold, it stands on them and on no others, as their heads are read, and
-- nothing is queued, under way, stopped or waited for. No block is in memory, and each shard has
-- just the room that it was given. Without a device the filter has 2^16 bits, and a score 8 of them.
pub record IsFreshlyMounted {D : Type 0} (disk : DiskOf D) (tables : List Table)
    (devices : PerDevice D)
    (room : Sizes) (sessions : ℕ) (k : CoreState D) : Type 0 where
  pub tables_are : k.log.tables ≡ tables
  pub layout : k.log.layout ≡ layout_of tables
  pub setup : IsSetupOf disk tables devices (setup_of k)
  pub limits : KeepsLimits tables (setup_of k)
  pub sizes : map disk.size (all_of (devices_of k)) ≡ map disk.size (all_of devices)
  pub shards : length k.shards ≡ length devices.sections
  pub filter : length (option_to_list k.bloom) ≡ length devices.filter
  pub own_filter : devices.filter ≡ [] → (k.bits.m ≡ 16) × (k.bits.k ≡ 8)
  pub log_read : IsLogRead disk tables devices k.log
  pub heads_read : (i : ℕ) (s : ShardState D) → slice_get k.shards i ≡ Some s
      → IsHeadRead disk devices i s.section.head
  pub mark_read : (b : BloomState D) → k.bloom ≡ Some b → IsMarkRead disk devices b.mark
  pub log : IsMountedLog k.log
  pub stops : All (λ stop. stop ≡ None) (stops_of k)
  pub writebacks : All (λ s. s.writeback ≡ None) k.shards
  pub saves : All (λ b. b.twin.change ≡ None) (option_to_list k.bloom)
  pub synced : k.synced ≡ k.log.durable
  pub waiting : k.waiting ≡ replicate sessions None
  pub rooms : All (HasRoomOf room) k.shards

-- Of the arenas' devices a sync of each is made, the reads that find each arena, by what is read of
-- it, and one of each block's directory entry, or of the header that stands for it, but for those of
-- the blocks that all marks cover.
abbrev pub ReadsEntriesOnce : {D : Type 0} → DiskOf D → (tables : List Table) → PerDevice D
    → CoreState D → Type 0
ReadsEntriesOnce disk tables devices k = (n : ℕ) → IsTrue disk.tells
    → AreCovered k.shards k.bloom n → (fields : List (List ℕ))
    × AreReadAt (layout_of tables) (map disk.bytes devices.partitions) fields
    × (sum_by disk.calls k.log.disks ≤ sum_by disk.calls devices.partitions
    + length devices.partitions + reads_to_find_all (layout_of tables) fields
    + (k.log.durable - n))

-- all that is said of a store that was mounted
pub record MountsStore {D : Type 0} (score : List ℕ
    → List ℕ) (disk : DiskOf D) (tables : List Table)
    (devices : PerDevice D) (sizes : Sizes) (sessions : ℕ) (k : CoreState D) : Type 0 where
  pub recalls : (c : Setup) (h g : History) (base : ℕ) → IsTrue disk.tells
      → IsLogOf score disk tables devices c h g base → Recalls score disk c g base k
  pub fresh : IsFreshlyMounted disk tables devices sizes sessions k
  pub calls : ReadsEntriesOnce disk tables devices k
  pub faults_are : map disk.faults (all_of (devices_of k)) ≡ map disk.faults (all_of devices)

-- ---- what mounting leaves

-- Whatever call failed, each combination of images stands for a prefix afterwards, with as many
-- blocks at least, and for the same first blocks where all did. The arenas and the filter keep what
-- they hold, and so does a section, unless more of its entries are lacking than its shard has room
-- for.
pub record LeavesStanding {D : Type 0} (score : List ℕ → List ℕ) (disk : DiskOf D)
    (tables : List Table) (old new : PerDevice D) : Type 0 where
  pub prefix : (c : Setup) (h : History) (least : ℕ) → IsLegal score c h
      → IsSetupOf disk tables old c → EachStands score disk c tables least old h
      → EachStands score disk c tables least new h
  pub same : (c : Setup) (h : History) (n : ℕ) → IsLegal score c h → IsSetupOf disk tables old c
      → AllStandFor score disk c tables old h n → AllStandFor score disk c tables new h n
  pub partitions : HoldTheSame disk old.partitions new.partitions
  pub filter : HoldTheSame disk old.filter new.filter
  pub sizes : map disk.size new.sections ≡ map disk.size old.sections
  pub sections : (c : Setup) (h g : History) (base i : ℕ) (before after : D)
      → IsLogOf score disk tables old c h g base
      → slice_get old.sections i ≡ Some before → slice_get new.sections i ≡ Some after
      → (disk.bytes after ≡ disk.bytes before) ⊎ LacksMany score c g i (disk.bytes before)
