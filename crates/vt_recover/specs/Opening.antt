-- How the sections and the filter of a store are opened.
use Rattle.std.specs.Prelude.{◌≡◌, ℕ, ◌<◌, ◌≤◌, IsTrue, Option, Some, None, false, Result, Ok, Err, Vec, List, length, map, [], vec_capacity}
use Rattle.std.specs.declared.alloc.Global.{Global}
use Rattle.std.specs.Option.{option_map}
use Rattle.vt_base.specs.declared.mount.MountBad.{MountBad}
use Rattle.vt_base.specs.declared.place.Entry.{Entry}
use Rattle.vt_disk.specs.Calls.{OnlyReads}
use Rattle.vt_disk.specs.Members.{DiskOf}
use Rattle.vt_model.specs.History.{History}
use Rattle.vt_model.specs.Places.{Setup}
use Rattle.vt_twin.specs.Frames.{current_frame}
use Rattle.vt_isect.specs.declared.TheConstants.{FRAME_LEN, LEAST_LEN}
use Rattle.vt_isect.specs.declared.head.Head.{Head}
use Rattle.vt_isect.specs.Agreement.{AgreesWith, KnownAgrees}
use Rattle.vt_isect.specs.Head.{IsHeadFrame}
use Rattle.vt_isect.specs.Layout.{IsSection, head_place, buckets_in}
use Rattle.vt_isect.specs.Section.{SectionState, mounted_section}
use Rattle.vt_isect.specs.Sound.{KnownBuckets, DiskHolds, all_known, nothing_known}
use Rattle.vt_bloom.specs.Bits.{Filter}
use Rattle.vt_bloom.specs.Bloom.{BloomState, HasCounts, IsSoundBloom}
use Rattle.vt_bloom.specs.Frame.{Saved, HasSaved}
use Rattle.vt_shard.specs.Shard.{ShardState, mounted_shard}
use Rattle.vt_shard.specs.Sound.{IsSoundFrom}
use Rattle.vt_recover.specs.Refusals.{CountsRefusal}

-- The device has a section's head, and room for a bucket.
pub record CanBeOpened {D : Type 0} (disk : DiskOf D) (device : D) : Type 0 where
  pub room : LEAST_LEN ≤ disk.size device
  pub name : List ℕ
  pub head : Head
  pub frame : IsHeadFrame name head (current_frame head_place FRAME_LEN (disk.bytes device))

-- The section of this device was found. It has the head that is there, nothing is under way, and
-- its device is sound for each history with which what is there agrees.
pub record IsFoundSection {D : Type 0} (disk : DiskOf D) (device : D) (s : SectionState D)
    : Type 0 where
  pub fresh : s ≡ mounted_section s.disk (buckets_in (disk.size device)) s.name s.head
      s.head_twin.current
  pub some : 0 < s.buckets
  pub head : IsTrue disk.tells
      → IsHeadFrame s.name s.head (current_frame head_place FRAME_LEN (disk.bytes device))
  pub holds : IsTrue disk.tells → DiskHolds disk s nothing_known
  pub only : (name : List ℕ) (head : Head) → IsTrue disk.tells
      → IsHeadFrame name head (current_frame head_place FRAME_LEN (disk.bytes device))
      → (s.name ≡ name) × (s.head ≡ head)
  pub sound : (score : List ℕ → List ℕ) (c : Setup) (h : History) (entries : ℕ → List Entry)
      → IsTrue disk.tells → IsSection s.name s.head s.buckets entries (disk.bytes device)
      → AgreesWith score c h s.buckets s.head entries
      → DiskHolds disk s (all_known entries) × KnownAgrees score c h s (all_known entries)
  pub reads : OnlyReads disk 3 device s.disk
  pub faults : disk.faults s.disk ≡ disk.faults device

-- the devices of sections that were opened, whatever the answer
abbrev pub sections_after : {D : Type 0}
    → Result (Vec (SectionState D) Global × Vec D Global) (MountBad × Vec D Global) → List D
sections_after (Ok opened) = map (λ s. s.disk) opened.0.items
sections_after (Err refusal) = refusal.1.items

-- a shard of a section that is at rest, with nothing in memory
pub record IsShardMade {D : Type 0} (disk : DiskOf D) (lumps clean : ℕ) (section : SectionState D)
    (s : ShardState D) : Type 0 where
  pub is : s ≡ mounted_shard section lumps clean
  pub sound : (score : List ℕ → List ℕ) (c : Setup) (h : History) (known : KnownBuckets)
      → IsTrue disk.tells → DiskHolds disk section known → KnownAgrees score c h section known
      → section.head.state ≡ 1 → IsSoundFrom score c disk s h (length h) (length h)

-- Of these counts of failed calls one rose where a fault is told, and else none.
abbrev pub CountsBack : {T X : Type 0} → Result T (MountBad × X) → (old new : List ℕ) → Type 0
CountsBack (Ok opened) old new = new ≡ old
CountsBack (Err refusal) old new = CountsRefusal refusal.0 old new

-- the filter that is saved on this device was found, with its bits
pub record IsFilterOpened {D : Type 0} (disk : DiskOf D) (device : D) (b : BloomState D)
    (bits : Filter) : Type 0 where
  pub found : IsTrue disk.tells
      → HasSaved (record { filter = bits; mark = b.mark }) (disk.bytes device)
  pub sound : IsTrue disk.tells → (coming : Saved)
      → IsSoundBloom b (record { filter = bits; mark = b.mark }) coming
      (disk.bytes b.disk) (disk.images b.disk)
  pub counts : HasCounts b bits
  pub next : b.next ≡ b.mark
  pub rest : b.twin.change ≡ None
  pub goes : b.calls.stopped ≡ None
  pub runs : b.twin.failed ≡ false
  pub reads : OnlyReads disk 3 device b.disk
  pub faults : disk.faults b.disk ≡ disk.faults device

-- The filter that is saved on the device, if there is one, was found, with its bits; without a
-- device there is one of 2^16 bits, of which a score has 8.
abbrev pub OpensFilter : {D : Type 0} → DiskOf D → (device : Option D) → Option (BloomState D)
    → (bits : Filter) → Type 0
OpensFilter disk None bloom bits = (bloom ≡ None) × (bits.m ≡ 16) × (bits.k ≡ 8)
OpensFilter {D} disk (Some device) bloom bits =
    (b : BloomState D) × (bloom ≡ Some b) × IsFilterOpened disk device b bits

-- the filter's device, as opening the filter left it
abbrev pub filter_after : {D : Type 0}
    → Result (Option (BloomState D) × Filter) (MountBad × Option D) → Option D
filter_after (Ok opened) = option_map (λ b. b.disk) opened.0
filter_after (Err refusal) = refusal.1

-- memory for so many devices, to hand them back in
pub record HasRoomForDevices {D Z : Type 0} (many : ℕ) (room : Vec D Z) : Type 0 where
  pub empty : room.items ≡ []
  pub enough : many ≤ vec_capacity room
