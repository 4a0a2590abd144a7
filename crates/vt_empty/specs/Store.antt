-- A store without blocks.
use Rattle.std.specs.Prelude.{◌≡◌, ℕ, ◌≤◌, None, MatchOption, List, [], length, replicate}
use Rattle.std.specs.List.{All}
use Rattle.std.specs.Option.{option_to_list}
use Rattle.vt_bloom.specs.Bits.{Filter}
use Rattle.vt_bloom.specs.Frame.{HasSaved, empty_of}
use Rattle.vt_bloom.specs.Size.{IsFilterSize}
use Rattle.vt_recover.specs.declared.devices.Devices.{Devices}
use Rattle.vt_core.specs.Core.{CoreState, setup_of, stops_of}
use Rattle.vt_core.specs.Mounting.{HasRoomOf, IsLogOf, KeepsLimits, devices_in, tables_in}
use Rattle.vt_core.specs.Sound.{IsSound}
use Rattle.vt_disk.specs.Members.{DiskOf}
use Rattle.vt_empty.specs.declared.shape.Shape.{Shape}
use Rattle.vt_empty.specs.Shape.{setup_for}
use Rattle.vt_log.specs.Logs.{arena_count}
use Rattle.vt_part.specs.Parts.{disk_of, table_of}
use Rattle.vt_part.specs.Table.{arenas_end}
use Rattle.vt_shard.specs.declared.mounting.Sizes.{Sizes}

-- whatever a crash leaves of it, a filter of this shape is saved, of which no bit is set
pub record IsFilterFor {D : Type 0} (disk : DiskOf D) (shape : Shape) (device : D) : Type 0 where
  pub m : ℕ
  pub size : IsFilterSize m shape.filter
  pub images : (c : List ℕ) → disk.images device c → HasSaved (empty_of m shape.positions) c

-- The devices of a store of this shape without blocks. They can be mounted.
pub record AreFresh {D : Type 0} (disk : DiskOf D) (shape : Shape) (devices : Devices D) : Type 0
  where
    pub log : (score : List ℕ → List ℕ)
        → IsLogOf score disk (tables_in devices) (devices_in devices) (setup_for shape) [] [] 0
    pub limits : KeepsLimits (tables_in devices) (setup_for shape)
    pub rooms : All (λ part. arenas_end (table_of part) ≤ disk.size (disk_of part))
        devices.parts.items
    pub partitions : length devices.parts.items ≡ 1
    pub arenas : arena_count (tables_in devices) ≡ shape.arenas
    pub sections : length devices.sections.items ≡ shape.sections
    pub filter : MatchOption devices.filter ⊥ (IsFilterFor disk shape)

-- the filter has the size and the positions of this shape
pub record HasCountsOf (shape : Shape) (bits : Filter) : Type 0 where
  pub m : IsFilterSize bits.m shape.filter
  pub k : bits.k ≡ shape.positions

-- A store of this shape without blocks, with so much room in memory and so many sessions: nothing
-- is queued, under way, stopped or waited for.
pub record IsFreshStore {D : Type 0} (score : List ℕ → List ℕ) (disk : DiskOf D) (shape : Shape)
    (sizes : Sizes) (sessions : ℕ) (k : CoreState D) : Type 0 where
  pub sound : IsSound score disk k []
  pub setup : setup_of k ≡ setup_for shape
  pub durable : k.log.durable ≡ 0
  pub synced : k.synced ≡ 0
  pub waiting : k.waiting ≡ replicate sessions None
  pub stops : All (λ stop. stop ≡ None) (stops_of k)
  pub writebacks : All (λ s. s.writeback ≡ None) k.shards
  pub saves : All (λ b. b.twin.change ≡ None) (option_to_list k.bloom)
  pub bits : HasCountsOf shape k.bits
  pub rooms : All (HasRoomOf sizes) k.shards
