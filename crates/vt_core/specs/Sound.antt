-- What the devices of a store hold, whatever moment it is.
use Rattle.std.specs.Prelude.{◌≡◌, ℕ, Some, IsSome, List, take, slice_get}
use Rattle.vt_disk.specs.Members.{DiskOf}
use Rattle.vt_model.specs.History.{History, Accepted}
use Rattle.vt_model.specs.Legal.{IsLegal}
use Rattle.vt_part.specs.Table.{Table, IsPartition}
use Rattle.vt_log.specs.Sound.{IsSoundLog}
use Rattle.vt_bloom.specs.Bits.{HasBitsOf}
use Rattle.vt_bloom.specs.Bloom.{BloomState, IsSoundBloom}
use Rattle.vt_bloom.specs.Frame.{Saved, Covers}
use Rattle.vt_shard.specs.Shard.{ShardState}
use Rattle.vt_shard.specs.Sound.{IsSoundShard}
use Rattle.vt_core.specs.Core.{CoreState, setup_of}
use Rattle.vt_core.specs.Stands.{scores_of}
use Rattle.vt_core.specs.Whole.{IsWhole}

-- the device of a filter is sound, and the marks that it has and gets are true of this history
pub record IsSoundFilter {D : Type 0} (score : List ℕ → List ℕ) (disk : DiskOf D)
    (b : BloomState D) (g : History) : Type 0 where
  pub saved : Saved
  pub coming : Saved
  pub sound : IsSoundBloom b saved coming (disk.bytes b.disk) (disk.images b.disk)
  pub covers : Covers (scores_of score g) saved
  pub coming_covers : IsSome b.twin.change → Covers (scores_of score g) coming

-- The devices of a store, each by what it reads as and by its own images, are sound for a store
-- that has accepted this history.
pub record IsSound {D : Type 0} (score : List ℕ → List ℕ) (disk : DiskOf D) (k : CoreState D)
    (h : History) : Type 0 where
  pub whole : IsWhole disk k
  pub legal : IsLegal score (setup_of k) h
  -- a crash leaves each partition its table
  pub partitions : (i : ℕ) (t : Table) (device : D) (file : List ℕ)
      → slice_get k.log.tables i ≡ Some t → slice_get k.log.disks i ≡ Some device
      → disk.images device file → IsPartition t file
  -- the arenas hold the durable blocks, and the queue the others
  pub log : IsSoundLog score disk k.log h
  -- each section holds entries and a mark of durable blocks alone, and its shard has all blocks
  pub shards : (i : ℕ) (s : ShardState D) → slice_get k.shards i ≡ Some s
      → IsSoundShard score (setup_of k) disk s h k.log.durable
  -- the filter in memory has the bits of all blocks, and the saved one a mark of durable blocks
  pub bits : (i : ℕ) (e : Accepted) → slice_get h i ≡ Some e
      → HasBitsOf k.bits (score e.block.bytes)
  pub filter : (b : BloomState D) → k.bloom ≡ Some b
      → IsSoundFilter score disk b (take k.log.durable h)
