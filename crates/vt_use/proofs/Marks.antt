-- The marks of a store's devices, as they are read.
use Rattle.std.proofs.Common.{◌≡◌, ℕ, zero, suc, Option, Some, None, List, [], ◌∷◌, map, refl, subst}
use Rattle.std.specs.Option.{option_to_list}
use Rattle.std.specs.Prelude.{slice_get}
use Rattle.vt_bloom.specs.Bloom.{BloomState}
use Rattle.vt_disk.specs.Members.{DiskOf}
use Rattle.vt_shard.specs.Shard.{ShardState}
use Rattle.vt_core.specs.Core.{CoreState, devices_of}
use Rattle.vt_core.specs.Mounting.{IsHeadRead, IsMarkRead}
use Rattle.vt_requests.specs.Ending.{AreMarkedAt}
use Rattle.vt_use.specs.Uses.{AreMarkedOn}

module _ {D : Type 0} where
  shard_at : (shards : List (ShardState D)) (i : ℕ) (device : D)
      → slice_get (map (λ (s : ShardState D). s.section.disk) shards) i ≡ Some device
      → (s : ShardState D) × (slice_get shards i ≡ Some s)
  shard_at [] i device is = absurd (cc)
  shard_at (s ∷ shards) zero device is = (s, refl)
  shard_at (s ∷ shards) (suc i) device is = shard_at shards i device is

  filter_at : (bloom : Option (BloomState D)) (device : D)
      → slice_get (map (λ (b : BloomState D). b.disk) (option_to_list bloom)) 0 ≡ Some device
      → (b : BloomState D) × (bloom ≡ Some b)
  filter_at None device is = absurd (cc)
  filter_at (Some b) device is = (b, refl)

  pub marked_on : (disk : DiskOf D) (n : ℕ) (k : CoreState D) → AreMarkedAt n k
      → ((i : ℕ) (s : ShardState D) → slice_get k.shards i ≡ Some s → s.writeback ≡ None
      → IsHeadRead disk (devices_of k) i s.section.head)
      → ((b : BloomState D) → k.bloom ≡ Some b → b.twin.change ≡ None
      → IsMarkRead disk (devices_of k) b.mark)
      → AreMarkedOn disk n (devices_of k)
  marked_on disk n k marked heads mark = record {
    heads = λ i device at.
        let s = shard_at k.shards i device at in
        let is = marked.shards i s.0 s.1 in
        (s.0.section.head, heads i s.0 s.1 is.0, is.1);
    filter = λ device at.
        let b = filter_at k.bloom device at in
        let is = marked.filter b.0 b.1 in
        subst (λ (m : ℕ). IsMarkRead disk (devices_of k) m) is.1 (mark b.0 b.1 is.0);
  }
