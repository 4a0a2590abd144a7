-- What a look-up makes of a shard.
use Rattle.std.specs.Prelude.{◌≡◌, ◌⊎◌, ℕ, ◌+◌, ◌-◌, IsTrue, IsSome, IsOk, IfOk, IfErr, IsOkAnd, IsSomeAnd, OnOk, OnErr, MatchOption, List, length, Option, None, Some, Result, Ok}
use Rattle.vt_base.specs.declared.key.Key.{Key}
use Rattle.vt_base.specs.declared.place.Entry.{Entry}
use Rattle.vt_bucket.specs.Frame.{IsBucketFrame}
use Rattle.vt_disk.specs.Calls.{OnlyReads}
use Rattle.vt_disk.specs.Members.{DiskOf}
use Rattle.vt_disk.specs.declared.region.Region.{Region}
use Rattle.vt_icache.specs.Index.{IsCached, after_look_up, cached_entry}
use Rattle.vt_base.specs.Faults.{CountsFault}
use Rattle.vt_isect.specs.Faults.{NamesDamage, is_section_fault}
use Rattle.vt_isect.specs.Layout.{IsBucketPlace}
use Rattle.vt_isect.specs.Merging.{IsFaultyFrame}
use Rattle.vt_isect.specs.Section.{SectionState}
use Rattle.vt_isect.specs.Sound.{IsReadFrom}
use Rattle.vt_isect.specs.declared.error.ShardErr.{ShardErr}
use Rattle.vt_isect.specs.declared.error.ShardErr.TheVariants.{Fault}
use Rattle.vt_shard.specs.Search.{IsFoundIn, KeepsScore}
use Rattle.vt_shard.specs.Shard.{ShardState, ReadBucket, HasRead, bucket_at, dirty_in}

-- an entry of this key was looked for in memory
abbrev pub looked : {D : Type 0} → Key → ShardState D → ShardState D
looked key t = record t { index = after_look_up key t.index }

-- where the disk tells what it holds, a read of bucket n gives this frame
abbrev pub IsFrameAt : {D : Type 0} → DiskOf D → SectionState D → (n : ℕ) → (frame : List ℕ)
    → Type 0
IsFrameAt disk t n frame = (region : Region) → IsTrue disk.tells
    → IsBucketPlace (n - t.head.first) region → IsReadFrom t n region (disk.bytes t.disk) frame

-- the frame of bucket n was read, and its entries are kept
abbrev pub ReadsBucket : {D : Type 0} → DiskOf D → (n : ℕ) → (old new : ShardState D) → Type 0
ReadsBucket disk n old new = (bucket : ReadBucket) × (new.bucket ≡ Some bucket)
    × (bucket.number ≡ n)
    × (frame : List ℕ) × IsBucketFrame n bucket.entries frame × IsFrameAt disk old.section n frame

-- Nothing changes but the disk, by reads, and the bucket that was read last. Where that is the one
-- that is asked for nothing is read, and else its frame is, and damage is a fault of that.
pub record Looks {D T : Type 0} (disk : DiskOf D) (n : ℕ) (result : Result T ShardErr)
    (old new : ShardState D) : Type 0 where
  pub same : new ≡ record old {
    section = record old.section { disk = new.section.disk };
    bucket = new.bucket;
  }
  pub reads : OnlyReads disk 2 old.section.disk new.section.disk
  pub known : HasRead old n → IsOk result × (new ≡ old)
  pub bucket : OnOk result ((new ≡ old) ⊎ (¬ HasRead old n × ReadsBucket disk n old new))
  pub kept : OnErr result (new.bucket ≡ old.bucket)
  pub cause : IfErr result (λ bad. (bad ≡ Fault)
      ⊎ ((frame : List ℕ) × IsFaultyFrame n frame bad × IsFrameAt disk old.section n frame))
  pub names : IfErr result NamesDamage
  pub faults : CountsFault is_section_fault result (disk.faults old.section.disk)
      (disk.faults new.section.disk)

-- What `lookup` makes of a shard, whatever the disk holds. An entry in memory is the answer,
-- without a device call, and else what the bucket as it was read has of the key.
pub record LooksUp {D : Type 0} (disk : DiskOf D) (key : Key)
    (result : Result (Option Entry) ShardErr) (old new : ShardState D) : Type 0 where
  pub in_memory : IsSome (cached_entry key old.index)
      → (result ≡ Ok (cached_entry key old.index)) × (new ≡ looked key old)
  pub in_bucket : cached_entry key old.index ≡ None
      → IfOk result (IsFoundIn new.bucket (bucket_at old key.score.0) (λ entry. entry.key ≡ key))
  pub looks : Looks disk (bucket_at old key.score.0) result (looked key old) new

-- What `others` makes of a shard, whatever the disk holds. It finds an entry of a score under any
-- type.
pub record FindsOther {D : Type 0} (disk : DiskOf D) (score : List ℕ)
    (result : Result (Option Entry) ShardErr) (old new : ShardState D) : Type 0 where
  pub in_memory : KeepsScore old.index score → (new ≡ old) × IsOkAnd result (λ found.
      IsSomeAnd found (λ entry. IsCached old.index entry × (entry.key.score.0 ≡ score)))
  pub in_bucket : ¬ KeepsScore old.index score → IfOk result (IsFoundIn new.bucket
      (bucket_at old score) (λ entry. entry.key.score.0 ≡ score))
  pub looks : Looks disk (bucket_at old score) result old new

-- What `crowd` makes of a shard, whatever the disk holds. It counts the entries of bucket n as it
-- was read, and its dirty ones.
pub record CountsCrowd {D : Type 0} (disk : DiskOf D) (n : ℕ) (result : Result ℕ ShardErr)
    (old new : ShardState D) : Type 0 where
  pub in_bucket : IfOk result (λ count. MatchOption new.bucket ⊥ (λ bucket. (bucket.number ≡ n)
      × (count ≡ length bucket.entries + dirty_in old n)))
  pub looks : Looks disk n result old new
