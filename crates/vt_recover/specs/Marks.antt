-- Which blocks all marks cover, and which entries a section lacks.
use Rattle.std.specs.Prelude.{◌≡◌, ◌≢◌, ℕ, ◌<◌, ◌≤◌, Some, List, length, slice_get, MatchOption, Option}
use Rattle.std.specs.List.{All, AllPairs, Contains}
use Rattle.vt_base.specs.declared.place.Entry.{Entry}
use Rattle.vt_model.specs.History.{History, Accepted}
use Rattle.vt_model.specs.Places.{Setup, bucket_count, bucket_of, section_of_score}
use Rattle.vt_isect.specs.declared.head.Head.{Head}
use Rattle.vt_isect.specs.Agreement.{HasBlock}
use Rattle.vt_isect.specs.Layout.{IsSection}
use Rattle.vt_bloom.specs.Bloom.{BloomState}
use Rattle.vt_shard.specs.declared.TheConstants.{ROOM}
use Rattle.vt_shard.specs.Shard.{ShardState}
use Rattle.vt_recover.specs.Sections.{section_buckets}

-- All marks, the filter's too, cover the first n blocks. Without a filter's device none do.
pub record AreCovered {D : Type 0} (shards : List (ShardState D)) (bloom : Option (BloomState D))
    (n : ℕ) : Type 0 where
  pub shards_are : (i : ℕ) (s : ShardState D) → slice_get shards i ≡ Some s
      → n ≤ s.section.head.mark
  pub filter_is : MatchOption bloom (n ≡ 0) (λ b. n ≤ b.mark)

-- block i of the history belongs to this section, whose file lacks its entry
pub record LacksIndexEntry (score : List ℕ → List ℕ) (c : Setup) (g : History) (section : ℕ)
    (file : List ℕ) (i : ℕ) : Type 0 where
  pub block : Accepted
  pub at : slice_get g i ≡ Some block
  pub belongs : section_of_score c (score block.block.bytes) ≡ section
  pub lacks : (name : List ℕ) (head : Head) (entries : ℕ → List Entry)
      → IsSection name head (section_buckets c section) entries file
      → ¬ HasBlock score c g
      (Contains (entries (bucket_of (bucket_count c) (score block.block.bytes)))) i

-- more blocks lack their entries than a shard has room for
pub record LacksMany (score : List ℕ → List ℕ) (c : Setup) (g : History) (section : ℕ)
    (file : List ℕ) : Type 0 where
  pub numbers : List ℕ
  pub apart : AllPairs (λ i j. i ≢ j) numbers
  pub many : ROOM < length numbers
  pub each : All (LacksIndexEntry score c g section file) numbers
