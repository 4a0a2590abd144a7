-- When an index section is one of a store, and agrees with its history.
use Rattle.std.specs.Prelude.{◌≡◌, ℕ, List, slice_index}
use Rattle.vt_model.specs.History.{History}
use Rattle.vt_model.specs.Places.{Setup, bucket_count, first_bucket}
use Rattle.vt_isect.specs.declared.head.Head.{Head}
use Rattle.vt_shard.specs.Sound.{IsLiveSection}

-- how many buckets section i has
abbrev pub section_buckets : Setup → (i : ℕ) → ℕ
section_buckets c i = slice_index c.sections i

-- the head says that section i is in use, and has its place among the sections
pub record IsLive (c : Setup) (i : ℕ) (head : Head) : Type 0 where
  pub state : head.state ≡ 1
  pub first : head.first ≡ first_bucket c.sections i
  pub count : head.count ≡ section_buckets c i
  pub total : head.total ≡ bucket_count c

-- The file is section i of a store, and agrees with this history: each entry is that of one of its
-- blocks, and each block below the mark that belongs to the section has its entry.
pub record SectionStandsFor (score : List ℕ → List ℕ) (c : Setup) (g : History) (i : ℕ)
    (file : List ℕ) : Type 0 where
  pub name : List ℕ
  pub place : Head
  pub live : IsLive c i place
  pub section : IsLiveSection score c g name (section_buckets c i) place file
