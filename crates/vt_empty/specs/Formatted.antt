-- What formatting leaves on disks, whatever a crash leaves of them: arenas without blocks, index
-- sections without entries, and a filter without bits (venti(8)).
use Rattle.std.specs.Prelude.{◌≡◌, ℕ, ◌+◌, List, [], ◌∷◌}
use Rattle.std.specs.List.{AllZip}
use Rattle.vt_bloom.specs.Frame.{HasSaved, empty_of}
use Rattle.vt_disk.specs.Members.{DiskOf}
use Rattle.vt_format.specs.Arenas.{IsEmptyLog}
use Rattle.vt_format.specs.Usage.{head_in}
use Rattle.vt_isect.specs.Layout.{IsSection, buckets_in}
use Rattle.vt_part.specs.Table.{Table}

-- Each of these partitions has its table, and is alone a log without blocks.
abbrev pub AreEmptyLogs : {D : Type 0} → DiskOf D → List Table → List D → Type 0
AreEmptyLogs disk tables devices =
    AllZip (λ t device. (c : List ℕ) → disk.images device c → IsEmptyLog t c) tables devices

-- a section in use, whose buckets are numbered from `first` on, of so many in all, and have no
-- entries; its mark is 0
pub record IsUnfilled {D : Type 0} (disk : DiskOf D) (first total : ℕ) (device : D) : Type 0 where
  pub name : List ℕ
  pub images : (c : List ℕ) → disk.images device c → IsSection name
      (head_in 1 first (buckets_in (disk.size device)) total) (buckets_in (disk.size device))
      (λ n. []) c

-- these are, one behind the other, to the last bucket of all
abbrev pub AreUnfilled : {D : Type 0} → DiskOf D → (first total : ℕ) → List D → Type 0
AreUnfilled disk first total [] = total ≡ first
AreUnfilled disk first total (device ∷ devices) = IsUnfilled disk first total device
    × AreUnfilled disk (first + buckets_in (disk.size device)) total devices

-- a filter of which no bit is set; its mark is 0
pub record IsUnset {D : Type 0} (disk : DiskOf D) (device : D) : Type 0 where
  pub m : ℕ
  pub k : ℕ
  pub images : (c : List ℕ) → disk.images device c → HasSaved (empty_of m k) c
