-- What calls did to a disk.
use Rattle.std.specs.Prelude.{◌≡◌, ℕ, ◌+◌, ◌-◌, ◌^◌, ◌≤◌, min, IsTrue}
use Rattle.vt_disk.specs.declared.region.Region.{Region}
use Rattle.vt_disk.specs.Disk.{SameBut, AreAmong, Only, ChangesAt}
use Rattle.vt_disk.specs.Members.{DiskOf}
use Rattle.vt_disk.specs.Region.{Inside}

-- The disk holds what it held, a crash leaves no more of it, and at most so many calls were made:
-- reads and syncs.
pub record OnlyReads {D : Type 0} (disk : DiskOf D) (most : ℕ) (old new : D) : Type 0 where
  pub bytes : disk.bytes new ≡ disk.bytes old
  pub images : AreAmong (disk.images new) (disk.images old)
  pub size : disk.size new ≡ disk.size old
  pub calls : IsTrue disk.tells → disk.calls new ≤ disk.calls old + most

-- nothing changed but where P holds, neither what a read gives nor what a crash may leave, and at
-- most so many calls were made
pub record WritesAt {D : Type 0} (disk : DiskOf D) (P : ℕ → Type 0) (most : ℕ) (old new : D)
    : Type 0 where
  pub bytes : IsTrue disk.tells → SameBut P (disk.bytes old) (disk.bytes new)
  pub images : ChangesAt P (disk.images old) (disk.images new)
  pub size : disk.size new ≡ disk.size old
  pub calls : IsTrue disk.tells → disk.calls new ≤ disk.calls old + most

-- nothing changed but in this region
abbrev pub WritesWithin : {D : Type 0} → DiskOf D → Region → (most : ℕ) → (old new : D) → Type 0
WritesWithin disk region most old new = WritesAt disk (Inside region) most old new

-- just so many calls were made, as far as their count goes
abbrev pub MadeCalls : {D : Type 0} → DiskOf D → (many : ℕ) → (old new : D) → Type 0
MadeCalls disk many old new =
    IsTrue disk.tells → disk.calls new ≡ min (disk.calls old + many) (2 ^ 64 - 1)

-- a crash leaves just what a read gives
abbrev pub IsSynced : {D : Type 0} → DiskOf D → D → Type 0
IsSynced disk d = IsTrue disk.tells → Only (disk.bytes d) (disk.images d)
