-- What is handed out under a name.
use Rattle.std.specs.Prelude.{ℕ, ◌≡◌, ◌⊎◌, ◌<◌, ◌≤◌, List, [], Option, Some, unwrap_or}
use Rattle.vt_base.specs.Filled.{filled}
use Rattle.vt_disk.specs.Disk.{Only}
use Rattle.vt_disk.specs.Members.{DiskOf}

-- what stands under a name: nothing, a partition that was handed out, or this one
pub data Standing (D : Type 0) : Type 0 where
  nothing : Standing D
  lent : Standing D
  there : (disk : D) → Standing D

-- a partition of this length that a crash leaves so: with these bytes at its front, and zeros
pub record IsMade {D : Type 0} (disk : DiskOf D) (front : List ℕ) (len : ℕ) (made : D) : Type 0 where
  pub size : disk.size made ≡ len
  pub bytes : disk.bytes made ≡ filled len front
  pub settled : Only (disk.bytes made) (disk.images made)

-- What stood under the name is handed out as it is, or filled up to the length that is wanted; where
-- nothing stood there, it is made.
abbrev pub HandsOut : {D : Type 0} → DiskOf D → Standing D → (grow_to : Option ℕ) → (found : D)
    → Type 0
HandsOut disk nothing grow_to found =
    (least : ℕ) × (grow_to ≡ Some least) × IsMade disk [] least found
HandsOut disk lent grow_to found = ⊥
HandsOut disk (there old) grow_to found =
    ((unwrap_or grow_to 0 ≤ disk.size old) × (found ≡ old))
    ⊎ ((least : ℕ) × (grow_to ≡ Some least) × (disk.size old < least)
    × IsMade disk (disk.bytes old) least found)

-- what stood there still does, with the bytes and the images that it had
abbrev pub StaysThere : {D : Type 0} → DiskOf D → (old new : Standing D) → Type 0
StaysThere disk (there old) (there new) = (disk.size new ≡ disk.size old)
    × (disk.bytes new ≡ disk.bytes old) × ((c : List ℕ) → disk.images new c → disk.images old c)
StaysThere disk old new = new ≡ old
