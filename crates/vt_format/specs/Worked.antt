-- What a command does to the partition of a file.
use Rattle.std.specs.Prelude.{ℕ, ◌≡◌, ◌⊎◌, ◌≤◌, Bool, IsTrue, Some, Result, Err}
use Rattle.vt_base.specs.Faults.{HasRisen}
use Rattle.vt_base.specs.declared.mount.MountBad.{MountBad}
use Rattle.vt_base.specs.declared.mount.MountBad.TheVariants.{Fault}
use Rattle.vt_disk.specs.Members.{DiskOf}
use Rattle.vt_partitions.specs.Parts.{Standing, there, HandsOut, StaysThere}

-- The partition was handed out, with this length at least, was worked on, and is there again: so
-- far as the partitions tell what stands under their names, `told`.
pub record IsWorkedOn {D : Type 0} (disk : DiskOf D) (told : Type 0) (len : ℕ)
    (Work : D → D → Type 0) (old new : Standing D) : Type 0 where
  pub before : D
  pub after : D
  pub handed : told → HandsOut disk old (Some len) before
  pub long : len ≤ disk.size before
  pub work : Work before after
  pub back : told → new ≡ there after

-- This work was done on it, and the partitions' count of faults stayed; or it wasn't handed out,
-- which is told as a fault, and this count rose.
abbrev pub WorksOn : {D T : Type 0} → DiskOf D → (tells : Bool) → (len : ℕ)
    → (Work : Result T MountBad → D → D → Type 0) → (faults faults' : ℕ) → (old new : Standing D)
    → Result T MountBad → Type 0
WorksOn disk tells len Work faults faults' old new result =
    (IsWorkedOn disk (IsTrue tells) len (Work result) old new × (faults' ≡ faults))
    ⊎ ((IsTrue tells → StaysThere disk old new) × HasRisen faults faults' × (result ≡ Err Fault))
