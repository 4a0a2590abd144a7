-- What formatting makes of the partition of an index section (venti(8), fmtisect).
use Rattle.std.specs.Prelude.{ℕ, ◌≡◌, ◌⊎◌, ◌<◌, ◌≤◌, IsTrue, List, Result, IfOk, IfErr}
use Rattle.vt_base.specs.Faults.{HasRisen}
use Rattle.vt_base.specs.declared.mount.MountBad.{MountBad}
use Rattle.vt_base.specs.declared.mount.MountBad.TheVariants.{Fault, TooSmall}
use Rattle.vt_disk.specs.Calls.{IsSynced, WritesWithin}
use Rattle.vt_disk.specs.Members.{DiskOf}
use Rattle.vt_disk.specs.declared.TheConstants.{NAME_LEN}
use Rattle.vt_base.specs.Filled.{filled}
use Rattle.vt_isect.specs.declared.TheConstants.{FRAME_LEN, LEAST_LEN}
use Rattle.vt_isect.specs.Head.{IsHeadFrame}
use Rattle.vt_isect.specs.Layout.{buckets_in, formatted, head_place}
use Rattle.vt_twin.specs.Frames.{current_frame}

-- The disk is a section of this name that isn't in use, of as many buckets as it has room for:
-- whatever a crash leaves says state 0 and mark 0.
pub record BecomesSection {D : Type 0} (disk : DiskOf D) (name : List ℕ) (count : ℕ)
    (old new : D) : Type 0 where
  pub room : LEAST_LEN ≤ disk.size old
  pub buckets : count ≡ buckets_in (disk.size old)
  pub head : IsTrue disk.tells → (c : List ℕ) → disk.images new c
      → IsHeadFrame (filled NAME_LEN name) (formatted count) (current_frame head_place FRAME_LEN c)
  pub settled : IsSynced disk new

-- The disk is refused where it has no room for a bucket, and is as it was; or one of its calls
-- failed.
abbrev pub RefusesSection : {D : Type 0} → DiskOf D → MountBad → (old new : D) → Type 0
RefusesSection disk bad old new =
    ((disk.size old < LEAST_LEN) × (bad ≡ TooSmall 0 (disk.size old) LEAST_LEN) × (new ≡ old))
    ⊎ ((bad ≡ Fault) × HasRisen (disk.faults old) (disk.faults new))

-- Nothing is written but its head, by three calls at most.
pub record FormatsSection {D : Type 0} (disk : DiskOf D) (name : List ℕ)
    (result : Result ℕ MountBad) (old new : D) : Type 0 where
  pub writes : WritesWithin disk head_place 3 old new
  pub formatted : IfOk result (λ count. BecomesSection disk name count old new)
  pub refused : IfErr result (λ bad. RefusesSection disk bad old new)
