-- Why a section or a filter isn't opened, as the store tells it.
use Rattle.std.specs.Prelude.{◌≡◌, ℕ, ◌+◌, IsTrue, Some, List, slice_get}
use Rattle.vt_base.specs.declared.mount.MountBad.{MountBad}
use Rattle.vt_base.specs.declared.mount.MountBad.TheVariants.{Fault}
use Rattle.vt_disk.specs.Members.{DiskOf}
use Rattle.vt_twin.specs.Frames.{current_frame}
use Rattle.vt_isect.specs.declared.TheConstants.{FRAME_LEN}
use Rattle.vt_isect.specs.declared.error.SectBad.{SectBad}
use Rattle.vt_isect.specs.Faults.{RefusesSectionMount, NamesSectionCause}
use Rattle.vt_isect.specs.Layout.{head_place}
use Rattle.vt_bloom.specs.declared.error.BloomError.{BloomError}
use Rattle.vt_bloom.specs.Faults.{RefusesFilterMount, NamesFilterCause}
use Rattle.vt_log.specs.Faults.{OneHasRisen}
use Rattle.vt_mount_errors.specs.MountErrors.{of_filter, of_section}

-- The device of a section is refused, of which the first is this part of the store.
pub record SectionIsRefused {D : Type 0} (disk : DiskOf D) (part : ℕ) (devices : List D)
    (bad : MountBad) : Type 0 where
  pub i : ℕ
  pub device : D
  pub at : slice_get devices i ≡ Some device
  pub why : SectBad
  pub bad_is : bad ≡ of_section (part + i) why
  pub names : NamesSectionCause (disk.size device) why
  pub refuses : IsTrue disk.tells → RefusesSectionMount (disk.size device)
      (current_frame head_place FRAME_LEN (disk.bytes device)) why

-- The device of the filter, which is this part of the store, is refused.
pub record FilterIsRefused {D : Type 0} (disk : DiskOf D) (part : ℕ) (devices : List D)
    (bad : MountBad) : Type 0 where
  pub device : D
  pub at : slice_get devices 0 ≡ Some device
  pub why : BloomError
  pub bad_is : bad ≡ of_filter part why
  pub names : NamesFilterCause (disk.size device) why
  pub refuses : IsTrue disk.tells → RefusesFilterMount (disk.bytes device) (disk.size device) why

-- of all counts of faults one rose where a fault is told, and else none
abbrev pub CountsRefusal : MountBad → (old new : List ℕ) → Type 0
CountsRefusal Fault old new = OneHasRisen old new
CountsRefusal bad old new = new ≡ old
