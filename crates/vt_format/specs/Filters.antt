-- What formatting makes of the partition of a Bloom filter (venti(8), fmtbloom).
use Rattle.std.specs.Prelude.{ℕ, ◌≡◌, ◌≢◌, ◌⊎◌, IsTrue, List, Result, OnOk, IfErr}
use Rattle.vt_base.specs.Faults.{HasRisen}
use Rattle.vt_base.specs.declared.mount.MountBad.{MountBad}
use Rattle.vt_base.specs.declared.mount.MountBad.TheVariants.{Fault, Disagree, NoMemory}
use Rattle.vt_base.specs.declared.mount.MountField.TheVariants.{M}
use Rattle.vt_bloom.specs.Frame.{HasSaved, empty_of}
use Rattle.vt_bloom.specs.Size.{IsLargest, filter_region}
use Rattle.vt_disk.specs.Calls.{IsSynced, WritesWithin}
use Rattle.vt_disk.specs.Members.{DiskOf}

-- The device has a filter of 2^m bits, the most that it has room for, of which each score has k:
-- none is set, and the mark is 0, whatever a crash leaves.
pub record BecomesFilter {D : Type 0} (disk : DiskOf D) (m k : ℕ) (old new : D) : Type 0 where
  pub largest : IsLargest (disk.size old) m
  pub saved : IsTrue disk.tells → (c : List ℕ) → disk.images new c → HasSaved (empty_of m k) c
  pub settled : IsSynced disk new

-- The device is refused where its length wants another size of filter, and is as it was; so it is
-- where memory runs out; or one of its calls failed.
abbrev pub RefusesFilter : {D : Type 0} → DiskOf D → (m : ℕ) → MountBad → (old new : D) → Type 0
RefusesFilter disk m bad old new =
    ((want : ℕ) × IsLargest (disk.size old) want × (m ≢ want) × (bad ≡ Disagree 0 M m want)
    × (new ≡ old))
    ⊎ ((bad ≡ NoMemory) × (new ≡ old))
    ⊎ ((bad ≡ Fault) × HasRisen (disk.faults old) (disk.faults new))

-- Nothing is written but the filter, by three calls at most.
pub record FormatsFilter {D : Type 0} (disk : DiskOf D) (m k : ℕ)
    (result : Result (Unit {0}) MountBad) (old new : D) : Type 0 where
  pub writes : WritesWithin disk (filter_region m) 3 old new
  pub formatted : OnOk result (BecomesFilter disk m k old new)
  pub refused : IfErr result (λ bad. RefusesFilter disk m bad old new)
