-- A bounded part of a disk.
use Rattle.std.specs.Prelude.{ℕ, ◌+◌, ◌<◌, ◌≤◌, List}
use Rattle.vt_disk.specs.declared.region.Region.{Region}
use Rattle.vt_disk.specs.Disk.{part, ChangesAt}

-- the region lies in a disk of this size
abbrev pub FitsDisk : Region → (size : ℕ) → Type 0
FitsDisk region size = region.start + region.len ≤ size

-- place i of the disk lies in the region
abbrev pub Inside : Region → ℕ → Type 0
Inside region i = (region.start ≤ i) × (i < region.start + region.len)

-- the region's bytes
abbrev pub region_bytes : Region → (file : List ℕ) → List ℕ
region_bytes region file = part region.start region.len file

-- what a crash may leave has changed in the region alone
abbrev pub ChangesWithin : Region → (old new : List ℕ → Type 0) → Type 0
ChangesWithin region old new = ChangesAt (Inside region) old new
