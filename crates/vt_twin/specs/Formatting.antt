-- The three device calls of formatting: it writes frame 0 and a selector that names it, and syncs.
use Rattle.std.specs.Prelude.{◌≡◌, ◌⊎◌, ℕ, ◌+◌, ◌<◌, ◌≤◌, IsTrue, List, length}
use Rattle.vt_disk.specs.declared.region.Region.{Region}
use Rattle.vt_disk.specs.Calls.{WritesAt, MadeCalls}
use Rattle.vt_disk.specs.Disk.{Touches}
use Rattle.vt_disk.specs.Members.{DiskOf}
use Rattle.vt_twin.specs.Frames.{frame_start, selector_start, selector_len, frame_of, selector_of, selector_bytes}

-- what the first so many of them touch
abbrev pub TouchedByFirst : (many : ℕ) → Region → (n : ℕ) → ℕ → Type 0
TouchedByFirst many region n i = ((1 ≤ many) × Touches (frame_start region n 0) n i)
    ⊎ ((2 ≤ many) × Touches (selector_start region n) (selector_len region n) i)

-- Formatting ended at a call that failed, where `made` calls before it didn't: nothing was written
-- behind that call, and a selector only behind a frame that was written whole.
pub record EndsFormat {D : Type 0} (disk : DiskOf D) (region : Region) (frame : List ℕ) (made : ℕ)
    (old new : D) : Type 0 where
  pub few : made < 3
  pub calls : MadeCalls disk (made + 1) old new
  pub writes : WritesAt disk (TouchedByFirst (made + 1) region (length frame)) (made + 1) old new
  pub frame_is : 1 ≤ made → IsTrue disk.tells
      → frame_of region (length frame) 0 (disk.bytes new) ≡ frame
  pub selector_is : 2 ≤ made → IsTrue disk.tells
      → selector_of region (length frame) (disk.bytes new)
      ≡ selector_bytes 0 (selector_len region (length frame))
