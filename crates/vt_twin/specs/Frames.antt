-- Two frames of n bytes each and, behind them, a selector, in a region of a disk. The parity of the
-- selector's first byte names the current frame. No manual page fixes how a store changes a block
-- of its own whole; this is the project's layout.
use Rattle.std.specs.Prelude.{ℕ, ◌+◌, ◌-◌, ◌*◌, ◌%◌, ◌≤◌, List, ◌∷◌, replicate, slice_index}
use Rattle.vt_disk.specs.declared.TheConstants.{SECTOR_LEN, BLOCK_LEN}
use Rattle.vt_disk.specs.declared.region.Region.{Region}
use Rattle.vt_disk.specs.Disk.{IsAligned, part, with_bytes}
use Rattle.vt_disk.specs.Region.{FitsDisk}

-- A region of a disk of this size that holds two frames of n bytes and a selector of a sector to a
-- block, each of them whole sectors, so that a torn write of one leaves the others.
pub record FitsTwin (region : Region) (n size : ℕ) : Type 0 where
  pub within : FitsDisk region size
  pub least : 2 * n + SECTOR_LEN ≤ region.len
  pub most : region.len ≤ 2 * n + BLOCK_LEN
  pub aligned_start : IsAligned region.start
  pub aligned_len : IsAligned region.len
  pub aligned_frames : IsAligned n

-- where frame 0 or 1 begins, and where the selector does
abbrev pub frame_start : Region → (n number : ℕ) → ℕ
frame_start region n number = region.start + n * number

-- where the selector begins: behind the two frames of n bytes each
abbrev pub selector_start : Region → (n : ℕ) → ℕ
selector_start region n = region.start + 2 * n

-- how many bytes the selector has: what the two frames leave of the region
abbrev pub selector_len : Region → (n : ℕ) → ℕ
selector_len region n = region.len - 2 * n

-- frame 0 or 1
abbrev pub frame_of : Region → (n number : ℕ) → (file : List ℕ) → List ℕ
frame_of region n number file = part (frame_start region n number) n file

-- the whole selector
abbrev pub selector_of : Region → (n : ℕ) → (file : List ℕ) → List ℕ
selector_of region n file = part (selector_start region n) (selector_len region n) file

-- the number of the frame that the selector names
abbrev pub named_number : Region → (n : ℕ) → (file : List ℕ) → ℕ
named_number region n file = slice_index file (selector_start region n) % 2

-- the frame that it names
abbrev pub current_frame : Region → (n : ℕ) → (file : List ℕ) → List ℕ
current_frame region n file = frame_of region n (named_number region n file) file

-- a selector of this length as it is written: the frame's number, and zeros
abbrev pub selector_bytes : (number len : ℕ) → List ℕ
selector_bytes number len = number ∷ replicate (len - 1) 0

-- the file with this frame written over frame 0 or 1, or with a selector that names one
abbrev pub with_frame : Region → (n number : ℕ) → (frame file : List ℕ) → List ℕ
with_frame region n number frame file = with_bytes (frame_start region n number) frame file

-- the file with the selector of this number written over
abbrev pub with_selector : Region → (n number : ℕ) → (file : List ℕ) → List ℕ
with_selector region n number file =
    with_bytes (selector_start region n) (selector_bytes number (selector_len region n)) file
