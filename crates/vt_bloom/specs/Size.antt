-- How large a filter is, and where it stands on its device.
use Rattle.std.specs.Prelude.{◌≡◌, ℕ, ◌+◌, ◌-◌, ◌*◌, ◌^◌, ◌≤◌}
use Rattle.vt_disk.specs.declared.TheConstants.{BLOCK_LEN}
use Rattle.vt_disk.specs.declared.region.Region.{Region}

-- the bytes of a filter of 2^m bits
abbrev pub filter_size : (m : ℕ) → ℕ
filter_size m = 2 ^ (m - 3)

-- which sizes a filter may have: from 8,192 to 1,048,576 bytes
pub record IsFilterSize (m size : ℕ) : Type 0 where
  pub least : 16 ≤ m
  pub most : m ≤ 23
  pub bytes : size ≡ filter_size m

-- How many bytes a frame of a filter has: a block, and then the bits.
abbrev pub filter_frame_len : (m : ℕ) → ℕ
filter_frame_len m = BLOCK_LEN + filter_size m

-- How many bytes a filter takes: two frames, and a block for the selector.
abbrev pub filter_len : (m : ℕ) → ℕ
filter_len m = 2 * filter_frame_len m + BLOCK_LEN

-- The region of a filter's frames and selector, which stand at the device's start.
abbrev pub filter_region : (m : ℕ) → Region
filter_region m = record { start = 0; len = filter_len m }

-- A device of this length has room for a filter of 2^m bits and for no larger one. Its filter has
-- that size and no other, so where the selector stands depends on the length alone.
pub record IsLargest (len m : ℕ) : Type 0 where
  pub least : 16 ≤ m
  pub most : m ≤ 23
  pub fits : filter_len m ≤ len
  pub no_larger : (n : ℕ) → n ≤ 23 → filter_len n ≤ len → n ≤ m
