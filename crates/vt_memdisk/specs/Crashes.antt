-- What a crash leaves of the bytes that were touched since the last sync, in each mode.
use Rattle.std.specs.Prelude.{◌≡◌, ℕ, ◌+◌, ◌%◌, ◌==◌, Bool, true, false, List, length, slice_index, if◌then◌else◌}
use Rattle.vt_memdisk.specs.declared.crash.CrashMode.{CrashMode}
use Rattle.vt_memdisk.specs.declared.crash.CrashMode.TheVariants.{Synced, Written, EvenWritten, Garbled}
use Rattle.vt_memdisk.specs.Cells.{is_pending}

-- of the byte at this place
abbrev pub left_byte : CrashMode → (at synced written : ℕ) → ℕ
left_byte Synced at synced written = synced
left_byte Written at synced written = written
left_byte EvenWritten at synced written = if at % 2 == 0 then written else synced
left_byte Garbled at synced written = 0xa5

-- of all of them; the others stay as they were written
pub record IsLeftBy (mode : CrashMode) (pending : List Bool) (synced written left : List ℕ)
    : Type 0 where
  pub same_length : length left ≡ length written
  pub touched : (i : ℕ) → is_pending pending i ≡ true → slice_index left i
      ≡ left_byte mode i (slice_index synced i) (slice_index written i)
  pub others : (i : ℕ) → is_pending pending i ≡ false → slice_index left i ≡ slice_index written i
