-- The frame of a saved filter, which this project lays out so: a block
--   magic[4] version[2] m[1] k[1] mark[8]
-- and then the words, of 8 bytes each. Numbers have their highest byte first. What lies behind the
-- mark in the block isn't read, and is written as zero.
use Rattle.std.specs.Prelude.{◌≡◌, ℕ, ◌-◌, ◌*◌, ◌<◌, ◌≤◌, List, ◌∷◌, ◌++◌, codes, length, take, drop, replicate, slice_get, slice_index, Some}
use Rattle.std.specs.List.{flat_map}
use Rattle.byteorder.specs.Endian.{big_number, big_bytes}
use Rattle.vt_disk.specs.declared.TheConstants.{BLOCK_LEN}
use Rattle.vt_twin.specs.Frames.{current_frame}
use Rattle.vt_bloom.specs.Bits.{Filter, HasBitsOf, IsFilter, clear_of}
use Rattle.vt_bloom.specs.Size.{filter_frame_len, filter_region, IsLargest}

-- A filter and its mark: the first so many blocks of the log have their bits set.
pub record Saved : Type 0 where
  pub filter : Filter
  pub mark : ℕ

-- The mark is true of a log whose blocks have these scores: there are so many, and each of them has
-- its bits set.
pub record Covers (scores : List (List ℕ)) (saved : Saved) : Type 0 where
  pub within : saved.mark ≤ length scores
  pub set : (i : ℕ) (score : List ℕ) → i < saved.mark → slice_get scores i ≡ Some score
      → HasBitsOf saved.filter score

-- the first four bytes of a frame (the fields here are by their places)
abbrev pub magic_in : List ℕ → List ℕ
magic_in frame = take 4 frame

-- the version field of a filter's frame
abbrev pub version_in : List ℕ → ℕ
version_in frame = big_number 2 (drop 4 frame)

-- the field of a filter's frame that tells of how many bits it is, as a power of two
abbrev pub m_in : List ℕ → ℕ
m_in frame = slice_index frame 6

-- the field of a filter's frame that tells how many positions a score has
abbrev pub k_in : List ℕ → ℕ
k_in frame = slice_index frame 7

-- the field of a filter's frame that tells of how many blocks it has the bits
abbrev pub mark_in : List ℕ → ℕ
mark_in frame = big_number 8 (drop 8 frame)

-- words of 8 bytes stand there, one behind another
pub record HaveWords (bytes words : List ℕ) : Type 0 where
  pub each : (i : ℕ) → i < length words
      → slice_index words i ≡ big_number 8 (drop (8 * i) bytes)

-- the frame is that of this filter
pub record IsFilterFrame (saved : Saved) (frame : List ℕ) : Type 0 where
  pub filter : IsFilter saved.filter
  pub magic : magic_in frame ≡ codes "VBLM"
  pub version : version_in frame ≡ 1
  pub m : m_in frame ≡ saved.filter.m
  pub k : k_in frame ≡ saved.filter.k
  pub mark : mark_in frame ≡ saved.mark
  pub words : HaveWords (drop BLOCK_LEN frame) saved.filter.words

-- the bytes of its fields
abbrev pub head_bytes : (m k mark : ℕ) → List ℕ
head_bytes m k mark = codes "VBLM" ++ (big_bytes 2 1 ++ (m ∷ (k ∷ big_bytes 8 mark)))

-- the frame as it is written
abbrev pub saved_frame : Saved → List ℕ
saved_frame saved =
    (head_bytes saved.filter.m saved.filter.k saved.mark ++ replicate (BLOCK_LEN - 16) 0)
    ++ flat_map (big_bytes 8) saved.filter.words

-- the current frame of a device with a filter of 2^m bits
abbrev pub current_of : (m : ℕ) → (file : List ℕ) → List ℕ
current_of m file = current_frame (filter_region m) (filter_frame_len m) file

-- a device of these bytes has this filter saved
pub record HasSaved (saved : Saved) (file : List ℕ) : Type 0 where
  pub largest : IsLargest (length file) saved.filter.m
  pub frame : IsFilterFrame saved (current_of saved.filter.m file)

-- the filter that formatting saves: no bit is set, and the mark is 0
abbrev pub empty_of : (m k : ℕ) → Saved
empty_of m k = record { filter = clear_of m k; mark = 0 }
