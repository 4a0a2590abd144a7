-- What holds of all saved filters.
use Rattle.std.specs.Prelude.{◌≡◌, ℕ, ◌<◌, ◌≤◌, ◌^◌, List, ◌++◌, take, slice_index, None}
use Rattle.vt_bloom.specs.Bits.{IsFilter}
use Rattle.vt_bloom.specs.Faults.{first_bad_filter}
use Rattle.vt_bloom.specs.Frame.{Saved, Covers, IsFilterFrame, HasSaved, saved_frame, current_of}
use Rattle.vt_bloom.specs.Size.{IsLargest}

-- no frame is that of two filters, and no device has two saved
abbrev pub IsUnambiguous : Type 0
IsUnambiguous = (s t : Saved) (frame : List ℕ) → IsFilterFrame s frame → IsFilterFrame t frame → s
    ≡ t

-- a file holds one saved filter at most
abbrev pub HasOneSaved : Type 0
HasOneSaved = (s t : Saved) (file : List ℕ) → HasSaved s file → HasSaved t file → s ≡ t

-- a filter's frame, as it is written, is its frame
abbrev pub WritesFrames : Type 0
WritesFrames = (saved : Saved) → IsFilter saved.filter → saved.mark < 2 ^ 64
    → ((i : ℕ) → slice_index saved.filter.words i < 2 ^ 64)
    → IsFilterFrame saved (saved_frame saved)

-- no test fails on a device that has a filter saved
abbrev pub PassesSaved : Type 0
PassesSaved = (saved : Saved) (file : List ℕ) → HasSaved saved file
    → first_bad_filter saved.filter.m (current_of saved.filter.m file) ≡ None

-- one size alone is the largest
abbrev pub HasOneSize : Type 0
HasOneSize = (len m n : ℕ) → IsLargest len m → IsLargest len n → m ≡ n

-- a mark that is true stays so when blocks are added, and when the log is cut behind it
abbrev pub CoversMore : Type 0
CoversMore = (saved : Saved) (scores more : List (List ℕ)) → Covers scores saved
    → Covers (scores ++ more) saved

-- a filter that covers scores covers the first of them, down to its mark
abbrev pub CoversFewer : Type 0
CoversFewer = (saved : Saved) (scores : List (List ℕ)) (n : ℕ) → Covers scores saved
    → saved.mark ≤ n → Covers (take n scores) saved
