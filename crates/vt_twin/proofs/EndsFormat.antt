-- What formatting leaves.
use Rattle.std.proofs.Common.{◌≡◌, ⊎_elim, inl, inr, ℕ, ◌+◌, ◌-◌, ◌%◌, ◌<◌, ◌≤◌, List, length, get_or, sym, ◌∙◌, ap, subst, arith}
use Rattle.std.proofs.lemmas.List.{length-replicate}
use Rattle.vt_disk.specs.declared.region.Region.{Region}
use Rattle.vt_disk.specs.Calls.{OnlyReads, WritesAt, WritesWithin}
use Rattle.vt_disk.specs.Disk.{Touches, SameBut, with_bytes, part}
use Rattle.vt_disk.specs.Members.{DiskOf}
use Rattle.vt_disk.specs.Region.{Inside}
use Rattle.vt_disk.proofs.Bytes.{length-with_bytes, part-with_bytes, with_bytes_within, same_but_written}
use Rattle.vt_disk.proofs.Calls.{writes_then, writes_wider, reads_as_writes}
use Rattle.vt_twin.specs.Formatting.{TouchedByFirst}
use Rattle.vt_twin.specs.Frames.{FitsTwin, frame_start, selector_start, selector_len, selector_bytes, frame_of, current_frame}
use Rattle.vt_twin.proofs.Places.{frame_apart, selector_apart, frame_within, selector_within, frame_same}

-- what a write of the selector touches
abbrev Selector : Region → (n : ℕ) → ℕ → Type 0
Selector region n = Touches (selector_start region n) (selector_len region n)

module _ (region : Region) (n size : ℕ) (room : FitsTwin region n size) where
  -- frame 0 begins with the region
  at_start : region.start + 0 ≡ frame_start region n (1 - 1)
  at_start = omega arith

  -- what formatting touches lies in the region
  first_inside : (many i : ℕ) → TouchedByFirst many region n i → Inside region i
  first_inside many i = ⊎_elim
      (λ frame. frame_within region n size room 0 (omega arith) i frame.1)
      (λ selector. selector_within region n size room i selector.1)

  module _ {D : Type 0} (disk : DiskOf D) (old mid : D) (frame : WritesAt disk (Touches (region.start + 0) n) 1 old mid) where
    -- the frame's write
    pub frame_writes : (many : ℕ) → 1 ≤ many → WritesAt disk (TouchedByFirst many region n) 1 old mid
    frame_writes many some = writes_wider disk (Touches (region.start + 0) n) (TouchedByFirst many region n)
        (λ i touched. inl (some, subst (λ (s : ℕ). Touches s n i) at_start touched)) 1 1 (omega arith) old mid frame

    -- and the selector's
    pub both_write : (new : D) → WritesAt disk (Selector region n) 1 mid new → (many : ℕ) → 2 ≤ many → WritesAt disk (TouchedByFirst many region n) 2 old new
    both_write new selector many some =
        writes_then disk (TouchedByFirst many region n) 1 1 old mid new (frame_writes many (omega arith))
        (writes_wider disk (Selector region n) (TouchedByFirst many region n) (λ i touched. inr (some, touched)) 1 1 (omega arith) mid new selector)

    -- and a sync
    pub all_write : (new last : D) → WritesAt disk (Selector region n) 1 mid new → OnlyReads disk 1 new last → WritesAt disk (TouchedByFirst 3 region n) 3 old last
    all_write new last selector sync =
        writes_then disk (TouchedByFirst 3 region n) 2 1 old new last (both_write new selector 3 (omega arith))
        (reads_as_writes disk (TouchedByFirst 3 region n) 1 new last sync)

  pub first_writes_within : {D : Type 0} (disk : DiskOf D) (many calls : ℕ) → calls ≤ 3 → (old new : D) → WritesAt disk (TouchedByFirst many region n) calls old new → WritesWithin disk region 3 old new
  first_writes_within disk many calls few old new = writes_wider disk (TouchedByFirst many region n) (Inside region) (first_inside many) calls 3 few old new

-- the disk with the frame written, and then the selector
abbrev pub framed : Region → (frame file : List ℕ) → List ℕ
framed region frame file = with_bytes (region.start + 0) frame file

abbrev pub formatted : Region → (frame file : List ℕ) → List ℕ
formatted region frame file = with_bytes (selector_start region (length frame)) (selector_bytes 0 (selector_len region (length frame))) (framed region frame file)

module _ (region : Region) (frame file : List ℕ) (size : ℕ) (room : FitsTwin region (length frame) size) (fits : length file ≡ size) where
  frame_fits : region.start + 0 + length frame ≤ length file
  frame_fits = omega (arith, fits, room.within, room.least)

  selector_length : length (selector_bytes 0 (selector_len region (length frame))) ≡ selector_len region (length frame)
  selector_length = omega (arith, length-replicate {A = ℕ} (selector_len region (length frame) - 1) 0, room.least)

  selector_fits : selector_start region (length frame) + length (selector_bytes 0 (selector_len region (length frame))) ≤ length (framed region frame file)
  selector_fits = omega (arith, selector_length, length-with_bytes (region.start + 0) frame file frame_fits, fits, room.within, room.least)

  behind : SameBut (Selector region (length frame)) (framed region frame file) (formatted region frame file)
  behind =
      subst (λ (k : ℕ). SameBut (Touches (selector_start region (length frame)) k) (framed region frame file) (formatted region frame file)) selector_length
      (same_but_written (selector_start region (length frame)) (selector_bytes 0 (selector_len region (length frame))) (framed region frame file) selector_fits)

  kept : (number : ℕ) → number < 2 → frame_of region (length frame) number (formatted region frame file) ≡ frame_of region (length frame) number (framed region frame file)
  kept number two =
      frame_same (Selector region (length frame)) region (length frame) number
      (selector_apart region (length frame) size room number two) (framed region frame file) (formatted region frame file) behind

  framed_frame : frame_of region (length frame) 0 (framed region frame file) ≡ frame
  framed_frame =
      ap (λ (s : ℕ). part s (length frame) (framed region frame file)) (sym (at_start region (length frame) size room))
      ∙ part-with_bytes (region.start + 0) frame file frame_fits

  -- whatever became of the selector
  pub frame_is_whole : (new : List ℕ) → SameBut (Selector region (length frame)) (framed region frame file) new → frame_of region (length frame) 0 new ≡ frame
  frame_is_whole new same =
      frame_same (Selector region (length frame)) region (length frame) 0
      (selector_apart region (length frame) size room 0 (omega arith)) (framed region frame file) new same
      ∙ framed_frame

  pub formatted_frame : frame_of region (length frame) 0 (formatted region frame file) ≡ frame
  formatted_frame = kept 0 (omega arith) ∙ framed_frame

  pub formatted_selector : part (selector_start region (length frame)) (selector_len region (length frame)) (formatted region frame file) ≡ selector_bytes 0 (selector_len region (length frame))
  formatted_selector =
      subst (λ (k : ℕ). part (selector_start region (length frame)) k (formatted region frame file) ≡ selector_bytes 0 (selector_len region (length frame))) selector_length
      (part-with_bytes (selector_start region (length frame)) (selector_bytes 0 (selector_len region (length frame))) (framed region frame file) selector_fits)

  pub formatted_idle : frame_of region (length frame) 1 (formatted region frame file) ≡ frame_of region (length frame) 1 file
  formatted_idle =
      kept 1 (omega arith)
      ∙ frame_same (Touches (frame_start region (length frame) 0) (length frame)) region (length frame) 1
      (frame_apart region (length frame) size room 1 (omega arith)) file (framed region frame file)
      (subst (λ (s : ℕ). SameBut (Touches s (length frame)) file (framed region frame file)) (at_start region (length frame) size room) (same_but_written (region.start + 0) frame file frame_fits))

  pub formatted_current : current_frame region (length frame) (formatted region frame file) ≡ frame
  formatted_current = ap (λ (k : ℕ). frame_of region (length frame) k (formatted region frame file)) (ap (λ (b : ℕ). b % 2) named) ∙ formatted_frame
    where
      named : get_or (formatted region frame file) (selector_start region (length frame)) 0 ≡ 0
      named =
          with_bytes_within (selector_start region (length frame)) (selector_bytes 0 (selector_len region (length frame))) (framed region frame file) selector_fits 0
          (selector_start region (length frame)) (omega arith) (omega (arith, selector_length, room.least))
          ∙ ap (λ (k : ℕ). get_or (selector_bytes 0 (selector_len region (length frame))) k 0) zeroth
        where
          zeroth : selector_start region (length frame) - selector_start region (length frame) ≡ 0
          zeroth = omega arith
