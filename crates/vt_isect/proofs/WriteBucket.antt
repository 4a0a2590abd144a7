-- The bytes of a bucket's place behind the two writes of its frame and its selector.
use Rattle.std.proofs.Common.{◌≡◌, ℕ, ◌+◌, List, length, replicate, sym, ◌∙◌, ap, subst, arith}
use Rattle.vt_disk.specs.declared.region.Region.{Region}
use Rattle.vt_disk.specs.Calls.{WritesAt, WritesWithin}
use Rattle.vt_disk.specs.Disk.{Touches, SameBut, with_bytes, part}
use Rattle.vt_disk.specs.Members.{DiskOf}
use Rattle.std.proofs.lemmas.List.{length-replicate}
use Rattle.vt_disk.proofs.Bytes.{part-with_bytes, length-with_bytes}
use Rattle.vt_twin.specs.Formatting.{TouchedByFirst}
use Rattle.vt_twin.specs.Frames.{FitsTwin, frame_of, selector_of, selector_start, selector_len, selector_bytes, current_frame}
use Rattle.vt_twin.proofs.EndsFormat.{frame_writes, both_write, first_writes_within, framed, formatted, formatted_frame, formatted_idle, formatted_current, frame_is_whole}

-- a frame of 8,192 bytes in the place of a bucket
module _ (place : Region) (frame : List ℕ) (size : ℕ) (len : length frame ≡ 8192) (place_len : place.len ≡ 16896) (room : FitsTwin place 8192 size) where
  own : FitsTwin place (length frame) size
  own = subst (λ (n : ℕ). FitsTwin place n size) (sym len) room

  start_is : place.start + 16384 ≡ selector_start place (length frame)
  start_is = omega (arith, len)

  len_is : 512 ≡ selector_len place (length frame)
  len_is = omega (arith, len, place_len)

  -- the writes, one after the other
  module _ {D : Type 0} (disk : DiskOf D) (old mid : D) (first : WritesAt disk (Touches (place.start + 0) (length frame)) 1 old mid) where
    pub frame_written : WritesAt disk (TouchedByFirst 1 place (length frame)) 1 old mid
    frame_written = frame_writes place (length frame) size own disk old mid first 1 (omega arith)

    pub first_within : WritesWithin disk place 2 old mid
    first_within =
        let it = first_writes_within place (length frame) size own disk 1 1 (omega arith) old mid frame_written in
        record { bytes = it.bytes; images = it.images; size = it.size; calls = λ told. omega (arith, frame_written.calls told) }

    module _ (new : D) (second : WritesAt disk (Touches (place.start + 16384) 512) 1 mid new) where
      pub selector_written : WritesAt disk (Touches (selector_start place (length frame)) (selector_len place (length frame))) 1 mid new
      selector_written =
          subst (λ (s : ℕ). WritesAt disk (Touches s (selector_len place (length frame))) 1 mid new) start_is
          (subst (λ (k : ℕ). WritesAt disk (Touches (place.start + 16384) k) 1 mid new) len_is second)

      pub both_written : WritesAt disk (TouchedByFirst 2 place (length frame)) 2 old new
      both_written = both_write place (length frame) size own disk old mid first new selector_written 2 (omega arith)

      pub both_within : WritesWithin disk place 2 old new
      both_within =
          let it = first_writes_within place (length frame) size own disk 2 2 (omega arith) old new both_written in
          record { bytes = it.bytes; images = it.images; size = it.size; calls = both_written.calls }

  module _ (file : List ℕ) (fits : length file ≡ size) where
    -- the frame stands, whatever becomes of the selector
    pub frame_left : (new : List ℕ) → SameBut (Touches (selector_start place (length frame)) (selector_len place (length frame))) (framed place frame file) new
        → frame_of place (length frame) 0 new ≡ frame
    frame_left new same = frame_is_whole place frame file size own fits new same

    written_is : with_bytes (place.start + 16384) (replicate 512 0) (framed place frame file) ≡ formatted place frame file
    written_is =
        ap (λ (s : ℕ). with_bytes s (replicate 512 0) (framed place frame file)) start_is
        ∙ ap (λ (k : ℕ). with_bytes (selector_start place (length frame)) (selector_bytes 0 k) (framed place frame file)) len_is

    module _ (new : List ℕ) (is : new ≡ with_bytes (place.start + 16384) (replicate 512 0) (framed place frame file)) where
      all : new ≡ formatted place frame file
      all = is ∙ written_is

      pub new_frame : frame_of place 8192 0 new ≡ frame
      new_frame = ap (λ (n : ℕ). frame_of place n 0 new) (sym len) ∙ ap (frame_of place (length frame) 0) all
          ∙ formatted_frame place frame file size own fits

      pub new_idle : frame_of place 8192 1 new ≡ frame_of place 8192 1 file
      new_idle = ap (λ (n : ℕ). frame_of place n 1 new) (sym len) ∙ ap (frame_of place (length frame) 1) all
          ∙ formatted_idle place frame file size own fits ∙ ap (λ (n : ℕ). frame_of place n 1 file) len

      pub new_current : current_frame place 8192 new ≡ frame
      new_current = ap (λ (n : ℕ). current_frame place n new) (sym len) ∙ ap (current_frame place (length frame)) all
          ∙ formatted_current place frame file size own fits

      pub new_selector : selector_of place 8192 new ≡ selector_bytes 0 512
      new_selector =
          ap (λ (k : ℕ). part (place.start + 16384) k new) (sym len_512)
          ∙ ap (part (place.start + 16384) (length zeros)) is
          ∙ part-with_bytes (place.start + 16384) zeros (framed place frame file) (omega (arith, len_512, framed_len, fits, room.within, place_len))
        where
          zeros : List ℕ
          zeros = replicate 512 0

          len_512 : length zeros ≡ selector_len place 8192
          len_512 = omega (arith, place_len, length-replicate {A = ℕ} 512 0)

          framed_len : length (framed place frame file) ≡ length file
          framed_len = length-with_bytes (place.start + 0) frame file (omega (arith, fits, own.within, own.least))
