-- The fields of a head in what mounting reads of its arena.
use Rattle.std.proofs.Common.{◌≡◌, ◌∙◌, ℕ, ◌+◌, ◌-◌, ◌*◌, ◌<◌, ◌≤◌, true, false, cond, List, [], ◌++◌, length, take, drop, sym, ap, arith, append-nil, length-take, length-drop}
use Rattle.std.specs.Prelude.{slice_index, ◌%◌}
use Rattle.std.proofs.Math.Nat.{mod-lt}
use Rattle.std.proofs.lemmas.List.{drop-take, take_at}
use Rattle.byteorder.specs.Endian.{big_number}
use Rattle.byteorder.specs.Numbers.{big_from-take}
use Rattle.vt_arena.specs.declared.TheConstants.{FRAME_LEN}
use Rattle.vt_arena.specs.Faults.{last_offset, names_last, read_at}
use Rattle.vt_arena.specs.Heads.{fields_len, last_in, own_fields, used_in, version_in}
use Rattle.vt_arena.specs.Layout.{fields_at}
use Rattle.vt_arena.specs.Places.{IsArenaLen}
use Rattle.vt_arena.specs.Reading.{header_at}
use Rattle.vt_arena.proofs.Finds.{few_fields}
use Rattle.vt_disk.specs.declared.region.Region.{Region}

-- a version is told by the first bytes alone
version_taken : (n : ℕ) (bytes : List ℕ) → 6 ≤ n → version_in (take n bytes) ≡ version_in bytes
version_taken n bytes within =
    let split : n ≡ 4 + (n - 4) = omega (arith, within) in
    ap (λ (m : ℕ). version_in (take m bytes)) split
    ∙ ap (λ (l : List ℕ). big_number 2 l) (drop-take 4 (n - 4) bytes)
    ∙ big_from-take 0 2 (n - 4) (drop 4 bytes) (omega (arith, within))

module _ (region : Region) (number : ℕ) (file : List ℕ) (is_len : IsArenaLen region.len) (within : region.start + region.len ≤ length file) where
  -- the current one
  abbrev frame : List ℕ
  frame = take FRAME_LEN (drop (region.start + FRAME_LEN * (slice_index file (region.start + 2 * FRAME_LEN) % 2)) file)

  abbrev fields : List ℕ
  fields = fields_at region file

  abbrev count : ℕ
  count = fields_len (version_in frame)

  frame_len : 47 ≤ length frame
  frame_len =
      omega (
        arith,
        length-take FRAME_LEN (drop (region.start + FRAME_LEN * (slice_index file (region.start + 2 * FRAME_LEN) % 2)) file),
        length-drop (region.start + FRAME_LEN * (slice_index file (region.start + 2 * FRAME_LEN) % 2)) file,
        mod-lt (slice_index file (region.start + 2 * FRAME_LEN)) {m = 2} (omega arith),
        within,
        is_len.0,
      )

  fields_count : length fields ≡ count
  fields_count = omega (arith, length-take count frame, frame_len, (few_fields (version_in frame)).1)

  version_is : (behind : List ℕ) → version_in (fields ++ behind) ≡ version_in frame
  version_is behind =
      let least : 43 ≤ count = (few_fields (version_in frame)).0 in
      sym (version_taken count (fields ++ behind) (omega (arith, least)))
      ∙ ap (λ (l : List ℕ). version_in l) (take_at fields behind count fields_count)
      ∙ version_taken count frame (omega (arith, least))

  own_is : (behind : List ℕ) → own_fields (fields ++ behind) ≡ fields
  own_is behind =
      ap (λ (v : ℕ). take (fields_len v) (fields ++ behind)) (version_is behind)
      ∙ take_at fields behind count fields_count

  pub own_read : own_fields (read_at region number file) ≡ fields_at region file
  own_read =
      let header : List ℕ = header_at region (last_offset (used_in fields) (last_in fields)) file in
      elim (names_last number region.len fields) as (λ t. own_fields (cond t (fields ++ header) fields) ≡ fields) [
        | true ↦ own_is header
        | false ↦ ap (λ (l : List ℕ). own_fields l) (sym (append-nil fields)) ∙ own_is []
      ]
