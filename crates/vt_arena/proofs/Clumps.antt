-- What reading the clump of a block finds.
use Rattle.std.proofs.Common.{◌≡◌, ◌⊎◌, ⊎_elim, inl, inr, ℕ, ◌+◌, ◌-◌, ◌<◌, ◌≤◌, min, Bool, true, false, cond, Option, Some, None, List, [], ◌∷◌, ◌++◌, length, take, drop, Err, refl, sym, ◌∙◌, ap, subst, arith, append-nil, length-take, length-drop}
use Rattle.std.specs.Prelude.{slice_index}
use Rattle.std.specs.Str.{bytes_eq}
use Rattle.std.specs.List.{copy_within}
use Rattle.std.proofs.lemmas.Bool.{cases_lt}
use Rattle.std.proofs.lemmas.List.{get_or-take, get_or-drop, get_or_append_left, get_or_past, take-take, drop-take, drop-drop}
use Rattle.std.proofs.lemmas.List.Edits.{take-paste}
use Rattle.std.proofs.lemmas.Slice.Eq.{bytes_eq-Decides}
use Rattle.vt_base.specs.Bytes.{AreBytes}
use Rattle.vt_disk.specs.declared.region.Region.{Region}
use Rattle.vt_disk.specs.Disk.{part}
use Rattle.vt_clump.specs.declared.reading.ClumpBad.{ClumpBad}
use Rattle.vt_clump.specs.declared.reading.ClumpBad.TheVariants.{Short, Magic, Kind, Encoding, Size, Score, NoMemory as ClumpNoMemory}
use Rattle.vt_clump.specs.Faults.{first_fault, bad_header, bad_score, first_bad_clump}
use Rattle.vt_clump.specs.Spelling.{Stored, IsStoredBlock, BeginsWithClump, clump_bytes, size_in, stored_in}
use Rattle.vt_clump.proofs.ReadBack.{Passes, passed}
use Rattle.vt_arena.specs.declared.error.ReadBad.{ReadBad}
use Rattle.vt_arena.specs.declared.error.ReadBad.TheVariants.{Fault, Damaged, NoMemory}
use Rattle.vt_arena.specs.Layout.{Content, IsArenaContent, HasBlocks}
use Rattle.vt_arena.specs.Places.{offset_of}
use Rattle.vt_arena.specs.Reading.{HasHeader, header_at, clump_at, damage_of_clump, ReadsClumpAs}
use Rattle.vt_arena.proofs.Blocks.{stored, clump_there}
use Rattle.vt_arena.proofs.Layouts.{part-sum}

-- a fault and want of memory say nothing of the bytes
pub reads_nothing : (score_of : List ℕ → List ℕ) (bytes : List ℕ) (bad : ReadBad) → (bad ≡ Fault) ⊎ (bad ≡ NoMemory) → ReadsClumpAs score_of bytes (Err bad)
reads_nothing score_of bytes Fault is = tt
reads_nothing score_of bytes NoMemory is = tt
reads_nothing score_of bytes (Damaged want found) (inl is) = cc
reads_nothing score_of bytes (Damaged want found) (inr is) = cc

-- the first test that fails says how the bytes are damaged
module _ (score_of : List ℕ → List ℕ) (bytes : List ℕ) where
  damaged : (bad : ClumpBad) (answer : ReadBad) → first_bad_clump score_of bytes ≡ Some bad
      → answer ≡ Damaged (damage_of_clump bad).0 (damage_of_clump bad).1
      → ReadsClumpAs score_of bytes (Err answer)
  damaged bad answer first is =
      subst (λ (a : ReadBad). ReadsClumpAs score_of bytes (Err a)) (sym is) (bad, first, refl)

  pub reads_refusal : (bad : ClumpBad) (answer : ReadBad) → first_bad_clump score_of bytes ≡ Some bad
      → (¬ (bad ≡ ClumpNoMemory) → answer ≡ Damaged (damage_of_clump bad).0 (damage_of_clump bad).1)
      → (bad ≡ ClumpNoMemory → answer ≡ NoMemory)
      → ReadsClumpAs score_of bytes (Err answer)
  reads_refusal ClumpNoMemory answer first found memory =
      subst (λ (a : ReadBad). ReadsClumpAs score_of bytes (Err a)) (sym (memory refl)) tt
  reads_refusal Short answer first found memory =
      damaged Short answer first (found (λ is. cc))
  reads_refusal (Magic it) answer first found memory =
      damaged (Magic it) answer first (found (λ is. cc))
  reads_refusal (Kind it) answer first found memory =
      damaged (Kind it) answer first (found (λ is. cc))
  reads_refusal (Encoding it) answer first found memory =
      damaged (Encoding it) answer first (found (λ is. cc))
  reads_refusal (Size want it) answer first found memory =
      damaged (Size want it) answer first (found (λ is. cc))
  reads_refusal (Score want it) answer first found memory =
      damaged (Score want it) answer first (found (λ is. cc))

-- a header and what stands behind it, as far as the region goes, are the clump
module _ (region : Region) (offset : ℕ) (header block file : List ℕ) where
  abbrev rest : ℕ
  rest = min (size_in header) (region.len - (offset + 38))

  pub header_then_block : HasHeader region.len offset → header ≡ header_at region offset file
      → block ≡ part (region.start + (offset + 38)) rest file
      → header ++ block ≡ clump_at region offset file
  header_then_block inside header_is block_is =
      let place : region.start + (offset + 38) ≡ region.start + offset + 38 = omega arith in
      let size : size_in header ≡ size_in (header_at region offset file) = ap size_in header_is in
      let len : 38 + rest ≡ min (38 + size_in (header_at region offset file)) (region.len - offset) =
      omega (arith, inside.1, size) in
      (λ i. header_is i ++ block_is i)
      ∙ ap (λ (p : ℕ). header_at region offset file ++ part p rest file) place
      ∙ sym (part-sum (region.start + offset) 38 rest file)
      ∙ ap (λ (n : ℕ). part (region.start + offset) n file) len

-- the front of bytes
pub taken_bytes : (n : ℕ) (bytes : List ℕ) → AreBytes bytes → AreBytes (take n bytes)
taken_bytes n bytes are k = ⊎_elim
    (λ (below : k < n). subst (λ (b : ℕ). b < 256) (sym (get_or-take n bytes k 0 below)) (are k))
    (λ (past : n ≤ k). subst (λ (b : ℕ). b < 256) (sym (get_or_past (take n bytes) k 0 (omega (arith, length-take n bytes, past)))) (omega arith))
    (cases_lt k n)

-- what is read at once: a header, and what is behind it
module _ (region : Region) (offset size : ℕ) (bytes file : List ℕ) (inside : HasHeader region.len offset)
    (bytes_is : bytes ≡ part (region.start + offset) (min (38 + size) (region.len - offset)) file) where
  abbrev there : ℕ
  there = min size (region.len - (offset + 38))

  split : min (38 + size) (region.len - offset) ≡ 38 + there
  split = omega (arith, inside.1)

  bytes_split : bytes ≡ take (38 + there) (drop (region.start + offset) file)
  bytes_split = bytes_is ∙ ap (λ (n : ℕ). part (region.start + offset) n file) split

  pub header_read : take 38 bytes ≡ header_at region offset file
  header_read = ap (λ (l : List ℕ). take 38 l) bytes_split ∙ take-take 38 (38 + there) (drop (region.start + offset) file) (omega arith)

  behind_read : drop 38 bytes ≡ part (region.start + (offset + 38)) there file
  behind_read =
      ap (λ (l : List ℕ). drop 38 l) bytes_split
      ∙ drop-take 38 there (drop (region.start + offset) file)
      ∙ ap (λ (l : List ℕ). take there l) (drop-drop 38 (region.start + offset) file)
      ∙ ap (λ (p : ℕ). part p there file) place
    where
      place : region.start + offset + 38 ≡ region.start + (offset + 38)
      place = omega arith

  pub clump_read : (header block : List ℕ) (len : ℕ) → header ≡ take 38 bytes → len ≡ size_in header → len ≤ size
      → block ≡ take (min there len) (drop 38 bytes) → header ++ block ≡ clump_at region offset file
  clump_read header block len header_is len_is few block_is =
      header_then_block region offset header block file inside (header_is ∙ header_read)
      (block_is ∙ (λ i. take (count i) (behind_read i)) ∙ take-take rests there (drop (region.start + (offset + 38)) file) (omega (arith, count)))
    where
      rests : ℕ
      rests = min (size_in header) (region.len - (offset + 38))

      count : min there len ≡ rests
      count = omega (arith, len_is, few)

-- the bytes behind the header, moved to the front
pub moved_front : (bytes : List ℕ) (k : ℕ) → 38 ≤ length bytes → k ≤ length bytes - 38
    → take k (copy_within bytes 38 (length bytes) 0) ≡ take k (drop 38 bytes)
moved_front bytes k long few =
    sym (take-take k n (copy_within bytes 38 (length bytes) 0) few)
    ∙ ap (λ (l : List ℕ). take k l) all
    ∙ take-take k n (drop 38 bytes) few
  where
    n : ℕ
    n = length bytes - 38

    all : take n (copy_within bytes 38 (length bytes) 0) ≡ take n (drop 38 bytes)
    all = ap (λ (m : ℕ). take m (copy_within bytes 38 (length bytes) 0)) zeroth ∙ take-paste bytes 0 (drop 38 bytes) n (omega arith) (omega (arith, length-drop 38 bytes))
      where
        zeroth : n ≡ 0 + n
        zeroth = omega arith

none_first : (first later : Option ClumpBad) → first_fault first later ≡ None
    → (first ≡ None) × (later ≡ None)
none_first (Some bad) later none = absurd (cc)
none_first None later none = (refl, none)

none_at_end : (same : Bool) (bad : ClumpBad) → cond same None (Some bad) ≡ None → same ≡ true
none_at_end true bad none = refl
none_at_end false bad none = absurd (cc)

-- a header and a block in which no test fails are a clump
module _ (score_of : List ℕ → List ℕ) (header block : List ℕ) (len : length header ≡ 38)
    (are : AreBytes header) where
  time_byte : (k : ℕ) → k < 4 → slice_index (drop 34 (header ++ block)) k < 256
  time_byte k below =
      subst (λ (b : ℕ). b < 256)
      (sym (get_or-drop 34 (header ++ block) k 0
      ∙ get_or_append_left header block 0 (34 + k) (omega (arith, len, below))))
      (are (34 + k))

  pub good_stored : first_bad_clump score_of (header ++ block) ≡ None
      → IsStoredBlock score_of (stored_in (header ++ block))
  good_stored good =
      let bytes : List ℕ = header ++ block in
      let s : Stored = stored_in bytes in
      let tests = none_first (bad_header bytes) (bad_score score_of s) good in
      let pass : Passes bytes = passed bytes tests.0 in
      let same : bytes_eq (score_of s.block) s.score ≡ true = none_at_end _ _ tests.1 in record {
        kind = pass.kind;
        scored = sym ((bytes_eq-Decides (score_of s.block) s.score).0 same);
        score_len = omega (arith, length-take 20 (drop 9 bytes), length-drop 9 bytes, pass.long);
        creator_len = omega (arith, length-take 4 (drop 30 bytes), length-drop 30 bytes, pass.long);
        time = omega (
          arith,
          time_byte 0 (omega arith),
          time_byte 1 (omega arith),
          time_byte 2 (omega arith),
          time_byte 3 (omega arith),
        );
        some = omega (
          arith,
          length-take (size_in bytes) (drop 38 bytes),
          length-drop 38 bytes,
          pass.inside,
          pass.some,
        );
        most = omega (arith, length-take (size_in bytes) (drop 38 bytes), pass.most);
      }

  size_at : (k : ℕ) → k < 2 → slice_index (drop 5 (header ++ block)) k ≡ slice_index (drop 5 header) k
  size_at k below =
      get_or-drop 5 (header ++ block) k 0
      ∙ get_or_append_left header block 0 (5 + k) (omega (arith, len, below))
      ∙ sym (get_or-drop 5 header k 0)

  -- whose block has as many bytes as the header says
  pub good_len : first_bad_clump score_of (header ++ block) ≡ None
      → size_in header ≡ length (stored_in (header ++ block)).block
  good_len good =
      let bytes : List ℕ = header ++ block in
      let pass : Passes bytes = passed bytes (none_first (bad_header bytes) (bad_score score_of (stored_in bytes)) good).0 in
      omega (
        arith,
        size_at 0 (omega arith),
        size_at 1 (omega arith),
        length-take (size_in bytes) (drop 38 bytes),
        length-drop 38 bytes,
        pass.inside,
      )

-- at its place stands the clump of a block
pub begins_there : (score_of : List ℕ → List ℕ) (region : Region) (old : Content) (before behind : List Stored) (s : Stored) (file bytes : List ℕ) (offset : ℕ)
    → IsArenaContent score_of region.len old → HasBlocks region old file → old.stored ≡ before ++ s ∷ behind → offset ≡ offset_of old.version before
    → bytes ≡ clump_at region offset file → BeginsWithClump score_of s bytes
begins_there score_of region old before behind s file bytes offset content blocks split offset_is is = record {
  stored = stored score_of region old before behind s file content blocks split;
  spelling = (
    [],
    is ∙ ap (λ (n : ℕ). clump_at region n file) offset_is ∙ clump_there score_of region old before behind s file content blocks split ∙ sym (append-nil (clump_bytes s)),
  );
}
