-- Where the clump and the entry of each block stand.
use Rattle.std.proofs.Common.{◌≡◌, ℕ, suc, ◌+◌, ◌-◌, ◌≤◌, min, List, [], ◌∷◌, ◌++◌, length, take, refl, sym, ◌∙◌, ap, subst, arith, append_assoc, append-nil, length-append}
use Rattle.std.specs.Prelude.{All, IsTrue}
use Rattle.std.proofs.lemmas.List.{take_at, drop_at, get_or_append_left}
use Rattle.byteorder.specs.Endian.{big_bytes}
use Rattle.byteorder.specs.Numbers.{big_number-reads_back}
use Rattle.vt_disk.specs.declared.region.Region.{Region}
use Rattle.vt_disk.specs.Disk.{part}
use Rattle.vt_clump.specs.Spelling.{Stored, IsStoredBlock, clump_header, clump_bytes, size_in}
use Rattle.vt_model.specs.declared.TheConstants.{ARENA_HEAD_LEN}
use Rattle.vt_arena.specs.Layout.{Content, IsArenaContent, HasBlocks, BytesStandAt, ClumpsStandAt, arena_entry, directory_of, directory_place, has_directory, used_of}
use Rattle.vt_arena.specs.Places.{block_room, entries_len, offset_of}
use Rattle.vt_arena.specs.Reading.{HasHeader, header_at, clump_at}
use Rattle.vt_arena.proofs.Layouts.{part-part, length-directory, length-entry, spelled_len, spelled_room, directory-append, used-append, used-cons, content_fits}
use Rattle.vt_arena.proofs.Standing.{stand-behind}

-- what stands in the middle of what stands somewhere
pub stands-part : (place : ℕ) (low mid high file : List ℕ) → BytesStandAt place (low ++ (mid ++ high)) file → BytesStandAt (place + length low) mid file
stands-part place low mid high file stands =
    sym (part-part place (length (low ++ (mid ++ high))) (length low) (length mid) file (omega (arith, length-append low (mid ++ high), length-append mid high)))
    ∙ ap (λ (l : List ℕ). part (length low) (length mid) l) stands
    ∙ ap (λ (l : List ℕ). take (length mid) l) (drop_at low (mid ++ high) (length low) refl)
    ∙ take_at mid high (length mid) refl

module _ {X : Type 0} (P : X → Type 0) where
  pub all_front : (xs ys : List X) → All P (xs ++ ys) → All P xs
  all_front xs ys all k d below =
      subst P (get_or_append_left xs ys d k below) (all k d (omega (arith, length-append xs ys, below)))

  pub all_back : (xs ys : List X) → All P (xs ++ ys) → All P ys
  all_back [] ys all = all
  all_back (x ∷ xs) ys all = all_back xs ys (λ k d below. all (suc k) d (omega (arith, below)))

-- the header says how long the block is
pub spelled_header : (score_of : List ℕ → List ℕ) (s : Stored) → IsStoredBlock score_of s → take 38 (clump_bytes s) ≡ clump_header s
unfolding clump_bytes
spelled_header score_of s is = take_at (clump_header s) s.block 38 (omega (arith, is.score_len, is.creator_len, length-append s.score (1 ∷ (s.creator ++ big_bytes 4 s.time)), length-append s.creator (big_bytes 4 s.time)))

header_size : (score_of : List ℕ → List ℕ) (s : Stored) → IsStoredBlock score_of s → size_in (clump_header s) ≡ length s.block
header_size score_of s is =
    big_number-reads_back 2 (length s.block) (big_bytes 2 (length s.block) ++ (s.score ++ (1 ∷ (s.creator ++ big_bytes 4 s.time)))) (omega (arith, is.most))

-- a block, and those before it and behind it
module _ (score_of : List ℕ → List ℕ) (region : Region) (old : Content) (before behind : List Stored) (s : Stored) (file : List ℕ)
    (content : IsArenaContent score_of region.len old) (blocks : HasBlocks region old file) (is : old.stored ≡ before ++ s ∷ behind) where
  all : All (IsStoredBlock score_of) (before ++ s ∷ behind)
  all = subst (λ (l : List Stored). All (IsStoredBlock score_of) l) is content.stored

  pub stored : IsStoredBlock score_of s
  stored = all_back (IsStoredBlock score_of) before (s ∷ behind) all 0 s (omega arith)

  pub used_split : used_of old.version old.stored ≡ used_of old.version before + (block_room old.version (length s.block) + used_of old.version behind)
  used_split = ap (used_of old.version) is ∙ used-append old.version before (s ∷ behind) ∙ ap (λ (n : ℕ). used_of old.version before + n) (used-cons old.version s behind)

  pub count_split : length old.stored ≡ length before + (length behind + 1)
  count_split = ap (λ (l : List Stored). length l) is ∙ length-append before (s ∷ behind) ∙ omega arith

  pub clump_stands : BytesStandAt (region.start + offset_of old.version before) (clump_bytes s) file
  clump_stands =
      subst (λ (at : ℕ). BytesStandAt at (clump_bytes s) file) (omega arith)
      (stand-behind old.version (region.start + ARENA_HEAD_LEN) before (s ∷ behind) file
      (subst (λ (l : List Stored). ClumpsStandAt old.version (region.start + ARENA_HEAD_LEN) l file) is blocks.clumps)).0

  entries : directory_of old.stored ≡ directory_of behind ++ (arena_entry s ++ directory_of before)
  entries =
      ap directory_of is
      ∙ directory-append before (s ∷ behind)
      ∙ ap (λ (l : List ℕ). l ++ directory_of before) (directory-append (s ∷ []) behind)
      ∙ append_assoc (directory_of behind) (arena_entry s ++ []) (directory_of before)
      ∙ ap (λ (l : List ℕ). directory_of behind ++ (l ++ directory_of before)) (append-nil (arena_entry s))

  pub entry_stands : IsTrue (has_directory old) → part (directory_place region (length before + 1)) 25 file ≡ arena_entry s
  entry_stands there =
      let len : length (arena_entry s) ≡ 25 = length-entry score_of s stored in
      let fits = content_fits score_of region.len old content in
      let rest : length (directory_of behind) ≡ entries_len (length behind) =
      length-directory score_of behind (all_back (IsStoredBlock score_of) (s ∷ []) behind (all_back (IsStoredBlock score_of) before (s ∷ behind) all)) in
      ap (λ (n : ℕ). part (directory_place region (length before + 1)) n file) (sym len)
      ∙ subst (λ (at : ℕ). BytesStandAt at (arena_entry s) file) (omega (arith, rest, count_split, fits))
      (stands-part (directory_place region (length old.stored)) (directory_of behind) (arena_entry s) (directory_of before) file
      (subst (λ (l : List ℕ). BytesStandAt (directory_place region (length old.stored)) l file) entries (blocks.directory there)))

  clump_len : length (clump_bytes s) ≡ 38 + length s.block
  clump_len = spelled_len score_of s stored

  clump_room : length (clump_bytes s) ≤ block_room old.version (length s.block)
  clump_room = spelled_room score_of old.version s stored

  -- what a read of it finds
  pub has_header : HasHeader region.len (offset_of old.version before)
  has_header = (omega arith, omega (arith, content_fits score_of region.len old content, used_split, clump_len, clump_room))

  pub header_there : header_at region (offset_of old.version before) file ≡ clump_header s
  header_there =
      sym (part-part (region.start + offset_of old.version before) (length (clump_bytes s)) 0 38 file (omega (arith, clump_len)) ∙ ap (λ (p : ℕ). part p 38 file) (omega arith))
      ∙ ap (λ (l : List ℕ). take 38 l) clump_stands ∙ spelled_header score_of s stored

  pub header_says : size_in (header_at region (offset_of old.version before) file) ≡ length s.block
  header_says = ap size_in header_there ∙ header_size score_of s stored

  pub clump_there : clump_at region (offset_of old.version before) file ≡ clump_bytes s
  clump_there =
      let len : min (38 + size_in (header_at region (offset_of old.version before) file)) (region.len - offset_of old.version before) ≡ length (clump_bytes s) =
      omega (arith, header_says, clump_len, clump_room, content_fits score_of region.len old content, used_split) in
      ap (λ (n : ℕ). part (region.start + offset_of old.version before) n file) len ∙ clump_stands
