-- Lengths of clumps, entries and directories, and parts of a file.
use Rattle.std.proofs.Common.{◌≡◌, ℕ, zero, suc, ◌+◌, ◌-◌, ◌*◌, ◌<◌, ◌≤◌, ◌==◌, true, false, cond, List, [], ◌∷◌, ◌++◌, length, take, drop, map, reverse, refl, sym, ◌∙◌, ap, subst, arith, append-nil, append_assoc, length-append, length-take, take-append-drop}
use Rattle.std.specs.Prelude.{All, sum_by, slice_index}
use Rattle.std.specs.List.{flat_map}
use Rattle.std.proofs.lemmas.List.{take-take, drop-take, drop-drop, get_or-take, get_or-drop, reverse-append, length-map, map-append}
use Rattle.std.proofs.lemmas.List.Sums.{sum_by-cons, sum_by-append}
use Rattle.vt_disk.specs.declared.region.Region.{Region}
use Rattle.vt_disk.specs.Disk.{Touches, SameBut, part}
use Rattle.vt_disk.specs.Region.{region_bytes}
use Rattle.vt_disk.proofs.Bytes.{part_same}
use Rattle.vt_clump.specs.declared.packed.Packed.{Packed}
use Rattle.vt_clump.specs.Spelling.{Stored, IsStoredBlock, clump_bytes}
use Rattle.vt_clump.specs.Clumps.{IsPacked, stored_of}
use Rattle.vt_clump.proofs.ReadBack.{length-spelled}
use Rattle.vt_model.specs.Places.{whole_units}
use Rattle.vt_model.specs.declared.TheConstants.{CLUMP_HEADER_LEN, DIRECTORY_ENTRY_LEN, WRITTEN_VERSION}
use Rattle.vt_arena.specs.Layout.{Content, IsArenaContent, BytesStandAt, entry_bytes, arena_entry, directory_of, used_of}
use Rattle.vt_arena.specs.Places.{block_room, directory_room, arena_room, entries_len, lengths_of, Fit}
use Rattle.vt_arena.specs.Whole.{staged_room, staged_directory}

-- what a write touches lies in the written range
pub touched_within : (start n i : ℕ) → Touches start n i → (start ≤ i) × (i < start + n)
unfolding Touches
touched_within start n i touched = touched

-- a part, split
pub part-sum : (place m k : ℕ) (file : List ℕ) → part place (m + k) file ≡ part place m file ++ part (place + m) k file
part-sum place m k file =
    sym (take-append-drop m (take (m + k) (drop place file)))
    ∙ (λ i. take-take m (m + k) (drop place file) (omega arith) i ++ drop-take m k (drop place file) i)
    ∙ ap (λ (l : List ℕ). part place m file ++ take k l) (drop-drop m place file)

-- a part of a part
pub part-part : (start len place n : ℕ) (file : List ℕ) → place + n ≤ len → part place n (part start len file) ≡ part (start + place) n file
part-part start len place n file fits =
    ap (λ (l : List ℕ). take n l) (ap (λ (k : ℕ). drop place (take k (drop start file))) split ∙ drop-take place (len - place) (drop start file))
    ∙ take-take n (len - place) (drop place (drop start file)) (omega (arith, fits))
    ∙ ap (λ (l : List ℕ). take n l) (drop-drop place start file)
  where
    split : len ≡ place + (len - place)
    split = omega (arith, fits)

pub stands-sum : (place : ℕ) (low high file : List ℕ) → BytesStandAt place low file → BytesStandAt (place + length low) high file → BytesStandAt place (low ++ high) file
stands-sum place low high file first second =
    ap (λ (k : ℕ). part place k file) (length-append low high) ∙ part-sum place (length low) (length high) file ∙ (λ i. first i ++ second i)

-- bytes stay where nothing touches them
pub stands_same : (P : ℕ → Type 0) (place : ℕ) (bytes old new : List ℕ) → SameBut P old new → ((i : ℕ) → place ≤ i → i < place + length bytes → ¬ P i) → BytesStandAt place bytes old → BytesStandAt place bytes new
stands_same P place bytes old new same free stands = part_same P place (length bytes) old new same free ∙ stands

-- what lies in a region is told by the region's bytes
module _ (region : Region) (old new : List ℕ) (same : region_bytes region new ≡ region_bytes region old) where
  pub part_inside : (place n : ℕ) → region.start ≤ place → place + n ≤ region.start + region.len → part place n new ≡ part place n old
  part_inside place n above below =
      ap (λ (p : ℕ). part p n new) at_place
      ∙ sym (part-part region.start region.len (place - region.start) n new (omega (arith, above, below)))
      ∙ ap (λ (l : List ℕ). part (place - region.start) n l) same
      ∙ part-part region.start region.len (place - region.start) n old (omega (arith, above, below))
      ∙ ap (λ (p : ℕ). part p n old) (sym at_place)
    where
      at_place : place ≡ region.start + (place - region.start)
      at_place = omega (arith, above)

  pub byte_inside : (place : ℕ) → place < region.len → slice_index new (region.start + place) ≡ slice_index old (region.start + place)
  byte_inside place below = sym (at new) ∙ ap (λ (l : List ℕ). slice_index l place) same ∙ at old
    where
      at : (file : List ℕ) → slice_index (region_bytes region file) place ≡ slice_index file (region.start + place)
      at file = get_or-take region.len (drop region.start file) place 0 below ∙ get_or-drop region.start file place 0

  pub stands_inside : (place : ℕ) (bytes : List ℕ) → region.start ≤ place → place + length bytes ≤ region.start + region.len → BytesStandAt place bytes old → BytesStandAt place bytes new
  stands_inside place bytes above below stands = part_inside place (length bytes) above below ∙ stands

pub flat_map-append : {X : Type 0} (f : X → List ℕ) (xs ys : List X) → flat_map f (xs ++ ys) ≡ flat_map f xs ++ flat_map f ys
flat_map-append f [] ys = refl
flat_map-append f (x ∷ xs) ys = ap (λ (l : List ℕ). f x ++ l) (flat_map-append f xs ys) ∙ sym (append_assoc (f x) (flat_map f xs) (flat_map f ys))

-- a directory is in reverse
reversed-append : {X : Type 0} (f : X → List ℕ) (xs ys : List X) → flat_map f (reverse (xs ++ ys)) ≡ flat_map f (reverse ys) ++ flat_map f (reverse xs)
reversed-append {X = X} f xs ys = ap (λ (l : List X). flat_map f l) (reverse-append xs ys) ∙ flat_map-append f (reverse ys) (reverse xs)

pub directory-append : (xs ys : List Stored) → directory_of (xs ++ ys) ≡ directory_of ys ++ directory_of xs
directory-append = reversed-append arena_entry

abbrev pub packed_entry : Packed → List ℕ
packed_entry p = entry_bytes p.kind p.len p.score.0

pub staged-push : (ps : List Packed) (p : Packed) → staged_directory (ps ++ p ∷ []) ≡ packed_entry p ++ staged_directory ps
staged-push ps p = reversed-append packed_entry ps (p ∷ []) ∙ ap (λ (l : List ℕ). l ++ staged_directory ps) (append-nil (packed_entry p))

module _ {X : Type 0} (P : X → Type 0) where
  pub all_head : (x : X) (xs : List X) → All P (x ∷ xs) → P x
  all_head x xs all = all 0 x (omega arith)

  pub all_tail : (x : X) (xs : List X) → All P (x ∷ xs) → All P xs
  all_tail x xs all k d below = all (suc k) d (omega arith)

  pub all_take : (n : ℕ) (xs : List X) → All P xs → All P (take n xs)
  all_take n xs all k d below =
      subst P (sym (get_or-take n xs k d (omega (arith, length-take n xs)))) (all k d (omega (arith, length-take n xs)))

-- a clump takes no less than it has, and a directory no less than its entries have
pub room_least : (version n : ℕ) → 38 + n ≤ block_room version n
room_least version n = elim (version == 2) as
    (λ t. CLUMP_HEADER_LEN + n ≤ cond t (whole_units (CLUMP_HEADER_LEN + n)) (CLUMP_HEADER_LEN + n)) [
      | true ↦ omega arith
      | false ↦ omega arith
    ]

pub entries_least : (version k : ℕ) → entries_len k ≤ directory_room version k
entries_least version k = elim (version == 2) as
    (λ t. DIRECTORY_ENTRY_LEN * k ≤ cond t (whole_units (DIRECTORY_ENTRY_LEN * k)) (DIRECTORY_ENTRY_LEN * k)) [
      | true ↦ omega arith
      | false ↦ omega arith
    ]

-- what blocks use
module _ (version : ℕ) where
  pub used-append : (xs ys : List Stored) → used_of version (xs ++ ys) ≡ used_of version xs + used_of version ys
  used-append xs ys = ap (λ (l : List ℕ). sum_by (block_room version) l) (map-append (λ (s : Stored). length s.block) xs ys) ∙ sum_by-append (block_room version) (lengths_of xs) (lengths_of ys)

  pub used-cons : (s : Stored) (xs : List Stored) → used_of version (s ∷ xs) ≡ block_room version (length s.block) + used_of version xs
  used-cons s xs = sum_by-cons (block_room version) (length s.block) (lengths_of xs)

  pub used_take : (n : ℕ) (xs : List Stored) → used_of version (take n xs) ≤ used_of version xs
  used_take n xs =
      omega (arith, ap (used_of version) (sym (take-append-drop n xs)), used-append (take n xs) (drop n xs))

  pub fit_of : (len : ℕ) (stored : List Stored) → used_of version stored + directory_room version (length stored) ≤ arena_room len → Fit version len stored
  fit_of len stored fits =
      subst (λ (k : ℕ). used_of version stored + directory_room version k ≤ arena_room len) (sym (length-map stored (λ (s : Stored). length s.block))) fits

-- the room of a content
module _ (score_of : List ℕ → List ℕ) (len : ℕ) (a : Content) (is : IsArenaContent score_of len a) where
  pub content_room : used_of a.version a.stored + directory_room a.version (length a.stored) ≤ arena_room len
  content_room =
      subst (λ (k : ℕ). used_of a.version a.stored + directory_room a.version k ≤ arena_room len) (length-map a.stored (λ (s : Stored). length s.block)) is.fit

  pub content_fits : used_of a.version a.stored + entries_len (length a.stored) ≤ arena_room len
  content_fits = omega (arith, content_room, entries_least a.version (length a.stored))

module _ (score_of : List ℕ → List ℕ) where
  pub spelled_len : (s : Stored) → IsStoredBlock score_of s → length (clump_bytes s) ≡ 38 + length s.block
  spelled_len s is = ap (λ (l : List ℕ). length l) (sym (append-nil (clump_bytes s))) ∙ omega (arith, length-spelled score_of s [] is)

  -- a clump takes no less than its bytes are
  pub spelled_room : (version : ℕ) (s : Stored) → IsStoredBlock score_of s → length (clump_bytes s) ≤ block_room version (length s.block)
  spelled_room version s is = omega (arith, spelled_len s is, room_least version (length s.block))

  pub length-entry : (s : Stored) → IsStoredBlock score_of s → length (arena_entry s) ≡ 25
  length-entry s is = omega (arith, is.score_len)

  pub length-directory : (ss : List Stored) → All (IsStoredBlock score_of) ss → length (directory_of ss) ≡ entries_len (length ss)
  length-directory [] all = refl
  length-directory (s ∷ ss) all =
      let from : reverse (s ∷ ss) ≡ reverse ss ++ (s ∷ []) = reverse-append (s ∷ []) ss in
      let split : directory_of (s ∷ ss) ≡ directory_of ss ++ (arena_entry s ++ []) = ap (λ (l : List Stored). flat_map arena_entry l) from ∙ flat_map-append arena_entry (reverse ss) (s ∷ []) in
      let entry : length (arena_entry s) ≡ 25 = length-entry s (all_head (IsStoredBlock score_of) s ss all) in
      let rest : length (directory_of ss) ≡ entries_len (length ss) = length-directory ss (all_tail (IsStoredBlock score_of) s ss all) in
      ap (λ (l : List ℕ). length l) split
      ∙ omega (arith, length-append (directory_of ss) (arena_entry s ++ []), length-append (arena_entry s) [], entry, rest)

  pub All-stored : (ps : List Packed) → All (IsPacked score_of) ps → All (IsStoredBlock score_of) (map stored_of ps)
  All-stored [] all k d below = absurd (omega arith)
  All-stored (p ∷ ps) all zero d below = (all_head (IsPacked score_of) p ps all).stored
  All-stored (p ∷ ps) all (suc k) d below = All-stored ps (all_tail (IsPacked score_of) p ps all) k d (omega arith)

  pub used-packed : (ps : List Packed) → All (IsPacked score_of) ps → used_of WRITTEN_VERSION (map stored_of ps) ≡ staged_room ps
  used-packed [] all = refl
  used-packed (p ∷ ps) all =
      used-cons WRITTEN_VERSION (stored_of p) (map stored_of ps)
      ∙ (λ i. block_room WRITTEN_VERSION (sym (all_head (IsPacked score_of) p ps all).len i) + used-packed ps (all_tail (IsPacked score_of) p ps all) i)
      ∙ sym (sum_by-cons (λ (q : Packed). block_room WRITTEN_VERSION q.len) p ps)

  pub entry_is : (p : Packed) → IsPacked score_of p → packed_entry p ≡ arena_entry (stored_of p)
  entry_is p is i = entry_bytes (is.kind i) (is.len i) (is.score i)

  pub directory-packed : (ps : List Packed) → All (IsPacked score_of) ps → staged_directory ps ≡ directory_of (map stored_of ps)
  directory-packed [] all = refl
  directory-packed (p ∷ ps) all =
      reversed-append packed_entry (p ∷ []) ps
      ∙ (λ i. directory-packed ps (all_tail (IsPacked score_of) p ps all) i ++ (entry_is p (all_head (IsPacked score_of) p ps all) i ++ []))
      ∙ sym (directory-append (stored_of p ∷ []) (map stored_of ps))
