-- The tests of an arena's bytes: none fails exactly where the bytes are an arena.
use Rattle.std.proofs.Common.{◌≡◌, ◌∙◌, ⊎_elim, ℕ, zero, suc, ◌+◌, ◌-◌, ◌*◌, ◌^◌, ◌<◌, ◌≤◌, ◌==◌, ◌&&◌, Bool, true, false, not, cond, Option, None, Some, List, [], ◌∷◌, ◌++◌, length, take, drop, map, replicate, fold, refl, sym, ap, subst, arith, append-nil, append_assoc, length-append, length-take, length-drop, take-append-drop, get_or-take, get_or-drop}
use Rattle.std.specs.Prelude.{All, IsTrue, codes, slice_index, sum_by, ◌/◌}
use Rattle.std.specs.Option.{option_map, option_or}
use Rattle.std.specs.Str.{bytes_eq}
use Rattle.std.proofs.lemmas.Bool.{cases_lt, eqb-true, not-false}
use Rattle.std.proofs.lemmas.Bool.Decides.{Decides-eqb, nat_tests}
use Rattle.std.proofs.lemmas.List.{drop-take, drop_at, length-map, take-take, take_all, take_at}
use Rattle.std.proofs.lemmas.List.Sums.{sum_by-cons}
use Rattle.std.proofs.lemmas.Slice.Eq.{bytes_eq-Decides}
use Rattle.byteorder.specs.Endian.{big_bytes, big_number}
use Rattle.byteorder.specs.Numbers.{big_from-take, big_number-reads_back}
use Rattle.vt_arena.specs.declared.head.ArenaHead.{ArenaHead}
use Rattle.vt_arena.specs.declared.TheConstants.{LAST_LEN}
use Rattle.vt_arena.specs.Directory.{entry_in_header, kind_in, last_entry, score_in_entry, sectors_before, size_in_entry, uncsize_in_entry, walks_headers}
use Rattle.vt_arena.specs.Heads.{clump_count_in, fields_of, flag_of, last_field, used_in, version_in}
use Rattle.vt_arena.specs.Layout.{AreLinked, Content, HasBlocks, IsArena, IsArenaContent, BytesStandAt, ClumpsStandAt, chain_of_blocks, directory_of, directory_place, arena_entry, fields_at, arena_head, has_directory, last_of, used_of}
use Rattle.vt_arena.specs.Places.{arena_room, block_room, directory_room, entries_len, last_sectors, lengths_of, sectors_of}
use Rattle.vt_arena.proofs.Blocks.{entry_stands, spelled_header}
use Rattle.vt_arena.proofs.Layouts.{all_head, all_tail, content_fits, directory-append, entries_least, fit_of, length-entry, part-sum, room_least, spelled_len, stands-sum, used-cons}
use Rattle.vt_arena.proofs.Sectors.{before_of_header, entry_of_header, last_most, last_none as no_last, last_within}
use Rattle.vt_arena.proofs.Unique.{read_clumps, read_used, read_version, reads_version, version_small}
use Rattle.vt_base.specs.Bytes.{AreBytes}
use Rattle.vt_base.specs.NumberFields.{big_bytes-number}
use Rattle.vt_clump.specs.declared.reading.ClumpBad.{ClumpBad}
use Rattle.vt_clump.specs.Faults.{bad_header, bad_score, first_bad_clump, first_fault}
use Rattle.vt_clump.specs.Spelling.{IsStoredBlock, Stored, clump_len, size_in, clump_bytes, stored_in}
use Rattle.vt_clump.proofs.ReadBack.{Passes, first_bad-spelled, good_begins, length-spelled, passed, stored_in-spelled}
use Rattle.vt_disk.specs.Disk.{part}
use Rattle.vt_disk.specs.declared.region.Region.{Region}
use Rattle.vt_base.specs.Fields.{drop-byte, drop-number}
use Rattle.vt_log.specs.Whole.{IsHeadFor}
use Rattle.vt_model.specs.declared.TheConstants.{ARENA_HEAD_LEN}
use Rattle.vt_part.specs.declared.layout.ArenaRegion.{ArenaRegion}
use Rattle.vt_check.specs.declared.checking.Damage.{Damage}
use Rattle.vt_check.specs.Checking.{area_of, bad_chain, bad_clump, bad_end, bad_entry, bad_link, bad_sum, chain_of_entries, clump_damage, clump_in, clumps_at, clumps_in, end_damage, entries_at, entries_of, damage_by, entry_damage, first_damage, damage_of_numbers, in_second, last_taken, link_damage, scores, sectors_in, taken}
use Rattle.vt_check.specs.Following.{IsEntryRead}
use Rattle.vt_check.proofs.Taken.{has_by, part_behind, second_none, second_passes, walks_off}

-- ---- tests that found nothing

pub or_none : {A : Type 0} (a b : Option A) → option_or a b ≡ None → (a ≡ None) × (b ≡ None)
or_none (Some x) b none = absurd (cc)
or_none None b none = (refl, none)

pub then_none : {A : Type 0} (b : Bool) (x : A) (later : Option A) → cond b (Some x) later ≡ None → (b ≡ false) × (later ≡ None)
then_none true x later none = absurd (cc)
then_none false x later none = (refl, none)

last_none : {A : Type 0} (b : Bool) (x : A) → cond b None (Some x) ≡ None → b ≡ true
last_none true x none = refl
last_none false x none = absurd (cc)

map_none : {A B : Type 0} (f : A → B) (a : Option A) → option_map f a ≡ None → a ≡ None
map_none f None none = refl
map_none f (Some x) none = absurd (cc)

pub all_cons : {X : Type 0} (P : X → Type 0) (x : X) (xs : List X) → P x → All P xs → All P (x ∷ xs)
all_cons P x xs first rest zero d below = first
all_cons P x xs first rest (suc k) d below = rest k d (omega (arith, below))

cons_same : {X : Type 0} (a b : X) (xs ys : List X) → a ∷ xs ≡ b ∷ ys → (a ≡ b) × (xs ≡ ys)
cons_same a b xs ys same = (cc, cc)

header_none : (first later : Option ClumpBad) → first_fault first later ≡ None → first ≡ None
header_none (Some bad) later none = absurd (cc)
header_none None later none = refl

-- ---- the length that a header says

big_same : (xs ys : List ℕ) → slice_index xs 0 ≡ slice_index ys 0 → slice_index xs 1 ≡ slice_index ys 1 → big_number 2 xs ≡ big_number 2 ys
big_same xs ys first second = λ k. first k * 256 ^ 1 + (second k * 256 ^ 0 + 0)

-- it is told by the first bytes alone
pub size-take : (m : ℕ) (bytes : List ℕ) → 7 ≤ m → size_in (take m bytes) ≡ size_in bytes
size-take m bytes long = big_same (drop 5 (take m bytes)) (drop 5 bytes) (at 0 (omega (arith, long))) (at 1 (omega (arith, long)))
  where
    at : (i : ℕ) → 5 + i < m → slice_index (drop 5 (take m bytes)) i ≡ slice_index (drop 5 bytes) i
    at i below = get_or-drop 5 (take m bytes) i 0 ∙ get_or-take m bytes (5 + i) 0 below ∙ sym (get_or-drop 5 bytes i 0)

size-clump : (bytes : List ℕ) → size_in (clump_in bytes) ≡ size_in bytes
size-clump bytes = size-take (clump_len (size_in bytes)) bytes (omega arith)

-- ---- from bytes in which no test fails to an arena

module _ (score : List ℕ → List ℕ) where
  -- a clump in which no test fails has its header
  pub sound_passes : (clump : List ℕ) → clump_damage score clump ≡ None → Passes clump
  sound_passes clump none =
      passed clump (header_none (bad_header clump) (bad_score score (stored_in clump)) (map_none damage_by (first_bad_clump score clump) none))

  -- it has as many bytes as its header says, and no more
  clump_whole : (bytes : List ℕ) → AreBytes (clump_in bytes) → clump_damage score (clump_in bytes) ≡ None
      → IsStoredBlock score (stored_in (clump_in bytes)) × (clump_in bytes ≡ clump_bytes (stored_in (clump_in bytes)))
      × (length (stored_in (clump_in bytes)).block ≡ size_in bytes)
  clump_whole bytes are none =
      let clump : List ℕ = clump_in bytes in
      let good : first_bad_clump score clump ≡ None = map_none damage_by (first_bad_clump score clump) none in
      let s : Stored = stored_in clump in
      let begins = good_begins score clump are good in
      let tail : List ℕ = begins.spelling.0 in
      let pass : Passes clump = sound_passes clump none in
      let block : length s.block ≡ size_in clump = omega (arith, length-take (size_in clump) (drop 38 clump), length-drop 38 clump, pass.inside) in
      let all : length clump ≡ 38 + length s.block + length tail = ap (λ (l : List ℕ). length l) begins.spelling.1 ∙ length-spelled score s tail begins.stored in
      let most : length clump ≤ 38 + size_in bytes = omega (arith, length-take (clump_len (size_in bytes)) bytes) in
      let nothing : tail ≡ [] = no_length tail (omega (arith, all, most, block, size-clump bytes)) in (
        begins.stored,
        begins.spelling.1 ∙ ap (λ (l : List ℕ). clump_bytes s ++ l) nothing ∙ append-nil (clump_bytes s),
        block ∙ size-clump bytes,
      )
    where
      no_length : (xs : List ℕ) → length xs ≡ 0 → xs ≡ []
      no_length [] none = refl
      no_length (x ∷ xs) none = absurd (omega (arith, none))

  pub record AreClumps (version place : ℕ) (file : List ℕ) (clumps : List (List ℕ)) : Type 0 where
    pub stand : ClumpsStandAt version place (map stored_in clumps) file
    pub stored : All (IsStoredBlock score) (map stored_in clumps)
    pub spelled : clumps ≡ map clump_bytes (map stored_in clumps)

  clumps_are : (version n place m : ℕ) (file : List ℕ) → All AreBytes (clumps_in version n (part place m file))
      → bad_clump score (clumps_in version n (part place m file)) ≡ None → AreClumps version place file (clumps_in version n (part place m file))
  clumps_are version zero place m file are none = record { stand = tt; stored = λ k d below. absurd (omega (arith, below)); spelled = refl }
  clumps_are version (suc n) place m file are none =
      let bytes : List ℕ = part place m file in
      let size : ℕ = size_in bytes in
      let room : ℕ = block_room version size in
      let clump : List ℕ = clump_in bytes in
      let clumps : List (List ℕ) = clumps_in version n (drop room bytes) in
      let s : Stored = stored_in clump in
      let ss : List Stored = map stored_in clumps in
      let parts = or_none (clump_damage score clump) (bad_clump score clumps) none in
      let whole = clump_whole bytes (all_head AreBytes clump clumps are) parts.0 in
      let behind : drop room bytes ≡ part (place + room) (m - room) file = part_behind place m room file in
      let more : AreClumps version (place + room) file clumps =
      subst (λ (l : List ℕ). AreClumps version (place + room) file (clumps_in version n l)) (sym behind)
      (clumps_are version n (place + room) (m - room) file
      (subst (λ (l : List ℕ). All AreBytes (clumps_in version n l)) behind (all_tail AreBytes clump clumps are))
      (ap (λ (l : List ℕ). bad_clump score (clumps_in version n l)) (sym behind) ∙ parts.1)) in
      let len : length (clump_bytes s) ≡ clump_len size = spelled_len score s whole.0 ∙ ap (λ (k : ℕ). 38 + k) whole.2 in
      let inside : clump_len size ≤ m =
      omega (arith, len, ap (λ (l : List ℕ). length l) whole.1, length-take (clump_len size) bytes, length-take m (drop place file)) in
      let here : BytesStandAt place (clump_bytes s) file =
      ap (λ (k : ℕ). part place k file) len ∙ sym (take-take (clump_len size) m (drop place file) inside) ∙ whole.1 in
      record {
        stand = (here, subst (λ (k : ℕ). ClumpsStandAt version (place + block_room version k) ss file) (sym whole.2) more.stand);
        stored = all_cons (IsStoredBlock score) s ss whole.0 more.stored;
        spelled = (λ i. whole.1 i ∷ more.spelled i);
      }

entry_is : (s : Stored) (entry : List ℕ) → IsEntryRead entry → entry_damage s entry ≡ None → entry ≡ arena_entry s
entry_is s entry is none =
    let n : ℕ = length s.block in
    let kind = then_none (not (kind_in entry == s.kind)) _ _ none in
    let size = then_none (not (size_in_entry entry == n)) _ _ kind.1 in
    let uncsize = then_none (not (uncsize_in_entry entry == n)) _ _ size.1 in
    let score = then_none (not (bytes_eq (score_in_entry entry) s.score)) _ _ uncsize.1 in
    let kind_is : kind_in entry ≡ s.kind = eqb-true _ _ (not-false _ kind.0) in
    let size_is : size_in_entry entry ≡ n = eqb-true _ _ (not-false _ size.0) in
    let uncsize_is : uncsize_in_entry entry ≡ n = eqb-true _ _ (not-false _ uncsize.0) in
    let score_is : score_in_entry entry ≡ s.score = (bytes_eq-Decides (score_in_entry entry) s.score).0 (not-false _ score.0) in
    let at_5 : drop 5 entry ≡ s.score = sym (take_all 20 (drop 5 entry) (omega (arith, is.len, length-drop 5 entry))) ∙ score_is in
    let at_3 : drop 3 entry ≡ big_bytes 2 n ++ s.score =
    drop-number 3 2 entry (omega (arith, is.len)) is.bytes ∙ (λ i. big_bytes 2 (uncsize_is i) ++ at_5 i) in
    let at_1 : drop 1 entry ≡ big_bytes 2 n ++ (big_bytes 2 n ++ s.score) =
    drop-number 1 2 entry (omega (arith, is.len)) is.bytes ∙ (λ i. big_bytes 2 (size_is i) ++ at_3 i) in
    drop-byte 0 entry (omega (arith, is.len))
    ∙ (λ i. kind_is i ∷ at_1 i)
    ∙ ap (λ (l : List ℕ). s.kind ∷ l) (sym (append_assoc (big_bytes 2 n) (big_bytes 2 n) s.score))

entries_are : (clumps entries : List (List ℕ)) → length entries ≡ length clumps → All IsEntryRead entries → bad_entry clumps entries ≡ None
    → entries ≡ map arena_entry (map stored_in clumps)
entries_are [] [] many are none = refl
entries_are [] (e ∷ es) many are none = absurd (omega (arith, many))
entries_are (c ∷ cs) [] many are none = absurd (omega (arith, many))
entries_are (c ∷ cs) (e ∷ es) many are none =
    let parts = or_none (entry_damage (stored_in c) e) (bad_entry cs es) none in
    let first : e ≡ arena_entry (stored_in c) = entry_is (stored_in c) e (all_head IsEntryRead e es are) parts.0 in
    let rest : es ≡ map arena_entry (map stored_in cs) = entries_are cs es (omega (arith, many)) (all_tail IsEntryRead e es are) parts.1 in
    (λ i. first i ∷ rest i)

-- the chain of blocks is that of their entries
chain-entries : (score : List ℕ → List ℕ) (chain : List ℕ) (ss : List Stored)
    → fold (λ (c e : List ℕ). score (c ++ e)) chain (map arena_entry ss) ≡ fold (λ (c : List ℕ) (s : Stored). score (c ++ arena_entry s)) chain ss
chain-entries score chain [] = refl
chain-entries score chain (s ∷ ss) = chain-entries score (score (chain ++ arena_entry s)) ss

length-clumps_in : (version n : ℕ) (bytes : List ℕ) → length (clumps_in version n bytes) ≡ n
length-clumps_in version zero bytes = refl
length-clumps_in version (suc n) bytes = ap suc (length-clumps_in version n (drop (taken version (clump_len (size_in bytes))) bytes))

pub length-entries_at : (region : Region) (i n : ℕ) (file : List ℕ) → length (entries_at region i n file) ≡ n
length-entries_at region i zero file = refl
length-entries_at region i (suc n) file = ap suc (length-entries_at region (i + 1) n file)

directory-push : (ss : List Stored) (s : Stored) → directory_of (ss ++ s ∷ []) ≡ arena_entry s ++ directory_of ss
directory-push ss s = directory-append ss (s ∷ []) ∙ ap (λ (l : List ℕ). l ++ directory_of ss) (append-nil (arena_entry s))

-- entries that are those of blocks stand as a directory
module _ (score : List ℕ → List ℕ) (region : Region) (file : List ℕ) where
  stands_on : (before ss : List Stored) → All (IsStoredBlock score) ss → entries_len (length before + length ss) ≤ region.start + region.len
      → entries_at region (length before) (length ss) file ≡ map arena_entry ss → BytesStandAt (directory_place region (length before)) (directory_of before) file
      → BytesStandAt (directory_place region (length (before ++ ss))) (directory_of (before ++ ss)) file
  stands_on before [] all fits are stands = subst (λ (xs : List Stored). BytesStandAt (directory_place region (length xs)) (directory_of xs) file) (sym (append-nil before)) stands
  stands_on before (s ∷ ss) all fits are stands =
      let parts = cons_same (last_entry region (length before + 1) file) (arena_entry s) (entries_at region (length before + 1) (length ss) file) (map arena_entry ss) are in
      let count : length (before ++ s ∷ []) ≡ length before + 1 = length-append before (s ∷ []) in
      let len : length (arena_entry s) ≡ 25 = length-entry score s (all_head (IsStoredBlock score) s ss all) in
      let low : BytesStandAt (directory_place region (length before + 1)) (arena_entry s) file = ap (λ (n : ℕ). part (directory_place region (length before + 1)) n file) len ∙ parts.0 in
      let high : BytesStandAt (directory_place region (length before + 1) + length (arena_entry s)) (directory_of before) file =
      subst (λ (p : ℕ). BytesStandAt p (directory_of before) file) (omega (arith, len, fits)) stands in
      let both : BytesStandAt (directory_place region (length before + 1)) (directory_of (before ++ s ∷ [])) file =
      subst (λ (l : List ℕ). BytesStandAt (directory_place region (length before + 1)) l file) (sym (directory-push before s))
      (stands-sum (directory_place region (length before + 1)) (arena_entry s) (directory_of before) file low high) in
      subst (λ (xs : List Stored). BytesStandAt (directory_place region (length xs)) (directory_of xs) file) (append_assoc before (s ∷ []) ss)
      (stands_on (before ++ s ∷ []) ss (all_tail (IsStoredBlock score) s ss all) (omega (arith, count, fits))
      (subst (λ (k : ℕ). entries_at region k (length ss) file ≡ map arena_entry ss) (sym count) parts.1)
      (subst (λ (k : ℕ). BytesStandAt (directory_place region k) (directory_of (before ++ s ∷ [])) file) (sym count) both))

-- ---- clumps of blocks

eqb_same : (a b : ℕ) → a ≡ b → a == b ≡ true
eqb_same a b same = grind (arith, nat_tests)

module _ (score : List ℕ → List ℕ) where
  size_spelled : (s : Stored) (rest : List ℕ) → IsStoredBlock score s → size_in (clump_bytes s ++ rest) ≡ length s.block
  size_spelled s rest is =
      let bytes : List ℕ = clump_bytes s ++ rest in
      let header : bad_header bytes ≡ None = header_none (bad_header bytes) (bad_score score (stored_in bytes)) (first_bad-spelled score s rest is) in
      let pass : Passes bytes = passed bytes header in
      let block : length (stored_in bytes).block ≡ size_in bytes = omega (arith, length-take (size_in bytes) (drop 38 bytes), length-drop 38 bytes, pass.inside) in
      sym block ∙ ap (λ (t : Stored). length t.block) (stored_in-spelled score s rest is)

  -- the clumps of blocks that stand somewhere are found there
  clumps_spelled : (version : ℕ) (ss : List Stored) (place m : ℕ) (file : List ℕ) → All (IsStoredBlock score) ss → used_of version ss ≤ m
      → ClumpsStandAt version place ss file → clumps_in version (length ss) (part place m file) ≡ map clump_bytes ss
  clumps_spelled version [] place m file all fits stand = refl
  clumps_spelled version (s ∷ ss) place m file all fits stand =
      let is : IsStoredBlock score s = all_head (IsStoredBlock score) s ss all in
      let bytes : List ℕ = part place m file in
      let k : ℕ = length (clump_bytes s) in
      let room : ℕ = block_room version (length s.block) in
      let more : List ℕ = part (place + k) (m - k) file in
      let split : m ≡ k + (m - k) =
      omega (arith, fits, used-cons version s ss, spelled_len score s is, room_least version (length s.block)) in
      let begins : bytes ≡ clump_bytes s ++ more =
      ap (λ (n : ℕ). part place n file) split ∙ part-sum place k (m - k) file ∙ ap (λ (l : List ℕ). l ++ more) stand.0 in
      let size : size_in bytes ≡ length s.block = ap (λ (l : List ℕ). size_in l) begins ∙ size_spelled s more is in
      let len : clump_len (size_in bytes) ≡ k = omega (arith, size, spelled_len score s is) in
      let first : clump_in bytes ≡ clump_bytes s =
      (λ i. take (len i) (begins i)) ∙ take_at (clump_bytes s) more k refl in
      let behind : drop (block_room version (size_in bytes)) bytes ≡ part (place + room) (m - room) file =
      ap (λ (n : ℕ). drop (block_room version n) bytes) size ∙ part_behind place m room file in
      let rest : clumps_in version (length ss) (part (place + room) (m - room) file) ≡ map clump_bytes ss =
      clumps_spelled version ss (place + room) (m - room) file (all_tail (IsStoredBlock score) s ss all)
      (omega (arith, fits, used-cons version s ss)) stand.1 in
      (λ i. first i ∷ (ap (λ (l : List ℕ). clumps_in version (length ss) l) behind ∙ rest) i)

  no_clump_damage : (s : Stored) → IsStoredBlock score s → clump_damage score (clump_bytes s) ≡ None
  no_clump_damage s is =
      let good : first_bad_clump score (clump_bytes s) ≡ None = ap (λ (l : List ℕ). first_bad_clump score l) (sym (append-nil (clump_bytes s))) ∙ first_bad-spelled score s [] is in
      ap (λ (o : Option ClumpBad). option_map damage_by o) good

  spelled_sound : (ss : List Stored) → All (IsStoredBlock score) ss → bad_clump score (map clump_bytes ss) ≡ None
  spelled_sound [] all = refl
  spelled_sound (s ∷ ss) all =
      ap (λ (o : Option Damage). option_or o (bad_clump score (map clump_bytes ss))) (no_clump_damage s (all_head (IsStoredBlock score) s ss all))
      ∙ spelled_sound ss (all_tail (IsStoredBlock score) s ss all)

  pub spelled_used : (version : ℕ) (ss : List Stored) → All (IsStoredBlock score) ss
      → sum_by (λ clump. taken version (length clump)) (map clump_bytes ss) ≡ used_of version ss
  spelled_used version [] all = refl
  spelled_used version (s ∷ ss) all =
      let here : taken version (length (clump_bytes s)) ≡ block_room version (length s.block) =
      ap (λ (n : ℕ). taken version n) (spelled_len score s (all_head (IsStoredBlock score) s ss all)) in
      let rest : sum_by (λ clump. taken version (length clump)) (map clump_bytes ss) ≡ used_of version ss =
      spelled_used version ss (all_tail (IsStoredBlock score) s ss all) in
      sum_by-cons (λ (c : List ℕ). taken version (length c)) (clump_bytes s) (map clump_bytes ss)
      ∙ (λ i. here i + rest i)
      ∙ sym (used-cons version s ss)

  no_entry_damage : (s : Stored) → IsStoredBlock score s → entry_damage (stored_in (clump_bytes s)) (arena_entry s) ≡ None
  no_entry_damage s is =
      let n : ℕ = length s.block in
      let same : stored_in (clump_bytes s) ≡ s = ap (λ (l : List ℕ). stored_in l) (sym (append-nil (clump_bytes s))) ∙ stored_in-spelled score s [] is in
      let size : size_in_entry (arena_entry s) ≡ n = big_number-reads_back 2 n (big_bytes 2 n ++ s.score) (omega (arith, is.most)) in
      let uncsize : uncsize_in_entry (arena_entry s) ≡ n = big_number-reads_back 2 n s.score (omega (arith, is.most)) in
      let its : score_in_entry (arena_entry s) ≡ s.score = take_all 20 s.score (omega (arith, is.score_len)) in
      let kind_test : not (kind_in (arena_entry s) == s.kind) ≡ false = ap not (eqb_same s.kind s.kind refl) in
      let size_test : not (size_in_entry (arena_entry s) == n) ≡ false = ap not (eqb_same (size_in_entry (arena_entry s)) n size) in
      let uncsize_test : not (uncsize_in_entry (arena_entry s) == n) ≡ false = ap not (eqb_same (uncsize_in_entry (arena_entry s)) n uncsize) in
      let score_test : not (bytes_eq (score_in_entry (arena_entry s)) s.score) ≡ false = ap not ((bytes_eq-Decides (score_in_entry (arena_entry s)) s.score).1 its) in
      ap (λ (t : Stored). entry_damage t (arena_entry s)) same
      ∙ (λ i. cond (kind_test i) (Some (damage_of_numbers s.kind (kind_in (arena_entry s))))
      (cond (size_test i) (Some (damage_of_numbers n (size_in_entry (arena_entry s))))
      (cond (uncsize_test i) (Some (damage_of_numbers n (uncsize_in_entry (arena_entry s))))
      (cond (score_test i) (Some (scores s.score (score_in_entry (arena_entry s)))) None))))

  entries_sound : (ss : List Stored) → All (IsStoredBlock score) ss → bad_entry (map clump_bytes ss) (map arena_entry ss) ≡ None
  entries_sound [] all = refl
  entries_sound (s ∷ ss) all =
      ap (λ (o : Option Damage). option_or o (bad_entry (map clump_bytes ss) (map arena_entry ss))) (no_entry_damage s (all_head (IsStoredBlock score) s ss all))
      ∙ entries_sound ss (all_tail (IsStoredBlock score) s ss all)

  -- what the headers of clumps say of their blocks and of the clumps before them
  reads_spelled : (s : Stored) → IsStoredBlock score s → stored_in (clump_bytes s) ≡ s
  reads_spelled s is = ap (λ (l : List ℕ). stored_in l) (sym (append-nil (clump_bytes s))) ∙ stored_in-spelled score s [] is

  entry_spelled : (s : Stored) → IsStoredBlock score s → entry_in_header (clump_bytes s) ≡ arena_entry s
  entry_spelled s is =
      let bytes : List ℕ = clump_bytes s in
      sym (take-take 25 34 (drop 4 bytes) (omega arith))
      ∙ ap (λ (l : List ℕ). take 25 l) (sym (drop-take 4 34 bytes))
      ∙ ap (λ (l : List ℕ). entry_in_header l) (spelled_header score s is)
      ∙ entry_of_header score s is

  own_spelled : (ss : List Stored) → All (IsStoredBlock score) ss → map entry_in_header (map clump_bytes ss) ≡ map arena_entry ss
  own_spelled [] all = refl
  own_spelled (s ∷ ss) all =
      let first : entry_in_header (clump_bytes s) ≡ arena_entry s = entry_spelled s (all_head (IsStoredBlock score) s ss all) in
      let rest : map entry_in_header (map clump_bytes ss) ≡ map arena_entry ss = own_spelled ss (all_tail (IsStoredBlock score) s ss all) in
      (λ i. first i ∷ rest i)

  before_spelled : (s : Stored) (n : ℕ) → IsStoredBlock score s → s.creator ≡ big_bytes 4 n → n < 2 ^ 32 → sectors_before (clump_bytes s) ≡ n
  before_spelled s n is creator few =
      let bytes : List ℕ = clump_bytes s in
      sym (big_from-take 0 4 8 (drop 30 bytes) (omega arith))
      ∙ ap (λ (l : List ℕ). big_number 4 l) (sym (drop-take 30 8 bytes))
      ∙ ap (λ (l : List ℕ). sectors_before l) (spelled_header score s is)
      ∙ before_of_header score s n is creator few

  creator_is : (s : Stored) (n : ℕ) → IsStoredBlock score s → AreBytes (clump_bytes s) → sectors_before (clump_bytes s) ≡ n → s.creator ≡ big_bytes 4 n
  creator_is s n is are says =
      let bytes : List ℕ = clump_bytes s in
      let field : big_bytes 4 (sectors_before bytes) ≡ take 4 (drop 30 bytes) =
      big_bytes-number 4 (drop 30 bytes) (omega (arith, length-drop 30 bytes, spelled_len score s is))
      (λ i. subst (λ (b : ℕ). b < 256) (sym (get_or-drop 30 bytes i 0)) (are (30 + i))) in
      ap (λ (t : Stored). t.creator) (sym (reads_spelled s is)) ∙ sym field ∙ ap (λ (k : ℕ). big_bytes 4 k) says

  sectors_spelled : (s : Stored) → IsStoredBlock score s → sectors_in (clump_bytes s) ≡ sectors_of (length s.block)
  sectors_spelled s is = ap (λ (n : ℕ). taken 2 n / 512) (spelled_len score s is)

  last_spelled : (before : ℕ) (ss : List Stored) → All (IsStoredBlock score) ss → last_taken before (map clump_bytes ss) ≡ last_sectors before (lengths_of ss)
  last_spelled before [] all = refl
  last_spelled before (s ∷ ss) all =
      ap (λ (n : ℕ). last_taken n (map clump_bytes ss)) (sectors_spelled s (all_head (IsStoredBlock score) s ss all))
      ∙ last_spelled (sectors_of (length s.block)) ss (all_tail (IsStoredBlock score) s ss all)

  -- each clump names the one before it exactly where the test of that finds nothing
  links_from : (before : ℕ) (ss : List Stored) → All (IsStoredBlock score) ss → All AreBytes (map clump_bytes ss)
      → bad_link before (map clump_bytes ss) ≡ None → AreLinked before ss
  links_from before [] all are none = tt
  links_from before (s ∷ ss) all are none =
      let is : IsStoredBlock score s = all_head (IsStoredBlock score) s ss all in
      let clump : List ℕ = clump_bytes s in
      let parts = or_none (link_damage before clump) (bad_link (sectors_in clump) (map clump_bytes ss)) none in
      let says : sectors_before clump ≡ before = eqb-true _ _ (last_none _ _ parts.0) in (
        creator_is s before is (all_head AreBytes clump (map clump_bytes ss) are) says,
        subst (λ (n : ℕ). AreLinked n ss) (sectors_spelled s is)
            (links_from (sectors_in clump) ss (all_tail (IsStoredBlock score) s ss all) (all_tail AreBytes clump (map clump_bytes ss) are) parts.1),
      )

  links_none : (before : ℕ) (ss : List Stored) → All (IsStoredBlock score) ss → before < 2 ^ 32 → AreLinked before ss → bad_link before (map clump_bytes ss) ≡ None
  links_none before [] all few linked = refl
  links_none before (s ∷ ss) all few linked =
      let is : IsStoredBlock score s = all_head (IsStoredBlock score) s ss all in
      let clump : List ℕ = clump_bytes s in
      let first : link_damage before clump ≡ None =
      ap (λ (b : Bool). cond b None (Some (damage_of_numbers before (sectors_before clump))))
      (eqb_same (sectors_before clump) before (before_spelled s before is linked.0 few)) in
      let rest : bad_link (sectors_in clump) (map clump_bytes ss) ≡ None =
      ap (λ (n : ℕ). bad_link n (map clump_bytes ss)) (sectors_spelled s is)
      ∙ links_none (sectors_of (length s.block)) ss (all_tail (IsStoredBlock score) s ss all) (omega (arith, is.most)) linked.1 in
      (λ i. option_or (first i) (rest i))

  -- the directory has the entries of the blocks
  entries_stand : (region : Region) (file : List ℕ) (a : Content) → IsArenaContent score region.len a → HasBlocks region a file → IsTrue (has_directory a)
      → (before ss : List Stored) → a.stored ≡ before ++ ss → entries_at region (length before) (length ss) file ≡ map arena_entry ss
  entries_stand region file a content blocks there before [] is = refl
  entries_stand region file a content blocks there before (s ∷ ss) is =
      let count : length (before ++ s ∷ []) ≡ length before + 1 = length-append before (s ∷ []) in
      let here : last_entry region (length before + 1) file ≡ arena_entry s = entry_stands score region a before ss s file content blocks is there in
      let rest : entries_at region (length before + 1) (length ss) file ≡ map arena_entry ss =
      subst (λ (k : ℕ). entries_at region k (length ss) file ≡ map arena_entry ss) count
      (entries_stand region file a content blocks there (before ++ s ∷ []) ss (is ∙ sym (append_assoc before (s ∷ []) ss))) in
      (λ i. here i ∷ rest i)

-- ---- the head

same_flag : (a b : Bool) → flag_of a ≡ flag_of b → a ≡ b
same_flag true true is = refl
same_flag true false is = cc
same_flag false true is = cc
same_flag false false is = refl

-- what a head of version 2 alone says of its last clump
last_same : (version m n : ℕ) → (version ≡ 2 → m ≡ n) → last_field version m ≡ last_field version (cond (version == 2) n 0)
last_same version m n same =
    (elim (version == 2) as (λ t. (version == 2) ≡ t → cond t (big_bytes LAST_LEN m) [] ≡ cond t (big_bytes LAST_LEN (cond t n 0)) []) [
      | true ↦ λ is. ap (λ (k : ℕ). big_bytes LAST_LEN k) (same ((Decides-eqb version 2).0 is))
      | false ↦ λ is. refl
    ]) refl

same_tail : (t : Bool) (m n : ℕ) → length (cond t (big_bytes LAST_LEN m) []) ≡ length (cond t (big_bytes LAST_LEN n) [])
same_tail true m n = refl
same_tail false m n = refl

module _ (score : List ℕ → List ℕ) (r : ArenaRegion) (head : ArenaHead) (file : List ℕ) (least : ARENA_HEAD_LEN ≤ r.region.len) (most : r.region.len ≤ 2 ^ 30)
    (fields : fields_at r.region file ≡ fields_of head) (its : IsHeadFor r head) where
  abbrev clumps : List (List ℕ)
  clumps = clumps_at head.version r.region head.clumps file

  abbrev entries : List (List ℕ)
  entries = entries_of r.region head file clumps

  -- no test fails: the bytes are the arena that the clumps say
  pub is_arena : All AreBytes (clumps_at head.version r.region head.clumps file)
      → length (entries_of r.region head file (clumps_at head.version r.region head.clumps file)) ≡ length (clumps_at head.version r.region head.clumps file)
      → All IsEntryRead (entries_of r.region head file (clumps_at head.version r.region head.clumps file))
      → first_damage score r.region head file ≡ None → (a : Content) × IsArena score r.region r.number a file
  is_arena are many reads none =
      let v : ℕ = head.version in
      let n : ℕ = head.clumps in
      let place : ℕ = r.region.start + ARENA_HEAD_LEN in
      let ss : List Stored = map stored_in clumps in
      let first = or_none (bad_clump score clumps) (end_damage score head clumps entries) none in
      let second = or_none (in_second v (bad_link 0 clumps)) _ first.1 in
      let third = or_none (bad_sum v head.used clumps) _ second.1 in
      let fourth = or_none (in_second v (bad_end head.last clumps)) _ third.1 in
      let fifth = or_none (bad_entry clumps entries) (bad_chain score entries head.chain.0) fourth.1 in
      let it : AreClumps score v place file clumps = clumps_are score v n place (r.region.len - ARENA_HEAD_LEN) file are first.0 in
      let count : length ss ≡ n = length-map clumps stored_in ∙ length-clumps_in v n (area_of r.region file) in
      let used : used_of v ss ≡ head.used =
      sym (spelled_used score v ss it.stored) ∙ ap (λ (cs : List (List ℕ)). sum_by (λ (clump : List ℕ). taken v (length clump)) cs) (sym it.spelled)
      ∙ eqb-true _ _ (last_none _ _ third.0) in
      let named : entries ≡ map arena_entry ss = entries_are clumps entries many reads fifth.0 in
      let chain : head.chain.0 ≡ chain_of_blocks score ss =
      (bytes_eq-Decides head.chain.0 (chain_of_entries score entries)).0 (last_none _ _ fifth.1)
      ∙ ap (λ (es : List (List ℕ)). chain_of_entries score es) named ∙ chain-entries score (replicate 20 0) ss in
      let linked : v ≡ 2 → AreLinked 0 ss = λ two.
      links_from score 0 ss it.stored (subst (λ (l : List (List ℕ)). All AreBytes l) it.spelled are)
      (ap (λ (l : List (List ℕ)). bad_link 0 l) (sym it.spelled) ∙ second_passes v (bad_link 0 clumps) second.0 two) in
      let last : v ≡ 2 → head.last ≡ last_sectors 0 (lengths_of ss) = λ two.
      eqb-true _ _ (last_none _ _ (second_passes v (bad_end head.last clumps) fourth.0 two))
      ∙ ap (λ (l : List (List ℕ)). last_taken 0 l) it.spelled ∙ last_spelled score 0 ss it.stored in
      let a : Content = record { version = v; sealed = head.sealed; stored = ss } in
      let tail : last_field v head.last ≡ last_field v (last_of a) = last_same v head.last (last_sectors 0 (lengths_of ss)) last in
      let fields_are : fields_of head ≡ fields_of (arena_head score r.number a) = (λ i. codes "VARN" ++ (big_bytes 2 v ++ (big_bytes 4 (its.number i)
      ++ (flag_of head.sealed ∷ (big_bytes 4 (sym count i) ++ (big_bytes 8 (sym used i) ++ (chain i ++ tail i))))))) in
      let room : used_of v ss + directory_room v (length ss) ≤ arena_room r.region.len =
      subst (λ (k : ℕ). used_of v ss + directory_room v k ≤ arena_room r.region.len) (sym count) (omega (arith, used, its.fit)) in
      let directory : IsTrue (has_directory a) → BytesStandAt (directory_place r.region (length ss)) (directory_of ss) file = λ has.
      let off : walks_headers head ≡ false = walks_off v head.sealed its.version has in
      let by_directory : entries ≡ entries_at r.region 0 n file =
      ap (λ (b : Bool). cond b (map entry_in_header clumps) (entries_at r.region 0 n file)) off in
      stands_on score r.region file [] ss it.stored (omega (arith, count, its.fit, entries_least v n))
      (subst (λ (k : ℕ). entries_at r.region 0 k file ≡ map arena_entry ss) (sym count) (sym by_directory ∙ named)) refl in (
        a,
        record {
          content = record { version = its.version; stored = it.stored; linked = linked; fit = fit_of v r.region.len ss room };
          head = fields ∙ fields_are;
          blocks = record { clumps = it.stand; directory = directory };
        },
      )

  -- ---- from an arena to tests that find nothing

  module _ (a : Content) (is : IsArena score r.region r.number a file) where
    heads : fields_of head ≡ fields_of (arena_head score r.number a)
    heads = sym fields ∙ is.head

    version_is : head.version ≡ a.version
    version_is =
        sym (reads_version head (last_field head.version head.last) (version_small head.version its.version))
        ∙ ap (λ (l : List ℕ). version_in l) heads ∙ read_version score r.region.len r.number most a is.content

    sealed_is : head.sealed ≡ a.sealed
    sealed_is = same_flag head.sealed a.sealed (ap (λ (l : List ℕ). slice_index l 10) heads)

    clumps_are_counted : head.clumps ≡ length a.stored
    clumps_are_counted =
        sym (big_number-reads_back 4 head.clumps (drop 15 (fields_of head)) (omega (arith, its.fit, entries_least head.version head.clumps, most)))
        ∙ ap (λ (l : List ℕ). clump_count_in l) heads ∙ read_clumps score r.region.len r.number most a is.content

    used_is : head.used ≡ used_of a.version a.stored
    used_is =
        sym (big_number-reads_back 8 head.used (drop 23 (fields_of head)) (omega (arith, its.fit, most)))
        ∙ ap (λ (l : List ℕ). used_in l) heads ∙ read_used score r.region.len r.number most a is.content

    -- the chain and what stands behind it
    behind : head.chain.0 ++ last_field head.version head.last ≡ chain_of_blocks score a.stored ++ last_field a.version (last_of a)
    behind = ap (λ (l : List ℕ). drop 23 l) heads

    chain_len : length (chain_of_blocks score a.stored) ≡ length head.chain.0
    chain_len =
        let tail : length (last_field head.version head.last) ≡ length (last_field a.version (last_of a)) =
        ap (λ (v : ℕ). length (last_field v head.last)) version_is ∙ same_tail (a.version == 2) head.last (last_of a) in
        omega (
          arith,
          tail,
          ap (λ (l : List ℕ). length l) behind,
          length-append head.chain.0 (last_field head.version head.last),
          length-append (chain_of_blocks score a.stored) (last_field a.version (last_of a)),
        )

    chain_is : head.chain.0 ≡ chain_of_blocks score a.stored
    chain_is =
        sym (take_at head.chain.0 (last_field head.version head.last) (length head.chain.0) refl)
        ∙ ap (λ (l : List ℕ). take (length head.chain.0) l) behind
        ∙ take_at (chain_of_blocks score a.stored) (last_field a.version (last_of a)) (length head.chain.0) chain_len

    tail_is : last_field head.version head.last ≡ last_field a.version (last_of a)
    tail_is =
        sym (drop_at head.chain.0 (last_field head.version head.last) (length head.chain.0) refl)
        ∙ ap (λ (l : List ℕ). drop (length head.chain.0) l) behind
        ∙ drop_at (chain_of_blocks score a.stored) (last_field a.version (last_of a)) (length head.chain.0) chain_len

    few : head.version ≡ 2 → head.last < 2 ^ 32
    few two = ⊎_elim
        (λ (some : 0 < head.clumps). omega (arith, (last_within head.clumps head.used head.last (its.last two) some).1, its.fit, most))
        (λ (none : head.clumps ≤ 0). omega (arith, no_last head.clumps head.used head.last (its.last two) (omega (arith, none))))
        (cases_lt 0 head.clumps)

    last_is : head.version ≡ 2 → head.last ≡ last_sectors 0 (lengths_of a.stored)
    last_is two =
        let its_last : ℕ = last_sectors 0 (lengths_of a.stored) in
        let second : a.version ≡ 2 = sym version_is ∙ two in
        let said : last_of a ≡ its_last = ap (λ (v : ℕ). cond (v == 2) its_last 0) second in
        let fits : its_last < 2 ^ 32 =
        omega (arith, last_most a.stored, ap (λ (v : ℕ). used_of v a.stored) second, content_fits score r.region.len a is.content, most) in
        let same : last_field 2 head.last ≡ last_field 2 its_last =
        ap (λ (v : ℕ). last_field v head.last) (sym two) ∙ tail_is ∙ (λ i. last_field (second i) (said i)) in
        sym (big_number-reads_back LAST_LEN head.last [] (few two))
        ∙ ap (λ (l : List ℕ). big_number LAST_LEN (l ++ [])) same
        ∙ big_number-reads_back LAST_LEN its_last [] fits

    clumps_of_stored : clumps ≡ map clump_bytes a.stored
    clumps_of_stored =
        (λ i. clumps_in (version_is i) (clumps_are_counted i) (area_of r.region file))
        ∙ clumps_spelled score a.version a.stored (r.region.start + ARENA_HEAD_LEN) (r.region.len - ARENA_HEAD_LEN) file is.content.stored
        (omega (arith, content_fits score r.region.len a is.content)) is.blocks.clumps

    entries_of_stored : entries ≡ map arena_entry a.stored
    entries_of_stored =
        (elim (walks_headers head) as (λ t. walks_headers head ≡ t
        → cond t (map entry_in_header clumps) (entries_at r.region 0 head.clumps file) ≡ map arena_entry a.stored) [
          | true ↦ λ on. ap (λ (cs : List (List ℕ)). map entry_in_header cs) clumps_of_stored ∙ own_spelled score a.stored is.content.stored
          | false ↦ λ off.
              let same : (a.version == 2 && not a.sealed) ≡ (head.version == 2 && not head.sealed) =
              (λ i. (sym version_is i) == 2 && not (sym sealed_is i)) in
              ap (λ (n : ℕ). entries_at r.region 0 n file) clumps_are_counted
              ∙ entries_stand score r.region file a is.content is.blocks (has_by a.version a.sealed is.content.version (same ∙ off)) [] a.stored refl
        ]) refl

    pub no_damage : first_damage score r.region head file ≡ None
    no_damage =
        let v : ℕ = head.version in
        let sound : bad_clump score clumps ≡ None =
        ap (λ (cs : List (List ℕ)). bad_clump score cs) clumps_of_stored ∙ spelled_sound score a.stored is.content.stored in
        let linked : in_second v (bad_link 0 clumps) ≡ None = second_none v (bad_link 0 clumps) (λ two.
        ap (λ (cs : List (List ℕ)). bad_link 0 cs) clumps_of_stored
        ∙ links_none score 0 a.stored is.content.stored (omega arith) (is.content.linked (sym version_is ∙ two))) in
        let sum : sum_by (λ clump. taken v (length clump)) clumps ≡ head.used =
        (λ i. sum_by (λ (clump : List ℕ). taken (version_is i) (length clump)) (clumps_of_stored i))
        ∙ spelled_used score a.version a.stored is.content.stored ∙ sym used_is in
        let summed : bad_sum v head.used clumps ≡ None =
        ap (λ (b : Bool). cond b None (Some (damage_of_numbers head.used (sum_by (λ clump. taken v (length clump)) clumps))))
        (eqb_same (sum_by (λ clump. taken v (length clump)) clumps) head.used sum) in
        let ended : in_second v (bad_end head.last clumps) ≡ None = second_none v (bad_end head.last clumps) (λ two.
        let same : head.last ≡ last_taken 0 clumps =
        last_is two ∙ sym (last_spelled score 0 a.stored is.content.stored) ∙ ap (λ (cs : List (List ℕ)). last_taken 0 cs) (sym clumps_of_stored) in
        ap (λ (b : Bool). cond b None (Some (damage_of_numbers (last_taken 0 clumps) head.last))) (eqb_same head.last (last_taken 0 clumps) same)) in
        let entered : bad_entry clumps entries ≡ None =
        (λ i. bad_entry (clumps_of_stored i) (entries_of_stored i)) ∙ entries_sound score a.stored is.content.stored in
        let chain : head.chain.0 ≡ chain_of_entries score entries =
        chain_is ∙ sym (chain-entries score (replicate 20 0) a.stored) ∙ ap (λ (es : List (List ℕ)). chain_of_entries score es) (sym entries_of_stored) in
        let chained : bad_chain score entries head.chain.0 ≡ None =
        ap (λ (b : Bool). cond b None (Some (scores (chain_of_entries score entries) head.chain.0))) ((bytes_eq-Decides head.chain.0 (chain_of_entries score entries)).1 chain) in
        (λ i. option_or (sound i) (option_or (linked i) (option_or (summed i) (option_or (ended i) (option_or (entered i) (chained i))))))
