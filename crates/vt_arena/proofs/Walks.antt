-- What a walk finds of a block, in its directory entry or in its clump's header.
use Rattle.std.proofs.Common.{◌≡◌, inl, inr, ℕ, ◌+◌, ◌-◌, ◌*◌, ◌^◌, ◌<◌, ◌≤◌, ◌==◌, ◌&&◌, Bool, true, false, cond, Option, Some, None, Result, Ok, Err, List, [], ◌∷◌, ◌++◌, length, refl, sym, ◌∙◌, ap, subst, arith, length-append}
use Rattle.std.specs.Prelude.{IsTrue, IfOk, IfErr, MatchResult, nat_lt, not, ◌||◌, if◌then◌else◌}
use Rattle.std.specs.Option.{option_map, option_or}
use Rattle.std.proofs.lemmas.List.{take_all}
use Rattle.std.proofs.lemmas.Bool.{ltb-false, not-false}
use Rattle.std.proofs.lemmas.Bool.Decides.{nat_tests, Decides-eqb}
use Rattle.byteorder.specs.Endian.{big_bytes}
use Rattle.byteorder.specs.Numbers.{big_number-reads_back}
use Rattle.vt_base.specs.Kind.{is_kind}
use Rattle.vt_base.specs.declared.place.Info.{Info}
use Rattle.vt_base.specs.declared.why.FieldValue.TheVariants.{Number}
use Rattle.vt_disk.specs.declared.region.Region.{Region}
use Rattle.vt_disk.specs.Disk.{part}
use Rattle.vt_clump.specs.Spelling.{Stored, IsStoredBlock, clump_header}
use Rattle.vt_model.specs.declared.TheConstants.{ARENA_HEAD_LEN}
use Rattle.vt_arena.specs.declared.error.BackBad.{BackBad}
use Rattle.vt_arena.specs.declared.error.BackBad.TheVariants.{Fault, Damaged}
use Rattle.vt_arena.specs.declared.directory.At.{At}
use Rattle.vt_arena.specs.declared.head.ArenaHead.{ArenaHead}
use Rattle.vt_arena.specs.Directory.{walks_headers, what_is_walked, last_header, last_entry, entry_in, entry_in_header, before_in, sectors_before, kind_in, size_in_entry, uncsize_in_entry, bad_sizes, bad_sum, bad_magic, bad_sectors, bad_before, first_bad_entry, first_bad_header, first_bad_walked, moved_before, IsInfoOf, IsOnClump, IsAtBlock, IsInfoOfBlock, WalksBy, WalksOn}
use Rattle.vt_arena.specs.Layout.{Content, IsArenaContent, HasBlocks, AreLinked, arena_entry, arena_head, has_directory, used_of}
use Rattle.vt_arena.specs.Places.{IsVersion, bad_last, block_room, last_sectors, lengths_of, offset_of, sectors_of}
use Rattle.vt_arena.specs.Reading.{header_at}
use Rattle.vt_arena.proofs.Blocks.{stored, header_there, entry_stands, used_split}
use Rattle.vt_arena.proofs.Layouts.{content_fits, used-append, used-cons}
use Rattle.vt_arena.proofs.Sectors.{before_of_header, entry_of_header, last_known, last_most, last_push, linked_at, none_then, sectors_are}

-- ---- tests that pass

pub sizes_pass : (entry : List ℕ) (size : ℕ) → is_kind (kind_in entry) ≡ true → size_in_entry entry ≡ size → uncsize_in_entry entry ≡ size
    → 0 < size → size ≤ 57344 → bad_sizes entry ≡ None
sizes_pass entry size kind size_is uncsize_is some most =
    let is_some : size == 0 ≡ false = grind (arith, nat_tests) in
    let is_most : nat_lt 57344 size ≡ false = grind (arith, nat_tests) in
    let same : size == size ≡ true = grind (arith, nat_tests) in
    rw (kind, size_is, uncsize_is, is_some, is_most, same) refl

in_sum : (index end room : ℕ) → room ≤ end → (index ≡ 1 → end ≡ room) → (nat_lt end room || (index == 1 && not (end == room))) ≡ false
in_sum index end room least first =
    let enough : nat_lt end room ≡ false = grind (arith, nat_tests) in
    rw enough (all (index == 1) refl)
  where
    all : (b : Bool) → (index == 1) ≡ b → ((index == 1) && not (end == room)) ≡ false
    all true is = let index_is : index ≡ 1 = grind (arith, nat_tests) in
        let end_is = first index_is in
        let same : end == room ≡ true = grind (arith, nat_tests) in
        rw (is, same) refl
    all false is = rw is refl

sum_passes : (used : ℕ) (at : At) (room : ℕ) → room ≤ at.end → (at.index ≡ 1 → at.end ≡ room) → bad_sum used at room ≡ None
sum_passes used at room least first =
    ap (λ (b : Bool). if b then Some (Damaged (Number used) (Number (used - at.end + room))) else None) (in_sum at.index at.end room least first)

-- the clump that comes before the end leaves no less than nothing
pub room_left : (head : ArenaHead) (at : At) (entry : List ℕ) → first_bad_entry head at entry ≡ None → block_room head.version (size_in_entry entry) ≤ at.end
room_left head at entry none =
    ltb-false _ _ (left (nat_lt at.end (block_room head.version (size_in_entry entry))) _ (none_then _ _ None (later (bad_sizes entry) _ none)).0)
  where
    later : (first second : Option BackBad) → option_or first second ≡ None → second ≡ None
    later None second none = none
    later (Some bad) second none = absurd (cc)

    left : (a b : Bool) → (a || b) ≡ false → a ≡ false
    left true b off = absurd (cc)
    left false b off = refl

pub kind_left : (head : ArenaHead) (at : At) (entry : List ℕ) → first_bad_entry head at entry ≡ None → is_kind (kind_in entry) ≡ true
kind_left head at entry none =
    not-false _ (none_then (not (is_kind (kind_in entry))) _ _ (first (bad_sizes entry) _ none)).0
  where
    first : (one second : Option BackBad) → option_or one second ≡ None → one ≡ None
    first None second none = refl
    first (Some bad) second none = absurd (cc)

-- a header whose tests pass is an entry whose tests pass
pub header_entry : (head : ArenaHead) (at : At) (header : List ℕ) → first_bad_header head at header ≡ None
    → (first_bad_entry head at (entry_in_header header) ≡ None)
    × (bad_before at (block_room head.version (size_in_entry (entry_in_header header))) (sectors_before header) ≡ None)
header_entry head at header none = by (bad_magic header) (bad_sizes (entry_in_header header)) _ _ _ none
  where
    by : (a b c d e : Option BackBad) → option_or (option_or (option_or (option_or a b) c) d) e ≡ None → (option_or b d ≡ None) × (e ≡ None)
    by (Some bad) b c d e none = absurd (cc)
    by None (Some bad) c d e none = absurd (cc)
    by None None (Some bad) d e none = absurd (cc)
    by None None None (Some bad) e none = absurd (cc)
    by None None None None e none = (refl, none)

none_mapped : {A B : Type 0} (f : A → B) (o : Option A) → option_map f o ≡ None → o ≡ None
none_mapped f None none = refl
none_mapped f (Some it) none = absurd (cc)

-- ---- what an answer says of where the walk stands

walked_entry : (head : ArenaHead) (at : At) (bytes : List ℕ) → first_bad_walked head at bytes ≡ None → first_bad_entry head at (entry_in head bytes) ≡ None
walked_entry head at bytes none =
    (elim (walks_headers head) as (λ t. cond t (first_bad_header head at bytes) (first_bad_entry head at bytes) ≡ None
    → first_bad_entry head at (cond t (entry_in_header bytes) bytes) ≡ None) [
      | true ↦ λ passes. (header_entry head at bytes passes).0
      | false ↦ λ passes. passes
    ]) none

pub walks_moved : (head : ArenaHead) (old new : At) (bytes : List ℕ) (result : Result Info BackBad) → 0 < old.index → WalksOn head old new bytes result
    → IfOk result (λ info. (new.index + 1 ≡ old.index) × (new.end + block_room head.version info.size ≡ old.end))
walks_moved head old new bytes (Ok info) some walks =
    let room = room_left head old (entry_in head bytes) (walked_entry head old bytes walks.0) in
    let size : block_room head.version info.size ≡ block_room head.version (size_in_entry (entry_in head bytes)) = ap (λ (n : ℕ). block_room head.version n) walks.1.size in
    (omega (arith, some, ap (λ (at : At). at.index) walks.2), omega (arith, room, size, ap (λ (at : At). at.end) walks.2))
walks_moved head old new bytes (Err bad) some walks = tt

pub walks_stays : (head : ArenaHead) (old new : At) (bytes : List ℕ) (result : Result Info BackBad) → WalksOn head old new bytes result → IfErr result (λ _. new ≡ old)
walks_stays head old new bytes (Ok info) walks = tt
walks_stays head old new bytes (Err Fault) walks = walks
walks_stays head old new bytes (Err (Damaged want found)) walks = walks.1

pub walks_clump : (head : ArenaHead) (old new : At) (bytes : List ℕ) (result : Result Info BackBad) → IsOnClump head old → WalksOn head old new bytes result → IsOnClump head new
walks_clump head old new bytes (Ok info) clump walks = λ on.
    let headers : first_bad_header head old bytes ≡ None =
    ap (λ (b : Bool). if b then first_bad_header head old bytes else first_bad_entry head old bytes) (sym on) ∙ walks.0 in
    let before : bad_last (old.index - 1) (old.end - block_room head.version (size_in_entry (entry_in_header bytes))) (sectors_before bytes) ≡ None =
    none_mapped _ _ (header_entry head old bytes headers).1 in
    subst (λ (at : At). bad_last at.index at.end at.sectors ≡ None) (sym walks.2)
    (subst (λ (b : Bool). bad_last (old.index - 1) (old.end - block_room head.version (size_in_entry (if b then entry_in_header bytes else bytes))) (if b then sectors_before bytes else 0) ≡ None) (sym on) before)
walks_clump head old new bytes (Err Fault) clump walks = subst (IsOnClump head) (sym walks) clump
walks_clump head old new bytes (Err (Damaged want found)) clump walks = subst (IsOnClump head) (sym walks.1) clump

-- a refusal, and where the walk stands then
pub walks_bad : (head : ArenaHead) (first : Option BackBad) (entry : List ℕ) (before : ℕ) (at : At) (bad : BackBad) → first ≡ Some bad → WalksBy head first entry before at at (Err bad)
walks_bad head first entry before at Fault is = refl
walks_bad head first entry before at (Damaged want found) is = (is, refl)

-- an entry is read at its place
pub entry_read : (start len room place : ℕ) (file buf : List ℕ) → room ≤ len → place ≡ start + len - room → buf ≡ part (start + (len - room)) 25 file → buf ≡ part place 25 file
entry_read start len room place file buf fits place_is is = is ∙ ap (λ (p : ℕ). part p 25 file) (omega (arith, fits, place_is))

-- an answer by a header or by an entry is that of the walk
pub on_header : (head : ArenaHead) (region : Region) (old new : At) (file bytes : List ℕ) (told : Type 0) (result : Result Info BackBad) → walks_headers head ≡ true
    → (told → bytes ≡ last_header region old file) × WalksBy head (first_bad_header head old bytes) (entry_in_header bytes) (sectors_before bytes) old new result
    → (told → bytes ≡ what_is_walked head region old file) × WalksOn head old new bytes result
on_header head region old new file bytes told result on walks = (
  (λ tells. walks.0 tells ∙ ap (λ (b : Bool). if b then last_header region old file else last_entry region old.index file) (sym on)),
  subst (λ (b : Bool). WalksBy head (if b then first_bad_header head old bytes else first_bad_entry head old bytes) (if b then entry_in_header bytes else bytes) (if b then sectors_before bytes else 0) old new result) (sym on) walks.1,
)

pub on_entry : (head : ArenaHead) (region : Region) (old new : At) (file bytes : List ℕ) (told : Type 0) (result : Result Info BackBad) → walks_headers head ≡ false
    → (told → bytes ≡ last_entry region old.index file) × WalksBy head (first_bad_entry head old bytes) bytes 0 old new result
    → (told → bytes ≡ what_is_walked head region old file) × WalksOn head old new bytes result
on_entry head region old new file bytes told result off walks = (
  (λ tells. walks.0 tells ∙ ap (λ (b : Bool). if b then last_header region old file else last_entry region old.index file) (sym off)),
  subst (λ (b : Bool). WalksBy head (if b then first_bad_header head old bytes else first_bad_entry head old bytes) (if b then entry_in_header bytes else bytes) (if b then sectors_before bytes else 0) old new result) (sym off) walks.1,
)

-- ---- a block of an arena

-- the directory entry of a block
module _ (score_of : List ℕ → List ℕ) (s : Stored) (is : IsStoredBlock score_of s) where
  size : size_in_entry (arena_entry s) ≡ length s.block
  size = big_number-reads_back 2 (length s.block) (big_bytes 2 (length s.block) ++ s.score) (omega (arith, is.most))

  uncsize : uncsize_in_entry (arena_entry s) ≡ length s.block
  uncsize = big_number-reads_back 2 (length s.block) s.score (omega (arith, is.most))

  block_sizes_pass : bad_sizes (arena_entry s) ≡ None
  block_sizes_pass = sizes_pass (arena_entry s) (length s.block) is.kind size uncsize is.some is.most

  module _ (head : ArenaHead) (before : List Stored) (at : At) (stands : IsAtBlock head before s at) where
    first_one : (xs : List Stored) → length xs + 1 ≡ 1 → used_of head.version xs ≡ 0
    first_one [] one = refl
    first_one (x ∷ xs) one = absurd (omega (arith, one))

    block_sum_passes : bad_sum head.used at (block_room head.version (length s.block)) ≡ None
    block_sum_passes = sum_passes head.used at (block_room head.version (length s.block)) (omega (arith, stands.end))
        (λ one. omega (arith, stands.end, first_one before (sym stands.index ∙ one)))

    entry_sum_passes : bad_sum head.used at (block_room head.version (size_in_entry (arena_entry s))) ≡ None
    entry_sum_passes = ap (λ (n : ℕ). bad_sum head.used at (block_room head.version n)) size ∙ block_sum_passes

    entry_passes : first_bad_entry head at (arena_entry s) ≡ None
    entry_passes i = option_or (block_sizes_pass i) (entry_sum_passes i)

    entry_info : (info : Info) → IsInfoOf head at (arena_entry s) info → IsInfoOfBlock head before s info
    entry_info info says = record {
      kind = says.kind;
      score = says.score ∙ take_all 20 s.score (omega (arith, is.score_len));
      size = says.size ∙ size;
      arena = says.arena;
      offset = says.offset ∙ ap (λ (n : ℕ). ARENA_HEAD_LEN + (at.end - block_room head.version n)) size ∙ omega (arith, stands.end);
      number_is = omega (arith, says.number_is, stands.index);
    }

-- what a walk reads of it
pub record IsWalked (head : ArenaHead) (at : At) (before : List Stored) (s : Stored) (bytes : List ℕ) : Type 0 where
  pub passes : first_bad_walked head at bytes ≡ None
  pub entry : entry_in head bytes ≡ arena_entry s
  pub sectors : IsTrue (walks_headers head) → before_in head bytes ≡ last_sectors 0 (lengths_of before)

module _ (score_of : List ℕ → List ℕ) (region : Region) (number : ℕ) (old : Content) (before behind : List Stored) (s : Stored) (file : List ℕ)
    (most : region.len ≤ 2 ^ 30) (content : IsArenaContent score_of region.len old) (blocks : HasBlocks region old file) (split : old.stored ≡ before ++ s ∷ behind)
    (head : ArenaHead) (head_is : head ≡ arena_head score_of number old) (at : At) (stands : IsAtBlock head before s at) where
  version : head.version ≡ old.version
  version = ap (λ (h : ArenaHead). h.version) head_is

  block_is : IsStoredBlock score_of s
  block_is = stored score_of region old before behind s file content blocks split

  -- by its header
  module _ (on : walks_headers head ≡ true) where
    second : head.version ≡ 2
    second = (Decides-eqb head.version 2).0 (left (head.version == 2) (not head.sealed) on)
      where
        left : (a b : Bool) → (a && b) ≡ true → a ≡ true
        left true b both = refl
        left false b both = absurd (cc)

    stands_second : at.end ≡ used_of 2 before + block_room 2 (length s.block)
    stands_second = stands.end ∙ ap (λ (v : ℕ). used_of v before + block_room v (length s.block)) second

    sectors : at.sectors ≡ sectors_of (length s.block)
    sectors = stands.sectors on

    header_is : what_is_walked head region at file ≡ clump_header s
    header_is =
        let own = sectors_are (length s.block) in
        let place : ARENA_HEAD_LEN + at.end - 512 * at.sectors ≡ offset_of 2 before = omega (arith, stands_second, sectors, own.0) in
        ap (λ (b : Bool). if b then last_header region at file else last_entry region at.index file) on
        ∙ ap (λ (n : ℕ). header_at region n file) (place ∙ ap (λ (v : ℕ). offset_of v before) (sym second ∙ version))
        ∙ header_there score_of region old before behind s file content blocks split

    linked : s.creator ≡ big_bytes 4 (last_sectors 0 (lengths_of before))
    linked = linked_at 0 before s behind (subst (AreLinked 0) split (content.linked (sym version ∙ second)))

    known : bad_last (at.index - 1) (at.end - block_room 2 (length s.block)) (last_sectors 0 (lengths_of before)) ≡ None
    known =
        let count : at.index - 1 ≡ length before = omega (arith, stands.index) in
        let rest : at.end - block_room 2 (length s.block) ≡ used_of 2 before = omega (arith, stands_second) in
        (λ i. bad_last (count i) (rest i) (last_sectors 0 (lengths_of before))) ∙ last_known before

    few : last_sectors 0 (lengths_of before) < 2 ^ 32
    few = omega (
      arith,
      last_most before,
      ap (λ (v : ℕ). used_of v before) (sym version ∙ second),
      used_split score_of region old before behind s file content blocks split,
      content_fits score_of region.len old content,
      most,
    )

    before_is : sectors_before (clump_header s) ≡ last_sectors 0 (lengths_of before)
    before_is = before_of_header score_of s (last_sectors 0 (lengths_of before)) block_is linked few

    header_passes : first_bad_header head at (clump_header s) ≡ None
    header_passes =
        let entry : entry_in_header (clump_header s) ≡ arena_entry s = entry_of_header score_of s block_is in
        let len : size_in_entry (entry_in_header (clump_header s)) ≡ length s.block = ap size_in_entry entry ∙ size score_of s block_is in
        let sizes_none : bad_sizes (entry_in_header (clump_header s)) ≡ None = ap bad_sizes entry ∙ block_sizes_pass score_of s block_is in
        let same : sectors_of (length s.block) == at.sectors ≡ true = (Decides-eqb (sectors_of (length s.block)) at.sectors).1 (sym sectors) in
        let sectors_none : bad_sectors at (size_in_entry (entry_in_header (clump_header s))) ≡ None =
        ap (bad_sectors at) len ∙ ap (λ (b : Bool). if b then None else Some (Damaged (Number at.sectors) (Number (sectors_of (length s.block))))) same in
        let sum_none : bad_sum head.used at (block_room head.version (size_in_entry (entry_in_header (clump_header s)))) ≡ None =
        ap (λ (n : ℕ). bad_sum head.used at (block_room head.version n)) len ∙ block_sum_passes score_of s block_is head before at stands in
        let before_none : bad_before at (block_room head.version (size_in_entry (entry_in_header (clump_header s)))) (sectors_before (clump_header s)) ≡ None =
        (λ i. bad_before at (block_room (second i) (len i)) (before_is i))
        ∙ ap (λ (o : Option ℕ). option_map (λ (want : ℕ). Damaged (Number want) (Number (last_sectors 0 (lengths_of before)))) o) known in
        (λ i. option_or (option_or (option_or (option_or None (sizes_none i)) (sectors_none i)) (sum_none i)) (before_none i))

    by_header : IsWalked head at before s (what_is_walked head region at file)
    by_header = record {
      passes = (λ i. if on i then first_bad_header head at (header_is i) else first_bad_entry head at (header_is i)) ∙ header_passes;
      entry = (λ i. if on i then entry_in_header (header_is i) else header_is i) ∙ entry_of_header score_of s block_is;
      sectors = λ _. (λ i. if on i then sectors_before (header_is i) else 0) ∙ before_is;
    }

  -- by its directory entry
  module _ (off : walks_headers head ≡ false) where
    there : IsTrue (has_directory old)
    there = by old.version old.sealed content.version
        (ap (λ (h : ArenaHead). h.version == 2 && not h.sealed) (sym head_is) ∙ off)
      where
        by : (v : ℕ) (sealed : Bool) → IsVersion v → (v == 2 && not sealed) ≡ false → IsTrue (sealed || v == 1)
        by v true is none = refl
        by v false (inl one) none = ap (λ (w : ℕ). w == 1) one
        by v false (inr two) none = let wrong : true ≡ false = ap (λ (w : ℕ). w == 2 && true) (sym two) ∙ none in absurd (cc)

    entry_is : what_is_walked head region at file ≡ arena_entry s
    entry_is =
        ap (λ (b : Bool). if b then last_header region at file else last_entry region at.index file) off
        ∙ ap (λ (n : ℕ). last_entry region n file) stands.index
        ∙ entry_stands score_of region old before behind s file content blocks split there

    by_entry : IsWalked head at before s (what_is_walked head region at file)
    by_entry = record {
      passes = (λ i. if off i then first_bad_header head at (entry_is i) else first_bad_entry head at (entry_is i)) ∙ entry_passes score_of s block_is head before at stands;
      entry = (λ i. if off i then entry_in_header (entry_is i) else entry_is i);
      sectors = λ on. let wrong : true ≡ false = sym on ∙ off in absurd (cc);
    }

  walked : IsWalked head at before s (what_is_walked head region at file)
  walked =
      (elim (walks_headers head) as (λ t. walks_headers head ≡ t → IsWalked head at before s (what_is_walked head region at file)) [
        | true ↦ by_header
        | false ↦ by_entry
      ]) refl

  pub walks_block : (bytes : List ℕ) (new : At) (result : Result Info BackBad) → bytes ≡ what_is_walked head region at file → WalksOn head at new bytes result
      → MatchResult result (λ info. IsInfoOfBlock head before s info
      × ((first : List Stored) (t : Stored) → before ≡ first ++ t ∷ [] → IsAtBlock head first t new)) (λ bad. bad ≡ Fault)
  walks_block bytes new (Ok info) bytes_is walks =
      let it : IsWalked head at before s bytes = subst (IsWalked head at before s) (sym bytes_is) walked in
      let moved : new ≡ moved_before head at (entry_in head bytes) (before_in head bytes) = walks.2 in
      let len : size_in_entry (entry_in head bytes) ≡ length s.block = ap size_in_entry it.entry ∙ size score_of s block_is in
      let end : new.end ≡ used_of head.version before =
      omega (arith, ap (λ (a : At). a.end) moved, ap (λ (n : ℕ). block_room head.version n) len, stands.end) in (
        entry_info score_of s block_is head before at stands info (subst (λ (l : List ℕ). IsInfoOf head at l info) it.entry walks.1),
        λ first t is. record {
          index = omega (arith, ap (λ (a : At). a.index) moved, stands.index, ap (λ (l : List Stored). length l) is, length-append first (t ∷ []));
          end = end ∙ ap (used_of head.version) is ∙ used-append head.version first (t ∷ []) ∙ ap (λ (n : ℕ). used_of head.version first + n) (used-cons head.version t [] ∙ omega arith);
          sectors = λ on. ap (λ (a : At). a.sectors) moved ∙ it.sectors on ∙ ap (λ (l : List Stored). last_sectors 0 (lengths_of l)) is ∙ last_push 0 first t;
        },
      )
  walks_block bytes new (Err Fault) bytes_is walks = refl
  walks_block bytes new (Err (Damaged want found)) bytes_is walks =
      let none : first_bad_walked head at bytes ≡ None = ap (first_bad_walked head at) bytes_is ∙ walked.passes in
      absurd (none_some (sym none ∙ walks.0))
    where
      none_some : {bad : BackBad} → None ≡ Some bad → ⊥
      none_some is = cc
