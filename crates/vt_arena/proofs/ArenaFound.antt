-- The arena that is there is found.
use Rattle.std.proofs.Common.{◌≡◌, ◌⊎◌, inl, inr, ⊎_elim, ℕ, ◌+◌, ◌*◌, ◌%◌, ◌^◌, ◌<◌, ◌≤◌, ◌==◌, ◌&&◌, Bool, true, false, cond, Option, Some, None, Ok, Err, List, [], ◌∷◌, ◌++◌, length, drop, refl, sym, ◌∙◌, ap, subst, arith, append-nil, length-append, length-take, length-drop}
use Rattle.std.specs.Prelude.{IsTrue, is_none, not, slice_index, if◌then◌else◌}
use Rattle.std.specs.Option.{option_or}
use Rattle.std.proofs.Math.Nat.{mod-lt}
use Rattle.std.proofs.lemmas.Bool.{cases_lt}
use Rattle.std.proofs.lemmas.Bool.Decides.{nat_tests, Decides-eqb}
use Rattle.std.proofs.lemmas.List.{drop_at}
use Rattle.vt_base.specs.Faults.{IsOneMore}
use Rattle.vt_disk.specs.declared.region.Region.{Region}
use Rattle.vt_disk.specs.Calls.{OnlyReads}
use Rattle.vt_disk.specs.Disk.{AreAmong}
use Rattle.vt_disk.specs.Members.{DiskOf}
use Rattle.vt_twin.specs.Frames.{current_frame}
use Rattle.vt_clump.specs.Spelling.{Stored, size_in}
use Rattle.vt_arena.specs.declared.TheConstants.{FRAME_LEN, FIELDS_LEN}
use Rattle.vt_arena.specs.declared.head.ArenaHead.{ArenaHead}
use Rattle.byteorder.specs.Endian.{big_bytes}
use Rattle.vt_arena.specs.declared.error.ArenaBad.{ArenaBad}
use Rattle.vt_arena.specs.declared.head.Found.{Found as FoundHead}
use Rattle.vt_arena.specs.declared.error.ArenaBad.TheVariants.{Fault, NoMemory, NotFormatted, Torn}
use Rattle.vt_arena.specs.declared.error.Field.TheVariants.{Last}
use Rattle.vt_arena.specs.Faults.{bad_last_header, first_bad_fields, first_bad_head, has_last, last_offset, names_last, read_at, reads_to_find, CanStand, ChecksLast, FindsArena, FindsHead}
use Rattle.vt_arena.specs.Heads.{fields_of, fields_len, last_field, own_fields, version_in, clump_count_in, used_in, last_in}
use Rattle.vt_arena.specs.Layout.{Content, IsArena, arena_head, chain_of_blocks, fields_at, last_of, used_of}
use Rattle.vt_arena.specs.Places.{IsVersion, bad_last, last_sectors, lengths_of, offset_of, sectors_of}
use Rattle.vt_arena.specs.Reading.{header_at}
use Rattle.vt_arena.specs.Sound.{IsRegion}
use Rattle.vt_arena.proofs.Blocks.{header_says}
use Rattle.vt_arena.proofs.Finds.{few_fields, head_passes, last_is, names_last_is, own_version, used_is}
use Rattle.vt_arena.proofs.Layouts.{content_fits, content_room, entries_least, used-append, used-cons}
use Rattle.vt_arena.proofs.Sectors.{last_known, last_most, last_none, last_push, last_within, sectors_are}
use Rattle.vt_arena.proofs.Unique.{HasWidths, length-fields, one_head, own_of, read_version, version_small}

-- some elements have a last one
snoc : (x : Stored) (xs : List Stored) → (front : List Stored) × (last : Stored) × (x ∷ xs ≡ front ++ last ∷ [])
snoc x [] = ([], x, refl)
snoc x (y ∷ ys) = let rest = snoc y ys in (x ∷ rest.0, rest.1, ap (λ (l : List Stored). x ∷ l) rest.2)

-- the sectors of the last clump, by its header
pub last_header_passes : (last sectors : ℕ) → last ≡ sectors → (if last == sectors then None else Some (Torn Last last sectors)) ≡ None
last_header_passes last sectors same = ap (λ (b : Bool). if b then None else Some (Torn Last last sectors)) ((Decides-eqb last sectors).1 same)

pub last_header_bad : (last sectors : ℕ) → ¬ (last ≡ sectors) → (if last == sectors then None else Some (Torn Last last sectors)) ≡ Some (Torn Last last sectors)
last_header_bad last sectors other =
    let no : last == sectors ≡ false = grind (arith, nat_tests) in
    ap (λ (b : Bool). if b then None else Some (Torn Last last sectors)) no

-- the numbers of a head that can stand have their widths
pub stand_widths : (number len : ℕ) (h : ArenaHead) → len ≤ 2 ^ 30 → CanStand number len h → HasWidths h
stand_widths number len h most stand = record {
  version = stand.version;
  clumps = omega (arith, stand.fit, entries_least h.version h.clumps, most);
  used = omega (arith, stand.fit, most);
  last = few stand.version;
}
  where
    few : IsVersion h.version → h.last < 2 ^ 32
    few (inl one) = omega (arith, stand.no_last one)
    few (inr two) = ⊎_elim
        (λ (some : 0 < h.clumps). omega (arith, (last_within h.clumps h.used h.last (stand.last two) some).1, stand.fit, most))
        (λ (none : h.clumps ≤ 0). omega (arith, last_none h.clumps h.used h.last (stand.last two) (omega (arith, none))))
        (cases_lt 0 h.clumps)

-- ---- what is read of a head that can stand

module _ (number len : ℕ) (h : ArenaHead) (wide : HasWidths h) (small : number < 2 ^ 32) (stand : CanStand number len h) where
  all_fields : (fields_of h) ++ [] ≡ fields_of h
  all_fields = append-nil (fields_of h)

  pub fields_pass : first_bad_fields number len (fields_of h) ≡ None
  fields_pass = ap (first_bad_fields number len) (sym all_fields) ∙ head_passes number len h wide small stand []

  pub names_own : names_last number len (fields_of h) ≡ has_last h
  names_own = ap (names_last number len) (sym all_fields) ∙ names_last_is number len h wide small stand []

  pub used_own : used_in (fields_of h) ≡ h.used
  used_own = ap used_in (sym all_fields) ∙ used_is number len h wide small stand []

  pub last_own : last_in (fields_of h) ≡ h.last
  last_own = ap last_in (sym all_fields) ∙ last_is number len h wide small stand []

  pub own_is : own_fields (fields_of h) ≡ fields_of h
  own_is = ap own_fields (sym all_fields) ∙ own_of h [] (version_small h.version wide.version) stand.chain

  -- where it doesn't say where the last clump is
  pub read_plain : has_last h ≡ false → first_bad_head number len (fields_of h) ≡ None
  read_plain off =
      (λ i. option_or (fields_pass i) (if (names_own ∙ off) i then bad_last_header (last_in (fields_of h)) (drop FIELDS_LEN (fields_of h)) else None))

  -- where it does
  module _ (on : has_last h ≡ true) (header : List ℕ) where
    second : h.version ≡ 2
    second = (Decides-eqb h.version 2).0 (left (h.version == 2) (not (h.clumps == 0)) on)
      where
        left : (a b : Bool) → (a && b) ≡ true → a ≡ true
        left true b is = refl
        left false b is = absurd (cc)

    behind_fields : drop FIELDS_LEN (fields_of h ++ header) ≡ header
    behind_fields = drop_at (fields_of h) header FIELDS_LEN (length-fields h stand.chain ∙ ap fields_len second)

    pub read_last : first_bad_head number len (fields_of h ++ header) ≡ bad_last_header h.last header
    read_last =
        (λ i. option_or (head_passes number len h wide small stand header i)
        (if (names_last_is number len h wide small stand header ∙ on) i
        then bad_last_header (last_is number len h wide small stand header i) (behind_fields i) else None))

    pub own_read : own_fields (fields_of h ++ header) ≡ fields_of h
    own_read = own_of h header (version_small h.version wide.version) stand.chain

-- ---- the head of an arena

module _ (score_of : List ℕ → List ℕ) (region : Region) (size number : ℕ) (old : Content) (file : List ℕ) (is_region : IsRegion region size) (whole : length file ≡ size)
    (arena : IsArena score_of region number old file) where
  frame_len : 47 ≤ length (current_frame region FRAME_LEN file)
  frame_len =
      omega (
        arith,
        length-take FRAME_LEN (drop (region.start + FRAME_LEN * (slice_index file (region.start + 2 * FRAME_LEN) % 2)) file),
        length-drop (region.start + FRAME_LEN * (slice_index file (region.start + 2 * FRAME_LEN) % 2)) file,
        mod-lt (slice_index file (region.start + 2 * FRAME_LEN)) {m = 2} (omega arith),
        whole,
        is_region.within,
        is_region.len.0,
      )

  version_there : version_in (current_frame region FRAME_LEN file) ≡ old.version
  version_there = sym (own_version (current_frame region FRAME_LEN file)) ∙ ap version_in arena.head ∙ read_version score_of region.len number is_region.len.1 old arena.content

  count : length (fields_of (arena_head score_of number old)) ≡ fields_len old.version
  count =
      ap (λ (l : List ℕ). length l) (sym arena.head)
      ∙ omega (arith, length-take (fields_len (version_in (current_frame region FRAME_LEN file))) (current_frame region FRAME_LEN file), frame_len, (few_fields (version_in (current_frame region FRAME_LEN file))).1)
      ∙ ap fields_len version_there

  pub arena_chain : length (chain_of_blocks score_of old.stored) ≡ 20
  arena_chain =
      let tail : length (last_field old.version (last_of old)) + 43 ≡ fields_len old.version = of_last (old.version == 2) in
      omega (arith, count, tail, length-append (chain_of_blocks score_of old.stored) (last_field old.version (last_of old)))
    where
      of_last : (t : Bool) → length (cond t (big_bytes 4 (last_of old)) []) + 43 ≡ cond t 47 43
      of_last true = refl
      of_last false = refl

  no_last : old.version ≡ 1 → last_of old ≡ 0
  no_last one = ap (λ (v : ℕ). if v == 2 then last_sectors 0 (lengths_of old.stored) else 0) one

  has_known : old.version ≡ 2 → last_of old ≡ last_sectors 0 (lengths_of old.stored)
  has_known two = ap (λ (v : ℕ). if v == 2 then last_sectors 0 (lengths_of old.stored) else 0) two

  pub arena_stands : CanStand number region.len (arena_head score_of number old)
  arena_stands = record {
    version = arena.content.version;
    number_is = refl;
    chain = arena_chain;
    fit = content_room score_of region.len old arena.content;
    last = λ two.
        (λ i. bad_last (length old.stored) (used_of (two i) old.stored) (has_known two i)) ∙ last_known old.stored;
    no_last = no_last;
  }

  few_sectors : IsVersion old.version → last_of old < 2 ^ 32
  few_sectors (inl one) = omega (arith, no_last one)
  few_sectors (inr two) =
      omega (
        arith,
        has_known two,
        last_most old.stored,
        ap (λ (v : ℕ). used_of v old.stored) two,
        content_fits score_of region.len old arena.content,
        is_region.len.1,
      )

  pub arena_widths : HasWidths (arena_head score_of number old)
  arena_widths = record {
    version = arena.content.version;
    clumps = omega (arith, content_fits score_of region.len old arena.content, is_region.len.1);
    used = omega (arith, content_fits score_of region.len old arena.content, is_region.len.1);
    last = few_sectors arena.content.version;
  }

  pub arena_passes : number < 2 ^ 32 → first_bad_fields number region.len (fields_of (arena_head score_of number old)) ≡ None
  arena_passes small = fields_pass number region.len (arena_head score_of number old) arena_widths small arena_stands

  pub head_found : (h : ArenaHead) → CanStand number region.len h → fields_of h ≡ fields_at region file → h ≡ arena_head score_of number old
  head_found h stand spelled =
      one_head h (arena_head score_of number old) (stand_widths number region.len h is_region.len.1 stand) arena_widths stand.number_is stand.chain stand.no_last no_last (spelled ∙ arena.head)

  -- the header of its last clump says what its head does
  pub last_agrees : has_last (arena_head score_of number old) ≡ true
      → bad_last_header (last_of old) (header_at region (last_offset (used_of old.version old.stored) (last_of old)) file) ≡ None
  last_agrees on = by old.stored refl
    where
      second : old.version ≡ 2
      second = (Decides-eqb old.version 2).0 (left (old.version == 2) (not (length old.stored == 0)) on)
        where
          left : (a b : Bool) → (a && b) ≡ true → a ≡ true
          left true b is = refl
          left false b is = absurd (cc)

      at_last : (before : List Stored) (s : Stored) → old.stored ≡ before ++ s ∷ []
          → bad_last_header (last_of old) (header_at region (last_offset (used_of old.version old.stored) (last_of old)) file) ≡ None
      at_last before s split =
          let last : last_of old ≡ sectors_of (length s.block) =
          has_known second ∙ ap (λ (l : List Stored). last_sectors 0 (lengths_of l)) split ∙ last_push 0 before s in
          let own = sectors_are (length s.block) in
          let used : used_of old.version old.stored ≡ used_of 2 before + 512 * sectors_of (length s.block) =
          ap (λ (v : ℕ). used_of v old.stored) second ∙ ap (used_of 2) split ∙ used-append 2 before (s ∷ [])
          ∙ omega (arith, own.0, used-cons 2 s []) in
          let place : last_offset (used_of old.version old.stored) (last_of old) ≡ offset_of old.version before =
          omega (arith, used, last) ∙ ap (λ (v : ℕ). offset_of v before) (sym second) in
          let says : size_in (header_at region (last_offset (used_of old.version old.stored) (last_of old)) file) ≡ length s.block =
          ap (λ (n : ℕ). size_in (header_at region n file)) place
          ∙ header_says score_of region old before [] s file arena.content arena.blocks split in
          last_header_passes (last_of old) (sectors_of (size_in (header_at region (last_offset (used_of old.version old.stored) (last_of old)) file))) (last ∙ ap sectors_of (sym says))

      by : (stored : List Stored) → old.stored ≡ stored → bad_last_header (last_of old) (header_at region (last_offset (used_of old.version old.stored) (last_of old)) file) ≡ None
      by [] is = let wrong : false ≡ true = no (old.version == 2) ∙ ap (λ (l : List Stored). old.version == 2 && not (length l == 0)) (sym is) ∙ on in absurd (cc)
        where
          no : (b : Bool) → false ≡ (b && false)
          no true = refl
          no false = refl
      by (x ∷ xs) is = let it = snoc x xs in at_last it.0 it.1 (is ∙ it.2)

-- ---- answers

-- what is read of an arena, by its fields
pub read_plain_is : (region : Region) (number : ℕ) (file fields : List ℕ) → fields ≡ fields_at region file → names_last number region.len fields ≡ false → fields ≡ read_at region number file
read_plain_is region number file fields is off =
    is
    ∙ ap (λ (b : Bool). if b then fields_at region file ++ header_at region (last_offset (used_in (fields_at region file)) (last_in (fields_at region file))) file else fields_at region file)
    (sym (ap (names_last number region.len) (sym is) ∙ off))

pub read_last_is : (region : Region) (number : ℕ) (file fields header : List ℕ) → fields ≡ fields_at region file → names_last number region.len fields ≡ true
    → header ≡ header_at region (last_offset (used_in fields) (last_in fields)) file → fields ++ header ≡ read_at region number file
read_last_is region number file fields header is on there =
    let moved : header ≡ header_at region (last_offset (used_in (fields_at region file)) (last_in (fields_at region file))) file =
    there ∙ ap (λ (l : List ℕ). header_at region (last_offset (used_in l) (last_in l)) file) is in
    (λ i. is i ++ moved i)
    ∙ ap (λ (b : Bool). if b then fields_at region file ++ header_at region (last_offset (used_in (fields_at region file)) (last_in (fields_at region file))) file else fields_at region file)
    (sym (ap (names_last number region.len) (sym is) ∙ on))

module _ (number len : ℕ) (fields : List ℕ) (found : FoundHead) (wide : HasWidths found.head) (small : number < 2 ^ 32) (stand : CanStand number len found.head)
    (spelled : fields_of found.head ≡ fields) where
  pub names_found : names_last number len fields ≡ has_last found.head
  names_found = ap (names_last number len) (sym spelled) ∙ names_own number len found.head wide small stand

  pub used_found : used_in fields ≡ found.head.used
  used_found = ap used_in (sym spelled) ∙ used_own number len found.head wide small stand

  pub last_found : last_in fields ≡ found.head.last
  last_found = ap last_in (sym spelled) ∙ last_own number len found.head wide small stand

  -- the header that was read stands where the fields say
  pub header_placed : (region : Region) (file files header : List ℕ) → header ≡ header_at region (last_offset found.head.used found.head.last) files → files ≡ file
      → header ≡ header_at region (last_offset (used_in fields) (last_in fields)) file
  header_placed region file files header is same =
      is ∙ (λ i. header_at region (last_offset (sym used_found i) (sym last_found i)) (same i))

  pub finds_plain : has_last found.head ≡ false → FindsArena number len fields (Ok found)
  finds_plain off = (
    ap (first_bad_head number len) (sym spelled) ∙ read_plain number len found.head wide small stand off,
    sym (ap own_fields (sym spelled) ∙ own_is number len found.head wide small stand),
  )

  module _ (on : has_last found.head ≡ true) (header : List ℕ) where
    bad_is : first_bad_head number len (fields ++ header) ≡ bad_last_header found.head.last header
    bad_is = ap (λ (l : List ℕ). first_bad_head number len (l ++ header)) (sym spelled) ∙ read_last number len found.head wide small stand on header

    pub names_read : names_last number len (fields ++ header) ≡ true
    names_read = ap (λ (l : List ℕ). names_last number len (l ++ header)) (sym spelled) ∙ names_last_is number len found.head wide small stand header ∙ on

    pub finds_last : bad_last_header found.head.last header ≡ None → FindsArena number len (fields ++ header) (Ok found)
    finds_last none = (
      bad_is ∙ none,
      sym (ap (λ (l : List ℕ). own_fields (l ++ header)) (sym spelled) ∙ own_read number len found.head wide small stand on header),
    )

    pub finds_last_bad : (bad : ArenaBad) → ChecksLast found.head.last header (Err bad) → FindsArena number len (fields ++ header) (Err bad)
    finds_last_bad NotFormatted checks = absurd checks
    finds_last_bad (Torn field it want) checks = bad_is ∙ checks
    finds_last_bad Fault checks = tt
    finds_last_bad NoMemory checks = absurd checks

-- a head that is refused says of no last clump where it is
pub refused_names : (number len : ℕ) (fields : List ℕ) (bad : ArenaBad) → first_bad_fields number len fields ≡ Some bad → names_last number len fields ≡ false
refused_names number len fields bad is =
    ap (λ (o : Option ArenaBad). is_none o && (version_in fields == 2 && not (clump_count_in fields == 0))) is

-- and its refusal is that of what is read
-- and so many reads were made, if none failed
pub finds_bad : (region : Region) (number : ℕ) (file fields : List ℕ) (told : Type 0) (bad : ArenaBad) (F : Type 0) (Made : ℕ → Type 0) → (told → fields ≡ fields_at region file) → FindsHead number region.len fields (Err bad)
    → (bad ≡ Fault → F) → F ⊎ Made 2
    → (read : List ℕ) × (told → read ≡ read_at region number file) × FindsArena number region.len read (Err bad) × (F ⊎ Made (reads_to_find number region.len read))
finds_bad region number file fields told NotFormatted F Made is finds fault made =
    let off : names_last number region.len fields ≡ false = refused_names number region.len fields NotFormatted finds in (
      fields,
      (λ tells. read_plain_is region number file fields (is tells) off),
      (λ i. option_or (finds i) (if off i then bad_last_header (last_in fields) (drop FIELDS_LEN fields) else None)),
      ⊎_elim (λ (f : F). inl f) (λ (two : Made 2). inr (subst (λ (b : Bool). Made (if b then 3 else 2)) (sym off) two)) made,
    )
finds_bad region number file fields told (Torn field it want) F Made is finds fault made =
    let off : names_last number region.len fields ≡ false = refused_names number region.len fields (Torn field it want) finds in (
      fields,
      (λ tells. read_plain_is region number file fields (is tells) off),
      (λ i. option_or (finds i) (if off i then bad_last_header (last_in fields) (drop FIELDS_LEN fields) else None)),
      ⊎_elim (λ (f : F). inl f) (λ (two : Made 2). inr (subst (λ (b : Bool). Made (if b then 3 else 2)) (sym off) two)) made,
    )
finds_bad region number file fields told Fault F Made is finds fault made = (read_at region number file, (λ tells. refl), tt, inl (fault refl))
finds_bad region number file fields told NoMemory F Made is finds fault made = absurd finds

-- a sync is a call that reads
pub sync_reads : {D : Type 0} (disk : DiskOf D) (old new : D) → disk.bytes new ≡ disk.bytes old → AreAmong (disk.images new) (disk.images old) → disk.size new ≡ disk.size old
    → (IsTrue disk.tells → IsOneMore (disk.calls old) (disk.calls new)) → OnlyReads disk 1 old new
sync_reads disk old new bytes images size calls = record {
  bytes = bytes;
  images = images;
  size = size;
  calls = λ told. omega (arith, calls told);
}

-- where no test fails, nothing but a fault is told
pub only_fault : (number len : ℕ) (fields : List ℕ) (bad : ArenaBad) → FindsHead number len fields (Err bad) → first_bad_fields number len fields ≡ None → bad ≡ Fault
only_fault number len fields NotFormatted finds none = let wrong : None ≡ Some NotFormatted = sym none ∙ finds in absurd (cc)
only_fault number len fields (Torn field it want) finds none = let wrong : None ≡ Some (Torn field it want) = sym none ∙ finds in absurd (cc)
only_fault number len fields Fault finds none = refl
only_fault number len fields NoMemory finds none = absurd finds

pub only_fault_last : (last : ℕ) (header : List ℕ) (bad : ArenaBad) → ChecksLast last header (Err bad) → bad_last_header last header ≡ None → bad ≡ Fault
only_fault_last last header NotFormatted checks none = absurd checks
only_fault_last last header (Torn field it want) checks none = let wrong : None ≡ Some (Torn field it want) = sym none ∙ checks in absurd (cc)
only_fault_last last header Fault checks none = refl
only_fault_last last header NoMemory checks none = absurd checks

-- ---- what mounting reads of an arena that is there

module _ (score_of : List ℕ → List ℕ) (region : Region) (size number : ℕ) (old : Content) (file : List ℕ) (is_region : IsRegion region size) (whole : length file ≡ size)
    (arena : IsArena score_of region number old file) (small : number < 2 ^ 32) where
  abbrev own_head : ArenaHead
  own_head = arena_head score_of number old

  stands : CanStand number region.len own_head
  stands = arena_stands score_of region size number old file is_region whole arena

  wide : HasWidths own_head
  wide = arena_widths score_of region size number old file is_region whole arena

  -- no test of it fails, and its own fields are those of the arena's head
  pub arena_reads : (first_bad_head number region.len (read_at region number file) ≡ None) × (own_fields (read_at region number file) ≡ fields_of own_head)
  arena_reads =
      (elim (has_last own_head) as (λ t. has_last own_head ≡ t
      → (first_bad_head number region.len (read_at region number file) ≡ None) × (own_fields (read_at region number file) ≡ fields_of own_head)) [
        | true ↦ with_last
        | false ↦ without
      ]) refl
    where
      without : has_last own_head ≡ false → (first_bad_head number region.len (read_at region number file) ≡ None) × (own_fields (read_at region number file) ≡ fields_of own_head)
      without off =
          let is : fields_of own_head ≡ read_at region number file =
          read_plain_is region number file (fields_of own_head) (sym arena.head) (names_own number region.len own_head wide small stands ∙ off) in (
            ap (first_bad_head number region.len) (sym is) ∙ read_plain number region.len own_head wide small stands off,
            ap own_fields (sym is) ∙ own_is number region.len own_head wide small stands,
          )

      with_last : has_last own_head ≡ true → (first_bad_head number region.len (read_at region number file) ≡ None) × (own_fields (read_at region number file) ≡ fields_of own_head)
      with_last on =
          let header : List ℕ = header_at region (last_offset (used_in (fields_of own_head)) (last_in (fields_of own_head))) file in
          let is : fields_of own_head ++ header ≡ read_at region number file =
          read_last_is region number file (fields_of own_head) header (sym arena.head) (names_own number region.len own_head wide small stands ∙ on) refl in
          let placed : header ≡ header_at region (last_offset own_head.used own_head.last) file =
          (λ i. header_at region (last_offset (used_own number region.len own_head wide small stands i) (last_own number region.len own_head wide small stands i)) file) in (
            ap (first_bad_head number region.len) (sym is) ∙ read_last number region.len own_head wide small stands on header
                ∙ ap (bad_last_header own_head.last) placed ∙ last_agrees score_of region size number old file is_region whole arena on,
            ap own_fields (sym is) ∙ own_read number region.len own_head wide small stands on header,
          )
