-- What is read of an arena's head.
use Rattle.std.proofs.Common.{◌≡◌, inl, inr, ℕ, ◌+◌, ◌-◌, ◌*◌, ◌%◌, ◌^◌, ◌<◌, ◌≤◌, ◌==◌, ◌&&◌, Bool, true, false, cond, Option, Some, None, Err, List, ◌++◌, take, drop, refl, sym, ◌∙◌, ap, subst, arith, add-zero}
use Rattle.std.specs.Prelude.{slice_index, codes, is_none, nat_lt, not, ◌||◌, if◌then◌else◌}
use Rattle.std.specs.Option.{option_map, option_or}
use Rattle.std.specs.Str.{bytes_eq}
use Rattle.std.proofs.lemmas.List.{take-take, drop-take, get_or-take, get_or-drop}
use Rattle.std.proofs.lemmas.Bool.Decides.{nat_tests}
use Rattle.byteorder.specs.Endian.{big_number}
use Rattle.byteorder.specs.Numbers.{big_number-reads_back, big_from-take}
use Rattle.vt_disk.specs.declared.region.Region.{Region}
use Rattle.vt_disk.specs.Disk.{part}
use Rattle.vt_twin.specs.Frames.{current_frame, named_number}
use Rattle.vt_arena.specs.declared.TheConstants.{FRAME_LEN, FIELDS_LEN, LAST_LEN}
use Rattle.vt_arena.specs.declared.head.ArenaHead.{ArenaHead}
use Rattle.vt_arena.specs.Faults.{bad_value, bad_last_value, first_bad_fields, has_last, names_last, CanStand, FindsArena, FindsHead, MountsArena}
use Rattle.vt_arena.specs.declared.error.ArenaBad.{ArenaBad}
use Rattle.vt_arena.specs.declared.error.ArenaBad.TheVariants.{NotFormatted, Torn, Fault, NoMemory}
use Rattle.vt_arena.specs.declared.error.Field.TheVariants.{Last}
use Rattle.vt_arena.specs.Heads.{fields_of, fields_len, flag_of, own_fields, version_in, number_in, sealed_in, clump_count_in, used_in, last_in}
use Rattle.vt_arena.specs.Layout.{fields_at}
use Rattle.vt_arena.specs.Places.{IsVersion, arena_room, bad_last, directory_room}
use Rattle.vt_arena.proofs.Unique.{HasWidths, reads_last, version_small, where_two}

pub selector_named : (region : Region) (file buf : List ℕ) → buf ≡ part (region.start + 2 * FRAME_LEN) 1 file
    → slice_index buf 0 % 2 ≡ named_number region FRAME_LEN file
selector_named region file buf is =
    ap (λ (l : List ℕ). slice_index l 0 % 2) is
    ∙ ap (λ (b : ℕ). b % 2) (get_or-take 1 (drop (region.start + 2 * FRAME_LEN) file) 0 0 (omega arith) ∙ get_or-drop (region.start + 2 * FRAME_LEN) file 0 0 ∙ ap (λ (k : ℕ). slice_index file k) (add-zero (region.start + 2 * FRAME_LEN)))

-- ---- the first bytes of a frame

-- a field of the first n bytes
field_taken : (i k n : ℕ) (bytes : List ℕ) → i + k ≤ n → big_number k (drop i (take n bytes)) ≡ big_number k (drop i bytes)
field_taken i k n bytes within =
    let split : n ≡ i + (n - i) = omega (arith, within) in
    ap (λ (m : ℕ). big_number k (drop i (take m bytes))) split
    ∙ ap (λ (l : List ℕ). big_number k l) (drop-take i (n - i) bytes)
    ∙ big_from-take 0 k (n - i) (drop i bytes) (omega (arith, within))

pub few_fields : (version : ℕ) → (43 ≤ fields_len version) × (fields_len version ≤ 47)
few_fields version = elim (version == 2) as (λ t. (43 ≤ cond t 47 43) × (cond t 47 43 ≤ 47)) [
  | true ↦ omega arith
  | false ↦ omega arith
]

all_fields : (version : ℕ) → version ≡ 2 → 43 + 4 ≤ fields_len version
all_fields version two = subst (λ (v : ℕ). 43 + 4 ≤ fields_len v) (sym two) (omega arith)

-- the fields in the first 47 bytes of a frame are the frame's
pub own_taken : (frame : List ℕ) → own_fields (take 47 frame) ≡ own_fields frame
own_taken frame =
    ap (λ (v : ℕ). take (fields_len v) (take 47 frame)) (field_taken 4 2 47 frame (omega arith))
    ∙ take-take (fields_len (version_in frame)) 47 frame (few_fields (version_in frame)).1

-- and are tested as all 47 bytes are
module _ (buf : List ℕ) where
  abbrev own : List ℕ
  own = own_fields buf

  abbrev count : ℕ
  count = fields_len (version_in buf)

  least : 43 ≤ count
  least = (few_fields (version_in buf)).0

  pub own_version : version_in own ≡ version_in buf
  own_version = field_taken 4 2 count buf (omega (arith, least))

  own_last : last_in own ≡ last_in buf
  own_last =
      ap (λ (v : ℕ). if v == 2 then big_number LAST_LEN (drop 43 own) else 0) own_version
      ∙ where_two (version_in buf) (big_number LAST_LEN (drop 43 own)) (big_number LAST_LEN (drop 43 buf))
      (λ two. field_taken 43 4 count buf (all_fields (version_in buf) two))

  pub own_sealed : sealed_in own ≡ sealed_in buf
  own_sealed = get_or-take count buf 10 0 (omega (arith, least))

  pub own_clumps : clump_count_in own ≡ clump_count_in buf
  own_clumps = field_taken 11 4 count buf (omega (arith, least))

  pub own_tested : (number len : ℕ) → first_bad_fields number len own ≡ first_bad_fields number len buf
  own_tested number len =
      let magic : take 4 own ≡ take 4 buf = take-take 4 count buf (omega (arith, least)) in
      let number_is : number_in own ≡ number_in buf = field_taken 6 4 count buf (omega (arith, least)) in
      let used_is : used_in own ≡ used_in buf = field_taken 15 8 count buf (omega (arith, least)) in
      (λ i. if not (bytes_eq (magic i) (codes "VARN")) then Some NotFormatted
      else option_or (bad_value number len (own_version i) (number_is i) (own_sealed i)
      (used_is i + directory_room (own_version i) (own_clumps i)))
      (bad_last_value (own_version i) (own_clumps i) (used_is i) (own_last i)))

-- what is read of a frame are its fields
pub fields_read : (region : Region) (file buf : List ℕ) (k : ℕ) → k ≡ named_number region FRAME_LEN file → buf ≡ part (region.start + FRAME_LEN * k) FIELDS_LEN file
    → own_fields buf ≡ fields_at region file
fields_read region file buf k named is =
    ap own_fields (is
    ∙ ap (λ (n : ℕ). part (region.start + FRAME_LEN * n) FIELDS_LEN file) named
    ∙ sym (take-take FIELDS_LEN FRAME_LEN (drop (region.start + FRAME_LEN * named_number region FRAME_LEN file) file) (omega arith)))
    ∙ own_taken (current_frame region FRAME_LEN file)

-- ---- heads that pass

-- no test fails on the values of a head that can stand
value_passes : (number len : ℕ) (version numbered sealed taken : ℕ) → IsVersion version → numbered ≡ number → sealed ≤ 1 → taken ≤ arena_room len
    → bad_value number len version numbered sealed taken ≡ None
value_passes number len version numbered sealed taken is_version is_number flag fits =
    let first : (version == 1 || version == 2) ≡ true = a_version version is_version in
    let second : numbered == number ≡ true = grind (arith, nat_tests) in
    let third : nat_lt 1 sealed ≡ false = grind (arith, nat_tests) in
    let fourth : nat_lt (arena_room len) taken ≡ false = grind (arith, nat_tests) in
    rw (first, second, third, fourth) refl
  where
    a_version : (v : ℕ) → IsVersion v → (v == 1 || v == 2) ≡ true
    a_version v (inl one) = ap (λ (w : ℕ). w == 1 || w == 2) one
    a_version v (inr two) = ap (λ (w : ℕ). w == 1 || w == 2) two

pub flag_most : (b : Bool) → flag_of b ≤ 1
flag_most true = omega arith
flag_most false = omega arith

last_passes : (version clumps used last : ℕ) → IsVersion version → (version ≡ 2 → bad_last clumps used last ≡ None) → bad_last_value version clumps used last ≡ None
last_passes version clumps used last (inl one) none =
    ap (λ (v : ℕ). if v == 2 then option_map (λ (want : ℕ). Torn Last last want) (bad_last clumps used last) else None) one
last_passes version clumps used last (inr two) none =
    ap (λ (v : ℕ). if v == 2 then option_map (λ (want : ℕ). Torn Last last want) (bad_last clumps used last) else None) two
    ∙ ap (λ (o : Option ℕ). option_map (λ (want : ℕ). Torn Last last want) o) (none two)

module _ (number len : ℕ) (h : ArenaHead) (wide : HasWidths h) (small : number < 2 ^ 32) (stand : CanStand number len h) (behind : List ℕ) where
  version_is : version_in (fields_of h ++ behind) ≡ h.version
  version_is = big_number-reads_back 2 h.version (drop 6 (fields_of h ++ behind)) (version_small h.version wide.version)

  clumps_is : clump_count_in (fields_of h ++ behind) ≡ h.clumps
  clumps_is = big_number-reads_back 4 h.clumps (drop 15 (fields_of h ++ behind)) wide.clumps

  pub used_is : used_in (fields_of h ++ behind) ≡ h.used
  used_is = big_number-reads_back 8 h.used (drop 23 (fields_of h ++ behind)) wide.used

  number_is : number_in (fields_of h ++ behind) ≡ number
  number_is = big_number-reads_back 4 h.number (drop 10 (fields_of h ++ behind)) (omega (arith, small, stand.number_is)) ∙ stand.number_is

  pub last_is : last_in (fields_of h ++ behind) ≡ h.last
  last_is =
      reads_last h behind (version_small h.version wide.version) wide.last stand.chain
      ∙ by wide.version
    where
      by : IsVersion h.version → (if h.version == 2 then h.last else 0) ≡ h.last
      by (inl one) = ap (λ (v : ℕ). if v == 2 then h.last else 0) one ∙ sym (stand.no_last one)
      by (inr two) = ap (λ (v : ℕ). if v == 2 then h.last else 0) two

  -- no test of its fields fails, whatever stands behind them
  pub head_passes : first_bad_fields number len (fields_of h ++ behind) ≡ None
  head_passes =
      let fits : used_in (fields_of h ++ behind) + directory_room (version_in (fields_of h ++ behind)) (clump_count_in (fields_of h ++ behind)) ≤ arena_room len =
      subst (λ (n : ℕ). n ≤ arena_room len) (λ i. sym used_is i + directory_room (sym version_is i) (sym clumps_is i)) stand.fit in
      let value = value_passes number len (version_in (fields_of h ++ behind)) (number_in (fields_of h ++ behind)) (flag_of h.sealed)
      (used_in (fields_of h ++ behind) + directory_room (version_in (fields_of h ++ behind)) (clump_count_in (fields_of h ++ behind)))
      (subst IsVersion (sym version_is) stand.version) number_is (flag_most h.sealed) fits in
      let last : bad_last_value (version_in (fields_of h ++ behind)) (clump_count_in (fields_of h ++ behind)) (used_in (fields_of h ++ behind)) (last_in (fields_of h ++ behind)) ≡ None =
      (λ i. bad_last_value (version_is i) (clumps_is i) (used_is i) (last_is i))
      ∙ last_passes h.version h.clumps h.used h.last stand.version stand.last in
      (λ i. option_or (value i) (last i))

  pub names_last_is : names_last number len (fields_of h ++ behind) ≡ has_last h
  names_last_is i = is_none (head_passes i) && (version_is i == 2 && not (clumps_is i == 0))

-- ---- answers

pub finds_head_bad : (number len : ℕ) (fields : List ℕ) (bad : ArenaBad) → first_bad_fields number len fields ≡ Some bad → ¬ (bad ≡ NoMemory) → FindsHead number len fields (Err bad)
finds_head_bad number len fields NotFormatted is memory = is
finds_head_bad number len fields (Torn field found want) is memory = is
finds_head_bad number len fields Fault is memory = tt
finds_head_bad number len fields NoMemory is memory = memory refl

-- what finding answers, mounting does
pub mounts_bad : (number len : ℕ) (read : List ℕ) (bad : ArenaBad) → FindsArena number len read (Err bad) → MountsArena number len read (Err bad)
mounts_bad number len read NotFormatted finds = finds
mounts_bad number len read (Torn field found want) finds = finds
mounts_bad number len read Fault finds = tt
mounts_bad number len read NoMemory finds = absurd finds
