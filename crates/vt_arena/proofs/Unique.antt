-- The bytes of an arena stand for one content, and its head reads back.
use Rattle.std.proofs.Common.{◌≡◌, inl, inr, ℕ, ◌+◌, ◌-◌, ◌^◌, ◌<◌, ◌≤◌, ◌==◌, Bool, true, false, cond, List, [], ◌++◌, length, take, drop, refl, sym, ◌∙◌, ap, subst, arith, append_assoc, length-append}
use Rattle.std.specs.Prelude.{replicate, slice_index, if◌then◌else◌}
use Rattle.std.proofs.lemmas.Bool.Decides.{Decides-eqb}
use Rattle.std.proofs.lemmas.List.{drop_at, drop-drop, take_at}
use Rattle.byteorder.specs.Endian.{big_bytes, big_number}
use Rattle.byteorder.specs.Numbers.{big_number-reads_back}
use Rattle.vt_disk.specs.declared.region.Region.{Region}
use Rattle.vt_model.specs.declared.TheConstants.{ARENA_HEAD_LEN}
use Rattle.vt_arena.specs.declared.head.ArenaHead.{ArenaHead}
use Rattle.vt_arena.specs.declared.TheConstants.{FRAME_LEN, FIELDS_LEN, LAST_LEN}
use Rattle.vt_arena.specs.Heads.{fields_of, fields_with, fields_len, flag_of, head_frame, last_field, last_in, own_fields, version_in, clump_count_in, used_in}
use Rattle.vt_arena.specs.Layout.{Content, IsArenaContent, IsArena, ClumpsStandAt, arena_head, used_of}
use Rattle.vt_arena.specs.Places.{IsVersion}
use Rattle.vt_arena.proofs.Layouts.{content_fits}
use Rattle.vt_arena.proofs.Standing.{one_list}

-- ---- fields

pub version_small : (version : ℕ) → IsVersion version → version < 65536
version_small version is = omega (arith, is)

-- a number that only version 2 has
pub where_two : (version m n : ℕ) → (version ≡ 2 → m ≡ n) → (if version == 2 then m else 0) ≡ (if version == 2 then n else 0)
where_two version m n same =
    (elim (version == 2) as (λ t. (version == 2) ≡ t → cond t m 0 ≡ cond t n 0) [
      | true ↦ λ is. same ((Decides-eqb version 2).0 is)
      | false ↦ λ is. refl
    ]) refl

-- what stands in a frame behind the fields that a head has
abbrev zeros : List ℕ
zeros = replicate (FRAME_LEN - FIELDS_LEN) 0

abbrev frame_rest : (second : Bool) (last : ℕ) → List ℕ
frame_rest true last = zeros
frame_rest false last = big_bytes LAST_LEN last ++ zeros

module _ (h : ArenaHead) where
  -- the bytes behind the chain
  fields_at_43 : (behind : List ℕ) → length h.chain.0 ≡ 20 → drop 43 (fields_with h behind) ≡ behind
  fields_at_43 behind chain =
      sym (drop-drop 20 23 (fields_with h behind)) ∙ drop_at h.chain.0 behind 20 chain

  pub fields-append : (one more : List ℕ) → fields_with h one ++ more ≡ fields_with h (one ++ more)
  fields-append one more =
      ap (λ (l : List ℕ). fields_with (record h { chain = record { 0 = [] } }) l) (append_assoc h.chain.0 one more)

  pub length-fields : length h.chain.0 ≡ 20 → length (fields_of h) ≡ fields_len h.version
  length-fields chain =
      omega (arith, chain, length-append h.chain.0 (last_field h.version h.last), of_last (h.version == 2))
    where
      of_last : (t : Bool) → length (cond t (big_bytes LAST_LEN h.last) []) + 43 ≡ cond t 47 43
      of_last true = refl
      of_last false = refl

  -- what a head's fields begin with
  pub reads_version : (behind : List ℕ) → h.version < 65536 → version_in (fields_with h behind) ≡ h.version
  reads_version behind small =
      big_number-reads_back 2 h.version (drop 6 (fields_with h behind)) small

  pub reads_last : (behind : List ℕ) → h.version < 65536 → h.last < 2 ^ 32 → length h.chain.0 ≡ 20
      → last_in (fields_of h ++ behind) ≡ (if h.version == 2 then h.last else 0)
  reads_last behind small fits chain =
      ap (λ (v : ℕ). if v == 2 then big_number LAST_LEN (drop 43 (fields_of h ++ behind)) else 0)
      (ap version_in (fields-append (last_field h.version h.last) behind) ∙ reads_version (last_field h.version h.last ++ behind) small)
      ∙ where_two h.version (big_number LAST_LEN (drop 43 (fields_of h ++ behind))) h.last
      (λ two. ap (λ (l : List ℕ). big_number LAST_LEN l)
      (ap (λ (l : List ℕ). drop 43 l) (fields-append (last_field h.version h.last) behind)
      ∙ fields_at_43 (last_field h.version h.last ++ behind) chain
      ∙ ap (λ (v : ℕ). last_field v h.last ++ behind) two)
      ∙ big_number-reads_back LAST_LEN h.last behind fits)

  -- the fields that a frame begins with are the head's own
  pub own_of : (behind : List ℕ) → h.version < 65536 → length h.chain.0 ≡ 20 → own_fields (fields_of h ++ behind) ≡ fields_of h
  own_of behind small chain =
      take_at (fields_of h) behind (fields_len (version_in (fields_of h ++ behind)))
      (length-fields chain ∙ sym (ap fields_len (ap version_in (fields-append (last_field h.version h.last) behind)
      ∙ reads_version (last_field h.version h.last ++ behind) small)))

  pub frame_fields : h.version < 65536 → length h.chain.0 ≡ 20 → own_fields (head_frame h) ≡ fields_of h
  frame_fields small chain =
      ap own_fields (rest_is (h.version == 2)) ∙ own_of (frame_rest (h.version == 2) h.last) small chain
    where
      rest_is : (t : Bool) → head_frame h ≡ fields_with h (cond t (big_bytes LAST_LEN h.last) []) ++ frame_rest t h.last
      rest_is true = refl
      rest_is false =
          fields-append (big_bytes LAST_LEN h.last) zeros
          ∙ sym (fields-append [] (big_bytes LAST_LEN h.last ++ zeros))

-- ---- one content

module _ (score_of : List ℕ → List ℕ) (len number : ℕ) (most : len ≤ 2 ^ 30) (a : Content) (is : IsArenaContent score_of len a) where
  pub read_clumps : clump_count_in (fields_of (arena_head score_of number a)) ≡ length a.stored
  read_clumps = big_number-reads_back 4 (length a.stored) (drop 15 (fields_of (arena_head score_of number a))) (omega (arith, content_fits score_of len a is, most))

  pub read_used : used_in (fields_of (arena_head score_of number a)) ≡ used_of a.version a.stored
  read_used = big_number-reads_back 8 (used_of a.version a.stored) (drop 23 (fields_of (arena_head score_of number a))) (omega (arith, content_fits score_of len a is, most))

  pub read_version : version_in (fields_of (arena_head score_of number a)) ≡ a.version
  read_version = big_number-reads_back 2 a.version (drop 6 (fields_of (arena_head score_of number a))) (version_small a.version is.version)

same_flag : (a b : Bool) → flag_of a ≡ flag_of b → a ≡ b
same_flag true true is = refl
same_flag true false is = cc
same_flag false true is = cc
same_flag false false is = refl

pub one_content : (score_of : List ℕ → List ℕ) (region : Region) (number : ℕ) (a b : Content) (file : List ℕ) → region.len ≤ 2 ^ 30
    → IsArena score_of region number a file → IsArena score_of region number b file → a ≡ b
one_content score_of region number a b file most is_a is_b =
    let heads : fields_of (arena_head score_of number a) ≡ fields_of (arena_head score_of number b) = sym is_a.head ∙ is_b.head in
    let sealed : a.sealed ≡ b.sealed = same_flag a.sealed b.sealed (ap (λ (l : List ℕ). slice_index l 10) heads) in
    let many : length a.stored ≡ length b.stored =
    sym (read_clumps score_of region.len number most a is_a.content) ∙ ap (λ (l : List ℕ). clump_count_in l) heads ∙ read_clumps score_of region.len number most b is_b.content in
    let version : a.version ≡ b.version =
    sym (read_version score_of region.len number most a is_a.content) ∙ ap (λ (l : List ℕ). version_in l) heads ∙ read_version score_of region.len number most b is_b.content in
    let stored : a.stored ≡ b.stored =
    one_list score_of a.version (region.start + ARENA_HEAD_LEN) a.stored b.stored file is_a.content.stored is_b.content.stored many is_a.blocks.clumps
    (subst (λ (v : ℕ). ClumpsStandAt v (region.start + ARENA_HEAD_LEN) b.stored file) (sym version) is_b.blocks.clumps) in
    (λ i. record { version = version i; sealed = sealed i; stored = stored i })

-- ---- one head

-- the numbers of a head have their widths
pub record HasWidths (h : ArenaHead) : Type 0 where
  pub version : IsVersion h.version
  pub clumps : h.clumps < 2 ^ 32
  pub used : h.used < 2 ^ 64
  pub last : h.last < 2 ^ 32

-- two heads with the same fields are one, where version 1 says nothing of its last clump
pub one_head : (h k : ArenaHead) → HasWidths h → HasWidths k → h.number ≡ k.number → length h.chain.0 ≡ 20
    → (h.version ≡ 1 → h.last ≡ 0) → (k.version ≡ 1 → k.last ≡ 0) → fields_of h ≡ fields_of k → h ≡ k
one_head h k wide_h wide_k number chain_h none_h none_k same =
    let small_h : h.version < 65536 = version_small h.version wide_h.version in
    let small_k : k.version < 65536 = version_small k.version wide_k.version in
    let version : h.version ≡ k.version =
    sym (reads_version h (last_field h.version h.last) small_h) ∙ ap version_in same ∙ reads_version k (last_field k.version k.last) small_k in
    let sealed : h.sealed ≡ k.sealed = same_flag h.sealed k.sealed (ap (λ (l : List ℕ). slice_index l 10) same) in
    let clumps : h.clumps ≡ k.clumps =
    sym (big_number-reads_back 4 h.clumps (drop 15 (fields_of h)) wide_h.clumps) ∙ ap clump_count_in same ∙ big_number-reads_back 4 k.clumps (drop 15 (fields_of k)) wide_k.clumps in
    let used : h.used ≡ k.used =
    sym (big_number-reads_back 8 h.used (drop 23 (fields_of h)) wide_h.used) ∙ ap used_in same ∙ big_number-reads_back 8 k.used (drop 23 (fields_of k)) wide_k.used in
    let behind : h.chain.0 ++ last_field h.version h.last ≡ k.chain.0 ++ last_field k.version k.last = ap (λ (l : List ℕ). drop 23 l) same in
    let tail : length (last_field h.version h.last) ≡ length (last_field k.version k.last) =
    ap (λ (v : ℕ). length (last_field v h.last)) version ∙ same_tail (k.version == 2) h.last k.last in
    let chain_k : length k.chain.0 ≡ 20 =
    omega (arith, chain_h, tail, ap (λ (l : List ℕ). length l) behind, length-append h.chain.0 (last_field h.version h.last), length-append k.chain.0 (last_field k.version k.last)) in
    let chain : h.chain.0 ≡ k.chain.0 =
    sym (take_at h.chain.0 (last_field h.version h.last) 20 chain_h) ∙ ap (λ (l : List ℕ). take 20 l) behind ∙ take_at k.chain.0 (last_field k.version k.last) 20 chain_k in
    let last : h.last ≡ k.last = lasts wide_h.version (λ two.
    sym (big_number-reads_back LAST_LEN h.last [] wide_h.last)
    ∙ ap (λ (v : ℕ). big_number LAST_LEN (last_field v h.last ++ [])) (sym two)
    ∙ ap (λ (l : List ℕ). big_number LAST_LEN (l ++ []))
    (sym (drop_at h.chain.0 (last_field h.version h.last) 20 chain_h) ∙ ap (λ (l : List ℕ). drop 20 l) behind ∙ drop_at k.chain.0 (last_field k.version k.last) 20 chain_k)
    ∙ ap (λ (v : ℕ). big_number LAST_LEN (last_field v k.last ++ [])) (sym version ∙ two)
    ∙ big_number-reads_back LAST_LEN k.last [] wide_k.last) version in
    (λ i. record {
      version = version i;
      number = number i;
      sealed = sealed i;
      clumps = clumps i;
      used = used i;
      chain = record { 0 = chain i };
      last = last i;
    })
  where
    same_tail : (t : Bool) (m n : ℕ) → length (cond t (big_bytes LAST_LEN m) []) ≡ length (cond t (big_bytes LAST_LEN n) [])
    same_tail true m n = refl
    same_tail false m n = refl

    lasts : IsVersion h.version → (h.version ≡ 2 → h.last ≡ k.last) → h.version ≡ k.version → h.last ≡ k.last
    lasts (inl one) two version = none_h one ∙ sym (none_k (sym version ∙ one))
    lasts (inr second) two version = two second
