-- A clump that is spelled reads back, and bytes in which no test fails begin with the clump that is read.
use Rattle.std.proofs.Common.{◌≡◌, ℕ, ◌+◌, ◌-◌, ◌<◌, ◌≤◌, Bool, true, false, not, cond, Option, Some, None, List, [], ◌∷◌, ◌++◌, length, take, drop, refl, sym, ◌∙◌, ap, subst, inl, inr, arith, append_assoc, append-nil, length-append, length-take, length-drop, take-append-drop}
use Rattle.std.specs.Prelude.{slice_index, codes, nat_lt, ◌==◌}
use Rattle.std.specs.Str.{bytes_eq}
use Rattle.std.proofs.lemmas.List.{take_at, drop_at, drop-drop, get_or-drop}
use Rattle.std.proofs.lemmas.Slice.Eq.{bytes_eq-Decides}
use Rattle.std.proofs.lemmas.Bool.{eqb-true, ltb-false, not-false}
use Rattle.std.proofs.lemmas.Bool.Decides.{nat_tests}
use Rattle.byteorder.specs.Endian.{big_number, big_bytes}
use Rattle.byteorder.specs.Numbers.{big_number-reads_back, big_from-lt}
use Rattle.vt_base.specs.Bytes.{AreBytes}
use Rattle.vt_base.specs.Kind.{is_kind, IsKind}
use Rattle.vt_base.specs.Fields.{drop-field, drop-byte, drop-number}
use Rattle.vt_clump.specs.declared.reading.ClumpBad.{ClumpBad}
use Rattle.vt_clump.specs.declared.reading.ClumpBad.TheVariants.{Score as BadScore, NoMemory}
use Rattle.vt_clump.specs.declared.reading.Clump.{Clump}
use Rattle.vt_clump.specs.declared.packed.Packed.{Packed}
use Rattle.vt_clump.specs.Clumps.{IsClumpRead, IsPacked, stored_of}
use Rattle.vt_clump.specs.Spelling.{Stored, IsStoredBlock, clump_bytes, sizes, size_in, uncsize_in, stored_in, BeginsWithClump}
use Rattle.vt_clump.specs.Faults.{bad_encoding, bad_size, bad_header, other_score, bad_score, first_fault, first_bad_clump, IsClumpRefusal}

-- no test of the header fails
pub record Passes (bytes : List ℕ) : Type 0 where
  pub long : 38 ≤ length bytes
  pub magic : take 4 bytes ≡ codes "VCLP"
  pub kind : IsKind (slice_index bytes 4)
  pub plain : slice_index bytes 29 ≡ 1
  pub same : uncsize_in bytes ≡ size_in bytes
  pub some : 0 < size_in bytes
  pub most : size_in bytes ≤ 57344
  pub inside : size_in bytes ≤ length bytes - 38

sizes_pass : (size room : ℕ) → 0 < size → size ≤ 57344 → size ≤ room → bad_size size size room ≡ None
sizes_pass size room some most inside =
    let same : size == size ≡ true = grind (arith, nat_tests) in
    let is_some : size == 0 ≡ false = grind (arith, nat_tests) in
    let is_most : nat_lt 57344 size ≡ false = grind (arith, nat_tests) in
    let is_inside : nat_lt room size ≡ false = grind (arith, nat_tests) in
    rw (same, is_some, is_most, is_inside) refl

passing : (bytes : List ℕ) → Passes bytes → bad_header bytes ≡ None
passing bytes pass =
    let is_long : nat_lt (length bytes) 38 ≡ false = let h = pass.long in grind (arith, nat_tests) in
    let is_kind_of : is_kind (slice_index bytes 4) ≡ true = pass.kind in
    rw (is_long, pass.magic, is_kind_of, pass.plain, pass.same) (sizes_pass (size_in bytes) (length bytes - 38) pass.some pass.most pass.inside)

-- a test that found nothing, and those behind it
none_then : (b : Bool) (bad : ClumpBad) (later : Option ClumpBad) → cond b (Some bad) later ≡ None → (b ≡ false) × (later ≡ None)
none_then true bad later none = absurd (cc)
none_then false bad later none = (refl, none)

none_first : (first later : Option ClumpBad) → first_fault first later ≡ None → (first ≡ None) × (later ≡ None)
none_first (Some bad) later none = absurd (cc)
none_first None later none = (refl, none)

none_at_first : (b c : Bool) (bad worse : ClumpBad) → cond b None (cond c (Some bad) (Some worse)) ≡ None → b ≡ true
none_at_first true c bad worse none = refl
none_at_first false true bad worse none = absurd (cc)
none_at_first false false bad worse none = absurd (cc)

none_at_end : (b : Bool) (bad : ClumpBad) → cond b None (Some bad) ≡ None → b ≡ true
none_at_end true bad none = refl
none_at_end false bad none = absurd (cc)

pub passed : (bytes : List ℕ) → bad_header bytes ≡ None → Passes bytes
passed bytes none =
    let long = none_then (nat_lt (length bytes) 38) _ _ none in
    let magic = none_then (not (bytes_eq (take 4 bytes) (codes "VCLP"))) _ _ long.1 in
    let kind = none_then (not (is_kind (slice_index bytes 4))) _ _ magic.1 in
    let plain = none_first (bad_encoding (slice_index bytes 29)) (bad_size (size_in bytes) (uncsize_in bytes) (length bytes - 38)) kind.1 in
    let same = none_then (not (uncsize_in bytes == size_in bytes)) _ _ plain.1 in
    let some = none_then (size_in bytes == 0) _ _ same.1 in
    let most = none_then (nat_lt 57344 (size_in bytes)) _ _ some.1 in
    let inside = none_then (nat_lt (length bytes - 38) (size_in bytes)) _ _ most.1 in
    record {
      long = ltb-false _ _ long.0;
      magic = (bytes_eq-Decides (take 4 bytes) (codes "VCLP")).0 (not-false _ magic.0);
      kind = not-false _ kind.0;
      plain = eqb-true _ _ (none_at_first _ _ _ _ plain.0);
      same = eqb-true _ _ (not-false _ same.0);
      some = let h = some.0 in grind (arith, nat_tests);
      most = ltb-false _ _ most.0;
      inside = ltb-false _ _ inside.0;
    }

-- a clump and what follows it
abbrev behind_score : Stored → List ℕ → List ℕ
behind_score s rest = 1 ∷ (s.creator ++ (big_bytes 4 s.time ++ (s.block ++ rest)))

fields : (s : Stored) (rest : List ℕ) → clump_bytes s ++ rest ≡ codes "VCLP" ++ (s.kind ∷ (sizes (length s.block) ++ (s.score ++ behind_score s rest)))
unfolding clump_bytes
fields s rest = simp append_assoc

module _ (score_of : List ℕ → List ℕ) (s : Stored) (rest : List ℕ) (is : IsStoredBlock score_of s) where
  abbrev bytes : List ℕ
  bytes = clump_bytes s ++ rest

  at_9 : drop 9 bytes ≡ s.score ++ behind_score s rest
  at_9 = ap (λ (l : List ℕ). drop 9 l) (fields s rest)

  at_29 : drop 29 bytes ≡ behind_score s rest
  at_29 = sym (drop-drop 20 9 bytes) ∙ ap (λ (l : List ℕ). drop 20 l) at_9 ∙ drop_at s.score (behind_score s rest) 20 is.score_len

  at_30 : drop 30 bytes ≡ s.creator ++ (big_bytes 4 s.time ++ (s.block ++ rest))
  at_30 = sym (drop-drop 1 29 bytes) ∙ ap (λ (l : List ℕ). drop 1 l) at_29

  at_34 : drop 34 bytes ≡ big_bytes 4 s.time ++ (s.block ++ rest)
  at_34 = sym (drop-drop 4 30 bytes) ∙ ap (λ (l : List ℕ). drop 4 l) at_30 ∙ drop_at s.creator (big_bytes 4 s.time ++ (s.block ++ rest)) 4 is.creator_len

  at_38 : drop 38 bytes ≡ s.block ++ rest
  at_38 = sym (drop-drop 4 34 bytes) ∙ ap (λ (l : List ℕ). drop 4 l) at_34

  size : size_in bytes ≡ length s.block
  size =
      ap (λ (l : List ℕ). size_in l) (fields s rest)
      ∙ big_number-reads_back 2 (length s.block) (big_bytes 2 (length s.block) ++ (s.score ++ behind_score s rest)) (omega (arith, is.most))

  uncsize : uncsize_in bytes ≡ length s.block
  uncsize =
      ap (λ (l : List ℕ). uncsize_in l) (fields s rest)
      ∙ big_number-reads_back 2 (length s.block) (s.score ++ behind_score s rest) (omega (arith, is.most))

  encoding : slice_index bytes 29 ≡ 1
  encoding = sym (get_or-drop 29 bytes 0 0) ∙ ap (λ (l : List ℕ). slice_index l 0) at_29

  -- a clump reads back, whatever follows it
  pub stored_in-spelled : stored_in bytes ≡ s
  stored_in-spelled = λ i. record {
    kind = slice_index (fields s rest i) 4;
    score = (ap (λ (l : List ℕ). take 20 l) at_9 ∙ take_at s.score (behind_score s rest) 20 is.score_len) i;
    creator = (ap (λ (l : List ℕ). take 4 l) at_30 ∙ take_at s.creator (big_bytes 4 s.time ++ (s.block ++ rest)) 4 is.creator_len) i;
    time = (ap (λ (l : List ℕ). big_number 4 l) at_34 ∙ big_number-reads_back 4 s.time (s.block ++ rest) is.time) i;
    block = ((λ j. take (size j) (at_38 j)) ∙ take_at s.block rest (length s.block) refl) i;
  }

  pub length-spelled : length bytes ≡ 38 + length s.block + length rest
  length-spelled =
      omega (
        arith,
        ap (λ (l : List ℕ). length l) (fields s rest),
        length-append s.score (behind_score s rest),
        length-append s.creator (big_bytes 4 s.time ++ (s.block ++ rest)),
        length-append s.block rest,
        is.score_len,
        is.creator_len,
      )

  -- and no test fails
  pub first_bad-spelled : first_bad_clump score_of bytes ≡ None
  first_bad-spelled =
      let pass : Passes bytes = record {
        long = omega (arith, length-spelled);
        magic = ap (λ (l : List ℕ). take 4 l) (fields s rest);
        kind = subst IsKind (sym (ap (λ (l : List ℕ). slice_index l 4) (fields s rest))) is.kind;
        plain = encoding;
        same = uncsize ∙ sym size;
        some = omega (arith, size, is.some);
        most = omega (arith, size, is.most);
        inside = omega (arith, size, length-spelled);
      } in
      ap (λ (first : Option ClumpBad). first_fault first (bad_score score_of (stored_in bytes))) (passing bytes pass)
      ∙ ap (λ (t : Stored). bad_score score_of t) stored_in-spelled
      ∙ ap (λ (same : Bool). cond same None (Some (BadScore (record { 0 = s.score }) (record { 0 = score_of s.block })))) ((bytes_eq-Decides (score_of s.block) s.score).1 (sym is.scored))

-- where no test of the header fails, what the fields say is spelled at the front
pub spelled-stored_in : (file : List ℕ) → AreBytes file → Passes file → file ≡ clump_bytes (stored_in file) ++ drop (38 + size_in file) file
spelled-stored_in file are pass =
    let s = stored_in file in
    let rest : List ℕ = drop (38 + size_in file) file in
    let sized : List ℕ = big_bytes 2 (length s.block) in
    let n : size_in file ≡ length s.block = omega (arith, length-take (size_in file) (drop 38 file), length-drop 38 file, pass.inside) in
    let e4 : drop 4 file ≡ s.kind ∷ drop 5 file = drop-byte 4 file (omega (arith, pass.long)) in
    let e5 : drop 5 file ≡ sized ++ drop 7 file =
    drop-number 5 2 file (omega (arith, pass.long)) are ∙ ap (λ (k : ℕ). big_bytes 2 k ++ drop 7 file) n in
    let e7 : drop 7 file ≡ sized ++ drop 9 file =
    drop-number 7 2 file (omega (arith, pass.long)) are ∙ ap (λ (k : ℕ). big_bytes 2 k ++ drop 9 file) (pass.same ∙ n) in
    let e29 : drop 29 file ≡ 1 ∷ drop 30 file = drop-byte 29 file (omega (arith, pass.long)) ∙ ap (λ (b : ℕ). b ∷ drop 30 file) pass.plain in
    let e34 : drop 34 file ≡ big_bytes 4 s.time ++ drop 38 file = drop-number 34 4 file (omega (arith, pass.long)) are in
    let from_29 : drop 29 file ≡ behind_score s rest =
    e29 ∙ ap (λ (l : List ℕ). 1 ∷ l) (drop-field 30 4 file
    ∙ ap (λ (l : List ℕ). s.creator ++ l) (e34 ∙ ap (λ (l : List ℕ). big_bytes 4 s.time ++ l) (drop-field 38 (size_in file) file))) in
    let from_4 : drop 4 file ≡ s.kind ∷ (sizes (length s.block) ++ (s.score ++ behind_score s rest)) =
    e4 ∙ ap (λ (l : List ℕ). s.kind ∷ l) (e5 ∙ ap (λ (l : List ℕ). sized ++ l) (e7
    ∙ ap (λ (l : List ℕ). sized ++ l) (drop-field 9 20 file ∙ ap (λ (l : List ℕ). s.score ++ l) from_29))) in
    sym (take-append-drop 4 file) ∙ ap (λ (l : List ℕ). l ++ drop 4 file) pass.magic ∙ ap (λ (l : List ℕ). codes "VCLP" ++ l) from_4 ∙ sym (fields s rest)

-- and it is a clump where the score is that of the block
pub stored_in-stored : (score_of : List ℕ → List ℕ) (file : List ℕ) → AreBytes file → Passes file
    → (stored_in file).score ≡ score_of (stored_in file).block → IsStoredBlock score_of (stored_in file)
stored_in-stored score_of file are pass scored = record {
  kind = pass.kind;
  scored = scored;
  score_len = omega (arith, length-take 20 (drop 9 file), length-drop 9 file, pass.long);
  creator_len = omega (arith, length-take 4 (drop 30 file), length-drop 30 file, pass.long);
  time = big_from-lt 0 4 (drop 34 file) (λ i. subst (λ (b : ℕ). b < 256) (sym (get_or-drop 34 file i 0)) (are (34 + i)));
  some = omega (arith, length-take (size_in file) (drop 38 file), length-drop 38 file, pass.inside, pass.some);
  most = omega (arith, length-take (size_in file) (drop 38 file), pass.most);
}

-- what begins with a clump
module _ (score_of : List ℕ → List ℕ) (s : Stored) (file : List ℕ) (begins : BeginsWithClump score_of s file) where
  pub begins_stored : stored_in file ≡ s
  begins_stored = ap stored_in begins.spelling.1 ∙ stored_in-spelled score_of s begins.spelling.0 begins.stored

  pub begins_good : first_bad_clump score_of file ≡ None
  begins_good = ap (first_bad_clump score_of) begins.spelling.1 ∙ first_bad-spelled score_of s begins.spelling.0 begins.stored

  pub begins_refused : (bad : ClumpBad) → IsClumpRefusal (first_bad_clump score_of file) bad → bad ≡ NoMemory
  begins_refused bad (inl fault) = absurd (cc (begins_good, fault))
  begins_refused bad (inr memory) = memory.1

pub one_stored : (score_of : List ℕ → List ℕ) (s t : Stored) (file : List ℕ) → BeginsWithClump score_of s file → BeginsWithClump score_of t file → s ≡ t
one_stored score_of s t file one other = sym (begins_stored score_of s file one) ∙ begins_stored score_of t file other

pub read_as : (s t : Stored) (clump : Clump) → s ≡ t → IsClumpRead s clump → IsClumpRead t clump
read_as s t clump same read = subst (λ (u : Stored). IsClumpRead u clump) same read

pub header_fault : (score_of : List ℕ → List ℕ) (file : List ℕ) (bad : ClumpBad) → bad_header file ≡ Some bad → first_bad_clump score_of file ≡ Some bad
header_fault score_of file bad fault = ap (λ (first : Option ClumpBad). first_fault first (bad_score score_of (stored_in file))) fault

-- bytes in which no test fails begin with what their fields say
pub good_begins : (score_of : List ℕ → List ℕ) (file : List ℕ) → AreBytes file → first_bad_clump score_of file ≡ None → BeginsWithClump score_of (stored_in file) file
good_begins score_of file are good =
    let parts = none_first (bad_header file) (bad_score score_of (stored_in file)) good in
    let pass : Passes file = passed file parts.0 in
    let same : bytes_eq (score_of (stored_in file).block) (stored_in file).score ≡ true = none_at_end _ _ parts.1 in record {
      stored = stored_in-stored score_of file are pass (sym ((bytes_eq-Decides (score_of (stored_in file).block) (stored_in file).score).0 same));
      spelling = (drop (38 + size_in file) file, spelled-stored_in file are pass);
    }

-- what is found in bytes whose header passes, where these are the size and the score that is wanted
module _ (score_of : List ℕ → List ℕ) (file : List ℕ) (size : ℕ) (want : List ℕ) (good : bad_header file ≡ None)
    (size_is : size ≡ size_in file) (want_is : want ≡ (stored_in file).score) where
  pub block_is : take (38 + size - 38) (drop 38 file) ≡ (stored_in file).block
  block_is = ap (λ (n : ℕ). take n (drop 38 file)) (omega (arith, size_is))

  -- the first test that fails is that of the score
  pub score_is_left : first_bad_clump score_of file ≡ other_score want (score_of (take (38 + size - 38) (drop 38 file)))
  score_is_left =
      ap (λ (first : Option ClumpBad). first_fault first (bad_score score_of (stored_in file))) good
      ∙ (λ i. other_score (sym want_is i) (score_of (sym block_is i)))

-- what is packed
pub packed_is : (score_of : List ℕ → List ℕ) (s : Stored) (p : Packed) → IsStoredBlock score_of s → p.bytes ≡ clump_bytes s → p.kind ≡ s.kind → p.score.0 ≡ s.score → p.len ≡ length s.block
    → IsPacked score_of p
packed_is score_of s p is bytes kind score len =
    let back : stored_of p ≡ s = ap stored_in (bytes ∙ sym (append-nil (clump_bytes s))) ∙ stored_in-spelled score_of s [] is in record {
      stored = subst (IsStoredBlock score_of) (sym back) is;
      bytes = bytes ∙ ap clump_bytes (sym back);
      kind = kind ∙ ap (λ (t : Stored). t.kind) (sym back);
      score = score ∙ ap (λ (t : Stored). t.score) (sym back);
      len = len ∙ ap (λ (t : Stored). length t.block) (sym back);
    }
