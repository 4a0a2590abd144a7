-- The fields of a head spell it.
use Rattle.std.proofs.Common.{◌≡◌, ℕ, zero, suc, ◌<◌, ◌≤◌, ◌==◌, Bool, true, false, cond, List, [], ◌∷◌, ◌++◌, length, take, drop, refl, sym, ◌∙◌, ap, arith, append-nil, length-drop, length-take, take-append-drop}
use Rattle.std.specs.Prelude.{codes, nat_eq, slice_index, if◌then◌else◌}
use Rattle.byteorder.specs.Endian.{big_bytes, big_number}
use Rattle.vt_base.specs.Fields.{drop-byte, drop-field, drop-number}
use Rattle.vt_arena.specs.declared.head.ArenaHead.{ArenaHead}
use Rattle.vt_arena.specs.declared.TheConstants.{LAST_LEN}
use Rattle.vt_arena.specs.Heads.{flag_of, fields_of, fields_with, last_field, own_fields, IsHeadOf}
use Rattle.vt_arena.proofs.Unique.{fields-append, own_of}

pub flag_reads : (b : ℕ) → b ≤ 1 → flag_of (nat_eq b 1) ≡ b
flag_reads zero below = refl
flag_reads (suc zero) below = refl
flag_reads (suc (suc b)) below = absurd (omega (arith, below))

module _ (fields : List ℕ) (len : length fields ≡ 47) (are : (i : ℕ) → slice_index fields i < 256) (magic : take 4 fields ≡ codes "VARN")
    (h : ArenaHead) (of : IsHeadOf fields h) where
  at_23 : drop 23 fields ≡ h.chain.0 ++ drop 43 fields
  at_23 = drop-field 23 20 fields ∙ (λ i. sym of.chain i ++ drop 43 fields)

  at_15 : drop 15 fields ≡ big_bytes 8 h.used ++ (h.chain.0 ++ drop 43 fields)
  at_15 = drop-number 15 8 fields (omega (arith, len)) are ∙ (λ i. big_bytes 8 (sym of.used i) ++ at_23 i)

  at_11 : drop 11 fields ≡ big_bytes 4 h.clumps ++ (big_bytes 8 h.used ++ (h.chain.0 ++ drop 43 fields))
  at_11 = drop-number 11 4 fields (omega (arith, len)) are ∙ (λ i. big_bytes 4 (sym of.clumps i) ++ at_15 i)

  at_10 : drop 10 fields ≡ flag_of h.sealed ∷ (big_bytes 4 h.clumps ++ (big_bytes 8 h.used ++ (h.chain.0 ++ drop 43 fields)))
  at_10 = drop-byte 10 fields (omega (arith, len)) ∙ (λ i. sym of.sealed i ∷ at_11 i)

  at_6 : drop 6 fields ≡ big_bytes 4 h.number ++ (flag_of h.sealed ∷ (big_bytes 4 h.clumps ++ (big_bytes 8 h.used ++ (h.chain.0 ++ drop 43 fields))))
  at_6 = drop-number 6 4 fields (omega (arith, len)) are ∙ (λ i. big_bytes 4 (sym of.number i) ++ at_10 i)

  at_4 : drop 4 fields ≡ big_bytes 2 h.version ++ (big_bytes 4 h.number ++ (flag_of h.sealed ∷ (big_bytes 4 h.clumps ++ (big_bytes 8 h.used ++ (h.chain.0 ++ drop 43 fields)))))
  at_4 = drop-number 4 2 fields (omega (arith, len)) are ∙ (λ i. big_bytes 2 (sym of.version i) ++ at_6 i)

  -- all of the fields
  whole : fields ≡ fields_with h (drop 43 fields)
  whole = sym (take-append-drop 4 fields) ∙ (λ i. magic i ++ at_4 i)

  -- those behind the chain
  last_is : (drop 43 fields) ≡ big_bytes LAST_LEN (big_number LAST_LEN (drop 43 fields))
  last_is =
      drop-number 43 4 fields (omega (arith, len)) are
      ∙ ap (λ (l : List ℕ). big_bytes LAST_LEN (big_number LAST_LEN (drop 43 fields)) ++ l) (none 47 fields (omega (arith, len)))
      ∙ append-nil (big_bytes LAST_LEN (big_number LAST_LEN (drop 43 fields)))
    where
      none : (n : ℕ) (xs : List ℕ) → length xs ≤ n → drop n xs ≡ []
      none n xs short = empty (drop n xs) (omega (arith, short, length-drop n xs))
        where
          empty : (ys : List ℕ) → length ys ≡ 0 → ys ≡ []
          empty [] is = refl
          empty (y ∷ ys) is = absurd (omega (arith, is))

  chain_len : length h.chain.0 ≡ 20
  chain_len = ap (λ (l : List ℕ). length l) of.chain ∙ omega (arith, len, length-take 20 (drop 23 fields), length-drop 23 fields)

  -- these begin with the last field of version 2
  tail_is : (second : Bool) → (h.version == 2) ≡ second → drop 43 fields ≡ cond second (big_bytes LAST_LEN h.last) [] ++ cond second [] (drop 43 fields)
  tail_is true on =
      let last : h.last ≡ big_number LAST_LEN (drop 43 fields) =
      of.last ∙ ap (λ (b : Bool). if b then big_number LAST_LEN (drop 43 fields) else 0) (ap (λ (v : ℕ). v == 2) (sym of.version) ∙ on) in
      last_is ∙ ap (λ (n : ℕ). big_bytes LAST_LEN n) (sym last) ∙ sym (append-nil (big_bytes LAST_LEN h.last))
  tail_is false off = refl

  pub head_spells : h.version < 65536 → fields_of h ≡ own_fields fields
  head_spells small =
      let behind : List ℕ = cond (h.version == 2) [] (drop 43 fields) in
      let all : fields ≡ fields_of h ++ behind =
      whole ∙ ap (fields_with h) (tail_is (h.version == 2) refl) ∙ sym (fields-append h (last_field h.version h.last) behind) in
      sym (ap own_fields all ∙ own_of h behind small chain_len)
