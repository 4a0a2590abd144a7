-- What is read below a score, below those of a pointer block, and of a whole file.
use Rattle.std.proofs.Common.{◌≡◌, ℕ, zero, suc, ◌+◌, ◌-◌, ◌*◌, ◌/◌, ◌%◌, ◌<◌, ◌≤◌, ◌^◌, inl, inr, min, Bool, true, false, cond, Option, Result, Ok, Err, Some, None, List, [], ◌∷◌, ◌++◌, length, take, drop, replicate, refl, sym, ◌∙◌, ap, subst, arith, append-nil, length-append, length-drop}
use Rattle.std.specs.Prelude.{slice_index, nat_le, ◌==◌, ◌||◌}
use Rattle.std.specs.Str.{bytes_eq}
use Rattle.std.proofs.lemmas.Bool.{cases_lt, cases_Bool, lt-ltb, le-leb, lt-leb, leb-true, eq-eqb, eqb-true}
use Rattle.std.proofs.lemmas.List.{get_or-take, get_or-drop, get_or-replicate, get_or_past, get_or_append_left, get_or-append_right, length-replicate, length-take}
use Rattle.std.proofs.lemmas.Nat.{div-mul-add, mod-mul-add, div_below, le-div}
use Rattle.std.proofs.lemmas.Slice.Eq.{bytes_eq-Decides}
use Rattle.vt_base.specs.Protocol.{Operation, read}
use Rattle.vt_base.specs.declared.TheConstants.{MAX_BLOCK}
use Rattle.vt_tree.specs.declared.error.TreeErr.{TreeErr}
use Rattle.vt_tree.specs.declared.entry.Entry.{Entry}
use Rattle.vt_tree.specs.declared.plain.ContentError.{ContentError}
use Rattle.vt_tree.specs.declared.plain.ContentError.TheVariants.{BadBlock}
use Rattle.vt_tree.specs.Calls.{Call}
use Rattle.vt_tree.specs.Content.{AreGiven, byte_of, byte_of_leaf, byte_below, fits_at, led, leaf_kind, pointer_kind, score_in, score_of_pointers, scores_in, through, way_below, way_through, way_to}
use Rattle.vt_tree.specs.Maps.{BlockMap}
use Rattle.vt_tree.specs.Walking.{AppendsRange, AppendsBytes, ReadsBelow, ReadsEach, ReadsAt, ReadsFile, ReadsBlock, byte_under, cut_out}
use Rattle.vt_tree.proofs.Appending.{known, same_way, same_bytes, joined, given_up, cut_short, behind_block, no_block_came}
use Rattle.vt_tree.proofs.Contents.{leaf_byte, pointers_lead, nothing_below, past_the_reach, mod_small}
use Rattle.vt_tree.proofs.Places.{child_of, leaf_inside, byte_inside}
use Rattle.vt_tree.proofs.Powers.{product_some}
use Rattle.vt_tree.proofs.Ways.{end_there}

-- ---- bytes of a leaf

length-cut_out : (leaf : List ℕ) (from len : ℕ) → length (cut_out leaf from len) ≡ len
length-cut_out leaf from len =
    let n : ℕ = length (take len (drop from leaf)) in
    let few : n ≤ len = omega (arith, length-take len (drop from leaf)) in
    length-append (take len (drop from leaf)) (replicate (len - n) 0)
    ∙ ap (λ (k : ℕ). n + k) (length-replicate (len - n) 0) ∙ back n len few
  where
    back : (a b : ℕ) → a ≤ b → a + (b - a) ≡ b
    back a b few = omega arith

cut_out_at : (leaf : List ℕ) (from len i : ℕ) → i < len
    → slice_index leaf (from + i) ≡ slice_index (cut_out leaf from len) i
cut_out_at leaf from len i within =
    elim (cases_lt i (length (take len (drop from leaf)))) [
      | inl inside ↦
          sym (get_or_append_left (take len (drop from leaf))
          (replicate (len - length (take len (drop from leaf))) 0) 0 i inside
          ∙ get_or-take len (drop from leaf) i 0 within ∙ get_or-drop from leaf i 0)
      | inr behind ↦
          let n : ℕ = length (take len (drop from leaf)) in
          let j : ℕ = i - n in
          let past : length leaf ≤ from + i =
          omega (arith, length-take len (drop from leaf), length-drop from leaf) in
          let small : j < len - n = omega arith in
          get_or_past leaf (from + i) 0 past
          ∙ sym (get_or-append_right (take len (drop from leaf)) (replicate (len - n) 0) n i 0 refl
          behind ∙ get_or-replicate (len - n) j 0 0 small)
    ]

zeros_at : (len i : ℕ) → slice_index (replicate len 0) i ≡ 0
zeros_at len i = elim (cases_lt i len) [
  | inl within ↦ get_or-replicate len i 0 0 within
  | inr past ↦ get_or_past (replicate len 0) i 0 (omega (arith, length-replicate {A = ℕ} len 0))
]

zeros_given : (byte : ℕ → Result ℕ ContentError) (at len : ℕ)
    → ((i : ℕ) → i < len → byte (at + i) ≡ Ok 0) → AreGiven byte at (replicate len 0)
zeros_given byte at len zeros i within =
    zeros i (omega (arith, length-replicate {A = ℕ} len 0))
    ∙ ap (λ (b : ℕ). Ok b) (sym (zeros_at len i))

module _ {S : Type 0} (does : S → Call → S → Type 0) (score_of : List ℕ → List ℕ) (e : Entry)
  where
    -- ---- below a score

    no_way : (blocks : BlockMap) (depth : ℕ) (score : List ℕ) (first end : ℕ)
        → bytes_eq score (score_of []) ≡ true
        → way_below (score_of []) blocks e depth score first end ≡ []
    no_way blocks zero score first end none = rw none refl
    no_way blocks (suc d) score first end none = rw none refl

    -- no block stands under the zero score
    pub reads_zeros : (s : S) (depth : ℕ) (score : List ℕ) (from len : ℕ) (old new : List ℕ)
        (result : Result (Unit {0}) TreeErr) → bytes_eq score (score_of []) ≡ true
        → AppendsBytes (replicate len 0) old new result
        → ReadsBelow does score_of s s e depth score from len old new result
    reads_zeros s depth score from len old new result none appended =
        known does score_of e s
        (λ blocks p. byte_below blocks e depth score (p / e.dsize) (p % e.dsize))
        (λ blocks. way_below (score_of []) blocks e depth score (from / e.dsize)
        ((from + len - 1) / e.dsize + 1))
        from len old new (replicate len 0) result appended (length-replicate len 0)
        (λ blocks once.
        zeros_given (λ p. byte_below blocks e depth score (p / e.dsize) (p % e.dsize)) from len
        (λ i within. nothing_below blocks e depth score ((from + i) / e.dsize) ((from + i) %
        e.dsize)
        (λ kind. ap (λ (t : List ℕ). blocks t kind) ((bytes_eq-Decides score (score_of [])).0 none)
        ∙ once.zero_score kind)))
        (λ blocks. no_way blocks depth score (from / e.dsize) ((from + len - 1) / e.dsize + 1) none)

    leaf_way : (blocks : BlockMap) (kind : ℕ) (score : List ℕ) (first end : ℕ)
        → bytes_eq score (score_of []) ≡ false → kind ≡ leaf_kind e.is_dir
        → way_below (score_of []) blocks e 0 score first end ≡ read score kind MAX_BLOCK ∷ []
    leaf_way blocks kind score first end some is =
        ap (λ (t : Bool). cond t [] (read score (leaf_kind e.is_dir) MAX_BLOCK ∷ [])) some
        ∙ ap (λ (k : ℕ). read score k MAX_BLOCK ∷ []) (sym is)

    -- a leaf
    pub reads_leaf : (s s' : S) (depth kind : ℕ) (score block : List ℕ) (from len : ℕ)
        (old new : List ℕ) (result : Result (Unit {0}) TreeErr) → depth ≡ 0
        → bytes_eq score (score_of []) ≡ false → kind ≡ leaf_kind e.is_dir → 0 < e.dsize
        → from + len ≤ e.dsize → ReadsBlock does s s' e 0 kind score (Ok block)
        → AppendsBytes (cut_out block from len) old new result
        → ReadsBelow does score_of s s' e depth score from len old new result
    reads_leaf s s' depth kind score block from len old new result top some is room within got
        appended =
        subst (λ (d : ℕ). ReadsBelow does score_of s s' e d score from len old new result) (sym top)
        (behind_block does score_of e s s' s' kind score block
        (λ blocks p. byte_below blocks e 0 score (p / e.dsize) (p % e.dsize))
        (λ blocks p. Ok (slice_index block p))
        (λ blocks. way_below (score_of []) blocks e 0 score (from / e.dsize)
        ((from + len - 1) / e.dsize + 1)) (λ blocks. []) from len old new result
        (λ blocks has i inside.
        ap (byte_of_leaf e ((from + i) % e.dsize))
        (ap (λ (k : ℕ). blocks score k) (sym is) ∙ has)
        ∙ leaf_byte e block ((from + i) % e.dsize) (fits_leaf block got.1)
        ∙ ap (λ (j : ℕ). Ok (slice_index block j))
        (mod_small (from + i) e.dsize (omega arith)))
        (λ blocks has. leaf_way blocks kind score (from / e.dsize) ((from + len - 1) / e.dsize + 1)
        some is) got.0
        (known does score_of e s' (λ blocks p. Ok (slice_index block p)) (λ blocks. []) from len old
        new
        (cut_out block from len) result appended (length-cut_out block from len)
        (λ blocks once i inside. ap (λ (b : ℕ). Ok b)
        (cut_out_at block from len i (omega (arith, length-cut_out block from len))))
        (λ blocks. refl)))
      where
        fits_leaf : (b : List ℕ) → fits_at e 0 b ≡ true → length b ≤ e.dsize
        fits_leaf b fits = leb-true (length b) e.dsize fits

    -- a leaf that didn't come, or doesn't fit
    pub no_leaf : (s s' : S) (depth kind : ℕ) (score : List ℕ) (from len : ℕ) (old new : List ℕ)
        (err : TreeErr) → depth ≡ 0 → 0 < len → bytes_eq score (score_of []) ≡ false
        → kind ≡ leaf_kind e.is_dir → ReadsBlock does s s' e 0 kind score (Err err)
        → ReadsBelow does score_of s s' e depth score from len old new (Err err)
    no_leaf s s' depth kind score from len old new err top some other is asked =
        subst (λ (d : ℕ). ReadsBelow does score_of s s' e d score from len old new (Err err))
        (sym top)
        (no_block_came does score_of e s s' 0 kind score
        (λ blocks p. byte_below blocks e 0 score (p / e.dsize) (p % e.dsize))
        (λ blocks. way_below (score_of []) blocks e 0 score (from / e.dsize)
        ((from + len - 1) / e.dsize + 1)) from len old new err some
        (λ blocks none. ap (byte_of_leaf e (from % e.dsize))
        (ap (λ (k : ℕ). blocks score k) (sym is) ∙ none))
        (λ blocks block has bad.
        ap (byte_of_leaf e (from % e.dsize)) (ap (λ (k : ℕ). blocks score k) (sym is) ∙ has)
        ∙ ap (λ (t : Bool).
        cond t (Ok (slice_index block (from % e.dsize))) (Err (BadBlock 0 (length block)))) bad)
        (λ blocks. (
          [],
          sym (leaf_way blocks kind score (from / e.dsize)
              ((from + len - 1) / e.dsize + 1) other is),
        )) asked)

    pointer_way : (blocks : BlockMap) (d kind : ℕ) (score : List ℕ) (first end : ℕ)
        → bytes_eq score (score_of []) ≡ false → kind ≡ pointer_kind (suc d)
        → way_below (score_of []) blocks e (suc d) score first end
        ≡ read score kind MAX_BLOCK ∷ way_through (scores_in e.psize ^ d)
        (λ place. score_of_pointers e (suc d) place (blocks score kind))
        (way_below (score_of []) blocks e d) first end
    pointer_way blocks d kind score first end some is =
        ap (λ (t : Bool). cond t [] (read score (pointer_kind (suc d)) MAX_BLOCK
        ∷ way_through (scores_in e.psize ^ d)
        (λ place. score_of_pointers e (suc d) place (blocks score (pointer_kind (suc d))))
        (way_below (score_of []) blocks e d) first end)) some
        ∙ ap (λ (k : ℕ). read score k MAX_BLOCK ∷ way_through (scores_in e.psize ^ d)
        (λ place. score_of_pointers e (suc d) place (blocks score k))
        (way_below (score_of []) blocks e d) first end) (sym is)

    -- a pointer block, and what stands below its scores
    pub reads_pointers : (s mid s' : S) (d depth kind : ℕ) (score block : List ℕ) (from len : ℕ)
        (old new : List ℕ) (result : Result (Unit {0}) TreeErr) → depth ≡ suc d
        → bytes_eq score (score_of []) ≡ false → kind ≡ pointer_kind depth
        → ReadsBlock does s mid e depth kind score (Ok block)
        → ReadsEach does score_of mid s' e d block from len old new result
        → ReadsBelow does score_of s s' e depth score from len old new result
    reads_pointers s mid s' d depth kind score block from len old new result top some is got part =
        subst (λ (k : ℕ). ReadsBelow does score_of s s' e k score from len old new result) (sym top)
        (behind_block does score_of e s mid s' kind score block
        (λ blocks p. byte_below blocks e (suc d) score (p / e.dsize) (p % e.dsize))
        (λ blocks p. byte_under blocks e d block p)
        (λ blocks. way_below (score_of []) blocks e (suc d) score (from / e.dsize)
        ((from + len - 1) / e.dsize + 1))
        (λ blocks. way_through (scores_in e.psize ^ d) (λ place. Ok (score_in block place))
        (way_below (score_of []) blocks e d) (from / e.dsize) ((from + len - 1) / e.dsize + 1))
        from len old new result
        (λ blocks has i inside.
        ap (λ (r : Result (Option (List ℕ)) ContentError). through r
        (λ t. byte_below blocks e d t ((from + i) / e.dsize % scores_in e.psize ^ d)
        ((from + i) % e.dsize)))
        (leads blocks has ((from + i) / e.dsize / scores_in e.psize ^ d)))
        (λ blocks has.
        pointer_way blocks d kind score (from / e.dsize) ((from + len - 1) / e.dsize + 1) some
        kind_is
        ∙ (λ i. read score kind MAX_BLOCK ∷ way_through (scores_in e.psize ^ d)
        (λ place. leads_kind blocks has place i)
        (way_below (score_of []) blocks e d) (from / e.dsize) ((from + len - 1) / e.dsize + 1)))
        got.0 part)
      where
        kind_is : kind ≡ pointer_kind (suc d)
        kind_is = is ∙ ap pointer_kind top

        fits : fits_at e (suc d) block ≡ true
        fits = ap (λ (k : ℕ). fits_at e k block) (sym top) ∙ got.1

        leads_kind : (blocks : BlockMap) → blocks score kind ≡ Some block → (place : ℕ)
            → score_of_pointers e (suc d) place (blocks score kind) ≡ Ok (score_in block place)
        leads_kind blocks has place =
            ap (λ (o : Option (List ℕ)). score_of_pointers e (suc d) place o) has
            ∙ pointers_lead e d place block fits

        leads : (blocks : BlockMap) → blocks score kind ≡ Some block → (place : ℕ)
            → score_of_pointers e (suc d) place (blocks score (pointer_kind (suc d)))
            ≡ Ok (score_in block place)
        leads blocks has place =
            ap (λ (k : ℕ). score_of_pointers e (suc d) place (blocks score k)) (sym kind_is)
            ∙ leads_kind blocks has place

    -- a pointer block that didn't come, or doesn't fit
    pub no_pointers : (s s' : S) (d depth kind : ℕ) (score : List ℕ) (from len : ℕ)
        (old new : List ℕ) (err : TreeErr) → depth ≡ suc d → 0 < len
        → bytes_eq score (score_of []) ≡ false → kind ≡ pointer_kind depth
        → ReadsBlock does s s' e depth kind score (Err err)
        → ReadsBelow does score_of s s' e depth score from len old new (Err err)
    no_pointers s s' d depth kind score from len old new err top some other is asked =
        subst (λ (k : ℕ). ReadsBelow does score_of s s' e k score from len old new (Err err))
        (sym top)
        (no_block_came does score_of e s s' (suc d) kind score
        (λ blocks p. byte_below blocks e (suc d) score (p / e.dsize) (p % e.dsize))
        (λ blocks. way_below (score_of []) blocks e (suc d) score (from / e.dsize)
        ((from + len - 1) / e.dsize + 1)) from len old new err some
        (λ blocks none. by (blocks score (pointer_kind (suc d))) None blocks
        (ap (λ (k : ℕ). blocks score k) (sym kind_is) ∙ none))
        (λ blocks block has bad.
        by (blocks score (pointer_kind (suc d))) (Some block) blocks
        (ap (λ (k : ℕ). blocks score k) (sym kind_is) ∙ has)
        ∙ ap (λ (t : Bool). through (cond t (Ok (score_in block (from / e.dsize / scores_in e.psize
        ^ d)))
        (Err (BadBlock (suc d) (length block)))) (λ t. byte_below blocks e d t
        (from / e.dsize % scores_in e.psize ^ d) (from % e.dsize))) bad)
        (λ blocks. (
          _,
          sym (pointer_way blocks d kind score (from / e.dsize)
              ((from + len - 1) / e.dsize + 1) other kind_is),
        ))
        (subst (λ (k : ℕ). ReadsBlock does s s' e k kind score (Err err)) top asked))
      where
        kind_is : kind ≡ pointer_kind (suc d)
        kind_is = is ∙ ap pointer_kind top

        by : (found other : Option (List ℕ)) (blocks : BlockMap) → found ≡ other
            → through (score_of_pointers e (suc d) (from / e.dsize / scores_in e.psize ^ d) found)
            (λ t. byte_below blocks e d t (from / e.dsize % scores_in e.psize ^ d) (from % e.dsize))
            ≡ through (score_of_pointers e (suc d) (from / e.dsize / scores_in e.psize ^ d) other)
            (λ t. byte_below blocks e d t (from / e.dsize % scores_in e.psize ^ d) (from % e.dsize))
        by found other blocks is = ap (λ (o : Option (List ℕ)).
            through (score_of_pointers e (suc d) (from / e.dsize / scores_in e.psize ^ d) o)
            (λ t. byte_below blocks e d t (from / e.dsize % scores_in e.psize ^ d) (from %
            e.dsize)))
            is

    -- ---- below one score of a pointer block

    module _ (d : ℕ) (pointers : List ℕ) (from len : ℕ) (leaves_some : 0 < scores_in e.psize ^ d)
        (dsize_some : 0 < e.dsize)
        (reached : from % (scores_in e.psize ^ d * e.dsize) + len ≤ scores_in e.psize ^ d * e.dsize)
      where
        -- where a byte of it stands
        there : (i : ℕ) → i < len
            → ((from + i) / e.dsize / scores_in e.psize ^ d
            ≡ from / (scores_in e.psize ^ d * e.dsize))
            × ((from + i) / e.dsize % scores_in e.psize ^ d
            ≡ (from % (scores_in e.psize ^ d * e.dsize) + i) / e.dsize)
            × ((from + i) % e.dsize ≡ (from % (scores_in e.psize ^ d * e.dsize) + i) % e.dsize)
        there i within =
            let p : ℕ = scores_in e.psize ^ d in
            let span : ℕ = p * e.dsize in
            let inside : ℕ = from % span in
            let some : 0 < span = product_some p e.dsize leaves_some dsize_some in
            let small : inside + i < span = omega arith in
            let sum : from + i ≡ from / span * span + (inside + i) = parts from span i some in
            let quotient : (from + i) / span ≡ from / span =
            ap (λ (k : ℕ). k / span) sum ∙ div-mul-add (from / span) span (inside + i) small in
            let rest : (from + i) % span ≡ inside + i =
            ap (λ (k : ℕ). k % span) sum ∙ mod-mul-add (from / span) span (inside + i) small in (
              sym (child_of (from + i) p e.dsize) ∙ quotient,
              sym (leaf_inside (from + i) p e.dsize leaves_some dsize_some)
                  ∙ ap (λ (k : ℕ). k / e.dsize) rest,
              sym (byte_inside (from + i) p e.dsize leaves_some dsize_some)
                  ∙ ap (λ (k : ℕ). k % e.dsize) rest,
            )
          where
            parts : (n k j : ℕ) → 0 < k → n + j ≡ n / k * k + (n % k + j)
            parts n k j some = omega arith

        under_at : (blocks : BlockMap) (o : Option (List ℕ))
            → o ≡ score_in pointers (from / (scores_in e.psize ^ d * e.dsize)) → (i : ℕ) → i < len
            → byte_under blocks e d pointers (from + i)
            ≡ through (Ok o) (λ t. byte_below blocks e d t
            ((from % (scores_in e.psize ^ d * e.dsize) + i) / e.dsize)
            ((from % (scores_in e.psize ^ d * e.dsize) + i) % e.dsize))
        under_at blocks o is i within =
            let at = there i within in
            (λ j. through (Ok (score_in pointers (at.0 j)))
            (λ t. byte_below blocks e d t (at.1 j) (at.2 j)))
            ∙ ap (λ (x : Option (List ℕ)). through (Ok x) (λ t. byte_below blocks e d t
            ((from % (scores_in e.psize ^ d * e.dsize) + i) / e.dsize)
            ((from % (scores_in e.psize ^ d * e.dsize) + i) % e.dsize))) (sym is)

        abbrev way_there : (o : Option (List ℕ)) → BlockMap → List Operation
        way_there o blocks = led (Ok o)
            (λ t. way_below (score_of []) blocks e d t
            (from % (scores_in e.psize ^ d * e.dsize) / e.dsize)
            ((from % (scores_in e.psize ^ d * e.dsize) + len - 1) / e.dsize + 1))

        pub reads_there : (s s' : S) (below : List ℕ) (old new : List ℕ)
            (result : Result (Unit {0}) TreeErr)
            → Some below ≡ score_in pointers (from / (scores_in e.psize ^ d * e.dsize))
            → ReadsBelow does score_of s s' e d below (from % (scores_in e.psize ^ d * e.dsize))
            len old
            new result
            → ReadsAt does score_of s s' e d pointers from len old new result
        reads_there s s' below old new result is part =
            same_way does score_of e s s' (λ blocks p. byte_under blocks e d pointers p)
            (way_there (Some below)) (way_there (score_in pointers
            (from / (scores_in e.psize ^ d * e.dsize)))) from len old new result
            (λ blocks. ap (λ (o : Option (List ℕ)). way_there o blocks) is)
            (same_bytes does score_of e s s' (λ blocks p. byte_under blocks e d pointers p)
            (λ blocks p. byte_below blocks e d below (p / e.dsize) (p % e.dsize))
            (way_there (Some below)) from (from % (scores_in e.psize ^ d * e.dsize)) len old new
            result
            (λ blocks i within. under_at blocks (Some below) is i within) part)

        pub none_there : (s : S) (old new : List ℕ) (result : Result (Unit {0}) TreeErr)
            → None ≡ score_in pointers (from / (scores_in e.psize ^ d * e.dsize))
            → AppendsBytes (replicate len 0) old new result
            → ReadsAt does score_of s s e d pointers from len old new result
        none_there s old new result is appended =
            known does score_of e s (λ blocks p. byte_under blocks e d pointers p)
            (way_there (score_in pointers (from / (scores_in e.psize ^ d * e.dsize)))) from len old
            new
            (replicate len 0) result appended (length-replicate len 0)
            (λ blocks once. zeros_given (λ p. byte_under blocks e d pointers p) from len
            (λ i within. under_at blocks None is i within))
            (λ blocks. ap (λ (o : Option (List ℕ)). way_there o blocks) (sym is))

    -- ---- the whole file

    -- what stands past the reach of the depth is zeros, and is asked for nowhere
    pub reads_past : (s : S) (from len : ℕ) (old new : List ℕ) (result : Result (Unit {0}) TreeErr)
        → (0 < len → (0 < e.dsize) × (scores_in e.psize ^ e.depth * e.dsize ≤ from))
        → AppendsBytes (replicate len 0) old new result
        → ReadsFile does score_of s s e from len old new result
    reads_past s from len old new result past appended =
        known does score_of e s (λ blocks p. byte_of blocks e p)
        (λ blocks. way_to (score_of []) blocks e from len) from len old new (replicate len 0) result
        appended (length-replicate len 0)
        (λ blocks once. zeros_given (λ p. byte_of blocks e p) from len
        (λ i within.
        let far = past (omega arith) in
        past_the_reach blocks e (from + i) far.0 (omega (arith, far.1))))
        (λ blocks. none blocks (len == 0) (nat_le (scores_in e.psize ^ e.depth) (from / e.dsize))
        why)
      where
        why : (len == 0 || nat_le (scores_in e.psize ^ e.depth) (from / e.dsize)) ≡ true
        why = elim (cases_lt 0 len) [
          | inl some ↦
              let far = past some in
              let behind : scores_in e.psize ^ e.depth ≤ from / e.dsize =
              le-div (scores_in e.psize ^ e.depth) from e.dsize far.0 far.1 in
              or_true (len == 0) (nat_le (scores_in e.psize ^ e.depth) (from / e.dsize))
              (le-leb (scores_in e.psize ^ e.depth) (from / e.dsize) behind)
          | inr over ↦
              let zero_is : len ≡ 0 = omega arith in
              ap (λ (t : Bool). t || nat_le (scores_in e.psize ^ e.depth) (from / e.dsize))
              (eq-eqb len 0 zero_is)
        ]
          where
            or_true : (a b : Bool) → b ≡ true → (a || b) ≡ true
            or_true true b is = refl
            or_true false b is = is

        none : (blocks : BlockMap) (a b : Bool) → (a || b) ≡ true
            → cond (a || b) [] (way_below (score_of []) blocks e e.depth e.score.0 (from / e.dsize)
            (min ((from + len - 1) / e.dsize + 1) (scores_in e.psize ^ e.depth))) ≡ []
        none blocks a b is = ap (λ (t : Bool). cond t [] (way_below (score_of []) blocks e e.depth
            e.score.0 (from / e.dsize)
            (min ((from + len - 1) / e.dsize + 1) (scores_in e.psize ^ e.depth)))) is

    -- the part that the depth reaches, and zeros behind it
    module _ (from len reached : ℕ) (some : 0 < reached) (d_some : 0 < e.dsize)
        (is : reached ≡ min (scores_in e.psize ^ e.depth * e.dsize - from) len) where
      leaves_are : 0 < scores_in e.psize ^ e.depth
      leaves_are = of (scores_in e.psize ^ e.depth) e.dsize (omega arith)
        where
          of : (a b : ℕ) → 0 < a * b → 0 < a
          of zero b more = absurd (omega arith)
          of (suc a) b more = omega arith

      inside : from < scores_in e.psize ^ e.depth * e.dsize
      inside = omega arith

      way_is : (blocks : BlockMap)
          → way_below (score_of []) blocks e e.depth e.score.0 (from / e.dsize)
          ((from + reached - 1) / e.dsize + 1) ≡ way_to (score_of []) blocks e from len
      way_is blocks =
          ap (λ (k : ℕ). way_below (score_of []) blocks e e.depth e.score.0 (from / e.dsize) k)
          (sym ends)
          ∙ sym (ap (λ (t : Bool). cond t [] (way_below (score_of []) blocks e e.depth e.score.0
          (from / e.dsize) (min ((from + len - 1) / e.dsize + 1) (scores_in e.psize ^ e.depth))))
          within)
        where
          leaf : from / e.dsize < scores_in e.psize ^ e.depth
          leaf = div_below from e.dsize (scores_in e.psize ^ e.depth) d_some inside

          within : (len == 0 || nat_le (scores_in e.psize ^ e.depth) (from / e.dsize)) ≡ false
          within = both (len == 0) (nat_le (scores_in e.psize ^ e.depth) (from / e.dsize))
              (not_zero len (omega arith))
              (lt-leb (scores_in e.psize ^ e.depth) (from / e.dsize) leaf)
            where
              both : (a b : Bool) → a ≡ false → b ≡ false → (a || b) ≡ false
              both a b x y = (λ i. x i || y i)

              not_zero : (n : ℕ) → 0 < n → (n == 0) ≡ false
              not_zero n more = elim (cases_Bool (n == 0)) [
                | inl hit ↦ let none : n ≡ 0 = eqb-true n 0 hit in absurd (omega arith)
                | inr miss ↦ miss
              ]

          ends : min ((from + len - 1) / e.dsize + 1) (scores_in e.psize ^ e.depth)
              ≡ (from + reached - 1) / e.dsize + 1
          ends =
              (λ i. min (less ((from + len - 1) / e.dsize + 1) (scores_in e.psize ^ e.depth) i)
              (scores_in e.psize ^ e.depth))
              ∙ end_there (scores_in e.psize ^ e.depth) e.dsize 0 from len
              ((from + len - 1) / e.dsize + 1) d_some leaves_are inside (omega arith)
              (ap (λ (k : ℕ). (k - 1) / e.dsize + 1) (front (scores_in e.psize ^ e.depth * e.dsize)
              from len))
              ∙ ap (λ (k : ℕ). (from + k - 1) / e.dsize + 1) (sym is)
            where
              less : (a b : ℕ) → a ≡ a - 0 * b
              less a b = omega arith

              front : (a b c : ℕ) → b + c ≡ 0 * a + b + c
              front a b c = omega arith

      byte_is : (blocks : BlockMap) (i : ℕ) → i < reached
          → byte_of blocks e (from + i)
          ≡ byte_below blocks e e.depth e.score.0 ((from + i) / e.dsize) ((from + i) % e.dsize)
      byte_is blocks i below =
          let there : from + i < scores_in e.psize ^ e.depth * e.dsize = omega arith in
          ap (λ (t : Bool). cond t (byte_below blocks e e.depth e.score.0 ((from + i) / e.dsize)
          ((from + i) % e.dsize)) (Ok 0))
          (lt-ltb ((from + i) / e.dsize) (scores_in e.psize ^ e.depth)
          (div_below (from + i) e.dsize (scores_in e.psize ^ e.depth) d_some there))

      -- the first part, as one of the file
      first_part : (s s' : S) (old new : List ℕ) (result : Result (Unit {0}) TreeErr)
          → ReadsBelow does score_of s s' e e.depth e.score.0 from reached old new result
          → AppendsRange does score_of e s s' (λ blocks p. byte_of blocks e p)
          (λ blocks. way_to (score_of []) blocks e from len) from reached old new result
      first_part s s' old new result part =
          same_way does score_of e s s' (λ blocks p. byte_of blocks e p)
          (λ blocks. way_below (score_of []) blocks e e.depth e.score.0 (from / e.dsize)
          ((from + reached - 1) / e.dsize + 1))
          (λ blocks. way_to (score_of []) blocks e from len) from reached old new result way_is
          (same_bytes does score_of e s s' (λ blocks p. byte_of blocks e p)
          (λ blocks p. byte_below blocks e e.depth e.score.0 (p / e.dsize) (p % e.dsize))
          (λ blocks. way_below (score_of []) blocks e e.depth e.score.0 (from / e.dsize)
          ((from + reached - 1) / e.dsize + 1)) from from reached old new result byte_is part)

      pub reads_in_part : (s s' : S) (old new : List ℕ) (err : TreeErr)
          → ReadsBelow does score_of s s' e e.depth e.score.0 from reached old new (Err err)
          → ReadsFile does score_of s s' e from len old new (Err err)
      reads_in_part s s' old new err part =
          cut_short does score_of e s s' (λ blocks p. byte_of blocks e p)
          (λ blocks. way_to (score_of []) blocks e from len) from reached len old new err
          (omega arith) (first_part s s' old new (Err err) part)

      pub reads_all : (s s' : S) (old half new : List ℕ) (result : Result (Unit {0}) TreeErr)
          → ReadsBelow does score_of s s' e e.depth e.score.0 from reached old half (Ok tt)
          → AppendsBytes (replicate (len - reached) 0) half new result
          → ReadsFile does score_of s s' e from len old new result
      reads_all s s' old half new result part appended = of result rest
        where
          rest : AppendsRange does score_of e s' s' (λ blocks p. byte_of blocks e p) (λ blocks. [])
              (from + reached) (len - reached) half new result
          rest = known does score_of e s' (λ blocks p. byte_of blocks e p) (λ blocks. [])
              (from + reached) (len - reached) half new (replicate (len - reached) 0) result
              appended
              (length-replicate (len - reached) 0)
              (λ blocks once. zeros_given (λ p. byte_of blocks e p) (from + reached) (len - reached)
              (λ i within. past_the_reach blocks e (from + reached + i) d_some (omega arith)))
              (λ blocks. refl)

          few : reached + (len - reached) ≤ len
          few = omega arith

          sum : reached + (len - reached) ≡ len
          sum = omega arith

          of : (r : Result (Unit {0}) TreeErr)
              → AppendsRange does score_of e s' s' (λ blocks p. byte_of blocks e p) (λ blocks. [])
              (from + reached) (len - reached) half new r
              → ReadsFile does score_of s s' e from len old new r
          of (Ok done) more =
              subst (λ (k : ℕ). AppendsRange does score_of e s s' (λ blocks p. byte_of blocks e p)
              (λ blocks. way_to (score_of []) blocks e from len) from k old new (Ok tt)) sum
              (same_way does score_of e s s' (λ blocks p. byte_of blocks e p)
              (λ blocks. way_to (score_of []) blocks e from len ++ [])
              (λ blocks. way_to (score_of []) blocks e from len) from (reached + (len - reached))
              old
              new (Ok tt) (λ blocks. append-nil (way_to (score_of []) blocks e from len))
              (joined does score_of e s s' s' (λ blocks p. byte_of blocks e p)
              (λ blocks. way_to (score_of []) blocks e from len) (λ blocks. []) from reached
              (len - reached) old half new (first_part s s' old half (Ok tt) part) more))
          of (Err err) more =
              given_up does score_of e s s' s' (λ blocks p. byte_of blocks e p)
              (λ blocks. way_to (score_of []) blocks e from len) (λ blocks. [])
              (λ blocks. way_to (score_of []) blocks e from len) from reached (len - reached) len
              old
              half new err few
              (λ blocks. (
                [],
                append-nil (way_to (score_of []) blocks e from len ++ [])
                    ∙ append-nil (way_to (score_of []) blocks e from len),
              ))
              (first_part s s' old half (Ok tt) part) more
