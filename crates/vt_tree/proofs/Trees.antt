-- Trees of leaves that come one after another.
use Rattle.std.proofs.Common.{◌≡◌, ℕ, zero, suc, ◌+◌, ◌*◌, ◌<◌, ◌≤◌, ◌^◌, inl, inr, cond, List, [], ◌∷◌, ◌++◌, length, map, take, drop, refl, sym, ◌∙◌, ap, arith, append-nil, append_assoc, length-append}
use Rattle.std.specs.Prelude.{◌==◌}
use Rattle.std.specs.List.{range_with_len, flat_map}
use Rattle.std.proofs.Math.Nat.{mul-zero, one-le-pow, pow-le-pow_right, mul-add}
use Rattle.std.proofs.lemmas.Bool.{cases_lt}
use Rattle.std.proofs.lemmas.List.{map-append, take-take, take_all, length-take}
use Rattle.std.proofs.lemmas.List.Concat.{flat_map-append}
use Rattle.vt_model.specs.History.{Block}
use Rattle.vt_tree.specs.Content.{scores_in}
use Rattle.vt_tree.specs.Growing.{Next, TakesLeaves}
use Rattle.vt_tree.specs.Streams.{Shape, Tree, pieces_of_len, pointer_block, tree_of}
use Rattle.vt_tree.proofs.Pieces.{count_of, pieces_reach, pieces_join, one_piece, one_piece_more}

-- ---- the first piece, and the others

pub first_piece : {A : Type 0} (q : ℕ) (xs : List A) → 0 < q → 0 < length xs
    → (others : List (List A)) × (pieces_of_len q xs ≡ take q xs ∷ others)
first_piece {A} q xs some came = of (count_of q xs) refl
  where
    of : (n : ℕ) → count_of q xs ≡ n
        → (others : List (List A)) × (pieces_of_len q xs ≡ take q xs ∷ others)
    of zero none =
        let all : length xs ≤ q * count_of q xs = pieces_reach q xs some in
        let nothing : q * count_of q xs ≡ 0 = ap (λ (k : ℕ). q * k) none ∙ mul-zero q in
        absurd (omega arith)
    of (suc m) is =
        let f = λ (i : ℕ). take q (drop (q * i) xs) in (
          map f (range_with_len (0 + 1) m),
          ap (λ (k : ℕ). map f (range_with_len 0 k)) is
              ∙ ap (λ (k : ℕ). take q (drop k xs) ∷ map f (range_with_len (0 + 1) m)) (mul-zero q),
        )

-- ---- the trees below a pointer block

module _ (score_of : List ℕ → List ℕ) (shape : Shape) where
  abbrev pub trees : (d : ℕ) → List (List ℕ) → List Tree
  trees d leaves = map (tree_of score_of shape d) (pieces_of_len (scores_in shape.psize ^ d) leaves)

  pub trees_one : (d : ℕ) (leaves : List (List ℕ)) → 0 < length leaves
      → length leaves ≤ scores_in shape.psize ^ d
      → trees d leaves ≡ tree_of score_of shape d leaves ∷ []
  trees_one d leaves some few =
      ap (map (tree_of score_of shape d)) (one_piece (scores_in shape.psize ^ d) leaves some few)

  pub trees_more : (d c : ℕ) (leaves more : List (List ℕ)) → 0 < scores_in shape.psize
      → length leaves ≡ scores_in shape.psize ^ d * c → 0 < length more
      → length more ≤ scores_in shape.psize ^ d
      → trees d (leaves ++ more) ≡ trees d leaves ++ tree_of score_of shape d more ∷ []
  trees_more d c leaves more some whole came few =
      let q : ℕ = scores_in shape.psize ^ d in
      let one : 1 ≤ q = one-le-pow d (scores_in shape.psize) some in
      ap (map (tree_of score_of shape d))
      (one_piece_more q leaves more c (omega arith) whole came few)
      ∙ map-append (tree_of score_of shape d) (pieces_of_len q leaves) (more ∷ [])

  -- ---- a tree that has begun

  -- the blocks of the tree of the first leaves begin those of the tree above it
  pub next_begins : (d : ℕ) (leaves : List (List ℕ)) → 0 < length leaves
      → 0 < scores_in shape.psize
      → (rest : List Block)
      × ((tree_of score_of shape d (take (scores_in shape.psize ^ d) leaves)).blocks ++ rest
      ≡ (tree_of score_of shape (suc d) leaves).blocks)
  next_begins d leaves came some =
      let q : ℕ = scores_in shape.psize ^ d in
      let one : 1 ≤ q = one-le-pow d (scores_in shape.psize) some in
      let cut = first_piece q leaves (omega arith) came in
      let top : Block = pointer_block score_of (suc d)
      (map (λ (t : Tree). t.score) (trees d leaves)) in
      let own : List Block = cond (length top.bytes == 0) [] (top ∷ []) in
      let others : List Block =
      flat_map (λ (t : Tree). t.blocks) (map (tree_of score_of shape d) cut.0) in (
        others ++ own,
        sym (append_assoc (tree_of score_of shape d (take q leaves)).blocks others own)
            ∙ ap (λ (ps : List (List (List ℕ))).
            flat_map (λ (t : Tree). t.blocks) (map (tree_of score_of shape d) ps) ++ own)
            (sym cut.1),
      )

  -- and of each tree above that
  pub begins : (deep d : ℕ) → d ≤ deep → (leaves : List (List ℕ)) → 0 < length leaves
      → 0 < scores_in shape.psize
      → (rest : List Block)
      × ((tree_of score_of shape d (take (scores_in shape.psize ^ d) leaves)).blocks ++ rest
      ≡ (tree_of score_of shape deep (take (scores_in shape.psize ^ deep) leaves)).blocks)
  begins zero d low leaves came some =
      let same : d ≡ 0 = omega arith in (
        [],
        append-nil (tree_of score_of shape d (take (scores_in shape.psize ^ d) leaves)).blocks
            ∙ ap (λ (k : ℕ).
            (tree_of score_of shape k (take (scores_in shape.psize ^ k) leaves)).blocks)
            same,
      )
  begins (suc deep) d low leaves came some = elim (cases_lt deep d) [
    | inl at_top ↦
        let same : d ≡ suc deep = omega arith in (
          [],
          append-nil (tree_of score_of shape d (take (scores_in shape.psize ^ d) leaves)).blocks
              ∙ ap (λ (k : ℕ).
              (tree_of score_of shape k (take (scores_in shape.psize ^ k) leaves)).blocks) same,
        )
    | inr below ↦
        let p : ℕ = scores_in shape.psize in
        let q : ℕ = p ^ deep in
        let one : 1 ≤ p ^ suc deep = one-le-pow (suc deep) p some in
        let all : List (List ℕ) = take (p ^ suc deep) leaves in
        let wider : q ≤ p ^ suc deep = pow-le-pow_right some (omega arith) in
        let some_left : 0 < length all = omega (arith, length-take (p ^ suc deep) leaves) in
        let front : take q all ≡ take q leaves = take-take q (p ^ suc deep) leaves wider in
        let inner = begins deep d below leaves came some in
        let next = next_begins deep all some_left some in (
          inner.0 ++ next.0,
          sym (append_assoc
              (tree_of score_of shape d (take (p ^ d) leaves)).blocks inner.0 next.0)
              ∙ ap (λ (bs : List Block). bs ++ next.0) (inner.1
              ∙ ap (λ (ls : List (List ℕ)). (tree_of score_of shape deep ls).blocks) (sym front))
              ∙ next.1,
        )
  ]

  same_depth : (d deep : ℕ) → d ≡ deep → (leaves : List (List ℕ))
      → (d ≡ deep → length leaves ≤ scores_in shape.psize ^ d)
      → (rest : List Block)
      × ((tree_of score_of shape d (take (scores_in shape.psize ^ d) leaves)).blocks ++ rest
      ≡ (tree_of score_of shape deep leaves).blocks)
  same_depth d deep same leaves whole = (
    [],
    append-nil (tree_of score_of shape d (take (scores_in shape.psize ^ d) leaves)).blocks
        ∙ ap (λ (ls : List (List ℕ)). (tree_of score_of shape d ls).blocks)
        (take_all (scores_in shape.psize ^ d) leaves (whole same))
        ∙ ap (λ (k : ℕ). (tree_of score_of shape k leaves).blocks) same,
  )

  -- the same of the tree of all leaves
  pub begins_whole : (deep d : ℕ) → d ≤ deep → (leaves : List (List ℕ)) → 0 < length leaves
      → 0 < scores_in shape.psize
      → (d ≡ deep → length leaves ≤ scores_in shape.psize ^ d)
      → (rest : List Block)
      × ((tree_of score_of shape d (take (scores_in shape.psize ^ d) leaves)).blocks ++ rest
      ≡ (tree_of score_of shape deep leaves).blocks)
  begins_whole zero d low leaves came some whole = same_depth d zero (omega arith) leaves whole
  begins_whole (suc deep) d low leaves came some whole = elim (cases_lt deep d) [
    | inl at_top ↦ same_depth d (suc deep) (omega arith) leaves whole
    | inr below ↦
        let inner = begins deep d below leaves came some in
        let next = next_begins deep leaves came some in (
          inner.0 ++ next.0,
          sym (append_assoc
              (tree_of score_of shape d (take (scores_in shape.psize ^ d) leaves)).blocks inner.0
              next.0)
              ∙ ap (λ (bs : List Block). bs ++ next.0) inner.1 ∙ next.1,
        )
  ]

-- ---- leaves that are taken

pub takes_more : (dsize : ℕ) (a b c : Next) (first second : List ℕ)
    (leaves more : List (List ℕ)) → 0 < dsize → 0 < length b.leaf
    → TakesLeaves dsize a b first leaves → TakesLeaves dsize b c second more
    → TakesLeaves dsize a c (first ++ second) (leaves ++ more)
takes_more dsize a b c first second leaves more some left x y =
    let joined : flat_map (λ (leaf : List ℕ). leaf) (leaves ++ more)
    ≡ flat_map (λ (leaf : List ℕ). leaf) leaves ++ flat_map (λ (leaf : List ℕ). leaf) more =
    flat_map-append (λ (leaf : List ℕ). leaf) leaves more in
    let whole = x.whole left in
    record {
      parts =
          sym (append_assoc a.leaf first second)
          ∙ ap (λ (l : List ℕ). l ++ second) x.parts
          ∙ append_assoc (flat_map (λ (leaf : List ℕ). leaf) leaves) b.leaf second
          ∙ ap (λ (l : List ℕ). flat_map (λ (leaf : List ℕ). leaf) leaves ++ l) y.parts
          ∙ sym (append_assoc (flat_map (λ (leaf : List ℕ). leaf) leaves)
          (flat_map (λ (leaf : List ℕ). leaf) more) c.leaf)
          ∙ ap (λ (l : List ℕ). l ++ c.leaf) (sym joined);
      cut =
          (λ i. x.cut i ++ y.cut i)
          ∙ sym (pieces_join dsize (flat_map (λ (leaf : List ℕ). leaf) leaves)
          (flat_map (λ (leaf : List ℕ). leaf) more) (length leaves) some whole)
          ∙ ap (λ (l : List ℕ). pieces_of_len dsize l) (sym joined);
      whole = λ later.
          omega (
            arith,
            ap length joined,
            whole,
            y.whole later,
            length-append (flat_map (λ (leaf : List ℕ). leaf) leaves)
                (flat_map (λ (leaf : List ℕ). leaf) more),
            length-append leaves more,
            mul-add dsize (length leaves) (length more),
            ap (λ (n : ℕ). dsize * n) (length-append leaves more),
          );
      size = omega (arith, x.size, y.size, length-append first second);
      next = y.next;
    }
