-- A stream that was written reads back: the tree of its leaves, in a map that has its blocks.
use Rattle.std.proofs.Common.{◌≡◌, ℕ, zero, suc, ◌-◌, ◌*◌, ◌/◌, ◌%◌, ◌<◌, ◌≤◌, ◌^◌, ◌⊎◌, inl, inr, Bool, true, false, cond, Some, Ok, List, [], ◌∷◌, ◌++◌, length, map, take, drop, get_or, refl, sym, ◌∙◌, ap, subst, arith, lit≤, zero-add}
use Rattle.std.specs.Prelude.{nat_lt, ◌==◌}
use Rattle.std.specs.List.{All, range_with_len, suffix_len, flat_map}
use Rattle.std.specs.Str.{bytes_eq}
use Rattle.std.proofs.Math.Nat.{pow-suc, pow-zero, pow-le-pow_left, one-le-pow, mul_comm, mod-lt}
use Rattle.std.proofs.lemmas.Bool.{cases_lt, cases_Bool, eqb-true, lt-ltb, le-leb, eq-eqb, and_from, ltb-true, ltb-false}
use Rattle.std.proofs.lemmas.List.{get_or_past, get_or-map, length-map, length-take, nil_from_length}
use Rattle.std.proofs.lemmas.List.Elements.{All-map, All-take, All-drop, All-same}
use Rattle.std.proofs.lemmas.List.FromFn.{length-range_with_len, get_or-range_with_len}
use Rattle.std.proofs.lemmas.List.Sums.{prefix_len_passes, prefix_len_stops, prefix_len-le-length}
use Rattle.std.proofs.lemmas.Nat.{mul-le, div_below}
use Rattle.std.proofs.lemmas.Slice.Eq.{bytes_eq-Decides}
use Rattle.vt_model.specs.History.{Block}
use Rattle.vt_tree.specs.declared.entry.Entry.{Entry}
use Rattle.vt_tree.specs.Content.{byte_of, byte_below, byte_of_leaf, fits_at, pointer_kind, scores_in, IsFileContent}
use Rattle.vt_tree.specs.Maps.{BlockMap, Has, IsWriteOnce}
use Rattle.vt_tree.specs.Streams.{Shape, FitsShape, Tree, reach, depth_of, pieces_of_len, leaves_of, without_end, leaf_block, pointer_block, topped, tree_of, stream_of, entry_of_stream}
use Rattle.vt_tree.proofs.Contents.{leaf_byte, nothing_below, below_pointers, past_pointers}
use Rattle.vt_tree.proofs.Parts.{front_of, last_of, part_of}
use Rattle.vt_tree.proofs.Pieces.{count_of, length-pieces, piece_at, no_piece_past, pieces_fit, element_at, end_passes, length-without_end, left_at, length-scores, score_at}

-- ---- what is cut from a leaf

zeros_cut : (bytes : List ℕ) (k : ℕ)
    → get_or (without_end (λ (b : ℕ). b == 0) bytes) k 0 ≡ get_or bytes k 0
zeros_cut bytes k = elim (cases_lt k (length (without_end (λ (b : ℕ). b == 0) bytes))) [
  | inl within ↦ left_at (λ (b : ℕ). b == 0) bytes k 0 within
  | inr past ↦
      get_or_past (without_end (λ (b : ℕ). b == 0) bytes) k 0 past
      ∙ sym (zero_there (cases_lt k (length bytes))
      (omega (arith, length-without_end (λ (b : ℕ). b == 0) bytes)))
]
  where
    zero_there : (k < length bytes) ⊎ (length bytes ≤ k)
        → length bytes - suffix_len (λ (b : ℕ). b == 0) bytes ≤ k → get_or bytes k 0 ≡ 0
    zero_there (inl within) from =
        eqb-true (get_or bytes k 0) 0 (end_passes (λ (b : ℕ). b == 0) bytes k 0 from within)
    zero_there (inr past) from = get_or_past bytes k 0 past

leaf_at : (shape : Shape) (bytes : List ℕ) (k : ℕ)
    → get_or (leaf_block shape bytes).bytes k 0 ≡ get_or bytes k 0
leaf_at shape bytes k = either shape.is_dir
  where
    either : (b : Bool)
        → get_or (cond b bytes (without_end (λ (x : ℕ). x == 0) bytes)) k 0 ≡ get_or bytes k 0
    either true = refl
    either false = zeros_cut bytes k

leaf_len : (shape : Shape) (bytes : List ℕ) → length (leaf_block shape bytes).bytes ≤ length bytes
leaf_len shape bytes = either shape.is_dir
  where
    either : (b : Bool)
        → length (cond b bytes (without_end (λ (x : ℕ). x == 0) bytes)) ≤ length bytes
    either true = omega arith
    either false = omega (arith, length-without_end (λ (x : ℕ). x == 0) bytes)

first_short : (most : ℕ) (leaves : List (List ℕ))
    → All (λ (leaf : List ℕ). length leaf ≤ most) leaves
    → length (get_or leaves 0 []) ≤ most
first_short most [] short = omega arith
first_short most (leaf ∷ leaves) short = short 0 [] (omega arith)

-- ---- a tree in a map that has its blocks

module _ (score_of : List ℕ → List ℕ) (held : BlockMap) (e : Entry)
    (len : (block : List ℕ) → length (score_of block) ≡ 20) (once : IsWriteOnce score_of held)
    (some : 0 < e.dsize) (fits : 20 ≤ e.psize) where
  abbrev shape : Shape
  shape = record { psize = e.psize; dsize = e.dsize; is_dir = e.is_dir }

  abbrev tree : (d : ℕ) → List (List ℕ) → Tree
  tree d leaves = tree_of score_of shape d leaves

  -- the topmost block is under its score, be it kept or not
  top_held : (below : List Block) (top : Block)
      → All (Has score_of held) (topped score_of below top).blocks
      → held (score_of top.bytes) top.kind ≡ Some top.bytes
  top_held below top each = elim (cases_Bool (length top.bytes == 0)) [
    | inl none ↦
        let nil : top.bytes ≡ [] =
        nil_from_length top.bytes (eqb-true (length top.bytes) 0 none) in
        subst (λ (bytes : List ℕ). held (score_of bytes) top.kind ≡ Some bytes) (sym nil)
        (once.zero_score top.kind)
    | inr kept ↦
        last_of (Has score_of held) below top
        (subst (λ (b : Bool). All (Has score_of held) (below ++ cond b [] (top ∷ []))) kept each)
  ]

  tree_score_len : (d : ℕ) (leaves : List (List ℕ)) → length (tree d leaves).score ≡ 20
  tree_score_len zero leaves = len (leaf_block shape (get_or leaves 0 [])).bytes
  tree_score_len (suc d) leaves =
      len (pointer_block score_of (suc d)
      (map (λ (t : Tree). t.score) (map (tree d) (pieces_of_len (scores_in e.psize ^ d) leaves)))).bytes

  pub reads_back : (d : ℕ) (leaves : List (List ℕ)) → length leaves ≤ scores_in e.psize ^ d
      → All (λ (leaf : List ℕ). length leaf ≤ e.dsize) leaves
      → All (Has score_of held) (tree d leaves).blocks
      → (leaf byte : ℕ) → leaf < scores_in e.psize ^ d → byte < e.dsize
      → byte_below held e d (tree d leaves).score leaf byte
      ≡ Ok (get_or (get_or leaves leaf []) byte 0)
  reads_back zero leaves reached short each leaf byte within inside =
      let one = pow-zero (scores_in e.psize) in
      let none : leaf ≡ 0 = omega (arith, one) in
      let first : List ℕ = get_or leaves 0 [] in
      let block : Block = leaf_block shape first in
      let fit : length block.bytes ≤ e.dsize =
      omega (arith, leaf_len shape first, first_short e.dsize leaves short) in
      ap (byte_of_leaf e byte) (top_held [] block each)
      ∙ leaf_byte e block.bytes byte fit
      ∙ ap (λ (b : ℕ). Ok b) (leaf_at shape first byte)
      ∙ ap (λ (l : ℕ). Ok (get_or (get_or leaves l []) byte 0)) (sym none)
  reads_back (suc d) leaves reached short each leaf byte within inside =
      let q : ℕ = scores_in e.psize ^ d in
      let p : ℕ = scores_in e.psize in
      let p_some : 0 < p = omega arith in
      let q_some : 1 ≤ q = one-le-pow d p p_some in
      let cut : List (List (List ℕ)) = pieces_of_len q leaves in
      let trees : List Tree = map (tree d) cut in
      let scores : List (List ℕ) = map (λ (t : Tree). t.score) trees in
      let kept : List (List ℕ) = without_end (bytes_eq (score_of [])) scores in
      let top : Block = pointer_block score_of (suc d) scores in
      let place : ℕ = leaf / q in
      let power : p ^ suc d ≡ q * p = pow-suc p d in
      let count : length scores ≡ count_of q leaves =
      length-map trees (λ (t : Tree). t.score) ∙ length-map cut (tree d) ∙ length-pieces q leaves in
      let few : count_of q leaves ≤ p = pieces_fit q p leaves (omega arith) (omega arith) in
      let all_20 : All (λ (s : List ℕ). length s ≡ 20) scores =
      All-map (λ (s : List ℕ). length s ≡ 20) (λ (t : Tree). t.score) trees
      (All-map (λ (t : Tree). length t.score ≡ 20) (tree d) cut
      (λ k e' _. tree_score_len d (get_or cut k e'))) in
      let kept_20 : All (λ (s : List ℕ). length s ≡ 20) kept =
      All-take (λ (s : List ℕ). length s
      ≡ 20) (length scores - suffix_len (bytes_eq (score_of [])) scores)
      scores all_20 in
      let long : length top.bytes ≡ 20 * length kept = length-scores kept kept_20 in
      let no_more : length kept ≤ length scores =
      omega (arith, length-without_end (bytes_eq (score_of [])) scores) in
      let room : 20 * p ≤ e.psize = omega arith in
      let whole : length top.bytes % 20 ≡ 0 = omega (arith, long) in
      let fit : fits_at e (suc d) top.bytes ≡ true =
      and_from _ _ (le-leb (length top.bytes) e.psize (omega (arith, long)))
      (eq-eqb (length top.bytes % 20) 0 whole) in
      let is_held : held (score_of top.bytes) (pointer_kind (suc d)) ≡ Some top.bytes =
      top_held (flat_map (λ (t : Tree). t.blocks) trees) top each in
      let below : All (Has score_of held) (flat_map (λ (t : Tree). t.blocks) trees) =
      front_of (Has score_of held) (flat_map (λ (t : Tree). t.blocks) trees)
      (cond (length top.bytes == 0) [] (top ∷ [])) each in
      -- the tree at a place reads back what stands in its piece
      let child : place < count_of q leaves
      → byte_below held e d (tree d (get_or cut place [])).score (leaf % q) byte
      ≡ Ok (get_or (get_or leaves leaf []) byte 0) = λ there.
      let piece : get_or cut place [] ≡ take q (drop (q * place) leaves) =
      piece_at q leaves place [] there in
      let small : length (get_or cut place []) ≤ q =
      omega (arith, ap length piece, length-take q (drop (q * place) leaves)) in
      let all_short : All (λ (l : List ℕ). length l ≤ e.dsize) (get_or cut place []) =
      All-same (λ (l : List ℕ). length l ≤ e.dsize) (get_or cut place []) (take q (drop (q * place)
      leaves))
      piece (All-take (λ (l : List ℕ). length l ≤ e.dsize) q (drop (q * place) leaves)
      (All-drop (λ (l : List ℕ). length l ≤ e.dsize) (q * place) leaves short)) in
      let in_trees : place < length trees =
      omega (arith, length-map cut (tree d), length-pieces q leaves) in
      let in_cut : place < length cut = omega (arith, length-pieces q leaves) in
      let its : All (Has score_of held) (tree d (get_or cut place [])).blocks =
      subst (λ (t : Tree). All (Has score_of held) t.blocks)
      (get_or-map (tree d) cut place [] (tree d []) in_cut)
      (part_of (Has score_of held) (λ (t : Tree). t.blocks) trees place (tree d []) below
      in_trees) in
      reads_back d (get_or cut place []) small all_short its (leaf % q) byte
      (mod-lt leaf (omega arith)) inside
      ∙ ap (λ (l : List ℕ). Ok (get_or l byte 0)) (element_at q leaves leaf [] (omega arith)) in
      elim (cases_lt place (length kept)) [
        | inl in_kept ↦
            let there : place < count_of q leaves = omega arith in
            let in_trees : place < length trees =
            omega (arith, length-map cut (tree d), length-pieces q leaves) in
            let in_cut : place < length cut = omega (arith, length-pieces q leaves) in
            let is : take 20 (drop (20 * place) top.bytes) ≡ (tree d (get_or cut place [])).score =
            score_at kept place kept_20 in_kept
            ∙ left_at (bytes_eq (score_of [])) scores place [] in_kept
            ∙ get_or-map (λ (t : Tree). t.score) trees place (tree d []) [] in_trees
            ∙ ap (λ (t : Tree). t.score) (get_or-map (tree d) cut place [] (tree d []) in_cut) in
            below_pointers held e d (score_of top.bytes) top.bytes
            (tree d (get_or cut place [])).score leaf byte is_held fit (omega (arith, long)) is
            ∙ child there
        | inr past ↦
            past_pointers held e d (score_of top.bytes) top.bytes leaf byte is_held fit
            (omega (arith, long))
            ∙ elim (cases_lt place (count_of q leaves)) [
              | inl there ↦
                  let in_trees : place < length trees =
                  omega (arith, length-map cut (tree d), length-pieces q leaves) in
                  let in_cut : place < length cut = omega (arith, length-pieces q leaves) in
                  let passes : bytes_eq (score_of []) (get_or scores place []) ≡ true =
                  end_passes (bytes_eq (score_of [])) scores place []
                  (omega (arith, length-without_end (bytes_eq (score_of [])) scores))
                  (omega arith) in
                  let same : score_of [] ≡ (tree d (get_or cut place [])).score =
                  (bytes_eq-Decides (score_of []) (get_or scores place [])).0 passes
                  ∙ get_or-map (λ (t : Tree). t.score) trees place (tree d []) [] in_trees
                  ∙ ap (λ (t : Tree). t.score)
                  (get_or-map (tree d) cut place [] (tree d []) in_cut) in
                  sym (subst (λ (s : List ℕ). byte_below held e d s (leaf % q) byte ≡ Ok 0) same
                  (nothing_below held e d (score_of []) (leaf % q) byte once.zero_score))
                  ∙ child there
              | inr out ↦
                  let behind : length leaves ≤ leaf =
                  omega (arith, no_piece_past q leaves place (omega arith) out) in
                  ap (λ (l : List ℕ). Ok (get_or l byte 0))
                  (sym (get_or_past leaves leaf [] behind))
            ]
      ]

-- ---- the depth

pub reach_7 : (shape : Shape) → FitsShape shape → 2 ^ 40 ≤ reach shape 7
reach_7 shape fits =
    let many : 25 ≤ scores_in shape.psize = omega (arith, fits.psize_least) in
    let power : 25 ^ 7 ≤ scores_in shape.psize ^ 7 = pow-le-pow_left many 7 in
    let all : 25 ^ 7 * 480 ≤ reach shape 7 =
    mul-le (25 ^ 7) 480 (scores_in shape.psize ^ 7) shape.dsize power fits.dsize_least in
    let enough : 2 ^ 40 ≤ 25 ^ 7 * 480 = lit≤ tt in
    omega arith

abbrev fails_to_reach : Shape → (size d : ℕ) → Bool
fails_to_reach shape size d = nat_lt (reach shape d) size

pub depth_below_8 : (shape : Shape) (size : ℕ) → FitsShape shape → size ≤ 2 ^ 40
    → depth_of shape size < 8
depth_below_8 shape size fits most = elim (cases_lt (depth_of shape size) 8) [
  | inl below ↦ below
  | inr past ↦
      let passes : fails_to_reach shape size 7 ≡ true =
      prefix_len_passes (λ (d : ℕ). nat_lt (reach shape d) size) (range_with_len 0 8) 7 0
      (omega arith) in
      absurd (omega (arith, reach_7 shape fits, ltb-true (reach shape 7) size passes))
]

-- it reaches so many bytes, and no smaller depth does
pub reaches_there : (shape : Shape) (size : ℕ) → depth_of shape size < 8
    → size ≤ reach shape (depth_of shape size)
reaches_there shape size below =
    let d : ℕ = depth_of shape size in
    let stops = prefix_len_stops (λ (k : ℕ). nat_lt (reach shape k) size) (range_with_len 0 8) 0
    (omega (arith, length-range_with_len 0 8, below)) in
    let at : get_or (range_with_len 0 8) d 0 ≡ d =
    get_or-range_with_len 0 8 d 0 below ∙ zero-add d in
    ltb-false (reach shape d) size
    (subst (λ (k : ℕ). nat_lt (reach shape k) size ≡ false) at stops)

pub depth_reaches : (shape : Shape) (size : ℕ) → FitsShape shape → size ≤ 2 ^ 40
    → size ≤ reach shape (depth_of shape size)
depth_reaches shape size fits most =
    reaches_there shape size (depth_below_8 shape size fits most)

pub depth_is_least : (shape : Shape) (size d : ℕ) → d < depth_of shape size → reach shape d < size
depth_is_least shape size d below =
    let most : depth_of shape size ≤ 8 =
    omega (
      arith,
      prefix_len-le-length (λ (k : ℕ). nat_lt (reach shape k) size) (range_with_len 0 8),
      length-range_with_len 0 8,
    ) in
    let at : get_or (range_with_len 0 8) d 0 ≡ d =
    get_or-range_with_len 0 8 d 0 (omega arith) ∙ zero-add d in
    ltb-true (reach shape d) size
    (subst (λ (k : ℕ). nat_lt (reach shape k) size ≡ true) at
    (prefix_len_passes (λ (k : ℕ). nat_lt (reach shape k) size) (range_with_len 0 8) d 0 below))

-- ---- the whole stream

pieces_short : {A : Type 0} (n : ℕ) (xs : List A)
    → All (λ (piece : List A). length piece ≤ n) (pieces_of_len n xs)
pieces_short {A} n xs =
    All-map (λ (piece : List A). length piece ≤ n) (λ (i : ℕ). take n (drop (n * i) xs))
    (range_with_len 0 (count_of n xs))
    (λ k d _. omega (
      arith,
      length-take n (drop (n * get_or (range_with_len 0 (count_of n xs)) k d) xs),
    ))

pub stream_reads_back : (score_of : List ℕ → List ℕ) (held : BlockMap) (shape : Shape)
    (bytes : List ℕ) → ((block : List ℕ) → length (score_of block) ≡ 20)
    → IsWriteOnce score_of held → FitsShape shape → length bytes ≤ 2 ^ 40
    → All (Has score_of held) (stream_of score_of shape bytes).blocks
    → IsFileContent held (entry_of_stream score_of shape bytes) bytes
stream_reads_back score_of held shape bytes len once fits most each = record {
  all = refl;
  each = λ i within.
      subst (λ (k : ℕ). byte_of held (entry_of_stream score_of shape bytes) k ≡ Ok (get_or bytes i 0))
      (sym (zero-add i)) (byte_at i within);
}
  where
    byte_at : (i : ℕ) → i < length bytes
        → byte_of held (entry_of_stream score_of shape bytes) i ≡ Ok (get_or bytes i 0)
    byte_at i within =
        let d : ℕ = depth_of shape (length bytes) in
        let p : ℕ = scores_in shape.psize in
        let some : 0 < shape.dsize = omega (arith, fits.dsize_least) in
        let leaves : List (List ℕ) = leaves_of shape bytes in
        let reached : length bytes ≤ p ^ d * shape.dsize =
        depth_reaches shape (length bytes) fits most in
        let turned = mul_comm (p ^ d) shape.dsize in
        let few : length leaves ≤ p ^ d =
        omega (
          arith,
          length-pieces shape.dsize bytes,
          pieces_fit shape.dsize (p ^ d) bytes some (omega arith),
        ) in
        let leaf : i / shape.dsize < p ^ d = div_below i shape.dsize (p ^ d) some (omega arith) in
        ap (λ (b : Bool). cond b (byte_below held (entry_of_stream score_of shape bytes) d
        (stream_of score_of shape bytes).score (i / shape.dsize) (i % shape.dsize)) (Ok 0))
        (lt-ltb (i / shape.dsize) (p ^ d) leaf)
        ∙ reads_back score_of held (entry_of_stream score_of shape bytes) len once some
        (omega (arith, fits.psize_least)) d leaves few (pieces_short shape.dsize bytes) each
        (i / shape.dsize) (i % shape.dsize) leaf (mod-lt i some)
        ∙ ap (λ (b : ℕ). Ok b) (element_at shape.dsize bytes i 0 some)
