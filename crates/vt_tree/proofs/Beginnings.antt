-- How a tree begins whose first leaves are known, and further ones come.
use Rattle.std.proofs.Common.{◌≡◌, ℕ, suc, ◌+◌, ◌-◌, ◌*◌, ◌<◌, ◌≤◌, ◌^◌, cond, List, [], ◌∷◌, ◌++◌, length, map, take, sym, ◌∙◌, ap, arith, append_assoc}
use Rattle.std.specs.Prelude.{◌==◌}
use Rattle.std.specs.List.{flat_map}
use Rattle.std.proofs.Math.Nat.{one-le-pow, pow-suc, mul-le-mul_left}
use Rattle.std.proofs.lemmas.List.{map-append, take-take, take_all, length-take}
use Rattle.std.proofs.Math.Seq.{take-append-add}
use Rattle.std.proofs.lemmas.List.Concat.{flat_map-append}
use Rattle.vt_model.specs.History.{Block}
use Rattle.vt_tree.specs.Content.{scores_in}
use Rattle.vt_tree.specs.Streams.{Shape, Tree, pieces_of_len, pointer_block, tree_of}
use Rattle.vt_tree.proofs.Pieces.{pieces_join}
use Rattle.vt_tree.proofs.Trees.{trees, first_piece}

module _ (score_of : List ℕ → List ℕ) (shape : Shape) (d : ℕ) (leaves : List (List ℕ)) where
  -- the blocks of the trees below a pointer block
  abbrev pub blocks_below : List Block
  blocks_below = flat_map (λ (t : Tree). t.blocks) (trees score_of shape d leaves)

  -- and the block above them, unless it has no bytes
  abbrev pub own : List Block
  own =
      let top = pointer_block score_of (suc d)
      (map (λ (t : Tree). t.score) (trees score_of shape d leaves)) in
      cond (length top.bytes == 0) [] (top ∷ [])

module _ (score_of : List ℕ → List ℕ) (shape : Shape) (some : 0 < scores_in shape.psize) where
  -- trees behind whole ones
  below_join : (d n : ℕ) (leaves more : List (List ℕ))
      → length leaves ≡ scores_in shape.psize ^ d * n
      → blocks_below score_of shape d (leaves ++ more)
      ≡ blocks_below score_of shape d leaves ++ blocks_below score_of shape d more
  below_join d n leaves more whole =
      let q : ℕ = scores_in shape.psize ^ d in
      let one : 1 ≤ q = one-le-pow d (scores_in shape.psize) some in
      ap (flat_map (λ (t : Tree). t.blocks))
      (ap (map (tree_of score_of shape d)) (pieces_join q leaves more n (omega arith) whole)
      ∙ map-append (tree_of score_of shape d) (pieces_of_len q leaves) (pieces_of_len q more))
      ∙ flat_map-append (λ (t : Tree). t.blocks) (trees score_of shape d leaves)
      (trees score_of shape d more)

  -- Where so many whole trees stand below a pointer block, and more leaves come, the blocks of the
  -- trees and of the next one begin those of the tree.
  pub begins_more : (d n : ℕ) (leaves more : List (List ℕ))
      → length leaves ≡ scores_in shape.psize ^ d * n → n < scores_in shape.psize
      → 0 < length more → (rest : List Block)
      × ((blocks_below score_of shape d leaves
      ++ (tree_of score_of shape d (take (scores_in shape.psize ^ d) more)).blocks) ++ rest
      ≡ (tree_of score_of shape (suc d)
      (take (scores_in shape.psize ^ suc d) (leaves ++ more))).blocks)
  begins_more d n leaves more whole few came =
      let p : ℕ = scores_in shape.psize in
      let q : ℕ = p ^ d in
      let one : 1 ≤ q = one-le-pow d p some in
      let wide : p ^ suc d ≡ q * p = pow-suc p d in
      let next : q * suc n ≤ q * p = mul-le-mul_left q few in
      let left : ℕ = p ^ suc d - length leaves in
      let room : q ≤ left = omega arith in
      let cut : take (p ^ suc d) (leaves ++ more) ≡ leaves ++ take left more =
      take_behind (p ^ suc d) leaves more (omega arith) in
      let rest_came : 0 < length (take left more) = omega (arith, length-take left more) in
      let first = first_piece q (take left more) (omega arith) rest_came in
      let front : take q (take left more) ≡ take q more = take-take q left more room in
      let others : List Block =
      flat_map (λ (t : Tree). t.blocks) (map (tree_of score_of shape d) first.0) in
      let below_more : blocks_below score_of shape d (take left more)
      ≡ (tree_of score_of shape d (take q more)).blocks ++ others =
      ap (λ (ps : List (List (List ℕ))).
      flat_map (λ (t : Tree). t.blocks) (map (tree_of score_of shape d) ps)) first.1
      ∙ ap (λ (ls : List (List ℕ)). (tree_of score_of shape d ls).blocks ++ others) front in
      let all : blocks_below score_of shape d (leaves ++ take left more)
      ≡ (blocks_below score_of shape d leaves ++ (tree_of score_of shape d (take q more)).blocks)
      ++ others =
      below_join d n leaves (take left more) whole
      ∙ ap (λ (bs : List Block). blocks_below score_of shape d leaves ++ bs) below_more
      ∙ sym (append_assoc (blocks_below score_of shape d leaves)
      (tree_of score_of shape d (take q more)).blocks others) in (
        others ++ own score_of shape d (leaves ++ take left more),
        sym (append_assoc
            (blocks_below score_of shape d leaves
            ++ (tree_of score_of shape d (take q more)).blocks) others
            (own score_of shape d (leaves ++ take left more)))
            ∙ ap (λ (bs : List Block). bs ++ own score_of shape d (leaves ++ take left more))
            (sym all)
            ∙ ap (λ (ls : List (List ℕ)). (tree_of score_of shape (suc d) ls).blocks) (sym cut),
      )
    where
      take_behind : (k : ℕ) (xs ys : List (List ℕ)) → length xs ≤ k
          → take k (xs ++ ys) ≡ xs ++ take (k - length xs) ys
      take_behind k xs ys fits =
          ap (λ (j : ℕ). take j (xs ++ ys)) (sum k (length xs) fits)
          ∙ take-append-add xs ys (k - length xs)
        where
          sum : (a b : ℕ) → b ≤ a → a ≡ b + (a - b)
          sum a b few = omega arith

  -- and where no more come
  pub begins_all : (d : ℕ) (leaves : List (List ℕ))
      → length leaves ≤ scores_in shape.psize ^ suc d
      → blocks_below score_of shape d leaves ++ own score_of shape d leaves
      ≡ (tree_of score_of shape (suc d) (take (scores_in shape.psize ^ suc d) leaves)).blocks
  begins_all d leaves fits =
      ap (λ (ls : List (List ℕ)). (tree_of score_of shape (suc d) ls).blocks)
      (sym (take_all (scores_in shape.psize ^ suc d) leaves fits))
