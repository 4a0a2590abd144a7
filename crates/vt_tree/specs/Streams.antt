-- The tree of blocks in which a stream of bytes is kept (venti(6)): the bytes are cut into leaves,
-- the scores of the leaves are kept in pointer blocks, the scores of these in pointer blocks again,
-- up to one block. Zeros at the end of a leaf, and zero scores at the end of a pointer block,
-- aren't kept; the leaves of a directory are kept whole.
use Rattle.std.specs.Prelude.{ℕ, zero, suc, ◌+◌, ◌-◌, ◌*◌, ◌/◌, ◌^◌, ◌==◌, ◌≤◌, nat_lt, Bool, true, if◌then◌else◌, List, [], ◌∷◌, ◌++◌, length, map, take, drop, slice_index_or}
use Rattle.std.specs.List.{range_with_len, prefix_len, suffix_len, flat_map}
use Rattle.std.specs.Str.{bytes_eq}
use Rattle.vt_base.specs.declared.TheConstants.{MAX_BLOCK}
use Rattle.vt_model.specs.History.{Block}
use Rattle.vt_tree.specs.declared.entry.Entry.{Entry}
use Rattle.vt_tree.specs.Content.{scores_in, leaf_kind, pointer_kind}

-- how a stream is cut
pub record Shape : Type 0 where
  pub psize : ℕ
  pub dsize : ℕ
  pub is_dir : Bool

-- sizes by which a depth of 7 reaches 2^40 bytes
pub record FitsShape (shape : Shape) : Type 0 where
  pub psize_least : 500 ≤ shape.psize
  pub psize_most : shape.psize ≤ MAX_BLOCK
  pub dsize_least : 480 ≤ shape.dsize
  pub dsize_most : shape.dsize ≤ MAX_BLOCK

-- how many bytes stand below a block of this depth at most
abbrev pub reach : Shape → (depth : ℕ) → ℕ
reach shape depth = scores_in shape.psize ^ depth * shape.dsize

-- the least depth that reaches so many bytes: how many depths don't
abbrev pub depth_of : Shape → (size : ℕ) → ℕ
depth_of shape size = prefix_len (λ d. nat_lt (reach shape d) size) (range_with_len 0 8)

-- a list cut into pieces of this length, of which the last may be shorter
abbrev pub pieces_of_len : {A : Type 0} → (len : ℕ) → List A → List (List A)
pieces_of_len len xs =
    map (λ i. take len (drop (len * i) xs)) (range_with_len 0 ((length xs + (len - 1)) / len))

-- the bytes of the leaves
abbrev pub leaves_of : Shape → List ℕ → List (List ℕ)
leaves_of shape bytes = pieces_of_len shape.dsize bytes

-- a list without those at its end that pass the test
abbrev pub without_end : {A : Type 0} → (A → Bool) → List A → List A
without_end p xs = take (length xs - suffix_len p xs) xs

-- the block of a leaf with these bytes
abbrev pub leaf_block : Shape → List ℕ → Block
leaf_block shape bytes = record {
  kind = leaf_kind shape.is_dir;
  bytes = if shape.is_dir then bytes else without_end (λ b. b == 0) bytes;
}

-- the pointer block of this depth over these scores
abbrev pub pointer_block : (score_of : List ℕ → List ℕ) → (depth : ℕ) → List (List ℕ) → Block
pointer_block score_of depth scores = record {
  kind = pointer_kind depth;
  bytes = flat_map (λ s. s) (without_end (bytes_eq (score_of [])) scores);
}

-- a tree: the score that it is found by, and its blocks, each behind those that it names
pub record Tree : Type 0 where
  pub score : List ℕ
  pub blocks : List Block

-- The tree of a block above these blocks. A block without bytes has the zero score, and isn't kept.
abbrev pub topped : (score_of : List ℕ → List ℕ) → List Block → Block → Tree
topped score_of below top = record {
  score = score_of top.bytes;
  blocks = below ++ (if length top.bytes == 0 then [] else top ∷ []);
}

-- the tree of this depth that keeps leaves of these bytes, which it reaches
abbrev pub tree_of : (score_of : List ℕ → List ℕ) → Shape → (depth : ℕ) → List (List ℕ) → Tree
tree_of score_of shape zero leaves =
    topped score_of [] (leaf_block shape (slice_index_or leaves 0 []))
tree_of score_of shape (suc d) leaves =
    let trees = map (tree_of score_of shape d) (pieces_of_len (scores_in shape.psize ^ d) leaves) in
    topped score_of (flat_map (λ t. t.blocks) trees)
    (pointer_block score_of (suc d) (map (λ t. t.score) trees))

-- the tree in which a stream is kept, and the entry that stands for it
abbrev pub stream_of : (score_of : List ℕ → List ℕ) → Shape → List ℕ → Tree
stream_of score_of shape bytes =
    tree_of score_of shape (depth_of shape (length bytes)) (leaves_of shape bytes)

-- the entry of a stream of these bytes that is written in this shape
abbrev pub entry_of_stream : (score_of : List ℕ → List ℕ) → Shape → List ℕ → Entry
entry_of_stream score_of shape bytes = record {
  generation = 0;
  psize = shape.psize;
  dsize = shape.dsize;
  active = true;
  is_dir = shape.is_dir;
  depth = depth_of shape (length bytes);
  size = length bytes;
  score = record { 0 = (stream_of score_of shape bytes).score };
}
