-- How a stream's tree grows while its leaves come.
use Rattle.std.specs.Prelude.{ℕ, ◌≡◌, ◌+◌, ◌*◌, ◌<◌, ◌≤◌, ◌^◌, ⊤, Bool, true, false, IsTrue, IfOk, IfErr, None, Result, ◌==◌, if◌then◌else◌, List, [], ◌∷◌, ◌++◌, length, map, take}
use Rattle.std.specs.List.{flat_map}
use Rattle.vt_base.specs.declared.score.Score.{Score}
use Rattle.vt_model.specs.History.{Block}
use Rattle.vt_tree.specs.declared.error.TreeErr.{TreeErr}
use Rattle.vt_tree.specs.declared.error.TreeErr.TheVariants.{Block as BlockRefused, SourceFault, BadEntry, BadBlock, TooLong, NoMemory}
use Rattle.vt_tree.specs.declared.writing.Ahead.{Ahead}
use Rattle.vt_tree.specs.declared.writing.Cut.{Cut}
use Rattle.vt_tree.specs.Calls.{Call, asked_of, write_of_block, refusals_of}
use Rattle.vt_tree.specs.Content.{scores_in}
use Rattle.vt_tree.specs.Making.{Makes, EndsBy}
use Rattle.vt_tree.specs.Reading.{refusal_in, refused_by, AsksFor}
use Rattle.vt_tree.specs.Streams.{Shape, FitsShape, tree_of, depth_of, stream_of, pieces_of_len}
use Rattle.vt_tree.specs.Writing.{IsGivenUpFor}

-- what was taken ahead of a stream: the next leaf, whether the source has ended, and how many bytes
-- were taken in all
pub record Next : Type 0 where
  pub leaf : List ℕ
  pub ended : Bool
  pub size : ℕ

-- A leaf that is shorter than dsize is the last one, and behind the end none comes.
pub record IsNextLeaf (dsize : ℕ) (next : Next) : Type 0 where
  pub most : length next.leaf ≤ dsize
  pub last : next.ended ≡ false → length next.leaf ≡ dsize
  pub size : next.size ≤ 2 ^ 40

-- the leaf that was read ahead, as contracts see it
abbrev pub next_of : Ahead → Next
next_of a = record { leaf = take a.filled a.leaf.items; ended = a.ended; size = a.size }

-- the sizes by which a stream is cut, as contracts see them
abbrev pub shape_of : Cut → Shape
shape_of cut = record { psize = cut.psize; dsize = cut.dsize; is_dir = cut.is_dir }

-- What a writing goes by: the zero score, sizes that fit, a buffer for a leaf, and what was taken
-- ahead; a source that has ended has nothing left.
pub record IsReadyToWrite (score_of : List ℕ → List ℕ) (cut : Cut) (ahead : Ahead) (tells : Bool)
    (left : List ℕ) : Type 0 where
  pub zero : cut.zero.0 ≡ score_of []
  pub fits : FitsShape (shape_of cut)
  pub room : length ahead.leaf.items ≡ cut.dsize
  pub filled : ahead.filled ≤ length ahead.leaf.items
  pub next : IsNextLeaf cut.dsize (next_of ahead)
  pub end : ahead.ended ≡ true → IsTrue tells → left ≡ []

-- the next leaf was taken, which is what was taken of the source
pub record TakesNextLeaf (dsize : ℕ) (old new : Next) (taken : List ℕ → Type 0) : Type 0 where
  pub bytes : List ℕ
  pub is_taken : taken bytes
  pub leaf : new.leaf ≡ bytes
  pub behind_end : old.ended ≡ true → bytes ≡ []
  pub size : new.size ≡ old.size + length bytes
  pub next : IsNextLeaf dsize new

-- The next leaf wasn't taken: the source, from which these bytes come, failed, or it has too many.
-- Behind its end it isn't asked.
pub record StopsAhead (old : Next) (coming : List ℕ → Type 0) (err : TreeErr) : Type 0 where
  pub going : old.ended ≡ false
  pub own : refusal_in err ≡ None
  pub bytes : List ℕ
  pub is_coming : coming bytes
  pub cause : IsGivenUpFor err (old.size + length bytes)

-- leaves were taken, of which all but the last have dsize bytes, and so does the last where another
-- one comes; with the next leaf they are what was taken before and these bytes
pub record TakesLeaves (dsize : ℕ) (old new : Next) (bytes : List ℕ) (leaves : List (List ℕ))
    : Type 0 where
  pub parts : old.leaf ++ bytes ≡ flat_map (λ (leaf : List ℕ). leaf) leaves ++ new.leaf
  pub cut : leaves ≡ pieces_of_len dsize (flat_map (λ (leaf : List ℕ). leaf) leaves)
  pub whole : 0 < length new.leaf
      → length (flat_map (λ (leaf : List ℕ). leaf) leaves) ≡ dsize * length leaves
  pub size : new.size ≡ old.size + length bytes
  pub next : IsNextLeaf dsize new

-- A tree of this depth was written of the next leaves, as many as it reaches or as came; its first
-- leaves, which had a tree of their own, were there before.
pub record GrowsTree {S : Type 0} (does : S → Call → S → Type 0) (score_of : List ℕ → List ℕ)
    (s s' : S) (shape : Shape) (depth : ℕ) (old new : Next) (taken : List ℕ → Type 0)
    (first : List (List ℕ)) (written : List Block) (score : Score) : Type 0 where
  pub bytes : List ℕ
  pub is_taken : taken bytes
  pub leaves : List (List ℕ)
  pub takes : TakesLeaves shape.dsize old new bytes leaves
  pub some : 0 < length old.leaf → 0 < length (first ++ leaves)
  pub most : length (first ++ leaves) ≤ scores_in shape.psize ^ depth
  pub full : 0 < length new.leaf → length (first ++ leaves) ≡ scores_in shape.psize ^ depth
  pub still : length old.leaf ≡ 0 → (bytes ≡ []) × (leaves ≡ [])
  pub calls : List Call
  pub made : Makes does s calls s'
  pub accepted : refusals_of calls ≡ []
  pub score_is : score.0 ≡ (tree_of score_of shape depth (first ++ leaves)).score
  pub puts : map write_of_block written ++ map asked_of calls
      ≡ map write_of_block (tree_of score_of shape depth (first ++ leaves)).blocks

-- The tree of all leaves was written: the first of them was taken before.
pub record WritesTree {S : Type 0} (does : S → Call → S → Type 0) (score_of : List ℕ → List ℕ)
    (s s' : S) (shape : Shape) (old new : Next) (taken : List ℕ → Type 0) (depth : ℕ)
    (score : Score) : Type 0 where
  pub bytes : List ℕ
  pub is_taken : taken bytes
  pub size : new.size ≡ old.size + length bytes
  pub most : new.size ≤ 2 ^ 40
  pub depth_is : depth ≡ depth_of shape (length (old.leaf ++ bytes))
  pub calls : List Call
  pub made : Makes does s calls s'
  pub accepted : refusals_of calls ≡ []
  pub score_is : score.0 ≡ (stream_of score_of shape (old.leaf ++ bytes)).score
  pub puts : map asked_of calls
      ≡ map write_of_block (stream_of score_of shape (old.leaf ++ bytes)).blocks

-- The stream was given up: of the tree of the leaf that was taken and of all that comes, the first
-- blocks were put.
pub record StopsStream {S : Type 0} (does : S → Call → S → Type 0) (score_of : List ℕ → List ℕ)
    (s s' : S) (shape : Shape) (old : Next) (coming : List ℕ → Type 0) (err : TreeErr)
    : Type 0 where
  pub bytes : List ℕ
  pub is_coming : coming bytes
  pub cause : IsGivenUpFor err (old.size + length bytes)
  pub calls : List Call
  pub made : Makes does s calls s'
  pub refused : EndsBy (refusal_in err) calls
  pub rest : List Block
  pub puts : map asked_of calls ++ map write_of_block rest
      ≡ map write_of_block (stream_of score_of shape (old.leaf ++ bytes)).blocks

-- The tree was given up: of the tree of these, as far as it reaches, the first blocks were put.
pub record StopsTree {S : Type 0} (does : S → Call → S → Type 0) (score_of : List ℕ → List ℕ)
    (s s' : S) (shape : Shape) (depth : ℕ) (old : Next) (coming : List ℕ → Type 0)
    (first : List (List ℕ)) (written : List Block) (err : TreeErr) : Type 0 where
  pub bytes : List ℕ
  pub is_coming : coming bytes
  pub still : length old.leaf ≡ 0 → bytes ≡ []
  pub cause : IsGivenUpFor err (old.size + length bytes)
  pub calls : List Call
  pub made : Makes does s calls s'
  pub refused : EndsBy (refusal_in err) calls
  pub rest : List Block
  pub puts : map write_of_block written ++ map asked_of calls ++ map write_of_block rest
      ≡ map write_of_block (tree_of score_of shape depth (take (scores_in shape.psize ^ depth)
      (first ++ pieces_of_len shape.dsize (old.leaf ++ bytes)))).blocks

-- a tree of this depth that was written before, with its leaves
pub record HasFirst (score_of : List ℕ → List ℕ) (shape : Shape) (depth : ℕ) (next : Next)
    (leaves : List (List ℕ)) (score : Score) : Type 0 where
  pub some : 0 < length leaves
  pub most : length leaves ≤ scores_in shape.psize ^ depth
  pub full : 0 < length next.leaf → length leaves ≡ scores_in shape.psize ^ depth
  pub score_is : score.0 ≡ (tree_of score_of shape depth leaves).score

-- The error is the answer to a call, or want of memory.
abbrev pub IsOfCall : TreeErr → Type 0
IsOfCall (BlockRefused err) = ⊤
IsOfCall SourceFault = ⊥
IsOfCall (BadEntry bad) = ⊥
IsOfCall (BadBlock depth len) = ⊥
IsOfCall TooLong = ⊥
IsOfCall NoMemory = ⊤

-- a block was put, unless it has no bytes
pub record PutsBlock {S : Type 0} (does : S → Call → S → Type 0) (score_of : List ℕ → List ℕ)
    (s s' : S) (b : Block) (result : Result Score TreeErr) : Type 0 where
  pub calls : List Call
  pub made : Makes does s calls s'
  pub refused : EndsBy (refused_by result) calls
  pub asked : AsksFor result (map asked_of calls)
      (map write_of_block (if length b.bytes == 0 then [] else b ∷ []))
  pub scored : IfOk result (λ score. score.0 ≡ score_of b.bytes)
  pub plain : IfErr result IsOfCall
