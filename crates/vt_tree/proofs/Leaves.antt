-- The next leaf of a stream, written.
use Rattle.std.proofs.Common.{◌≡◌, ℕ, ◌+◌, ◌*◌, ◌<◌, ◌^◌, inl, inr, cond, Bool, Option, Ok, Err, None, List, [], ◌∷◌, ◌++◌, length, map, take, refl, sym, ◌∙◌, ap, subst, arith, append-nil, length-append}
use Rattle.std.specs.Prelude.{◌==◌}
use Rattle.std.proofs.Math.Nat.{pow-zero}
use Rattle.std.proofs.lemmas.Bool.{cases_Bool}
use Rattle.std.proofs.lemmas.List.{take_all, take_at}
use Rattle.vt_base.specs.declared.score.Score.{Score}
use Rattle.vt_model.specs.History.{Block}
use Rattle.vt_tree.specs.declared.error.TreeErr.{TreeErr}
use Rattle.vt_tree.specs.declared.error.BlockErr.{BlockErr}
use Rattle.vt_tree.specs.Calls.{Call, asked_of, write_of_block}
use Rattle.vt_tree.specs.Content.{scores_in}
use Rattle.vt_tree.specs.Growing.{Next, IsNextLeaf, TakesNextLeaf, StopsAhead, GrowsTree, StopsTree, PutsBlock}
use Rattle.vt_tree.specs.Making.{EndsBy}
use Rattle.vt_tree.specs.Streams.{Shape, pieces_of_len, leaf_block, tree_of}
use Rattle.vt_tree.specs.Writing.{IsTaken, IsAll}
use Rattle.vt_tree.proofs.Growth.{Comes, given_up, rest_of}
use Rattle.vt_tree.proofs.Pieces.{one_piece}
use Rattle.vt_tree.proofs.Trees.{first_piece}

-- the block of a leaf, unless it has no bytes
abbrev kept : Shape → List ℕ → List Block
kept shape leaf =
    cond (length (leaf_block shape leaf).bytes == 0) [] (leaf_block shape leaf ∷ [])

module _ {S : Type 0} (does : S → Call → S → Type 0) (score_of : List ℕ → List ℕ)
    (shape : Shape) (tells : Bool) (d_some : 0 < shape.dsize) (s s' : S) (old : Next)
    (came : 0 < length old.leaf) (is : IsNextLeaf shape.dsize old) where
  -- a leaf behind which another comes is whole
  whole_leaf : (new : Next) (from to : List ℕ)
      → TakesNextLeaf shape.dsize old new (IsTaken tells from to)
      → 0 < length new.leaf → length old.leaf ≡ shape.dsize
  whole_leaf new from to a more = elim (cases_Bool old.ended) [
    | inl ended ↦
        let none : length new.leaf ≡ 0 = ap length (a.leaf ∙ a.behind_end ended) in
        absurd (omega arith)
    | inr going ↦ is.last going
  ]

  pub leaf_written : (new : Next) (from to : List ℕ) (score : Score)
      → PutsBlock does score_of s s' (leaf_block shape old.leaf) (Ok score)
      → TakesNextLeaf shape.dsize old new (IsTaken tells from to)
      → GrowsTree does score_of s s' shape 0 old new (IsTaken tells from to) [] [] score
  leaf_written new from to score b a = record {
    bytes = a.bytes;
    is_taken = a.is_taken;
    leaves = old.leaf ∷ [];
    takes = record {
      parts = λ i. sym (append-nil old.leaf) i ++ sym a.leaf i;
      cut = sym (one_piece shape.dsize old.leaf came is.most)
          ∙ ap (λ (l : List ℕ). pieces_of_len shape.dsize l) (sym (append-nil old.leaf));
      whole = λ more.
          ap length (append-nil old.leaf) ∙ whole_leaf new from to a more
          ∙ sym (one_time shape.dsize);
      size = a.size;
      next = a.next;
    };
    some = λ some. omega arith;
    most = omega (arith, pow-zero (scores_in shape.psize));
    full = λ more. sym (pow-zero (scores_in shape.psize));
    still = λ none. absurd (omega arith);
    calls = b.calls;
    made = b.made;
    accepted = b.refused;
    score_is = b.scored;
    puts = b.asked;
  }
    where
      one_time : (n : ℕ) → n * 1 ≡ n
      one_time n = omega arith

  -- the tree of no depth of what was taken is that leaf
  first_alone : (more : List ℕ) → take shape.dsize (old.leaf ++ more) ≡ old.leaf
      → map write_of_block (kept shape old.leaf)
      ≡ map write_of_block (tree_of score_of shape 0 (take (scores_in shape.psize ^ 0)
      ([] ++ pieces_of_len shape.dsize (old.leaf ++ more)))).blocks
  first_alone more front =
      let cut = first_piece shape.dsize (old.leaf ++ more) d_some
      (omega (arith, length-append old.leaf more, came)) in
      ap (λ (l : List ℕ). map write_of_block (kept shape l)) (sym front)
      ∙ ap (λ (ls : List (List ℕ)). map write_of_block (tree_of score_of shape 0 (take 1 ls)).blocks)
      (sym cut.1)
      ∙ ap (λ (n : ℕ). map write_of_block (tree_of score_of shape 0
      (take n (pieces_of_len shape.dsize (old.leaf ++ more)))).blocks)
      (sym (pow-zero (scores_in shape.psize)))

  pub leaf_not_put : (left : List ℕ) (err : TreeErr) → Comes tells old.ended left
      → PutsBlock does score_of s s' (leaf_block shape old.leaf) (Err err)
      → StopsTree does score_of s s' shape 0 old (IsAll tells left) [] [] err
  leaf_not_put left err comes b =
      let behind = rest_of (map asked_of b.calls) b.asked.0 (kept shape old.leaf) b.asked.1 in
      record {
        bytes = comes.more;
        is_coming = comes.is;
        still = λ none. absurd (omega arith);
        cause = given_up err (old.size + length comes.more) b.plain;
        calls = b.calls;
        made = b.made;
        refused = b.refused;
        rest = behind.0;
        puts = behind.1 ∙ first_alone comes.more front;
      }
    where
      front : take shape.dsize (old.leaf ++ comes.more) ≡ old.leaf
      front = elim (cases_Bool old.ended) [
        | inl ended ↦
            ap (λ (l : List ℕ). take shape.dsize (old.leaf ++ l)) (comes.end ended)
            ∙ ap (λ (l : List ℕ). take shape.dsize l) (append-nil old.leaf)
            ∙ take_all shape.dsize old.leaf is.most
        | inr going ↦ take_at old.leaf comes.more shape.dsize (is.last going)
      ]

  pub leaf_not_followed : (from : List ℕ) (score : Score) (err : TreeErr)
      → PutsBlock does score_of s s' (leaf_block shape old.leaf) (Ok score)
      → StopsAhead old (IsAll tells from) err
      → StopsTree does score_of s s' shape 0 old (IsAll tells from) [] [] err
  leaf_not_followed from score err b a = record {
    bytes = a.bytes;
    is_coming = a.is_coming;
    still = λ none. absurd (omega arith);
    cause = a.cause;
    calls = b.calls;
    made = b.made;
    refused = subst_end (sym a.own) b.refused;
    rest = [];
    puts =
        append-nil (map asked_of b.calls) ∙ b.asked
        ∙ first_alone a.bytes (take_at old.leaf a.bytes shape.dsize (is.last a.going));
  }
    where
      subst_end : {o : Option BlockErr} → None ≡ o → EndsBy None b.calls → EndsBy o b.calls
      subst_end {o} none ends = subst (λ (x : Option BlockErr). EndsBy x b.calls) none ends
