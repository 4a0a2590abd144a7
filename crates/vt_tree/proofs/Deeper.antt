-- A tree that is written as the first below a pointer block, and what is written behind it.
use Rattle.std.proofs.Common.{◌≡◌, ℕ, suc, ◌+◌, ◌<◌, ◌^◌, inl, inr, Bool, IfOk, IfErr, Result, Ok, Err, List, [], ◌++◌, length, map, take, sym, ◌∙◌, ap, subst, arith, append-nil, append_assoc, length-append}
use Rattle.std.specs.List.{flat_map}
use Rattle.std.proofs.lemmas.Bool.{cases_lt}
use Rattle.std.proofs.lemmas.List.{map-append, nil_from_length}
use Rattle.vt_base.specs.Protocol.{Operation}
use Rattle.vt_base.specs.declared.score.Score.{Score}
use Rattle.vt_tree.specs.declared.error.TreeErr.{TreeErr}
use Rattle.vt_tree.specs.Calls.{Call, asked_of, write_of_block}
use Rattle.vt_tree.specs.Content.{scores_in}
use Rattle.vt_tree.specs.Growing.{Next, TakesLeaves, HasFirst, GrowsTree, StopsTree}
use Rattle.vt_tree.specs.Reading.{refusal_in}
use Rattle.vt_tree.specs.Streams.{Shape, pieces_of_len, tree_of}
use Rattle.vt_tree.specs.Writing.{IsTaken, IsAll, IsGivenUpFor}
use Rattle.vt_tree.proofs.Appending.{accepted_join, ends_more}
use Rattle.vt_tree.proofs.Growth.{cut_all, cut_more, no_pieces, some_pieces, taken_more}
use Rattle.vt_tree.proofs.Making.{makes_more}
use Rattle.vt_tree.proofs.Trees.{begins, takes_more}

-- leaves that were taken, and further ones, of which there are none behind the stream's end
takes_join : (dsize : ℕ) (a b c : Next) (first second : List ℕ) (leaves more : List (List ℕ))
    → 0 < dsize → TakesLeaves dsize a b first leaves → TakesLeaves dsize b c second more
    → (length b.leaf ≡ 0 → (second ≡ []) × (more ≡ []))
    → TakesLeaves dsize a c (first ++ second) (leaves ++ more)
takes_join dsize a b c first second leaves more some x y still = elim (cases_lt 0 (length b.leaf)) [
  | inl left ↦ takes_more dsize a b c first second leaves more some left x y
  | inr none ↦
      let over = still (omega arith) in
      let no_leaf : b.leaf ≡ [] = nil_from_length b.leaf (omega arith) in
      let no_more : [] ≡ c.leaf =
      (λ i. sym no_leaf i ++ sym over.0 i) ∙ y.parts
      ∙ ap (λ (ls : List (List ℕ)). flat_map (λ (leaf : List ℕ). leaf) ls ++ c.leaf) over.1 in
      let same_leaves : leaves ≡ leaves ++ more =
      sym (append-nil leaves) ∙ ap (λ (ls : List (List ℕ)). leaves ++ ls) (sym over.1) in
      let same_bytes : first ≡ first ++ second =
      sym (append-nil first) ∙ ap (λ (l : List ℕ). first ++ l) (sym over.0) in
      let bytes : length second ≡ 0 = ap length over.0 in
      let parts : a.leaf ++ first ≡ flat_map (λ (leaf : List ℕ). leaf) leaves ++ c.leaf =
      x.parts ∙ ap (λ (l : List ℕ). flat_map (λ (leaf : List ℕ). leaf) leaves ++ l)
      (no_leaf ∙ no_more) in
      record {
        parts = subst (λ (l : List ℕ). a.leaf ++ l
            ≡ flat_map (λ (leaf : List ℕ). leaf) (leaves ++ more) ++ c.leaf) same_bytes
            (subst (λ (ls : List (List ℕ)). a.leaf ++ first
            ≡ flat_map (λ (leaf : List ℕ). leaf) ls ++ c.leaf) same_leaves parts);
        cut = subst (λ (ls : List (List ℕ)). ls
            ≡ pieces_of_len dsize (flat_map (λ (leaf : List ℕ). leaf) ls)) same_leaves x.cut;
        whole = λ later. absurd (omega (arith, ap length no_more));
        size = omega (arith, x.size, y.size, length-append first second, bytes);
        next = y.next;
      }
]

module _ {S : Type 0} (does : S → Call → S → Type 0) (score_of : List ℕ → List ℕ)
    (shape : Shape) (tells : Bool) (d : ℕ) (some : 0 < scores_in shape.psize)
    (d_some : 0 < shape.dsize) where
  -- a tree that was written is there
  pub is_first : (s s' : S) (old new : Next) (taken : List ℕ → Type 0) (score : Score)
      → 0 < length old.leaf
      → (f : GrowsTree does score_of s s' shape d old new taken [] [] score)
      → HasFirst score_of shape d new f.leaves score
  is_first s s' old new taken score came f = record {
    some = f.some came;
    most = f.most;
    full = f.full;
    score_is = f.score_is;
  }

  module _ (s mid s' : S) (old half new : Next) (from between to : List ℕ) (score : Score)
      (came : 0 < length old.leaf)
      (f : GrowsTree does score_of s mid shape d old half (IsTaken tells from between) [] []
      score) where
    pub grown_deeper : (above : Score)
        → GrowsTree does score_of mid s' shape (suc d) half new (IsTaken tells between to) f.leaves
        (tree_of score_of shape d f.leaves).blocks above
        → GrowsTree does score_of s s' shape (suc d) old new (IsTaken tells from to) [] [] above
    grown_deeper above a = record {
      bytes = f.bytes ++ a.bytes;
      is_taken = taken_more tells from between to f.bytes a.bytes f.is_taken a.is_taken;
      leaves = f.leaves ++ a.leaves;
      takes = takes_join shape.dsize old half new f.bytes a.bytes f.leaves a.leaves d_some f.takes
          a.takes a.still;
      some = λ more. omega (arith, f.some came, length-append f.leaves a.leaves);
      most = a.most;
      full = a.full;
      still = λ none. absurd (omega arith);
      calls = f.calls ++ a.calls;
      made = makes_more does s mid s' f.calls a.calls f.made a.made;
      accepted = accepted_join f.calls a.calls f.accepted a.accepted;
      score_is = a.score_is;
      puts =
          map-append asked_of f.calls a.calls
          ∙ ap (λ (l : List Operation). l ++ map asked_of a.calls) f.puts ∙ a.puts;
    }

    -- and what was taken for it is no less than before
    pub stopped_later : (err : TreeErr)
        → (a : StopsTree does score_of mid s' shape (suc d) half (IsAll tells between) f.leaves
        (tree_of score_of shape d f.leaves).blocks err)
        → (t : StopsTree does score_of s s' shape (suc d) old (IsAll tells from) [] [] err)
        × (half.size + length a.bytes ≡ old.size + length t.bytes)
    stopped_later err a = (
      record {
        bytes = f.bytes ++ a.bytes;
        is_coming = taken_more tells from between [] f.bytes a.bytes f.is_taken a.is_coming;
        still = λ none. absurd (omega arith);
        cause = subst (λ (n : ℕ). IsGivenUpFor err n) sizes a.cause;
        calls = f.calls ++ a.calls;
        made = makes_more does s mid s' f.calls a.calls f.made a.made;
        refused = ends_more (refusal_in err) f.calls a.calls f.accepted a.refused;
        rest = a.rest;
        puts =
            ap (λ (l : List Operation). l ++ map write_of_block a.rest)
            (map-append asked_of f.calls a.calls
            ∙ ap (λ (l : List Operation). l ++ map asked_of a.calls) f.puts)
            ∙ a.puts
            ∙ ap (λ (ls : List (List ℕ)). map write_of_block (tree_of score_of shape (suc d)
            (take (scores_in shape.psize ^ suc d) ls)).blocks) all;
      },
      sizes,
    )
      where
        sizes : half.size + length a.bytes ≡ old.size + length (f.bytes ++ a.bytes)
        sizes = omega (arith, f.takes.size, length-append f.bytes a.bytes)

        all : f.leaves ++ pieces_of_len shape.dsize (half.leaf ++ a.bytes)
            ≡ pieces_of_len shape.dsize (old.leaf ++ (f.bytes ++ a.bytes))
        all = elim (cases_lt 0 (length half.leaf)) [
          | inl left ↦
              sym (cut_more does score_of shape tells d some d_some old half f.bytes a.bytes
              f.leaves left f.takes)
          | inr none ↦
              let no_leaf : half.leaf ≡ [] = nil_from_length half.leaf (omega arith) in
              let no_bytes : a.bytes ≡ [] = a.still (omega arith) in
              ap (λ (ls : List (List ℕ)). f.leaves ++ ls)
              ((λ i. pieces_of_len shape.dsize (no_leaf i ++ no_bytes i)) ∙ no_pieces shape.dsize d_some)
              ∙ append-nil f.leaves
              ∙ sym (cut_all does score_of shape tells d some d_some old half f.bytes f.leaves
              (omega arith) f.takes)
              ∙ ap (λ (l : List ℕ). pieces_of_len shape.dsize (old.leaf ++ l))
              (sym (append-nil f.bytes)
              ∙ ap (λ (l : List ℕ). f.bytes ++ l) (sym no_bytes))
        ]

  pub stopped_first : (s s' : S) (old : Next) (coming : List ℕ → Type 0) (err : TreeErr)
      → 0 < length old.leaf
      → StopsTree does score_of s s' shape d old coming [] [] err
      → StopsTree does score_of s s' shape (suc d) old coming [] [] err
  stopped_first s s' old coming err came f =
      let more = begins score_of shape (suc d) d (omega arith)
      (pieces_of_len shape.dsize (old.leaf ++ f.bytes))
      (some_pieces does score_of shape tells d some d_some (old.leaf ++ f.bytes)
      (omega (arith, length-append old.leaf f.bytes, came))) some in
      record {
        bytes = f.bytes;
        is_coming = f.is_coming;
        still = f.still;
        cause = f.cause;
        calls = f.calls;
        made = f.made;
        refused = f.refused;
        rest = f.rest ++ more.0;
        puts =
            ap (λ (l : List Operation). map asked_of f.calls ++ l)
            (map-append write_of_block f.rest more.0)
            ∙ sym (append_assoc (map asked_of f.calls) (map write_of_block f.rest) (map write_of_block more.0))
            ∙ ap (λ (l : List Operation). l ++ map write_of_block more.0) f.puts
            ∙ sym (map-append write_of_block (tree_of score_of shape d (take (scores_in shape.psize ^ d)
            (pieces_of_len shape.dsize (old.leaf ++ f.bytes)))).blocks more.0)
            ∙ ap (map write_of_block) more.1;
      }

  -- ---- the same of any answer, at the depth that is written

  module _ (depth : ℕ) (same : suc d ≡ depth) (s mid s' : S) (old half new : Next)
      (from between to : List ℕ) (score : Score) (came : 0 < length old.leaf)
      (f : GrowsTree does score_of s mid shape d old half (IsTaken tells from between) [] []
      score) where
    pub grown_by : (result : Result Score TreeErr)
        → IfOk result (GrowsTree does score_of mid s' shape depth half new
        (IsTaken tells between to) f.leaves (tree_of score_of shape d f.leaves).blocks)
        → IfOk result (GrowsTree does score_of s s' shape depth old new (IsTaken tells from to) []
        [])
    grown_by (Ok above) a =
        subst (λ (k : ℕ). GrowsTree does score_of s s' shape k old new (IsTaken tells from to) []
        [] above) same
        (grown_deeper s mid s' old half new from between to score came f above
        (subst (λ (k : ℕ). GrowsTree does score_of mid s' shape k half new
        (IsTaken tells between to) f.leaves (tree_of score_of shape d f.leaves).blocks above)
        (sym same) a))
    grown_by (Err err) a = tt

    pub stopped_by : (result : Result Score TreeErr)
        → IfErr result (StopsTree does score_of mid s' shape depth half
        (IsAll tells between) f.leaves (tree_of score_of shape d f.leaves).blocks)
        → IfErr result (StopsTree does score_of s s' shape depth old (IsAll tells from) [] [])
    stopped_by (Ok above) a = tt
    stopped_by (Err err) a =
        subst (λ (k : ℕ). StopsTree does score_of s s' shape k old (IsAll tells from) [] []
        err) same
        (stopped_later s mid s' old half new from between to score came f err
        (subst (λ (k : ℕ). StopsTree does score_of mid s' shape k half
        (IsAll tells between) f.leaves (tree_of score_of shape d f.leaves).blocks err)
        (sym same) a)).0
