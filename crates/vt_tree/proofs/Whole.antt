-- The tree of a whole stream, which grows from its first leaf upwards.
use Rattle.std.proofs.Common.{◌≡◌, ℕ, suc, ◌+◌, ◌-◌, ◌*◌, ◌<◌, ◌≤◌, ◌^◌, inl, inr, Bool, true, false, List, [], ◌∷◌, ◌++◌, length, map, take, refl, sym, ◌∙◌, ap, subst, arith, add-one, append-nil, append_assoc, length-append}
use Rattle.std.specs.Prelude.{◌==◌, if◌then◌else◌}
use Rattle.std.specs.List.{flat_map}
use Rattle.std.proofs.Math.Nat.{mul_comm, mul-le-mul_left}
use Rattle.std.proofs.lemmas.Bool.{cases_lt}
use Rattle.std.proofs.lemmas.List.{map-append, nil_from_length}
use Rattle.vt_base.specs.Protocol.{Operation}
use Rattle.vt_base.specs.declared.score.Score.{Score}
use Rattle.vt_model.specs.History.{Block}
use Rattle.vt_tree.specs.declared.error.TreeErr.{TreeErr}
use Rattle.vt_tree.specs.Calls.{Call, asked_of, write_of_block}
use Rattle.vt_tree.specs.Content.{scores_in}
use Rattle.vt_tree.specs.Growing.{Next, HasFirst, GrowsTree, StopsTree, WritesTree, StopsStream}
use Rattle.vt_tree.specs.Streams.{Shape, Tree, FitsShape, reach, depth_of, pieces_of_len, leaf_block, tree_of, stream_of, without_end}
use Rattle.vt_tree.specs.Writing.{IsTaken, IsAll}
use Rattle.vt_tree.proofs.Deeper.{grown_deeper, is_first, stopped_later}
use Rattle.vt_tree.proofs.Growth.{cut_all, no_pieces, some_pieces}
use Rattle.vt_tree.proofs.Pieces.{length-pieces, pieces_fit, pieces_reach}
use Rattle.vt_tree.proofs.ReadBack.{depth_is_least, reach_7, reaches_there}
use Rattle.vt_tree.proofs.Trees.{begins_whole}

-- a depth that reaches so many bytes, where no smaller one does, is the least
is_depth : (shape : Shape) (size depth : ℕ) → depth < 8
    → ((k : ℕ) → k < depth → reach shape k < size) → size ≤ reach shape depth
    → depth ≡ depth_of shape size
is_depth shape size depth shallow least reaches = elim (cases_lt depth (depth_of shape size)) [
  | inl low ↦ absurd (omega (arith, depth_is_least shape size depth low))
  | inr high ↦ elim (cases_lt (depth_of shape size) depth) [
    | inl under ↦
        absurd (omega (
          arith,
          reaches_there shape size (omega arith),
          least (depth_of shape size) under,
        ))
    | inr over ↦ omega arith
  ]
]

-- ---- a tree that grows

-- what was written so far is one tree, which no smaller depth reaches
pub record Grown {S : Type 0} (does : S → Call → S → Type 0) (score_of : List ℕ → List ℕ)
    (shape : Shape) (tells : Bool) (s : S) (old : Next) (mid : S) (new : Next) (from to : List ℕ)
    (depth : ℕ) (score : Score) : Type 0 where
  pub tree : GrowsTree does score_of s mid shape depth old new (IsTaken tells from to) [] [] score
  pub least : (k : ℕ) → k < depth → reach shape k < new.size
  pub shallow : depth < 8

back : (n : ℕ) → n + 1 - 1 ≡ n
back n = omega arith

-- ---- a stream without bytes

no_bytes_kept : (shape : Shape) → (leaf_block shape []).bytes ≡ []
no_bytes_kept shape = either shape.is_dir
  where
    either : (b : Bool) → (if b then [] else without_end (λ (x : ℕ). x == 0) []) ≡ []
    either true = refl
    either false = refl

module _ {S : Type 0} (does : S → Call → S → Type 0) (score_of : List ℕ → List ℕ)
    (shape : Shape) (tells : Bool) (d_some : 0 < shape.dsize) where
  pub nothing_written : (s : S) (next : Next) (left : List ℕ) (score : Score)
      → length next.leaf ≡ 0 → next.size ≤ 2 ^ 40 → score.0 ≡ score_of []
      → WritesTree does score_of s s shape next next (IsTaken tells left left) 0 score
  nothing_written s next left score none most zero =
      let empty : [] ≡ next.leaf ++ [] =
      sym (append-nil next.leaf ∙ nil_from_length next.leaf none) in
      let shallow : 0 ≡ depth_of shape 0 =
      is_depth shape 0 0 (omega arith) (λ k below. absurd (omega arith)) (omega arith) in
      let tree : tree_of score_of shape 0 [] ≡ stream_of score_of shape [] =
      (λ i. tree_of score_of shape (shallow i) (sym (no_pieces shape.dsize d_some) i)) in
      record {
        bytes = [];
        is_taken = record {
          bytes = λ i. omega arith;
          front = λ told. refl;
        };
        size = no_more next.size;
        most = most;
        depth_is = shallow ∙ ap (λ (l : List ℕ). depth_of shape (length l)) empty;
        calls = [];
        made = refl;
        accepted = refl;
        score_is =
            zero ∙ ap score_of (sym (no_bytes_kept shape)) ∙ ap (λ (t : Tree). t.score) tree
            ∙ ap (λ (l : List ℕ). (stream_of score_of shape l).score) empty;
        puts =
            ap (λ (l : List ℕ). map write_of_block
            (if length l == 0 then [] else leaf_block shape [] ∷ []))
            (sym (no_bytes_kept shape))
            ∙ ap (λ (t : Tree). map write_of_block t.blocks) tree
            ∙ ap (λ (l : List ℕ). map write_of_block (stream_of score_of shape l).blocks) empty;
      }
    where
      no_more : (n : ℕ) → n ≡ n + 0
      no_more n = omega arith

  -- ---- all bytes of a stream

  -- a depth that has room for its leaves reaches them
  reached : (all : List ℕ) (depth : ℕ)
      → length (pieces_of_len shape.dsize all) ≤ scores_in shape.psize ^ depth
      → length all ≤ reach shape depth
  reached all depth few =
      let covers : length all ≤ shape.dsize * length (pieces_of_len shape.dsize all) =
      omega (
        arith,
        pieces_reach shape.dsize all d_some,
        ap (λ (n : ℕ). shape.dsize * n) (length-pieces shape.dsize all),
      ) in
      omega (
        arith,
        covers,
        mul-le-mul_left shape.dsize few,
        mul_comm shape.dsize (scores_in shape.psize ^ depth),
      )

  -- a tree of the first leaves begins that of the stream, where no smaller depth reaches it
  begun_of : 0 < scores_in shape.psize → (all : List ℕ) (depth : ℕ) → depth < 8
      → 0 < length all → ((k : ℕ) → k < depth → reach shape k < length all)
      → (rest : List Block) × ((tree_of score_of shape depth
      (take (scores_in shape.psize ^ depth) (pieces_of_len shape.dsize all))).blocks ++ rest
      ≡ (stream_of score_of shape all).blocks)
  begun_of some all depth shallow came least =
      begins_whole score_of shape (depth_of shape (length all)) depth low (pieces_of_len shape.dsize all)
      (some_pieces does score_of shape tells depth some d_some all came) some whole
    where
      low : depth ≤ depth_of shape (length all)
      low = elim (cases_lt (depth_of shape (length all)) depth) [
        | inl under ↦
            absurd (omega (
              arith,
              reaches_there shape (length all) (omega arith),
              least (depth_of shape (length all)) under,
            ))
        | inr over ↦ over
      ]

      whole : depth ≡ depth_of shape (length all)
          → length (pieces_of_len shape.dsize all) ≤ scores_in shape.psize ^ depth
      whole same =
          let here : length all ≤ reach shape depth =
          subst (λ (k : ℕ). length all ≤ reach shape k) (sym same)
          (reaches_there shape (length all) (omega arith)) in
          let fits : length all ≤ shape.dsize * (scores_in shape.psize ^ depth) =
          omega (arith, here, mul_comm shape.dsize (scores_in shape.psize ^ depth)) in
          omega (
            arith,
            length-pieces shape.dsize all,
            pieces_fit shape.dsize (scores_in shape.psize ^ depth) all d_some fits,
          )

  -- ---- a stream that has bytes

  module _ (some : 0 < scores_in shape.psize) (s : S) (old : Next)
      (came : 0 < length old.leaf) (size_is : old.size ≡ length old.leaf) where
    -- what was taken is more than such a tree reaches
    more_than_reached : (mid : S) (half : Next) (from between : List ℕ) (depth : ℕ) (score : Score)
        → 0 < length half.leaf → Grown does score_of shape tells s old mid half from between depth
        score
        → reach shape depth < half.size
    more_than_reached mid half from between depth score more g =
        let leaves = g.tree.leaves in
        let flat : List ℕ = flat_map (λ (leaf : List ℕ). leaf) leaves in
        let count : length leaves ≡ scores_in shape.psize ^ depth = g.tree.full more in
        let all : length flat ≡ shape.dsize * (scores_in shape.psize ^ depth) =
        g.tree.takes.whole more ∙ ap (λ (n : ℕ). shape.dsize * n) count in
        omega (
          arith,
          mul_comm shape.dsize (scores_in shape.psize ^ depth),
          all,
          ap length g.tree.takes.parts,
          length-append old.leaf g.tree.bytes,
          length-append flat half.leaf,
          g.tree.takes.size,
          size_is,
          more,
        )

    pub goes_deeper : FitsShape shape → (mid : S) (half : Next) (from between : List ℕ) (depth : ℕ)
        (score : Score) → 0 < length half.leaf
        → Grown does score_of shape tells s old mid half from between depth score
        → depth < 7
    goes_deeper fits mid half from between depth score more g = elim (cases_lt depth 7) [
      | inl low ↦ low
      | inr high ↦
          let same : depth ≡ 7 = omega (arith, g.shallow) in
          let reached : reach shape 7 < half.size = subst (λ (k : ℕ). reach shape k < half.size)
          same (more_than_reached mid half from between depth score more g) in
          absurd (omega (arith, reach_7 shape fits, g.tree.takes.next.size))
    ]

    least_deeper : (mid : S) (half : Next) (from between : List ℕ) (depth : ℕ) (score : Score)
        → 0 < length half.leaf → Grown does score_of shape tells s old mid half from between depth
        score
        → (k : ℕ) → k < suc depth → reach shape k < half.size
    least_deeper mid half from between depth score more g k below = elim (cases_lt k depth) [
      | inl under ↦ g.least k under
      | inr top ↦
          let same : depth ≡ k = omega arith in
          subst (λ (n : ℕ). reach shape n < half.size) same
          (more_than_reached mid half from between depth score more g)
    ]

    pub grown_more : FitsShape shape → (mid s' : S) (half new : Next) (from between to : List ℕ)
        (depth : ℕ) (score above : Score) → 0 < length half.leaf
        → (g : Grown does score_of shape tells s old mid half from between depth score)
        → GrowsTree does score_of mid s' shape (suc depth) half new (IsTaken tells between to)
        g.tree.leaves (tree_of score_of shape depth g.tree.leaves).blocks above
        → Grown does score_of shape tells s old s' new from to (suc depth) above
    grown_more fits mid s' half new from between to depth score above more g a = record {
      tree = grown_deeper does score_of shape tells depth some d_some s mid s' old half new from
          between to score came g.tree above a;
      least = λ k below.
          omega (
            arith,
            least_deeper mid half from between depth score more g k below,
            a.takes.size,
          );
      shallow = omega (arith, goes_deeper fits mid half from between depth score more g);
    }

    -- ---- its end

    pub tree_written : (s' : S) (new : Next) (from to : List ℕ) (depth : ℕ) (score : Score)
        → length new.leaf ≡ 0 → Grown does score_of shape tells s old s' new from to depth score
        → WritesTree does score_of s s' shape old new (IsTaken tells from to) depth score
    tree_written s' new from to depth score none g = record {
      bytes = g.tree.bytes;
      is_taken = g.tree.is_taken;
      size = g.tree.takes.size;
      most = g.tree.takes.next.size;
      depth_is = depth_is;
      calls = g.tree.calls;
      made = g.tree.made;
      accepted = g.tree.accepted;
      score_is =
          g.tree.score_is ∙ (λ i. (tree_of score_of shape (depth_is i) (cut i)).score);
      puts =
          g.tree.puts
          ∙ (λ i. map write_of_block (tree_of score_of shape (depth_is i) (cut i)).blocks);
    }
      where
        cut : g.tree.leaves ≡ pieces_of_len shape.dsize (old.leaf ++ g.tree.bytes)
        cut = sym (cut_all does score_of shape tells depth some d_some old new g.tree.bytes
            g.tree.leaves none g.tree.takes)

        size_all : new.size ≡ length (old.leaf ++ g.tree.bytes)
        size_all =
            omega (arith, g.tree.takes.size, size_is, length-append old.leaf g.tree.bytes)

        few : length (pieces_of_len shape.dsize (old.leaf ++ g.tree.bytes)) ≤ scores_in shape.psize ^ depth
        few = subst (λ (ls : List (List ℕ)). length ls ≤ scores_in shape.psize ^ depth) cut
            g.tree.most

        depth_is : depth ≡ depth_of shape (length (old.leaf ++ g.tree.bytes))
        depth_is = is_depth shape (length (old.leaf ++ g.tree.bytes)) depth g.shallow
            (λ k below. omega (arith, g.least k below, size_all))
            (reached (old.leaf ++ g.tree.bytes) depth few)

    -- ---- where it is given up

    pub stream_stopped : (s' : S) (from : List ℕ) (depth : ℕ) (err : TreeErr) → depth < 8
        → (t : StopsTree does score_of s s' shape depth old (IsAll tells from) [] [] err)
        → ((k : ℕ) → k < depth → reach shape k < old.size + length t.bytes)
        → StopsStream does score_of s s' shape old (IsAll tells from) err
    stream_stopped s' from depth err shallow t least = record {
      bytes = t.bytes;
      is_coming = t.is_coming;
      cause = t.cause;
      calls = t.calls;
      made = t.made;
      refused = t.refused;
      rest = t.rest ++ begun.0;
      puts =
          ap (λ (l : List Operation). map asked_of t.calls ++ l)
          (map-append write_of_block t.rest begun.0)
          ∙ sym (append_assoc (map asked_of t.calls) (map write_of_block t.rest) (map write_of_block begun.0))
          ∙ ap (λ (l : List Operation). l ++ map write_of_block begun.0) t.puts
          ∙ sym (map-append write_of_block (tree_of score_of shape depth
          (take (scores_in shape.psize ^ depth)
          (pieces_of_len shape.dsize (old.leaf ++ t.bytes)))).blocks begun.0)
          ∙ ap (map write_of_block) begun.1;
    }
      where
        total : old.size + length t.bytes ≡ length (old.leaf ++ t.bytes)
        total = omega (arith, size_is, length-append old.leaf t.bytes)

        begun : (rest : List Block) × ((tree_of score_of shape depth
            (take (scores_in shape.psize ^ depth)
            (pieces_of_len shape.dsize (old.leaf ++ t.bytes)))).blocks ++ rest
            ≡ (stream_of score_of shape (old.leaf ++ t.bytes)).blocks)
        begun = begun_of some (old.leaf ++ t.bytes) depth shallow
            (omega (arith, total, came, length-append old.leaf t.bytes))
            (λ k below. omega (arith, least k below, total))

    pub stopped_first_leaf : (s' : S) (from : List ℕ) (err : TreeErr)
        → StopsTree does score_of s s' shape 0 old (IsAll tells from) [] [] err
        → StopsStream does score_of s s' shape old (IsAll tells from) err
    stopped_first_leaf s' from err t =
        stream_stopped s' from 0 err (omega arith) t (λ k below. absurd (omega arith))

    pub stopped_above : FitsShape shape → (mid s' : S) (half : Next) (from between : List ℕ)
        (depth : ℕ) (score : Score) (err : TreeErr) → 0 < length half.leaf
        → (g : Grown does score_of shape tells s old mid half from between depth score)
        → StopsTree does score_of mid s' shape (suc depth) half (IsAll tells between)
        g.tree.leaves (tree_of score_of shape depth g.tree.leaves).blocks err
        → StopsStream does score_of s s' shape old (IsAll tells from) err
    stopped_above fits mid s' half from between depth score err more g a =
        let t = stopped_later does score_of shape tells depth some d_some s mid s' old half half
        from between between score came g.tree err a in
        stream_stopped s' from (suc depth) err
        (omega (arith, goes_deeper fits mid half from between depth score more g)) t.0
        (λ k below. omega (
          arith,
          least_deeper mid half from between depth score more g k below,
          t.1,
        ))

    -- ---- the same by what is known of any leaves that have such a tree

    there : (mid : S) (half : Next) (from between : List ℕ) (depth : ℕ) (score : Score)
        → (g : Grown does score_of shape tells s old mid half from between depth score)
        → HasFirst score_of shape (depth + 1 - 1) half g.tree.leaves score
    there mid half from between depth score g =
        subst (λ (k : ℕ). HasFirst score_of shape k half g.tree.leaves score) (sym (back depth))
        (is_first does score_of shape tells depth some d_some s mid old half
        (IsTaken tells from between) score came g.tree)

    pub grown_by : FitsShape shape → (mid s' : S) (half new : Next) (from between to : List ℕ)
        (depth : ℕ) (score above : Score) → 0 < length half.leaf
        → Grown does score_of shape tells s old mid half from between depth score
        → ((leaves : List (List ℕ)) → HasFirst score_of shape (depth + 1 - 1) half leaves score
        → GrowsTree does score_of mid s' shape (depth + 1) half new (IsTaken tells between to)
        leaves (tree_of score_of shape (depth + 1 - 1) leaves).blocks above)
        → Grown does score_of shape tells s old s' new from to (depth + 1) above
    grown_by fits mid s' half new from between to depth score above more g a =
        subst (λ (k : ℕ). Grown does score_of shape tells s old s' new from to k above)
        (sym (add-one depth))
        (grown_more fits mid s' half new from between to depth score above more g
        (subst (λ (k : ℕ). GrowsTree does score_of mid s' shape k half new
        (IsTaken tells between to) g.tree.leaves
        (tree_of score_of shape depth g.tree.leaves).blocks above) (add-one depth)
        (subst (λ (k : ℕ). GrowsTree does score_of mid s' shape (depth + 1) half new
        (IsTaken tells between to) g.tree.leaves (tree_of score_of shape k g.tree.leaves).blocks
        above) (back depth)
        (a g.tree.leaves (there mid half from between depth score g)))))

    pub stopped_by : FitsShape shape → (mid s' : S) (half : Next) (from between : List ℕ)
        (depth : ℕ) (score : Score) → 0 < length half.leaf
        → Grown does score_of shape tells s old mid half from between depth score
        → (err : TreeErr)
        → ((leaves : List (List ℕ)) → HasFirst score_of shape (depth + 1 - 1) half leaves score
        → StopsTree does score_of mid s' shape (depth + 1) half (IsAll tells between) leaves
        (tree_of score_of shape (depth + 1 - 1) leaves).blocks err)
        → StopsStream does score_of s s' shape old (IsAll tells from) err
    stopped_by fits mid s' half from between depth score more g err a =
        stopped_above fits mid s' half from between depth score err more g
        (subst (λ (k : ℕ). StopsTree does score_of mid s' shape k half (IsAll tells between)
        g.tree.leaves (tree_of score_of shape depth g.tree.leaves).blocks err) (add-one depth)
        (subst (λ (k : ℕ). StopsTree does score_of mid s' shape (depth + 1) half
        (IsAll tells between) g.tree.leaves (tree_of score_of shape k g.tree.leaves).blocks
        err) (back depth) (a g.tree.leaves (there mid half from between depth score g))))
