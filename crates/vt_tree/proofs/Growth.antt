-- The trees below a pointer block, written one after another.
use Rattle.std.proofs.Common.{◌≡◌, ◌⊎◌, ℕ, zero, suc, ◌+◌, ◌*◌, ◌<◌, ◌≤◌, ◌^◌, inl, inr, cond, Bool, true, false, IsTrue, Ok, Err, List, [], ◌∷◌, ◌++◌, length, map, take, drop, refl, sym, ◌∙◌, ap, subst, arith, append-nil, append_assoc, length-append}
use Rattle.std.specs.Prelude.{◌==◌}
use Rattle.std.specs.List.{flat_map, range_with_len}
use Rattle.std.proofs.Math.Nat.{mul-zero, mul-le-mul_left, pow-suc}
use Rattle.std.proofs.lemmas.Bool.{cases_Bool, cases_lt, false≢true}
use Rattle.std.proofs.lemmas.List.{map-append, take_at, nil_from_length}
use Rattle.std.proofs.lemmas.List.Concat.{flat_map-append}
use Rattle.vt_base.specs.Protocol.{Operation}
use Rattle.vt_base.specs.Bytes.{AreBytes, AreBytes-append}
use Rattle.vt_base.specs.declared.score.Score.{Score}
use Rattle.vt_model.specs.History.{Block}
use Rattle.vt_tree.specs.declared.error.TreeErr.{TreeErr}
use Rattle.vt_tree.specs.declared.error.TreeErr.TheVariants as errs
use Rattle.vt_tree.specs.Calls.{Call, asked_of, write_of_block, refusals_of}
use Rattle.vt_tree.specs.Content.{scores_in}
use Rattle.vt_tree.specs.Growing.{Next, IsNextLeaf, TakesLeaves, GrowsTree, StopsTree, PutsBlock, IsOfCall}
use Rattle.vt_tree.specs.Making.{Makes}
use Rattle.vt_tree.specs.Streams.{Shape, Tree, pieces_of_len, pointer_block, tree_of}
use Rattle.vt_tree.specs.Writing.{IsTaken, IsAll, IsGivenUpFor}
use Rattle.vt_tree.proofs.Appending.{accepted_join, ends_more}
use Rattle.vt_tree.proofs.Beginnings.{begins_more, begins_all, blocks_below, own}
use Rattle.vt_tree.proofs.Making.{makes_more}
use Rattle.vt_tree.specs.Reading.{refusal_in}
use Rattle.vt_tree.proofs.Pieces.{count_of, length-pieces, pieces_fit, pieces_join, pieces_reach}
use Rattle.vt_tree.proofs.Trees.{trees, trees_one, trees_more, takes_more}

-- what was taken, and then more
pub taken_more : (tells : Bool) (a b c : List ℕ) (xs ys : List ℕ) → IsTaken tells a b xs
    → IsTaken tells b c ys → IsTaken tells a c (xs ++ ys)
taken_more tells a b c xs ys first then = record {
  bytes = AreBytes-append xs ys first.bytes then.bytes;
  front = λ told.
      first.front told ∙ ap (λ (l : List ℕ). xs ++ l) (then.front told)
      ∙ sym (append_assoc xs ys c);
}

-- all that comes behind a leaf; behind the end nothing does
pub record Comes (tells ended : Bool) (left : List ℕ) : Type 0 where
  pub more : List ℕ
  pub is : IsTaken tells left [] more
  pub end : ended ≡ true → more ≡ []

pub what_comes : (tells ended : Bool) (left : List ℕ) → AreBytes left
    → (ended ≡ true → IsTrue tells → left ≡ []) → Comes tells ended left
what_comes false ended left bytes end = record {
  more = [];
  is = record {
    bytes = λ i. omega arith;
    front = λ told. absurd (false≢true told);
  };
  end = λ over. refl;
}
what_comes true ended left bytes end = record {
  more = left;
  is = record {
    bytes = bytes;
    front = λ told. sym (append-nil left);
  };
  end = λ over. end over refl;
}

-- what was taken, and what is left behind it
pub with_rest : (tells : Bool) (a b xs : List ℕ) → AreBytes b → IsTaken tells a b xs
    → (all : List ℕ) × IsAll tells a all × (length xs ≤ length all)
with_rest false a b xs are taken = (
  xs,
  record {
    bytes = taken.bytes;
    front = λ told. absurd (false≢true told);
  },
  omega arith,
)
with_rest true a b xs are taken = (
  xs ++ b,
  taken_more true a b [] xs b taken (record {
    bytes = are;
    front = λ told. sym (append-nil b);
  }),
  omega (arith, length-append xs b),
)

pub no_pieces : (len : ℕ) → 0 < len → pieces_of_len {A = ℕ} len [] ≡ []
no_pieces len some =
    let none : count_of {A = ℕ} len [] ≡ 0 =
    omega (arith, pieces_fit {A = ℕ} len 0 [] some (omega arith)) in
    ap (λ (k : ℕ). map (λ (i : ℕ). take len (drop (len * i) [])) (range_with_len 0 k)) none

-- what was asked first of blocks leaves the others
pub rest_of : (asked rest : List Operation) (blocks : List Block)
    → asked ++ rest ≡ map write_of_block blocks
    → (behind : List Block) × (asked ++ map write_of_block behind ≡ map write_of_block blocks)
rest_of [] rest blocks is = (blocks, refl)
rest_of (x ∷ asked) rest [] is = let never : ⊥ = cc in absurd never
rest_of (x ∷ asked) rest (b ∷ blocks) is =
    let first : x ≡ write_of_block b = cc in
    let others : asked ++ rest ≡ map write_of_block blocks = cc in
    let more = rest_of asked rest blocks others in
    (more.0, λ i. first i ∷ more.1 i)

pub given_up : (err : TreeErr) (n : ℕ) → IsOfCall err → IsGivenUpFor err n
given_up (errs.Block err) n is = tt
given_up errs.SourceFault n is = tt
given_up (errs.BadEntry bad) n is = is
given_up (errs.BadBlock depth len) n is = is
given_up errs.TooLong n is = absurd is
given_up errs.NoMemory n is = tt

module _ {S : Type 0} (does : S → Call → S → Type 0) (score_of : List ℕ → List ℕ)
    (shape : Shape) (tells : Bool) (d : ℕ) where
  -- trees of the depth below were written, which stand below a pointer block
  pub record SoFar (s s' : S) (old new : Next) (from to : List ℕ) (first : List (List ℕ))
      (scores : List (List ℕ)) : Type 0 where
    pub bytes : List ℕ
    pub is_taken : IsTaken tells from to bytes
    pub leaves : List (List ℕ)
    pub takes : TakesLeaves shape.dsize old new bytes leaves
    pub still : length old.leaf ≡ 0 → (bytes ≡ []) × (leaves ≡ [])
    pub most : length (first ++ leaves) ≤ scores_in shape.psize ^ d * length scores
    pub full : 0 < length new.leaf
        → length (first ++ leaves) ≡ scores_in shape.psize ^ d * length scores
    pub few : length scores ≤ scores_in shape.psize
    pub came : 0 < length first
    pub scores_are : scores ≡ map (λ (t : Tree). t.score)
        (trees score_of shape d (first ++ leaves))
    pub calls : List Call
    pub made : Makes does s calls s'
    pub accepted : refusals_of calls ≡ []
    pub puts : map write_of_block (tree_of score_of shape d first).blocks ++ map asked_of calls
        ≡ map write_of_block (blocks_below score_of shape d (first ++ leaves))

  module _ (some : 0 < scores_in shape.psize) (d_some : 0 < shape.dsize) where
    pub begin : (s : S) (next : Next) (left : List ℕ) (first : List (List ℕ)) (score : Score)
        → IsNextLeaf shape.dsize next → 0 < length first
        → length first ≤ scores_in shape.psize ^ d
        → (0 < length next.leaf → length first ≡ scores_in shape.psize ^ d)
        → score.0 ≡ (tree_of score_of shape d first).score
        → SoFar s s next next left left first (score.0 ∷ [])
    begin s next left first score is came most full scored = record {
      bytes = [];
      is_taken = record {
        bytes = λ i. omega arith;
        front = λ told. refl;
      };
      leaves = [];
      takes = record {
        parts = append-nil next.leaf;
        cut = sym (no_pieces shape.dsize d_some);
        whole = λ more. sym (mul-zero shape.dsize);
        size = no_more next.size;
        next = is;
      };
      still = λ none. (refl, refl);
      most = omega (arith, ap length (append-nil first), one_time (scores_in shape.psize ^ d));
      full = λ more.
          ap length (append-nil first) ∙ full more ∙ sym (one_time (scores_in shape.psize ^ d));
      few = omega arith;
      came = came;
      scores_are =
          ap (λ (x : List ℕ). x ∷ []) scored
          ∙ ap (map (λ (t : Tree). t.score)) (sym (trees_one score_of shape d first came most))
          ∙ ap (λ (ls : List (List ℕ)). map (λ (t : Tree). t.score) (trees score_of shape d ls))
          (sym (append-nil first));
      calls = [];
      made = refl;
      accepted = refl;
      puts =
          append-nil (map write_of_block (tree_of score_of shape d first).blocks)
          ∙ ap (map write_of_block) (sym (append-nil (tree_of score_of shape d first).blocks)
          ∙ ap (flat_map (λ (t : Tree). t.blocks))
          (sym (trees_one score_of shape d first came most))
          ∙ ap (λ (ls : List (List ℕ)). blocks_below score_of shape d ls) (sym (append-nil first)));
    }
      where
        no_more : (n : ℕ) → n ≡ n + 0
        no_more n = omega arith

        one_time : (n : ℕ) → n * 1 ≡ n
        one_time n = omega arith

    -- one tree more
    pub step : (s mid s' : S) (old half new : Next) (from between to : List ℕ)
        (first : List (List ℕ)) (scores : List (List ℕ)) (score : Score) → 0 < length half.leaf
        → length scores < scores_in shape.psize
        → SoFar s mid old half from between first scores
        → GrowsTree does score_of mid s' shape d half new (IsTaken tells between to) [] [] score
        → SoFar s s' old new from to first (scores ++ score.0 ∷ [])
    step s mid s' old half new from between to first scores score goes_on few a b =
        let q : ℕ = scores_in shape.psize ^ d in
        let came : 0 < length b.leaves = b.some goes_on in
        let joined : first ++ (a.leaves ++ b.leaves) ≡ (first ++ a.leaves) ++ b.leaves =
        sym (append_assoc first a.leaves b.leaves) in
        let more = trees_more score_of shape d (length scores) (first ++ a.leaves) b.leaves some
        (a.full goes_on) came b.most in
        let longer : length (scores ++ score.0 ∷ []) ≡ length scores + 1 =
        length-append scores (score.0 ∷ []) in
        let times : q * length (scores ++ score.0 ∷ []) ≡ q * length scores + q =
        ap (λ (n : ℕ). q * n) longer ∙ one_more q (length scores) in
        let count : length (first ++ (a.leaves ++ b.leaves))
        ≡ length (first ++ a.leaves) + length b.leaves =
        ap length joined ∙ length-append (first ++ a.leaves) b.leaves in
        record {
          bytes = a.bytes ++ b.bytes;
          is_taken = taken_more tells from between to a.bytes b.bytes a.is_taken b.is_taken;
          leaves = a.leaves ++ b.leaves;
          takes = takes_more shape.dsize old half new a.bytes b.bytes a.leaves b.leaves d_some
              goes_on
              a.takes b.takes;
          still = λ none. absurd (over none);
          most = omega (arith, count, times, a.most, b.most);
          full = λ later. count ∙ (λ i. a.full goes_on i + b.full later i) ∙ sym times;
          few = omega (arith, longer, few);
          came = a.came;
          scores_are =
              (λ i. a.scores_are i ++ b.score_is i ∷ [])
              ∙ sym (map-append (λ (t : Tree). t.score) (trees score_of shape d (first ++ a.leaves))
              (tree_of score_of shape d b.leaves ∷ []))
              ∙ ap (map (λ (t : Tree). t.score)) (sym more)
              ∙ ap (λ (ls : List (List ℕ)). map (λ (t : Tree). t.score) (trees score_of shape d ls))
              (sym joined);
          calls = a.calls ++ b.calls;
          made = makes_more does s mid s' a.calls b.calls a.made b.made;
          accepted = accepted_join a.calls b.calls a.accepted b.accepted;
          puts = put_more a.calls b.calls a.puts b.puts
              ∙ ap (map write_of_block) (blocks_more more
              ∙ ap (λ (ls : List (List ℕ)). blocks_below score_of shape d ls) (sym joined));
        }
      where
        one_more : (m n : ℕ) → m * (n + 1) ≡ m * n + m
        one_more m n = omega arith

        over : length old.leaf ≡ 0 → ⊥
        over none =
            let still = a.still none in
            omega (
              arith,
              ap length a.takes.parts,
              length-append old.leaf a.bytes,
              length-append (flat_map (λ (leaf : List ℕ). leaf) a.leaves) half.leaf,
              ap length still.0,
              none,
              goes_on,
            )

        put_more : (xs ys : List Call)
            → map write_of_block (tree_of score_of shape d first).blocks ++ map asked_of xs
            ≡ map write_of_block (blocks_below score_of shape d (first ++ a.leaves))
            → map asked_of ys ≡ map write_of_block (tree_of score_of shape d b.leaves).blocks
            → map write_of_block (tree_of score_of shape d first).blocks ++ map asked_of (xs ++ ys)
            ≡ map write_of_block (blocks_below score_of shape d (first ++ a.leaves)
            ++ (tree_of score_of shape d b.leaves).blocks)
        put_more xs ys first_puts then_puts =
            ap (λ (l : List Operation). map write_of_block (tree_of score_of shape d first).blocks ++ l)
            (map-append asked_of xs ys)
            ∙ sym (append_assoc (map write_of_block (tree_of score_of shape d first).blocks)
            (map asked_of xs) (map asked_of ys))
            ∙ (λ i. first_puts i ++ then_puts i)
            ∙ sym (map-append write_of_block (blocks_below score_of shape d (first ++ a.leaves))
            (tree_of score_of shape d b.leaves).blocks)

        blocks_more : trees score_of shape d ((first ++ a.leaves) ++ b.leaves)
            ≡ trees score_of shape d (first ++ a.leaves) ++ tree_of score_of shape d b.leaves ∷ []
            → blocks_below score_of shape d (first ++ a.leaves)
            ++ (tree_of score_of shape d b.leaves).blocks
            ≡ blocks_below score_of shape d ((first ++ a.leaves) ++ b.leaves)
        blocks_more more =
            ap (λ (bs : List Block). blocks_below score_of shape d (first ++ a.leaves) ++ bs)
            (sym (append-nil (tree_of score_of shape d b.leaves).blocks))
            ∙ sym (flat_map-append (λ (t : Tree). t.blocks)
            (trees score_of shape d (first ++ a.leaves)) (tree_of score_of shape d b.leaves ∷ []))
            ∙ ap (flat_map (λ (t : Tree). t.blocks)) (sym more)

    -- ---- the pointer block above them

    -- the loop's end: no leaf is left, or the pointer block is full
    abbrev IsOver : Next → List (List ℕ) → Type 0
    IsOver new scores = (length new.leaf ≡ 0) ⊎ (length scores ≡ scores_in shape.psize)

    pub finish : (s mid s' : S) (old new : Next) (from to : List ℕ) (first : List (List ℕ))
        (scores : List (List ℕ)) (score : Score) → IsOver new scores
        → SoFar s mid old new from to first scores
        → PutsBlock does score_of mid s' (pointer_block score_of (suc d) scores) (Ok score)
        → GrowsTree does score_of s s' shape (suc d) old new (IsTaken tells from to) first
        (tree_of score_of shape d first).blocks score
    finish s mid s' old new from to first scores score over a b = record {
      bytes = a.bytes;
      is_taken = a.is_taken;
      leaves = a.leaves;
      takes = a.takes;
      some = λ came. omega (arith, length-append first a.leaves, a.came);
      most = omega (arith, a.most, mul-le-mul_left (scores_in shape.psize ^ d) a.few, wide);
      full = λ more. elim over [
        | inl none ↦ absurd (omega arith)
        | inr whole ↦
            a.full more ∙ ap (λ (n : ℕ). scores_in shape.psize ^ d * n) whole ∙ sym wide
      ];
      still = a.still;
      calls = a.calls ++ b.calls;
      made = makes_more does s mid s' a.calls b.calls a.made b.made;
      accepted = accepted_join a.calls b.calls a.accepted b.refused;
      score_is = b.scored ∙ ap (λ (ss : List (List ℕ)).
          score_of (pointer_block score_of (suc d) ss).bytes) a.scores_are;
      puts =
          ap (λ (l : List Operation). map write_of_block (tree_of score_of shape d first).blocks ++ l)
          (map-append asked_of a.calls b.calls)
          ∙ sym (append_assoc (map write_of_block (tree_of score_of shape d first).blocks)
          (map asked_of a.calls) (map asked_of b.calls))
          ∙ (λ i. a.puts i ++ (b.asked ∙ ap (λ (ss : List (List ℕ)). map write_of_block
          (cond (length (pointer_block score_of (suc d) ss).bytes == 0) []
          (pointer_block score_of (suc d) ss ∷ []))) a.scores_are) i)
          ∙ sym (map-append write_of_block (blocks_below score_of shape d (first ++ a.leaves))
          (own score_of shape d (first ++ a.leaves)));
    }
      where
        wide : scores_in shape.psize ^ suc d ≡ scores_in shape.psize ^ d * scores_in shape.psize
        wide = pow-suc (scores_in shape.psize) d

    -- ---- where it is given up

    -- all leaves of what was taken: those that are below, and those that come
    pub cut_more : (old half : Next) (bytes more : List ℕ) (leaves : List (List ℕ))
        → 0 < length half.leaf → TakesLeaves shape.dsize old half bytes leaves
        → pieces_of_len shape.dsize (old.leaf ++ (bytes ++ more))
        ≡ leaves ++ pieces_of_len shape.dsize (half.leaf ++ more)
    cut_more old half bytes more leaves left takes =
        let flat = flat_map (λ (leaf : List ℕ). leaf) leaves in
        ap (λ (l : List ℕ). pieces_of_len shape.dsize l)
        (sym (append_assoc old.leaf bytes more) ∙ ap (λ (l : List ℕ). l ++ more) takes.parts
        ∙ append_assoc flat half.leaf more)
        ∙ pieces_join shape.dsize flat (half.leaf ++ more) (length leaves) d_some (takes.whole left)
        ∙ ap (λ (ls : List (List ℕ)). ls ++ pieces_of_len shape.dsize (half.leaf ++ more)) (sym takes.cut)

    pub cut_all : (old half : Next) (bytes : List ℕ) (leaves : List (List ℕ))
        → length half.leaf ≡ 0 → TakesLeaves shape.dsize old half bytes leaves
        → pieces_of_len shape.dsize (old.leaf ++ bytes) ≡ leaves
    cut_all old half bytes leaves none takes =
        let flat = flat_map (λ (leaf : List ℕ). leaf) leaves in
        ap (λ (l : List ℕ). pieces_of_len shape.dsize l)
        (takes.parts ∙ ap (λ (l : List ℕ). flat ++ l) (nil_from_length half.leaf none)
        ∙ append-nil flat)
        ∙ sym takes.cut

    pub some_pieces : (xs : List ℕ) → 0 < length xs → 0 < length (pieces_of_len shape.dsize xs)
    some_pieces xs came =
        let reach = pieces_reach shape.dsize xs d_some in
        of (count_of shape.dsize xs) refl
      where
        of : (n : ℕ) → count_of shape.dsize xs ≡ n → 0 < length (pieces_of_len shape.dsize xs)
        of zero is =
            let none : shape.dsize * count_of shape.dsize xs ≡ 0 =
            ap (λ (k : ℕ). shape.dsize * k) is ∙ mul-zero shape.dsize in
            absurd (omega (arith, pieces_reach shape.dsize xs d_some))
        of (suc n) is = omega (arith, length-pieces shape.dsize xs, is)

    pub stop_below : (s mid s' : S) (old half : Next) (from between : List ℕ)
        (first : List (List ℕ)) (scores : List (List ℕ)) (err : TreeErr) → 0 < length half.leaf
        → length scores < scores_in shape.psize
        → SoFar s mid old half from between first scores
        → StopsTree does score_of mid s' shape d half (IsAll tells between) [] [] err
        → StopsTree does score_of s s' shape (suc d) old (IsAll tells from) first
        (tree_of score_of shape d first).blocks err
    stop_below s mid s' old half from between first scores err goes_on few a b = record {
      bytes = a.bytes ++ b.bytes;
      is_coming = taken_more tells from between [] a.bytes b.bytes a.is_taken b.is_coming;
      still = λ none. absurd (omega (
        arith,
        ap length a.takes.parts,
        length-append old.leaf a.bytes,
        length-append (flat_map (λ (leaf : List ℕ). leaf) a.leaves) half.leaf,
        ap length (a.still none).0,
        none,
        goes_on,
      ));
      cause = subst (λ (n : ℕ). IsGivenUpFor err n) sizes b.cause;
      calls = a.calls ++ b.calls;
      made = makes_more does s mid s' a.calls b.calls a.made b.made;
      refused = ends_more (refusal_in err) a.calls b.calls a.accepted b.refused;
      rest = b.rest ++ begins.0;
      puts =
          regroup (map write_of_block (tree_of score_of shape d first).blocks) a.calls b.calls b.rest
          begins.0
          ∙ (λ i. (a.puts i ++ b.puts i) ++ map write_of_block begins.0)
          ∙ ap (λ (l : List Operation). l ++ map write_of_block begins.0)
          (sym (map-append write_of_block (blocks_below score_of shape d (first ++ a.leaves))
          (tree_of score_of shape d (take (scores_in shape.psize ^ d)
          (pieces_of_len shape.dsize (half.leaf ++ b.bytes)))).blocks))
          ∙ sym (map-append write_of_block (blocks_below score_of shape d (first ++ a.leaves)
          ++ (tree_of score_of shape d (take (scores_in shape.psize ^ d)
          (pieces_of_len shape.dsize (half.leaf ++ b.bytes)))).blocks) begins.0)
          ∙ ap (map write_of_block) (begins.1
          ∙ ap (λ (ls : List (List ℕ)). (tree_of score_of shape (suc d)
          (take (scores_in shape.psize ^ suc d) ls)).blocks) all);
    }
      where
        begins : (rest : List Block)
            × ((blocks_below score_of shape d (first ++ a.leaves)
            ++ (tree_of score_of shape d (take (scores_in shape.psize ^ d)
            (pieces_of_len shape.dsize (half.leaf ++ b.bytes)))).blocks) ++ rest
            ≡ (tree_of score_of shape (suc d) (take (scores_in shape.psize ^ suc d)
            ((first ++ a.leaves) ++ pieces_of_len shape.dsize (half.leaf ++ b.bytes)))).blocks)
        begins = begins_more score_of shape some d (length scores) (first ++ a.leaves)
            (pieces_of_len shape.dsize (half.leaf ++ b.bytes)) (a.full goes_on) few
            (some_pieces (half.leaf ++ b.bytes)
            (omega (arith, length-append half.leaf b.bytes, goes_on)))

        all : (first ++ a.leaves) ++ pieces_of_len shape.dsize (half.leaf ++ b.bytes)
            ≡ first ++ pieces_of_len shape.dsize (old.leaf ++ (a.bytes ++ b.bytes))
        all =
            append_assoc first a.leaves (pieces_of_len shape.dsize (half.leaf ++ b.bytes))
            ∙ ap (λ (ls : List (List ℕ)). first ++ ls)
            (sym (cut_more old half a.bytes b.bytes a.leaves goes_on a.takes))

        sizes : half.size + length b.bytes ≡ old.size + length (a.bytes ++ b.bytes)
        sizes = omega (arith, a.takes.size, length-append a.bytes b.bytes)

        regroup : (w : List Operation) (xs ys : List Call) (rest behind : List Block)
            → (w ++ map asked_of (xs ++ ys)) ++ map write_of_block (rest ++ behind)
            ≡ ((w ++ map asked_of xs) ++ (map asked_of ys ++ map write_of_block rest))
            ++ map write_of_block behind
        regroup w xs ys rest behind =
            (λ i. (w ++ map-append asked_of xs ys i) ++ map-append write_of_block rest behind i)
            ∙ plain w (map asked_of xs) (map asked_of ys) (map write_of_block rest) (map write_of_block behind)
          where
            plain : (a b c e f : List Operation)
                → (a ++ (b ++ c)) ++ (e ++ f) ≡ ((a ++ b) ++ (c ++ e)) ++ f
            plain a b c e f = simp append_assoc

    -- where the loop is over, what was put with the pointer block above is the tree
    all_below : (s mid : S) (old new : Next) (from to : List ℕ) (first : List (List ℕ))
        (scores : List (List ℕ)) → IsOver new scores
        → (so : SoFar s mid old new from to first scores) (more : List ℕ)
        → (length new.leaf ≡ 0 → more ≡ [])
        → blocks_below score_of shape d (first ++ so.leaves)
        ++ own score_of shape d (first ++ so.leaves)
        ≡ (tree_of score_of shape (suc d) (take (scores_in shape.psize ^ suc d)
        (first ++ pieces_of_len shape.dsize (old.leaf ++ (so.bytes ++ more))))).blocks
    all_below s mid old new from to first scores over so more end =
        elim (cases_lt 0 (length new.leaf)) [
          | inr none ↦ ended (omega arith)
          | inl goes_on ↦ elim over [
            | inl none ↦ ended none
            | inr whole ↦
                let behind = pieces_of_len shape.dsize (new.leaf ++ more) in
                let cut : pieces_of_len shape.dsize (old.leaf ++ (so.bytes ++ more)) ≡ so.leaves ++ behind =
                cut_more old new so.bytes more so.leaves goes_on so.takes in
                let count : length (first ++ so.leaves) ≡ scores_in shape.psize ^ suc d =
                so.full goes_on ∙ ap (λ (n : ℕ). scores_in shape.psize ^ d * n) whole ∙ sym wide in
                ap (λ (ls : List (List ℕ)). (tree_of score_of shape (suc d) ls).blocks)
                (sym (take_at (first ++ so.leaves) behind (scores_in shape.psize ^ suc d) count)
                ∙ ap (λ (ls : List (List ℕ)). take (scores_in shape.psize ^ suc d) ls)
                (append_assoc first so.leaves behind
                ∙ ap (λ (ls : List (List ℕ)). first ++ ls) (sym cut)))
          ]
        ]
      where
        wide : scores_in shape.psize ^ suc d ≡ scores_in shape.psize ^ d * scores_in shape.psize
        wide = pow-suc (scores_in shape.psize) d

        fits : length (first ++ so.leaves) ≤ scores_in shape.psize ^ suc d
        fits = omega (arith, so.most, mul-le-mul_left (scores_in shape.psize ^ d) so.few, wide)

        ended : length new.leaf ≡ 0
            → blocks_below score_of shape d (first ++ so.leaves)
            ++ own score_of shape d (first ++ so.leaves)
            ≡ (tree_of score_of shape (suc d) (take (scores_in shape.psize ^ suc d)
            (first ++ pieces_of_len shape.dsize (old.leaf ++ (so.bytes ++ more))))).blocks
        ended none =
            begins_all score_of shape some d (first ++ so.leaves) fits
            ∙ ap (λ (ls : List (List ℕ)). (tree_of score_of shape (suc d)
            (take (scores_in shape.psize ^ suc d) (first ++ ls))).blocks)
            (sym (cut_all old new so.bytes so.leaves none so.takes)
            ∙ ap (λ (l : List ℕ). pieces_of_len shape.dsize (old.leaf ++ l))
            (sym (append-nil so.bytes) ∙ ap (λ (l : List ℕ). so.bytes ++ l) (sym (end none))))

    -- and in any case it begins the tree
    rest_here : (s mid : S) (old new : Next) (from to : List ℕ) (first : List (List ℕ))
        (scores : List (List ℕ)) (so : SoFar s mid old new from to first scores) (more : List ℕ)
        → (length new.leaf ≡ 0 → more ≡ [])
        → (rest : List Block) × (blocks_below score_of shape d (first ++ so.leaves) ++ rest
        ≡ (tree_of score_of shape (suc d) (take (scores_in shape.psize ^ suc d)
        (first ++ pieces_of_len shape.dsize (old.leaf ++ (so.bytes ++ more))))).blocks)
    rest_here s mid old new from to first scores so more end =
        elim (cases_lt 0 (length new.leaf)) [
          | inr none ↦ (
            own score_of shape d (first ++ so.leaves),
            all_below s mid old new from to first scores (inl (omega arith)) so more end,
          )
          | inl goes_on ↦ elim (cases_lt (length scores) (scores_in shape.psize)) [
            | inr whole ↦ (
              own score_of shape d (first ++ so.leaves),
              all_below s mid old new from to first scores (inr (omega (arith, so.few))) so more end,
            )
            | inl few ↦
                let behind = pieces_of_len shape.dsize (new.leaf ++ more) in
                let cut : pieces_of_len shape.dsize (old.leaf ++ (so.bytes ++ more)) ≡ so.leaves ++ behind =
                cut_more old new so.bytes more so.leaves goes_on so.takes in
                let next : List Block = (tree_of score_of shape d
                (take (scores_in shape.psize ^ d) behind)).blocks in
                let begun = begins_more score_of shape some d (length scores) (first ++ so.leaves)
                behind (so.full goes_on) few
                (some_pieces (new.leaf ++ more)
                (omega (arith, length-append new.leaf more, goes_on))) in (
                  next ++ begun.0,
                  sym (append_assoc (blocks_below score_of shape d (first ++ so.leaves)) next begun.0)
                      ∙ begun.1
                      ∙ ap (λ (ls : List (List ℕ)). (tree_of score_of shape (suc d)
                      (take (scores_in shape.psize ^ suc d) ls)).blocks)
                      (append_assoc first so.leaves behind
                      ∙ ap (λ (ls : List (List ℕ)). first ++ ls) (sym cut)),
                )
          ]
        ]

    -- behind a leaf without bytes nothing comes
    none_comes : (new : Next) (left : List ℕ) (c : Comes tells new.ended left)
        → IsNextLeaf shape.dsize new → length new.leaf ≡ 0 → c.more ≡ []
    none_comes new left c is none = elim (cases_Bool new.ended) [
      | inl over ↦ c.end over
      | inr going ↦ absurd (omega (arith, is.last going))
    ]

    still_more : (s mid : S) (old new : Next) (from to : List ℕ) (first : List (List ℕ))
        (scores : List (List ℕ)) (a : SoFar s mid old new from to first scores) (more : List ℕ)
        → (length new.leaf ≡ 0 → more ≡ []) → length old.leaf ≡ 0 → a.bytes ++ more ≡ []
    still_more s mid old new from to first scores a more end none =
        let still = a.still none in
        let leaf : old.leaf ++ a.bytes ≡ flat_map (λ (l : List ℕ). l) a.leaves ++ new.leaf =
        a.takes.parts in
        let same : length new.leaf ≡ 0 =
        omega (
          arith,
          ap length leaf,
          length-append old.leaf a.bytes,
          length-append (flat_map (λ (l : List ℕ). l) a.leaves) new.leaf,
          ap length still.0,
          none,
        ) in
        λ i. still.0 i ++ end same i

    -- memory is short
    pub stop_here : (s mid : S) (old new : Next) (from to : List ℕ) (first : List (List ℕ))
        (scores : List (List ℕ)) → SoFar s mid old new from to first scores
        → Comes tells new.ended to
        → StopsTree does score_of s mid shape (suc d) old (IsAll tells from) first
        (tree_of score_of shape d first).blocks errs.NoMemory
    stop_here s mid old new from to first scores a comes =
        let end = none_comes new to comes a.takes.next in
        let rest = rest_here s mid old new from to first scores a comes.more end in record {
          bytes = a.bytes ++ comes.more;
          is_coming = taken_more tells from to [] a.bytes comes.more a.is_taken comes.is;
          still = still_more s mid old new from to first scores a comes.more end;
          cause = tt;
          calls = a.calls;
          made = a.made;
          refused = a.accepted;
          rest = rest.0;
          puts =
              ap (λ (l : List Operation). l ++ map write_of_block rest.0) a.puts
              ∙ sym (map-append write_of_block (blocks_below score_of shape d (first ++ a.leaves)) rest.0)
              ∙ ap (map write_of_block) rest.1;
        }

    -- the pointer block isn't taken
    pub stop_at_put : (s mid s' : S) (old new : Next) (from to : List ℕ)
        (first : List (List ℕ)) (scores : List (List ℕ)) (err : TreeErr) → IsOver new scores
        → SoFar s mid old new from to first scores
        → Comes tells new.ended to
        → PutsBlock does score_of mid s' (pointer_block score_of (suc d) scores) (Err err)
        → StopsTree does score_of s s' shape (suc d) old (IsAll tells from) first
        (tree_of score_of shape d first).blocks err
    stop_at_put s mid s' old new from to first scores err over a comes b =
        let end = none_comes new to comes a.takes.next in
        let same : map write_of_block (cond (length (pointer_block score_of (suc d) scores).bytes == 0)
        [] (pointer_block score_of (suc d) scores ∷ []))
        ≡ map write_of_block (own score_of shape d (first ++ a.leaves)) =
        ap (λ (ss : List (List ℕ)). map write_of_block
        (cond (length (pointer_block score_of (suc d) ss).bytes == 0) []
        (pointer_block score_of (suc d) ss ∷ []))) a.scores_are in
        let behind = rest_of (map asked_of b.calls) b.asked.0
        (own score_of shape d (first ++ a.leaves)) (b.asked.1 ∙ same) in
        record {
          bytes = a.bytes ++ comes.more;
          is_coming = taken_more tells from to [] a.bytes comes.more a.is_taken comes.is;
          still = still_more s mid old new from to first scores a comes.more end;
          cause = given_up err (old.size + length (a.bytes ++ comes.more)) b.plain;
          calls = a.calls ++ b.calls;
          made = makes_more does s mid s' a.calls b.calls a.made b.made;
          refused = ends_more (refusal_in err) a.calls b.calls a.accepted
              b.refused;
          rest = behind.0;
          puts =
              regroup (map write_of_block (tree_of score_of shape d first).blocks) a.calls b.calls
              behind.0
              ∙ (λ i. a.puts i ++ behind.1 i)
              ∙ sym (map-append write_of_block (blocks_below score_of shape d (first ++ a.leaves))
              (own score_of shape d (first ++ a.leaves)))
              ∙ ap (map write_of_block)
              (all_below s mid old new from to first scores over a comes.more end);
        }
      where
        regroup : (w : List Operation) (xs ys : List Call) (rest : List Block)
            → (w ++ map asked_of (xs ++ ys)) ++ map write_of_block rest
            ≡ (w ++ map asked_of xs) ++ (map asked_of ys ++ map write_of_block rest)
        regroup w xs ys rest =
            (λ i. (w ++ map-append asked_of xs ys i) ++ map write_of_block rest)
            ∙ plain w (map asked_of xs) (map asked_of ys) (map write_of_block rest)
          where
            plain : (a b c e : List Operation) → (a ++ (b ++ c)) ++ e ≡ (a ++ b) ++ (c ++ e)
            plain a b c e = simp append_assoc
