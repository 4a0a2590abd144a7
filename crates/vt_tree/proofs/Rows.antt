-- The loop that writes the trees below one pointer block, and the block above them.
use Rattle.std.proofs.Common.{◌≡◌, ◌⊎◌, ℕ, suc, ◌<◌, ◌≤◌, inl, inr, Bool, true, false, IsTrue, IfOk, IfErr, Result, Ok, Err, List, [], ◌∷◌, ◌++◌, length, map, refl, sym, ◌∙◌, subst, arith, length-append}
use Rattle.std.proofs.lemmas.Bool.{cases_Bool}
use Rattle.std.proofs.lemmas.List.{length-map, length-take-le, map_push}
use Rattle.vt_base.specs.Bytes.{AreBytes}
use Rattle.vt_base.specs.declared.score.Score.{Score}
use Rattle.vt_tree.specs.declared.error.TreeErr.{TreeErr}
use Rattle.vt_tree.specs.declared.error.TreeErr.TheVariants as errs
use Rattle.vt_tree.specs.declared.writing.Ahead.{Ahead}
use Rattle.vt_tree.specs.declared.writing.Cut.{Cut}
use Rattle.vt_tree.specs.Calls.{Call}
use Rattle.vt_tree.specs.Content.{scores_in}
use Rattle.vt_tree.specs.Growing.{TakesNextLeaf, GrowsTree, HasFirst, IsReadyToWrite, PutsBlock, StopsTree, next_of, shape_of}
use Rattle.vt_tree.specs.Streams.{FitsShape, pointer_block, tree_of}
use Rattle.vt_tree.specs.Writing.{IsTaken, IsAll}
use Rattle.vt_tree.proofs.Growth.{Comes, what_comes, SoFar, begin, finish, step, stop_at_put, stop_below, stop_here}

-- ---- what was taken ahead

pub scores_some : (cut : Cut) → FitsShape (shape_of cut) → 0 < scores_in cut.psize
scores_some cut fits = omega (arith, fits.psize_least)

pub size_some : (cut : Cut) → FitsShape (shape_of cut) → 0 < cut.dsize
size_some cut fits = omega (arith, fits.dsize_least)

pub leaf_len : (score_of : List ℕ → List ℕ) (cut : Cut) (ahead : Ahead) (tells : Bool)
    (left : List ℕ) → IsReadyToWrite score_of cut ahead tells left
    → length (next_of ahead).leaf ≡ ahead.filled
leaf_len score_of cut ahead tells left ready =
    length-take-le ahead.filled ahead.leaf.items ready.filled

-- ---- the loop

module _ {S : Type 0} (does : S → Call → S → Type 0) (score_of : List ℕ → List ℕ) (cut : Cut)
    (tells : Bool) (d : ℕ) where
  -- trees were written behind the first one, each with the score that is kept
  pub record Row (s s' : S) (old new : Ahead) (from to : List ℕ) (first : Score)
      (scores : List Score) (before now : ℕ) : Type 0 where
    pub grown : (leaves : List (List ℕ))
        → HasFirst score_of (shape_of cut) d (next_of old) leaves first
        → SoFar does score_of (shape_of cut) tells d s s' (next_of old) (next_of new) from to
        leaves (map (λ (score : Score). score.0) scores)
    pub ready : IsReadyToWrite score_of cut new tells to
    pub few : length scores ≤ scores_in cut.psize
    pub faults : now ≡ before

  pub row_begun : (s : S) (ahead : Ahead) (left : List ℕ) (first : Score) (n : ℕ)
      → IsReadyToWrite score_of cut ahead tells left
      → Row s s ahead ahead left left first (first ∷ []) n n
  row_begun s ahead left first n ready = record {
    grown = λ leaves has.
        begin does score_of (shape_of cut) tells d (scores_some cut ready.fits)
        (size_some cut ready.fits) s (next_of ahead) left leaves first ready.next has.some has.most
        has.full has.score_is;
    ready = ready;
    few = omega (arith, scores_some cut ready.fits);
    faults = refl;
  }

  module _ (s mid s' : S) (old half new : Ahead) (from between to : List ℕ) (first : Score)
      (scores : List Score) (before now after : ℕ) (goes_on : 0 < half.filled)
      (room : length scores < scores_in cut.psize)
      (row : Row s mid old half from between first scores before now) where
    more_came : 0 < length (next_of half).leaf
    more_came = omega (arith, leaf_len score_of cut half tells between row.ready)

    few_kept : length (map (λ (score : Score). score.0) scores) < scores_in cut.psize
    few_kept = omega (arith, length-map scores (λ (score : Score). score.0))

    pub row_more : (score : Score)
        → GrowsTree does score_of mid s' (shape_of cut) d (next_of half) (next_of new)
        (IsTaken tells between to) [] [] score
        → IsReadyToWrite score_of cut new tells to → after ≡ now
        → Row s s' old new from to first (scores ++ score ∷ []) before after
    row_more score grown ready faults = record {
      grown = λ leaves has.
          subst (λ (ss : List (List ℕ)). SoFar does score_of (shape_of cut) tells d s s'
          (next_of old) (next_of new) from to leaves ss)
          (sym (map_push (λ (t : Score). t.0) scores score))
          (step does score_of (shape_of cut) tells d (scores_some cut ready.fits)
          (size_some cut ready.fits) s mid s' (next_of old) (next_of half) (next_of new) from
          between to leaves (map (λ (t : Score). t.0) scores) score more_came few_kept
          (row.grown leaves has) grown);
      ready = ready;
      few = omega (arith, length-append scores (score ∷ []), room);
      faults = faults ∙ row.faults;
    }

    pub row_stopped : (depth : ℕ) (err : TreeErr) → suc d ≡ depth
        → StopsTree does score_of mid s' (shape_of cut) d (next_of half)
        (IsAll tells between) [] [] err
        → (leaves : List (List ℕ))
        → HasFirst score_of (shape_of cut) d (next_of old) leaves first
        → StopsTree does score_of s s' (shape_of cut) depth (next_of old)
        (IsAll tells from) leaves (tree_of score_of (shape_of cut) d leaves).blocks err
    row_stopped depth err same stopped leaves has =
        subst (λ (k : ℕ). StopsTree does score_of s s' (shape_of cut) k (next_of old)
        (IsAll tells from) leaves (tree_of score_of (shape_of cut) d leaves).blocks err) same
        (stop_below does score_of (shape_of cut) tells d (scores_some cut row.ready.fits)
        (size_some cut row.ready.fits) s mid s' (next_of old) (next_of half) from between leaves
        (map (λ (t : Score). t.0) scores) err more_came few_kept (row.grown leaves has) stopped)

  module _ (s mid : S) (old new : Ahead) (from to : List ℕ) (first : Score)
      (scores : List Score) (before now : ℕ)
      (row : Row s mid old new from to first scores before now) (are : AreBytes to) (depth : ℕ)
      (same : suc d ≡ depth) where
    comes : Comes tells new.ended to
    comes = what_comes tells new.ended to are row.ready.end

    -- memory is short
    pub row_no_memory : (leaves : List (List ℕ))
        → HasFirst score_of (shape_of cut) d (next_of old) leaves first
        → StopsTree does score_of s mid (shape_of cut) depth (next_of old) (IsAll tells from)
        leaves (tree_of score_of (shape_of cut) d leaves).blocks errs.NoMemory
    row_no_memory leaves has =
        subst (λ (k : ℕ). StopsTree does score_of s mid (shape_of cut) k (next_of old)
        (IsAll tells from) leaves (tree_of score_of (shape_of cut) d leaves).blocks
        errs.NoMemory) same
        (stop_here does score_of (shape_of cut) tells d (scores_some cut row.ready.fits)
        (size_some cut row.ready.fits) s mid (next_of old) (next_of new) from to leaves
        (map (λ (t : Score). t.0) scores) (row.grown leaves has) comes)

    module _ (s' : S) (result : Result Score TreeErr)
        (over : (new.filled ≡ 0) ⊎ (length scores ≡ scores_in cut.psize))
        (put : PutsBlock does score_of mid s' (pointer_block score_of depth
        (map (λ (t : Score). t.0) scores)) result) where
      is_over : (length (next_of new).leaf ≡ 0)
          ⊎ (length (map (λ (t : Score). t.0) scores) ≡ scores_in cut.psize)
      is_over = elim over [
        | inl none ↦ inl (leaf_len score_of cut new tells to row.ready ∙ none)
        | inr full ↦ inr (length-map scores (λ (t : Score). t.0) ∙ full)
      ]

      pub row_put : (leaves : List (List ℕ))
          → HasFirst score_of (shape_of cut) d (next_of old) leaves first
          → IfOk result (λ score. GrowsTree does score_of s s' (shape_of cut) depth (next_of old)
          (next_of new) (IsTaken tells from to) leaves
          (tree_of score_of (shape_of cut) d leaves).blocks score)
      row_put leaves has = of result (subst (λ (k : ℕ). PutsBlock does score_of mid s'
          (pointer_block score_of k (map (λ (t : Score). t.0) scores)) result) (sym same) put)
        where
          of : (r : Result Score TreeErr)
              → PutsBlock does score_of mid s' (pointer_block score_of (suc d)
              (map (λ (t : Score). t.0) scores)) r
              → IfOk r (λ score. GrowsTree does score_of s s' (shape_of cut) depth (next_of old)
              (next_of new) (IsTaken tells from to) leaves
              (tree_of score_of (shape_of cut) d leaves).blocks score)
          of (Ok score) b =
              subst (λ (k : ℕ). GrowsTree does score_of s s' (shape_of cut) k (next_of old)
              (next_of new) (IsTaken tells from to) leaves
              (tree_of score_of (shape_of cut) d leaves).blocks score) same
              (finish does score_of (shape_of cut) tells d (scores_some cut row.ready.fits)
              (size_some cut row.ready.fits) s mid s' (next_of old) (next_of new) from to leaves
              (map (λ (t : Score). t.0) scores) score is_over (row.grown leaves has) b)
          of (Err err) b = tt

      pub row_not_put : (leaves : List (List ℕ))
          → HasFirst score_of (shape_of cut) d (next_of old) leaves first
          → IfErr result (StopsTree does score_of s s' (shape_of cut) depth (next_of old)
          (IsAll tells from) leaves (tree_of score_of (shape_of cut) d leaves).blocks)
      row_not_put leaves has = of result (subst (λ (k : ℕ). PutsBlock does score_of mid s'
          (pointer_block score_of k (map (λ (t : Score). t.0) scores)) result) (sym same) put)
        where
          of : (r : Result Score TreeErr)
              → PutsBlock does score_of mid s' (pointer_block score_of (suc d)
              (map (λ (t : Score). t.0) scores)) r
              → IfErr r (StopsTree does score_of s s' (shape_of cut) depth (next_of old)
              (IsAll tells from) leaves (tree_of score_of (shape_of cut) d leaves).blocks)
          of (Ok score) b = tt
          of (Err err) b =
              subst (λ (k : ℕ). StopsTree does score_of s s' (shape_of cut) k (next_of old)
              (IsAll tells from) leaves (tree_of score_of (shape_of cut) d leaves).blocks err)
              same
              (stop_at_put does score_of (shape_of cut) tells d (scores_some cut row.ready.fits)
              (size_some cut row.ready.fits) s mid s' (next_of old) (next_of new) from to leaves
              (map (λ (t : Score). t.0) scores) err is_over (row.grown leaves has) comes b)
