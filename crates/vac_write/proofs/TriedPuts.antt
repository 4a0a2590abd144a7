-- Blocks that are put for what was tried, some behind others.
use Rattle.std.proofs.Common.{◌≡◌, ℕ, None, List, [], ◌++◌, refl, sym, subst, append-nil}
use Rattle.vt_out.specs.FolderItems.{Items}
use Rattle.vt_out.specs.declared.folder_item.Facts.{Facts}
use Rattle.vt_model.specs.History.{Block}
use Rattle.vt_tree.specs.Calls.{Call}
use Rattle.vac_write.specs.declared.error.VacErr.{VacErr}
use Rattle.vac_write.specs.Archiving.{refusal_of}
use Rattle.vac_write.specs.Puts.{PutsBlocks, GivesUpBlocks}
use Rattle.vac_write.specs.Tried.{Tried, no_more, begun_in, AreWoven}
use Rattle.vac_write.specs.Walking.{PutsTried, GivesUpTried}
use Rattle.vac_write.proofs.Puts.{puts_none, puts_join, gives_front, gives_later, gives_none}
use Rattle.vac_write.proofs.Tried.{joined, begun_joined, are_begun_joined, as_read, begun_read, are_begun_read, woven_join}

-- blocks behind those of runs
woven_more : (runs : List (List Block)) (a x b : List Block) → AreWoven runs a x
    → AreWoven runs (a ++ b) (x ++ b)
woven_more runs a x b w =
    subst (λ (rs : List (List Block)). AreWoven rs (a ++ b) (x ++ b)) (append-nil runs)
    (woven_join runs [] a x b b w refl)

module _ {S : Type 0} (does : S → Call → S → Type 0) (score_of : List ℕ → List ℕ)
    (bsize : ℕ) where
  abbrev Puts : (s s' : S) → Tried → List Block → Type 0
  Puts s s' tried blocks = PutsTried does score_of s s' bsize tried blocks

  abbrev Gives : (s s' : S) → Tried → List Block → VacErr → Type 0
  Gives s s' tried blocks err = GivesUpTried does score_of s s' bsize tried blocks err

  -- ---- put

  pub tried_none : (s : S) → Puts s s no_more []
  tried_none s = record {
    all = [];
    begun = tt;
    woven = refl;
    put = puts_none does s;
  }

  pub tried_join : (s mid s' : S) (a b : Tried) (xs ys : List Block) → Puts s mid a xs
      → Puts mid s' b ys → Puts s s' (joined a b) (xs ++ ys)
  tried_join s mid s' a b xs ys first then = record {
    all = first.all ++ then.all;
    begun = are_begun_joined score_of bsize a b first.begun then.begun;
    woven = subst (λ (rs : List (List Block)). AreWoven rs (xs ++ ys) (first.all ++ then.all))
        (sym (begun_joined a b))
        (woven_join (begun_in a) (begun_in b) xs first.all ys then.all first.woven then.woven);
    put = puts_join does s mid s' first.all then.all first.put then.put;
  }

  -- other blocks behind them
  pub tried_then : (s mid s' : S) (tried : Tried) (xs ys : List Block) → Puts s mid tried xs
      → PutsBlocks does mid s' ys → Puts s s' tried (xs ++ ys)
  tried_then s mid s' tried xs ys first then = record {
    all = first.all ++ ys;
    begun = first.begun;
    woven = woven_more (begun_in tried) xs first.all ys first.woven;
    put = puts_join does s mid s' first.all ys first.put then;
  }

  -- ---- given up

  -- nothing was put yet
  pub untried : (s : S) (items : Items Facts) (blocks : List Block) (err : VacErr)
      → refusal_of err ≡ None → Gives s s (as_read items) blocks err
  untried s items blocks err own = record {
    all = blocks;
    begun = are_begun_read score_of bsize items;
    woven = subst (λ (rs : List (List Block)). AreWoven rs blocks blocks)
        (sym (begun_read items)) refl;
    given_up = gives_none does s blocks err own;
  }

  -- others were put before
  pub tried_later : (s mid s' : S) (a b : Tried) (xs ys : List Block) (err : VacErr)
      → Puts s mid a xs → Gives mid s' b ys err → Gives s s' (joined a b) (xs ++ ys) err
  tried_later s mid s' a b xs ys err first then = record {
    all = first.all ++ then.all;
    begun = are_begun_joined score_of bsize a b first.begun then.begun;
    woven = subst (λ (rs : List (List Block)). AreWoven rs (xs ++ ys) (first.all ++ then.all))
        (sym (begun_joined a b))
        (woven_join (begun_in a) (begun_in b) xs first.all ys then.all first.woven then.woven);
    given_up = gives_later does s mid s' first.all then.all err first.put then.given_up;
  }

  -- other items were to come behind
  pub tried_front : (s s' : S) (a : Tried) (items : Items Facts) (xs ys : List Block)
      (err : VacErr) → Gives s s' a xs err → Gives s s' (joined a (as_read items)) (xs ++ ys) err
  tried_front s s' a items xs ys err first = record {
    all = first.all ++ ys;
    begun = are_begun_joined score_of bsize a (as_read items) first.begun
        (are_begun_read score_of bsize items);
    woven = subst (λ (rs : List (List Block)). AreWoven rs (xs ++ ys) (first.all ++ ys))
        (sym (begun_joined a (as_read items)))
        (woven_join (begun_in a) (begun_in (as_read items)) xs first.all ys ys first.woven
        (subst (λ (rs : List (List Block)). AreWoven rs ys ys) (sym (begun_read items)) refl));
    given_up = gives_front does s s' first.all ys err first.given_up;
  }

  -- other blocks were
  pub tried_more : (s s' : S) (tried : Tried) (xs ys : List Block) (err : VacErr)
      → Gives s s' tried xs err → Gives s s' tried (xs ++ ys) err
  tried_more s s' tried xs ys err first = record {
    all = first.all ++ ys;
    begun = first.begun;
    woven = woven_more (begun_in tried) xs first.all ys first.woven;
    given_up = gives_front does s s' first.all ys err first.given_up;
  }

  -- these were put, and then other blocks given up
  pub tried_last : (s mid s' : S) (tried : Tried) (xs ys : List Block) (err : VacErr)
      → Puts s mid tried xs → GivesUpBlocks does mid s' ys err → Gives s s' tried (xs ++ ys) err
  tried_last s mid s' tried xs ys err first then = record {
    all = first.all ++ ys;
    begun = first.begun;
    woven = woven_more (begun_in tried) xs first.all ys first.woven;
    given_up = gives_later does s mid s' first.all ys err first.put then;
  }
