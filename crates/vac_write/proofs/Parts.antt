-- Items of a folder that were archived, some behind others.
use Rattle.std.proofs.Common.{◌≡◌, ℕ, ◌+◌, ◌*◌, ◌/◌, Option, Some, None, List, ◌++◌, length, refl, sym, ◌∙◌, ap, subst, arith, append_assoc, append-nil, length-append}
use Rattle.std.specs.Prelude.{⊤}
use Rattle.std.specs.List.{flat_map}
use Rattle.std.specs.Option.{option_or}
use Rattle.std.proofs.lemmas.List.Concat.{flat_map-append}
use Rattle.vt_out.specs.declared.folder_item.Facts.{Facts}
use Rattle.vt_out.specs.FolderItems.{Items}
use Rattle.vt_model.specs.History.{Block}
use Rattle.vt_tree.specs.declared.error.TreeErr.TheVariants as trees
use Rattle.vt_tree.specs.Calls.{Call}
use Rattle.vt_tree.specs.Entries.{tree_entry_bytes}
use Rattle.vac_meta.specs.Records.{all_spelled, record_bytes}
use Rattle.vac_model.specs.Archives.{records_of, item_entries, blocks_of}
use Rattle.vac_model.specs.Kept.{Numbered, kept, numbered, count, left_out}
use Rattle.vac_model.specs.Limits.{Unfit, unfit_inside, HaveTimes}
use Rattle.vac_write.specs.declared.archiving.Walk.{Walk}
use Rattle.vac_write.specs.declared.error.VacErr.{VacErr}
use Rattle.vac_write.specs.declared.error.VacErr.TheVariants.{FolderFault, Tree, BadName, TooDeep, NoMemory}
use Rattle.vac_write.specs.declared.streams.Streams.{Streams}
use Rattle.vac_write.specs.Archiving.{IsGivenUpAs}
use Rattle.vac_write.specs.Listing.{joined_path}
use Rattle.vac_write.specs.Puts.{IsOfStore}
use Rattle.vac_write.specs.Tried.{Tried, no_more, found, failed_at}
use Rattle.vac_write.specs.Walking.{archived_from, PutsTried, GivesUpTried, ArchivesPart, GivesUpPart}
use Rattle.vac_write.proofs.Followed.{followed, archived_followed, count_followed, entries_followed, records_followed, blocks_followed, left_followed, unfit_followed, times_followed}
use Rattle.vac_write.proofs.Tried.{joined, found_joined, failed_joined, as_read, found_read}
use Rattle.vac_write.proofs.TriedPuts.{tried_none, tried_join, tried_front, tried_later}

-- ---- causes

-- a refusal that tells what is unfit tells it of what is unfit for the same
pub as_unfit : (err : VacErr) (x z : Option Unfit)
    → ((u : Unfit) → x ≡ Some u → z ≡ Some u) → IsGivenUpAs ⊤ err x → IsGivenUpAs ⊤ err z
as_unfit FolderFault x z same cause = tt
as_unfit (Tree (trees.Block err)) x z same cause = tt
as_unfit (Tree trees.SourceFault) x z same cause = cause
as_unfit (Tree (trees.BadEntry bad)) x z same cause = cause
as_unfit (Tree (trees.BadBlock depth len)) x z same cause = cause
as_unfit (Tree trees.TooLong) x z same cause = same _ cause
as_unfit (Tree trees.NoMemory) x z same cause = tt
as_unfit (BadName path) x z same cause = same _ cause
as_unfit (TooDeep path) x z same cause = same _ cause
as_unfit NoMemory x z same cause = tt

-- one of the store tells nothing of it
pub of_store_as : (err : VacErr) (z : Option Unfit) → IsOfStore err → IsGivenUpAs ⊤ err z
of_store_as FolderFault z own = absurd own
of_store_as (Tree (trees.Block err)) z own = tt
of_store_as (Tree trees.SourceFault) z own = own
of_store_as (Tree (trees.BadEntry bad)) z own = own
of_store_as (Tree (trees.BadBlock depth len)) z own = own
of_store_as (Tree trees.TooLong) z own = absurd own
of_store_as (Tree trees.NoMemory) z own = tt
of_store_as (BadName path) z own = absurd own
of_store_as (TooDeep path) z own = absurd own
of_store_as NoMemory z own = tt

or_front : {A : Type 0} (x z : Option A) (u : A) → x ≡ Some u → option_or x z ≡ Some u
or_front x z u is = ap (λ o. option_or o z) is

pub or_behind : {A : Type 0} (x z : Option A) (u : A) → x ≡ None → z ≡ Some u
    → option_or x z ≡ Some u
or_behind x z u absent is = ap (λ o. option_or o z) absent ∙ is

-- ---- places

-- so many entries further on
further_on : (a b n : ℕ) → b ≡ a + 40 * n → b / 40 ≡ a / 40 + n
further_on a b n is = omega arith

module _ {S : Type 0} (does : S → Call → S → Type 0) (score_of : List ℕ → List ℕ) where
  pub part_none : (s : S) (walk : Walk) (streams : Streams)
      → ArchivesPart does score_of s s walk walk streams streams no_more
  part_none s walk streams = record {
    fit = refl;
    times = tt;
    entries = sym (append-nil streams.entries.items);
    places = none_more (length streams.entries.items);
    metadata = sym (append-nil streams.metadata.items);
    qid = same_qid walk.qid;
    left_out = sym (append-nil walk.skipped.items);
    failed = sym (append-nil walk.failed.items);
    path = refl;
    bsize = refl;
    put = tried_none does score_of walk.bsize s;
  }
    where
      none_more : (n : ℕ) → n ≡ n + 40 * 0
      none_more n = omega arith

      same_qid : (n : ℕ) → n ≡ n + 0
      same_qid n = omega arith

  module _ (s mid s' : S) (old half : Walk) (from between : Streams) (a b : Tried)
      (first : ArchivesPart does score_of s mid old half from between a) where
    x : Items Numbered
    x = archived_from old.qid a

    y : Items Numbered
    y = archived_from (old.qid + count (archived_from old.qid a)) b

    both : archived_from old.qid (joined a b) ≡ followed x y
    unfolding x y
    both =
        ap (λ (items : Items Facts). numbered old.qid (kept items)) (found_joined a b)
        ∙ archived_followed old.qid (found a) (found b)

    same_items : archived_from half.qid b ≡ y
    unfolding y
    same_items = ap (λ (n : ℕ). archived_from n b) first.qid

    same_blocks : blocks_of score_of half.bsize (archived_from half.qid b)
        ≡ blocks_of score_of old.bsize y
    same_blocks = λ i. blocks_of score_of (first.bsize i) (same_items i)

    same_entries : item_entries score_of half.bsize (archived_from half.qid b)
        ≡ item_entries score_of old.bsize y
    same_entries = λ i. item_entries score_of (first.bsize i) (same_items i)

    all_blocks_are : blocks_of score_of old.bsize x ++ blocks_of score_of old.bsize y
        ≡ blocks_of score_of old.bsize (archived_from old.qid (joined a b))
    all_blocks_are =
        sym (blocks_followed score_of old.bsize x y)
        ∙ ap (blocks_of score_of old.bsize) (sym both)

    all_entries_are : item_entries score_of old.bsize x ++ item_entries score_of old.bsize y
        ≡ item_entries score_of old.bsize (archived_from old.qid (joined a b))
    all_entries_are =
        sym (entries_followed score_of old.bsize x y)
        ∙ ap (item_entries score_of old.bsize) (sym both)

    unfit_is : unfit_inside (length half.path.items) (joined_path half.path.items) (found b)
        ≡ unfit_inside (length old.path.items) (joined_path old.path.items) (found (joined a b))
    unfit_is =
        ap (λ (p : List (List ℕ)). unfit_inside (length p) (joined_path p) (found b)) first.path
        ∙ sym (ap (unfit_inside (length old.path.items) (joined_path old.path.items))
        (found_joined a b)
        ∙ unfit_followed (length old.path.items) (joined_path old.path.items) (found a) (found b)
        ∙ ap (λ (o : Option Unfit). option_or o
        (unfit_inside (length old.path.items) (joined_path old.path.items) (found b))) first.fit)

    pub part_join : (new : Walk) (to : Streams)
        → ArchivesPart does score_of mid s' half new between to b
        → ArchivesPart does score_of s s' old new from to (joined a b)
    unfolding x
    part_join new to then =
        let es = item_entries score_of old.bsize x in
        let fs = item_entries score_of old.bsize y in
        record {
          fit = sym unfit_is ∙ then.fit;
          times = subst HaveTimes (sym (found_joined a b))
              (times_followed (found a) (found b) first.times then.times);
          entries =
              then.entries
              ∙ (λ i. first.entries i ++ flat_map tree_entry_bytes (same_entries i))
              ∙ append_assoc from.entries.items (flat_map tree_entry_bytes es)
              (flat_map tree_entry_bytes fs)
              ∙ ap (λ (l : List ℕ). from.entries.items ++ l)
              (sym (flat_map-append tree_entry_bytes es fs)
              ∙ ap (flat_map tree_entry_bytes) all_entries_are);
          places = omega (
            arith,
            first.places,
            then.places,
            ap length same_entries,
            ap length all_entries_are,
            length-append es fs,
          );
          metadata =
              then.metadata
              ∙ (λ i. first.metadata i ++ all_spelled (records_of
              (further_on (length from.entries.items) (length between.entries.items)
              (length es) first.places i) (same_items i)))
              ∙ append_assoc from.metadata.items
              (all_spelled (records_of (length from.entries.items / 40) x))
              (all_spelled (records_of (length from.entries.items / 40 + length es) y))
              ∙ ap (λ (l : List ℕ). from.metadata.items ++ l)
              (sym (flat_map-append record_bytes
              (records_of (length from.entries.items / 40) x)
              (records_of (length from.entries.items / 40 + length es) y))
              ∙ ap all_spelled (sym (records_followed score_of old.bsize
              (length from.entries.items / 40) x y)
              ∙ ap (records_of (length from.entries.items / 40)) (sym both)));
          qid = omega (
            arith,
            first.qid,
            then.qid,
            ap count same_items,
            ap count both,
            count_followed x y,
          );
          left_out =
              then.left_out
              ∙ (λ i. first.left_out i ++ left_out (joined_path (first.path i)) (found b))
              ∙ append_assoc old.skipped.items (left_out (joined_path old.path.items) (found a))
              (left_out (joined_path old.path.items) (found b))
              ∙ ap (λ (l : List (List ℕ)). old.skipped.items ++ l)
              (sym (ap (left_out (joined_path old.path.items)) (found_joined a b)
              ∙ left_followed (joined_path old.path.items) (found a) (found b)));
          failed =
              then.failed
              ∙ (λ i. first.failed i ++ failed_at (joined_path (first.path i)) b)
              ∙ append_assoc old.failed.items (failed_at (joined_path old.path.items) a)
              (failed_at (joined_path old.path.items) b)
              ∙ ap (λ (l : List (List ℕ)). old.failed.items ++ l)
              (sym (failed_joined (joined_path old.path.items) a b));
          path = then.path ∙ first.path;
          bsize = then.bsize ∙ first.bsize;
          put = subst (PutsTried does score_of s s' old.bsize (joined a b)) all_blocks_are
              (tried_join does score_of old.bsize s mid s' a b (blocks_of score_of old.bsize x)
              (blocks_of score_of old.bsize y) first.put
              (subst (PutsTried does score_of mid s' old.bsize b) same_blocks
              (subst (λ (n : ℕ). PutsTried does score_of mid s' n b
              (blocks_of score_of half.bsize (archived_from half.qid b))) first.bsize then.put)));
        }

    -- the items behind them were given up
    pub part_then_given_up : (err : VacErr) → GivesUpPart does score_of mid s' half b err
        → GivesUpPart does score_of s s' old (joined a b) err
    unfolding x
    part_then_given_up err then = record {
      cause = subst (IsGivenUpAs ⊤ err) unfit_is then.cause;
      given_up = subst (λ (bs : List Block). GivesUpTried does score_of s s' old.bsize (joined a b) bs
          err) all_blocks_are
          (tried_later does score_of old.bsize s mid s' a b (blocks_of score_of old.bsize x)
          (blocks_of score_of old.bsize y) err first.put
          (subst (λ (bs : List Block). GivesUpTried does score_of mid s' old.bsize b bs err)
          same_blocks
          (subst (λ (n : ℕ). GivesUpTried does score_of mid s' n b
          (blocks_of score_of half.bsize (archived_from half.qid b)) err) first.bsize
          then.given_up)));
    }

  -- items were given up, behind which others stand
  pub part_given_up : (s s' : S) (old : Walk) (a : Tried) (rest : Items Facts) (err : VacErr)
      → GivesUpPart does score_of s s' old a err
      → GivesUpPart does score_of s s' old (joined a (as_read rest)) err
  part_given_up s s' old a rest err gave =
      let p = old.path.items in
      let n : ℕ = old.qid + count (archived_from old.qid a) in
      let found_are : found (joined a (as_read rest)) ≡ followed (found a) rest =
      found_joined a (as_read rest) ∙ ap (followed (found a)) (found_read rest) in
      let blocks = ap (blocks_of score_of old.bsize)
      (ap (λ (items : Items Facts). numbered old.qid (kept items)) found_are
      ∙ archived_followed old.qid (found a) rest)
      ∙ blocks_followed score_of old.bsize (archived_from old.qid a) (numbered n (kept rest)) in
      record {
        cause = as_unfit err (unfit_inside (length p) (joined_path p) (found a))
            (unfit_inside (length p) (joined_path p) (found (joined a (as_read rest))))
            (λ u is. ap (unfit_inside (length p) (joined_path p)) found_are
            ∙ unfit_followed (length p) (joined_path p) (found a) rest
            ∙ or_front (unfit_inside (length p) (joined_path p) (found a))
            (unfit_inside (length p) (joined_path p) rest) u is) gave.cause;
        given_up = subst (λ (bs : List Block).
            GivesUpTried does score_of s s' old.bsize (joined a (as_read rest)) bs err) (sym blocks)
            (tried_front does score_of old.bsize s s' a rest
            (blocks_of score_of old.bsize (archived_from old.qid a))
            (blocks_of score_of old.bsize (numbered n (kept rest))) err gave.given_up);
      }
