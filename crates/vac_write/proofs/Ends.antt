-- A folder's archive, written or given up.
use Rattle.std.proofs.Common.{◌≡◌, ℕ, ◌<◌, ◌≤◌, ◌^◌, Bool, false, IsTrue, Option, Some, None, Ok, Err, List, [], ◌∷◌, ◌++◌, length, map, refl, sym, ◌∙◌, ap, subst, arith, append_assoc, append-nil}
use Rattle.std.specs.Prelude.{⊤}
use Rattle.std.specs.Option.{option_or}
use Rattle.std.proofs.lemmas.Bool.{false≢true}
use Rattle.std.proofs.lemmas.List.{map-append}
use Rattle.vt_base.specs.Protocol.{Operation, sync as sync_all}
use Rattle.vt_out.specs.declared.folder_item.Facts.{Facts}
use Rattle.vt_out.specs.FolderItems.{FailingPaths, Items, folder_at}
use Rattle.vt_model.specs.History.{Block}
use Rattle.vt_tree.specs.declared.error.BlockErr.{BlockErr}
use Rattle.vt_tree.specs.declared.error.TreeErr.TheVariants as trees
use Rattle.vt_tree.specs.Calls.{Call, sync, asked_of, write_of_block, TellsOfMap, after}
use Rattle.vt_tree.specs.Making.{Makes, EndsBy}
use Rattle.vt_tree.specs.Maps.{Maps, Has, with_blocks, IsWriteOnce}
use Rattle.vt_tree.specs.Entries.{tree_entry_bytes}
use Rattle.vt_tree.specs.Roots.{root_bytes}
use Rattle.vt_tree.proofs.Appending.{accepted_join}
use Rattle.vt_tree.proofs.Making.{makes_more, makes_one, puts_are_there, puts_leave, told}
use Rattle.vt_tree.proofs.ReadBack.{depth_below_8, depth_reaches, stream_reads_back}
use Rattle.vac_model.specs.declared.TheConstants.{MIN_BLOCK_SIZE, MAX_BLOCK_SIZE}
use Rattle.vac_model.specs.Archives.{archive_of, top_bytes, root_of, directory_entry, metadata_entry, item_entries}
use Rattle.vac_model.specs.Kept.{in_order, kept, numbered, archived, count, left_out}
use Rattle.vac_model.specs.Laws.{ArchivesReadBack}
use Rattle.vac_model.specs.Limits.{Unfit, first_unfit, unfit_in_order, unfit_inside}
use Rattle.vac_model.proofs.Archivable.{fit_is_good}
use Rattle.vac_model.proofs.ReadsBack.{good_tree}
use Rattle.vac_write.specs.declared.archived.Archived.{Archived}
use Rattle.vac_write.specs.declared.archiving.Walk.{Walk}
use Rattle.vac_write.specs.declared.error.VacErr.{VacErr}
use Rattle.vac_write.specs.declared.error.VacErr.TheVariants.{FolderFault, Tree, BadName, TooDeep, NoMemory}
use Rattle.vac_write.specs.declared.streams.FolderEntries.{FolderEntries}
use Rattle.vac_write.specs.Archiving.{FolderRead, HasRisenAtLeast, HasRisenBy, IsSeen, IsUnlisted, IsGivenUpAs, KeepsArchive, PutsFor, WritesArchive, GivesUpArchive, asked_for_all, is_folder_fault, refusal_of}
use Rattle.vac_write.specs.Listing.{IsNotListed, IsUnfitAt, joined_path}
use Rattle.vac_write.specs.Puts.{PutsBlocks, GivesUpBlocks, IsOfStore}
use Rattle.vac_write.specs.Tried.{Tried, whole, found, failed_at, failures, LacksOnly, begun_in, AreWoven}
use Rattle.vac_write.specs.Walking.{all_blocks, archived_from, top_of, root_blocks, unfit_at, IsWholeFolder, PutsTried, GivesUpTried, ArchivesItems, GivesUpItems}
use Rattle.vac_write.proofs.Causes.{at_least, given_up_as, of_store_goes_on}
use Rattle.vac_write.proofs.Failing.{top_fails}
use Rattle.vac_write.proofs.Parts.{of_store_as}
use Rattle.vac_write.proofs.Tried.{as_read, whole_read, found_read, lacks_read, begun_read, are_begun_read, failures_read, found_in_order, many_failed, woven_hold}
use Rattle.vac_write.proofs.TriedPuts.{tried_last, tried_more, tried_then}
use Rattle.vac_write.proofs.Wholly.{unlisted_own}

-- ---- what the store holds

-- the law of archives, from those of streams
reads_back : ArchivesReadBack
reads_back score_of map bsize items len once may has =
    let good = fit_is_good items may.fit may.times may.few in
    good_tree score_of map bsize len may.least may.most
    (λ shape size fits most.
    (depth_below_8 shape size fits most, depth_reaches shape size fits most))
    (λ shape bytes fits short held.
    stream_reads_back score_of map shape bytes len once fits short held)
    (archived items) good.0 good.1 good.2 has

-- a top folder that was tried, by what is known of it
module _ (tells : Bool) (held : Items Facts) (path : List (List ℕ)) (no_path : path ≡ [])
    (tried : Tried) (it : IsWholeFolder tells held path (whole tried)) where
  seen_is : IsTrue tells → whole tried ≡ in_order held
  seen_is telling = it.ordered
      ∙ ap in_order (sym (subst (λ (p : List (List ℕ)). (there : Items Facts)
      → folder_at p held ≡ Some there → there ≡ it.seen) no_path (it.is telling) held refl))

  same_order : in_order (found tried) ≡ found tried
  same_order = found_in_order tried it.seen it.ordered

  unfit_so : unfit_at path (found tried) ≡ first_unfit (found tried)
  unfit_so =
      ap (λ (p : List (List ℕ)). unfit_at p (found tried)) no_path
      ∙ ap unfit_in_order (sym same_order)

  archived_so : (n : ℕ) → n ≡ 1 → archived_from n tried ≡ archived (found tried)
  archived_so n first =
      ap (λ (k : ℕ). archived_from k tried) first
      ∙ ap (λ (items : Items Facts). numbered 1 (kept items)) (sym same_order)

module _ {S : Type 0} (does : S → Call → S → Type 0) (holds : S → Maps → Type 0)
    (score_of : List ℕ → List ℕ) (tells : Bool) (held : Items Facts) (failing : FailingPaths)
    (law : (s s' : S) (call : Call) (m : Maps) → does s call s' → holds s m
    → TellsOfMap score_of m.held call × holds s' (after score_of call m)) where
  -- the folder, of which so many calls had failed before and behind
  abbrev seeing : (f f' : ℕ) → FolderRead
  seeing f f' = record {
    tells = tells;
    held = held;
    failing = failing;
    faults = f;
    faults' = f';
  }

  -- the folder couldn't be listed, or isn't fit, or memory is short before it is known
  pub top_not_listed : (s : S) (f f' bsize : ℕ) (err : VacErr) → HasRisenAtLeast 0 f f'
      → IsNotListed tells held failing [] err
      → GivesUpArchive does holds score_of s s bsize (seeing f f') err
  top_not_listed s f f' bsize err rose cause =
      of err cause (unlisted_own tells held failing [] err cause)
    where
      so : (err : VacErr) (there : Items Facts) → (IsTrue tells → there ≡ held)
          → IsGivenUpAs (IsUnlisted (seeing f f')) err (unfit_at [] (in_order there))
          → refusal_of err ≡ None
          → GivesUpArchive does holds score_of s s bsize (seeing f f') err
      so err there is cause own =
          let inside : Items Facts = in_order there in
          let tried : Tried = as_read inside in
          let blocks : List Block = (archive_of score_of bsize (found tried)).blocks in
          record {
            tried = tried;
            is = record {
              all = λ telling. whole_read inside ∙ ap in_order (is telling);
              lacks = λ telling. lacks_read failing [] inside;
              counted = subst (λ (n : ℕ). HasRisenAtLeast n f f') (sym (failures_read inside)) rose;
            };
            cause = subst (IsGivenUpAs (IsUnlisted (seeing f f')) err)
                (ap (unfit_at []) (sym (found_read inside))
                ∙ unfit_so tells there [] refl tried (record {
                  seen = there;
                  is = λ telling w found. let two : Some there ≡ Some w = found in cc;
                  ordered = whole_read inside;
                })) cause;
            all = blocks;
            puts = record {
              begun = are_begun_read score_of bsize inside;
              woven = subst (λ (rs : List (List Block)). AreWoven rs blocks blocks)
                  (sym (begun_read inside)) refl;
            };
            calls = [];
            made = refl;
            refused = subst (λ (o : Option BlockErr). EndsBy o []) (sym own) refl;
            unlisted = λ fault. refl;
            rest = asked_for_all blocks;
            asked = refl;
            keeps = λ m holds_them. holds_them;
          }

      unfit : (err : VacErr) (why : Unfit)
          → ((o : Option Unfit) → o ≡ Some why → IsGivenUpAs (IsUnlisted (seeing f f')) err o)
          → refusal_of err ≡ None
          → IsUnfitAt tells held [] why
          → GivesUpArchive does holds score_of s s bsize (seeing f f') err
      unfit err why tells_it own it =
          so err it.seen
          (λ telling. let two : Some held ≡ Some it.seen = it.is telling in cc)
          (tells_it (unfit_at [] (in_order it.seen))
          (ap (λ (o : Option Unfit). option_or o (unfit_inside 0 [] (in_order it.seen))) it.unfit))
          own

      of : (err : VacErr) → IsNotListed tells held failing [] err → refusal_of err ≡ None
          → GivesUpArchive does holds score_of s s bsize (seeing f f') err
      of FolderFault cause own =
          so FolderFault held (λ telling. refl) (λ told. top_fails failing held (cause told)) own
      of (Tree (trees.Block err)) cause own = absurd cause
      of (Tree trees.SourceFault) cause own = absurd cause
      of (Tree (trees.BadEntry bad)) cause own = absurd cause
      of (Tree (trees.BadBlock depth len)) cause own = absurd cause
      of (Tree trees.TooLong) cause own = unfit (Tree trees.TooLong) _ (λ o is. is) own cause
      of (Tree trees.NoMemory) cause own = absurd cause
      of (BadName name) cause own = unfit (BadName name) _ (λ o is. is) own cause
      of (TooDeep name) cause own = absurd cause
      of NoMemory cause own = so NoMemory held (λ telling. refl) tt own

  -- of an archive's blocks the first were put
  blocks_given_up : (s s' : S) (f f' bsize : ℕ) (tried : Tried) (err : VacErr)
      → IsSeen (seeing f f') tried → IsGivenUpAs ⊤ err (first_unfit (found tried))
      → is_folder_fault err ≡ false
      → GivesUpTried does score_of s s' bsize tried
      (archive_of score_of bsize (found tried)).blocks err
      → GivesUpArchive does holds score_of s s' bsize (seeing f f') err
  blocks_given_up s s' f f' bsize tried err is cause goes_on gave = record {
    tried = tried;
    is = is;
    cause = given_up_as (IsUnlisted (seeing f f')) err (first_unfit (found tried)) goes_on cause;
    all = gave.all;
    puts = record { begun = gave.begun; woven = gave.woven };
    calls = gave.given_up.calls;
    made = gave.given_up.made;
    refused = gave.given_up.refused;
    unlisted = λ fault. absurd (false≢true (sym goes_on ∙ fault));
    rest = map write_of_block gave.given_up.rest ++ sync_all ∷ [];
    asked =
        sym (append_assoc (map asked_of gave.given_up.calls)
        (map write_of_block gave.given_up.rest) (sync_all ∷ []))
        ∙ ap (λ (l : List Operation). l ++ sync_all ∷ []) gave.given_up.puts;
    keeps = λ m holds_them. (told does holds score_of law s s' gave.given_up.calls m
        gave.given_up.made holds_them).1;
  }

  -- the folder's items were given up
  pub walk_given_up : (s s' : S) (f f' bsize : ℕ) (old : Walk) (err : VacErr)
      → old.path.items ≡ [] → old.qid ≡ 1 → old.bsize ≡ bsize → is_folder_fault err ≡ false
      → GivesUpItems does score_of s s' tells held failing f f' old err
      → GivesUpArchive does holds score_of s s' bsize (seeing f f') err
  walk_given_up s s' f f' bsize old err no_path first size goes_on gave =
      let t : Tried = gave.tried in
      let top : List Block = root_blocks score_of bsize
      (top_bytes score_of bsize (archived (found t))) in
      let numbers = archived_so tells held old.path.items no_path t gave.is old.qid first in
      blocks_given_up s s' f f' bsize t err
      (record {
        all = seen_is tells held old.path.items no_path t gave.is;
        lacks = λ told.
            subst (λ (p : List (List ℕ)). LacksOnly failing p t) no_path (gave.lacks told);
        counted = at_least (failures t) f f' gave.counted;
      })
      (subst (IsGivenUpAs ⊤ err) (unfit_so tells held old.path.items no_path t gave.is) gave.cause)
      goes_on
      (subst (λ (n : ℕ). GivesUpTried does score_of s s' n t
      (archive_of score_of bsize (found t)).blocks err) size
      (subst (λ (bs : List Block). GivesUpTried does score_of s s' old.bsize t bs err)
      (λ i. all_blocks score_of (size i) (numbers i) ++ top)
      (tried_more does score_of old.bsize s s' t
      (all_blocks score_of old.bsize (archived_from old.qid t)) top err gave.given_up)))

  module _ (s mid top end : S) (f f' bsize : ℕ) (old new : Walk) (e : FolderEntries)
      (no_path : old.path.items ≡ []) (first : old.qid ≡ 1) (size : old.bsize ≡ bsize)
      (a : ArchivesItems does score_of s mid tells held failing f f' old new e) where
    abbrev t : Tried
    t = a.tried

    seen : IsSeen (seeing f f') t
    seen = record {
      all = seen_is tells held old.path.items no_path t a.is;
      lacks = λ told. subst (λ (p : List (List ℕ)). LacksOnly failing p t) no_path (a.lacks told);
      counted = at_least (failures t) f f' a.counted;
    }

    fit : first_unfit (found t) ≡ None
    fit = sym (unfit_so tells held old.path.items no_path t a.is) ∙ a.fit

    numbers : archived_from old.qid t ≡ archived (found t)
    numbers = archived_so tells held old.path.items no_path t a.is old.qid first

    top_is : top_of e ≡ top_bytes score_of bsize (archived (found t))
    top_is = λ i. tree_entry_bytes (entries_are i) ++ tree_entry_bytes (metadata_is i)
      where
        entries_are : e.entries ≡ directory_entry score_of bsize
            (item_entries score_of bsize (archived (found t)))
        entries_are = a.entries ∙ (λ i. directory_entry score_of (size i)
            (item_entries score_of (size i) (numbers i)))

        metadata_is : e.metadata ≡ metadata_entry score_of bsize (archived (found t))
        metadata_is = a.metadata ∙ (λ i. metadata_entry score_of (size i) (numbers i))

    blocks_are : all_blocks score_of old.bsize (archived_from old.qid t)
        ++ root_blocks score_of bsize (top_of e)
        ≡ (archive_of score_of bsize (found t)).blocks
    blocks_are = λ i. all_blocks score_of (size i) (numbers i)
        ++ root_blocks score_of bsize (top_is i)

    -- the archive's blocks were put
    module _ (put : PutsBlocks does mid top (root_blocks score_of bsize (top_of e))) where
      all_put : PutsTried does score_of s top bsize t (archive_of score_of bsize (found t)).blocks
      all_put = subst (λ (n : ℕ). PutsTried does score_of s top n t
          (archive_of score_of bsize (found t)).blocks) size
          (subst (PutsTried does score_of s top old.bsize t) blocks_are
          (tried_then does score_of old.bsize s mid top t
          (all_blocks score_of old.bsize (archived_from old.qid t))
          (root_blocks score_of bsize (top_of e)) a.put put))

      abbrev calls : List Call
      calls = all_put.put.calls

      asked_first : map asked_of calls ≡ map write_of_block all_put.all
      asked_first = all_put.put.puts

      made_all : (call : Call) → does top call end → Makes does s (calls ++ call ∷ []) end
      made_all call done = makes_more does s top end all_put.put.calls (call ∷ [])
          all_put.put.made (makes_one does top end call done)

      puts_for : PutsFor score_of bsize t all_put.all
      puts_for = record { begun = all_put.begun; woven = all_put.woven }

      pub sync_refused : (err : BlockErr) → does top (sync (Err err)) end
          → GivesUpArchive does holds score_of s end bsize (seeing f f')
          (Tree (trees.Block err))
      sync_refused err done = record {
        tried = t;
        is = seen;
        cause = tt;
        all = all_put.all;
        puts = puts_for;
        calls = calls ++ sync (Err err) ∷ [];
        made = made_all (sync (Err err)) done;
        refused = record {
          before = calls;
          last = sync (Err err);
          are = refl;
          accepted = all_put.put.accepted;
          refused = refl;
        };
        unlisted = λ fault. absurd (false≢true fault);
        rest = [];
        asked = append-nil (map asked_of (calls ++ sync (Err err) ∷ []))
            ∙ map-append asked_of calls (sync (Err err) ∷ [])
            ∙ ap (λ (l : List Operation). l ++ sync_all ∷ []) asked_first;
        keeps = λ m holds_them. (told does holds score_of law s end
            (calls ++ sync (Err err) ∷ []) m (made_all (sync (Err err)) done)
            holds_them).1;
      }

      module _ (done : does top (sync (Ok tt)) end)
          (once : (s : S) (m : Maps) → holds s m → IsWriteOnce score_of m.held)
          (len : (block : List ℕ) → length (score_of block) ≡ 20)
          (least : MIN_BLOCK_SIZE ≤ bsize) (most : bsize ≤ MAX_BLOCK_SIZE)
          (few : new.qid < 2 ^ 64) where
        count_few : count (archived (found t)) < 2 ^ 64
        count_few = omega (arith, few, a.qid, first, ap count numbers)

        kept_all : (m : Maps) → holds s m
            → KeepsArchive holds score_of end m bsize all_put.all (found t)
        kept_all m holds_them =
            let all = all_put.all in
            let so_far = told does holds score_of law s top calls m all_put.put.made
            holds_them in
            let leaves = puts_leave score_of calls all m asked_first all_put.put.accepted in
            let half : Maps = record m { held = with_blocks score_of all m.held } in
            let at_top : holds top half = subst (holds top) leaves so_far.1 in
            record {
              maps = record half { synced = half.held };
              held = refl;
              synced = refl;
              holds_them = (law top end (sync (Ok tt)) half done at_top).1;
              tree = reads_back score_of half.held bsize (found t) len (once top half at_top)
                  (record {
                    least = least;
                    most = most;
                    fit = fit;
                    times = a.times;
                    few = count_few;
                  })
                  (woven_hold (Has score_of half.held) (begun_in t)
                  (archive_of score_of bsize (found t)).blocks all all_put.woven
                  (puts_are_there score_of calls all m asked_first all_put.put.accepted so_far.0));
            }

        pub archive_written : (result : Archived)
            → result.score.0
            ≡ score_of (root_bytes (root_of score_of bsize (top_of e)))
            → old.skipped.items ≡ [] → result.skipped ≡ new.skipped.items
            → old.failed.items ≡ [] → result.failed ≡ new.failed.items
            → WritesArchive does holds score_of s end bsize (seeing f f') result
        archive_written result scored none_skipped noted none_failed told_failed = record {
          tried = t;
          is = seen;
          fit = fit;
          few = count_few;
          times = a.times;
          score = scored
              ∙ ap (λ (b : List ℕ). score_of (root_bytes (root_of score_of bsize b))) top_is;
          left_out = noted ∙ a.left_out
              ∙ (λ i. none_skipped i ++ left_out (joined_path (no_path i)) (found t))
              ∙ ap (left_out []) (sym (same_order tells held old.path.items no_path t a.is));
          failed = told_failed ∙ a.failed
              ∙ (λ i. none_failed i ++ failed_at (joined_path (no_path i)) t);
          all = all_put.all;
          puts = puts_for;
          calls = calls ++ sync (Ok tt) ∷ [];
          made = made_all (sync (Ok tt)) done;
          accepted = accepted_join calls (sync (Ok tt) ∷ []) all_put.put.accepted refl;
          asked = map-append asked_of calls (sync (Ok tt) ∷ [])
              ∙ ap (λ (l : List Operation). l ++ sync_all ∷ []) asked_first;
          keeps = kept_all;
        }

        -- as many calls have failed as are told
        pub counts_told : (result : Archived) → old.failed.items ≡ []
            → result.failed ≡ new.failed.items → HasRisenBy (length result.failed) f f'
        counts_told result none_failed told_failed =
            let same : length result.failed ≡ failures t =
            ap length (told_failed ∙ a.failed
            ∙ (λ i. none_failed i ++ failed_at (joined_path (no_path i)) t))
            ∙ many_failed [] t in
            omega (arith, same, a.counted)

    -- the root, or the block that it names, wasn't put
    pub root_given_up : (err : VacErr) → IsOfStore err
        → GivesUpBlocks does mid end (root_blocks score_of bsize (top_of e)) err
        → GivesUpArchive does holds score_of s end bsize (seeing f f') err
    root_given_up err own gave =
        blocks_given_up s end f f' bsize t err seen
        (of_store_as err (first_unfit (found t)) own) (of_store_goes_on err own)
        (subst (λ (n : ℕ). GivesUpTried does score_of s end n t
        (archive_of score_of bsize (found t)).blocks err) size
        (subst (λ (bs : List Block). GivesUpTried does score_of s end old.bsize t bs err)
        blocks_are
        (tried_last does score_of old.bsize s mid end t
        (all_blocks score_of old.bsize (archived_from old.qid t))
        (root_blocks score_of bsize (top_of e)) err a.put gave)))
