-- A folder that was archived, or given up.
use Rattle.std.proofs.Common.{◌≡◌, ℕ, ◌/◌, Bool, IsTrue, Option, Some, None, List, [], ◌∷◌, ◌++◌, length, refl, sym, ◌∙◌, ap, subst, arith, append_assoc, append-nil}
use Rattle.std.specs.List.{flat_map}
use Rattle.std.specs.Option.{option_or}
use Rattle.vt_out.specs.declared.folder_item.Facts.{Facts}
use Rattle.vt_out.specs.declared.folder_item.Item.{Item}
use Rattle.vt_out.specs.declared.folder_item.ItemKind.TheVariants as kinds
use Rattle.vt_out.specs.FolderItems.{FailingPaths, Items, none, file, folder, other, listed_item, listing_of, folder_at}
use Rattle.vt_model.specs.History.{Block}
use Rattle.vt_tree.specs.declared.error.TreeErr.TheVariants as trees
use Rattle.vt_tree.specs.Calls.{Call}
use Rattle.vt_tree.specs.Entries.{tree_entry_bytes}
use Rattle.vt_tree.specs.Streams.{stream_of, entry_of_stream}
use Rattle.vac_meta.specs.Records.{all_spelled}
use Rattle.vac_model.specs.Archives.{file_shape, directory_shape, records_of, item_entries, blocks_of, folder_blocks, metadata}
use Rattle.vac_model.specs.Kept.{Numbered, in_order}
use Rattle.vac_model.specs.Limits.{Unfit, unfit_listing, unfit_inside}
use Rattle.vac_write.specs.declared.archiving.Walk.{Walk}
use Rattle.vac_write.specs.declared.error.VacErr.{VacErr}
use Rattle.vac_write.specs.declared.error.VacErr.TheVariants.{FolderFault, Tree, BadName, TooDeep, NoMemory}
use Rattle.vac_write.specs.declared.streams.FolderEntries.{FolderEntries}
use Rattle.vac_write.specs.declared.streams.Streams.{Streams}
use Rattle.vac_write.specs.Archiving.{HasRisenBy, refusal_of}
use Rattle.vac_write.specs.Listing.{IsNotListed, IsSeenAt, AreListed, joined_path}
use Rattle.vac_write.specs.Puts.{PutsBlocks, GivesUpBlocks, IsOfStore}
use Rattle.vac_write.specs.Tried.{Tried, whole, found, failures, LacksOnly}
use Rattle.vac_write.specs.Walking.{unfit_at, archived_from, streams_blocks, IsWholeFolder, AreItemsAt, ArchivesPart, GivesUpItem, WritesStreams, ArchivesItems, GivesUpItems}
use Rattle.vac_write.proofs.Followed.{followed, followed_none, listing_followed}
use Rattle.vac_write.proofs.Parts.{as_unfit, of_store_as, or_behind, part_then_given_up, part_given_up}
use Rattle.vac_write.proofs.FoundFits.{found_fits}
use Rattle.vac_write.proofs.Tried.{joined, whole_joined, lacks_joined, failures_joined, as_read, whole_read, lacks_read, failures_read}
use Rattle.vac_write.proofs.TriedPuts.{tried_last, tried_more, tried_then}
use Rattle.vac_write.proofs.Wholes.{Climb, Whole, are_as, are_followed, listed_climb, whole_of}

-- a folder of which nothing is known but what is told
pub any_seen : (tells : Bool) (held : Items Facts) (path : List (List ℕ))
    → (seen : Items Facts) × IsSeenAt tells held path seen
any_seen tells held path = of (folder_at path held) refl
  where
    of : (o : Option (Items Facts)) → folder_at path held ≡ o
        → (seen : Items Facts) × IsSeenAt tells held path seen
    of None is = (
      none,
      λ telling whole found.
          let two : None ≡ Some whole = sym is ∙ found in let never : ⊥ = cc in absurd never,
    )
    of (Some inside) is = (
      inside,
      λ telling whole found.
          let two : Some whole ≡ Some inside = sym found ∙ is in cc,
    )

nothing_listed : (items : Items Facts) → listing_of items ≡ [] → items ≡ none
nothing_listed none is = refl
nothing_listed (file about bytes others) is =
    let e : listed_item about kinds.File ∷ listing_of others ≡ [] = is in
    let never : ⊥ = cc in absurd never
nothing_listed (folder about inside others) is =
    let e : listed_item about kinds.Folder ∷ listing_of others ≡ [] = is in
    let never : ⊥ = cc in absurd never
nothing_listed (other about others) is =
    let e : listed_item about kinds.Other ∷ listing_of others ≡ [] = is in
    let never : ⊥ = cc in absurd never

-- no call of the store is why a folder isn't listed
pub unlisted_own : (tells : Bool) (held : Items Facts) (failing : FailingPaths)
    (path : List (List ℕ)) (err : VacErr) → IsNotListed tells held failing path err
    → refusal_of err ≡ None
unlisted_own tells held failing path FolderFault cause = refl
unlisted_own tells held failing path (Tree (trees.Block err)) cause = absurd cause
unlisted_own tells held failing path (Tree trees.SourceFault) cause = absurd cause
unlisted_own tells held failing path (Tree (trees.BadEntry bad)) cause = absurd cause
unlisted_own tells held failing path (Tree (trees.BadBlock depth len)) cause = absurd cause
unlisted_own tells held failing path (Tree trees.TooLong) cause = refl
unlisted_own tells held failing path (Tree trees.NoMemory) cause = absurd cause
unlisted_own tells held failing path (BadName name) cause = refl
unlisted_own tells held failing path (TooDeep name) cause = absurd cause
unlisted_own tells held failing path NoMemory cause = refl

-- ---- what it holds, and its count, stay

pub gave_as : {S : Type 0} (does : S → Call → S → Type 0) (score_of : List ℕ → List ℕ)
    (s s' : S) (tells : Bool) (then held : Items Facts) (before failing : FailingPaths) (f f' : ℕ)
    (old : Walk) (item : Item) (err : VacErr) → (IsTrue tells → then ≡ held)
    → (IsTrue tells → before ≡ failing)
    → GivesUpItem does score_of s s' tells then before f f' old item err
    → GivesUpItem does score_of s s' tells held failing f f' old item err
gave_as does score_of s s' tells then held before failing f f' old item err same paths gave = record {
  part = gave.part;
  lists = gave.lists;
  are = are_as tells then held old.path.items (whole gave.part) same gave.are;
  lacks = λ told. subst (λ (p : FailingPaths). LacksOnly p old.path.items gave.part) (paths told)
      (gave.lacks told);
  part_is = gave.part_is;
  counted = gave.counted;
}

pub listed_as_held : (tells : Bool) (then held : Items Facts) (path : List (List ℕ))
    (items : List Item) → (IsTrue tells → then ≡ held) → AreListed tells held path items
    → AreListed tells then path items
listed_as_held tells then held path items same listed = record {
  seen = listed.seen;
  is = λ telling. ap (folder_at path) (same telling) ∙ listed.is telling;
  ordered = listed.ordered;
  fit = listed.fit;
}

whole_as : (tells : Bool) (then held : Items Facts) (path : List (List ℕ)) (inside : Items Facts)
    → (IsTrue tells → then ≡ held) → IsWholeFolder tells then path inside
    → IsWholeFolder tells held path inside
whole_as tells then held path inside same it = record {
  seen = it.seen;
  is = λ telling there found. it.is telling there (ap (folder_at path) (same telling) ∙ found);
  ordered = it.ordered;
}

module _ {S : Type 0} (does : S → Call → S → Type 0) (score_of : List ℕ → List ℕ) (s s' : S)
    (tells : Bool) (then held : Items Facts) (before failing : FailingPaths) (f g f' : ℕ)
    (old : Walk) (same : IsTrue tells → then ≡ held) (paths : IsTrue tells → before ≡ failing)
    (counts : g ≡ f) where
  lacks_as : (tried : Tried) → (IsTrue tells → LacksOnly before old.path.items tried)
      → IsTrue tells → LacksOnly failing old.path.items tried
  lacks_as tried lacks told =
      subst (λ (p : FailingPaths). LacksOnly p old.path.items tried) (paths told) (lacks told)

  pub items_as : (new : Walk) (e : FolderEntries)
      → ArchivesItems does score_of s s' tells then before g f' old new e
      → ArchivesItems does score_of s s' tells held failing f f' old new e
  items_as new e a = record {
    tried = a.tried;
    is = whole_as tells then held old.path.items (whole a.tried) same a.is;
    fit = a.fit;
    times = a.times;
    entries = a.entries;
    metadata = a.metadata;
    qid = a.qid;
    left_out = a.left_out;
    failed = a.failed;
    path = a.path;
    bsize = a.bsize;
    put = a.put;
    lacks = lacks_as a.tried a.lacks;
    counted = subst (λ (n : ℕ). HasRisenBy (failures a.tried) n f') counts a.counted;
  }

  pub gave_items_as : (err : VacErr)
      → GivesUpItems does score_of s s' tells then before g f' old err
      → GivesUpItems does score_of s s' tells held failing f f' old err
  gave_items_as err gave = record {
    tried = gave.tried;
    is = whole_as tells then held old.path.items (whole gave.tried) same gave.is;
    cause = gave.cause;
    given_up = gave.given_up;
    lacks = lacks_as gave.tried gave.lacks;
    counted = subst (λ (n : ℕ). HasRisenBy (failures gave.tried) n f') counts gave.counted;
  }

module _ {S : Type 0} (does : S → Call → S → Type 0) (score_of : List ℕ → List ℕ)
    (tells : Bool) (held : Items Facts) (failing : FailingPaths) (items : List Item) (old : Walk)
    (listed : AreListed tells held old.path.items items) where
  -- an item was given up, behind others that were tried
  pub items_given_up : (s mid s' : S) (f g f' : ℕ) (half : Walk) (from between : Streams)
      (done : Tried) (item : Item) (left : List Item) (err : VacErr)
      → items ≡ listing_of (whole done) ++ (item ∷ left)
      → AreItemsAt tells held old.path.items (whole done)
      → (IsTrue tells → LacksOnly failing old.path.items done)
      → ArchivesPart does score_of s mid old half from between done
      → HasRisenBy (failures done) f g
      → GivesUpItem does score_of mid s' tells held failing g f' half item err
      → GivesUpItems does score_of s s' tells held failing f f' old err
  items_given_up s mid s' f g f' half from between done item left err split are lacks first counts
      gave =
      let path = old.path.items in
      let there : Items Facts = followed (whole done) (whole gave.part) in
      let all : Tried = joined done gave.part in
      let both : AreItemsAt tells held path there =
      are_followed tells held path (whole done) (whole gave.part) are
      (subst (λ (p : List (List ℕ)). AreItemsAt tells held p (whole gave.part)) first.path
      gave.are) in
      let listing : listing_of there ≡ listing_of (whole done) ++ item ∷ [] =
      listing_followed (whole done) (whole gave.part)
      ∙ ap (λ (l : List Item). listing_of (whole done) ++ l) gave.lists in
      let parts : items ≡ listing_of there ++ left =
      split ∙ sym (append_assoc (listing_of (whole done)) (item ∷ []) left)
      ∙ ap (λ (l : List Item). l ++ left) (sym listing) in
      let stands = whole_of tells held path items there left listed parts both in
      let tried : Tried = joined all (as_read stands.rest) in
      let whole_is : whole tried ≡ in_order stands.seen =
      whole_joined all (as_read stands.rest)
      ∙ (λ i. followed (whole_joined done gave.part i) (whole_read stands.rest i))
      ∙ sym stands.ordered in
      let lists : items ≡ listing_of (whole tried) =
      parts ∙ ap (λ (l : List Item). listing_of there ++ l) (sym stands.lists)
      ∙ sym (listing_followed there stands.rest)
      ∙ ap listing_of (sym stands.ordered ∙ sym whole_is) in
      let gives = part_given_up does score_of s s' old all stands.rest err
      (part_then_given_up does score_of s mid s' old half from between done gave.part first err
      gave.part_is) in
      let fit : unfit_listing (joined_path path) (found tried) ≡ None =
      found_fits (joined_path path) tried
      (subst (Climb None) lists (listed_climb tells held path items listed))
      (ap (unfit_listing (joined_path path)) whole_is ∙ stands.fit) in
      record {
        tried = tried;
        is = record {
          seen = stands.seen;
          is = stands.is;
          ordered = whole_is;
        };
        cause = as_unfit err
            (unfit_inside (length path) (joined_path path) (found tried))
            (unfit_at path (found tried))
            (λ u is. or_behind (unfit_listing (joined_path path) (found tried))
            (unfit_inside (length path) (joined_path path) (found tried)) u fit is) gives.cause;
        given_up = tried_more does score_of old.bsize s s' tried
            (blocks_of score_of old.bsize (archived_from old.qid tried))
            (folder_blocks score_of old.bsize (archived_from old.qid tried)) err gives.given_up;
        lacks = λ told. lacks_joined failing path all (as_read stands.rest)
            (lacks_joined failing path done gave.part (lacks told)
            (subst (λ (p : List (List ℕ)). LacksOnly failing p gave.part) first.path
            (gave.lacks told)))
            (lacks_read failing path stands.rest);
        counted = omega (
          arith,
          counts,
          gave.counted,
          failures_joined all (as_read stands.rest),
          failures_joined done gave.part,
          failures_read stands.rest,
        );
      }

  module _ (s mid : S) (f g : ℕ) (half : Walk) (from to : Streams) (done : Tried)
      (no_entries : from.entries.items ≡ []) (no_metadata : from.metadata.items ≡ [])
      (all : items ≡ listing_of (whole done))
      (are : AreItemsAt tells held old.path.items (whole done))
      (lacks : IsTrue tells → LacksOnly failing old.path.items done)
      (first : ArchivesPart does score_of s mid old half from to done)
      (counts : HasRisenBy (failures done) f g) where
    abbrev x : Items Numbered
    x = archived_from old.qid done

    stands : Whole tells held old.path.items (whole done) []
    stands = whole_of tells held old.path.items items (whole done) []
        listed (all ∙ sym (append-nil (listing_of (whole done)))) are

    whole_is : whole done ≡ in_order stands.seen
    whole_is = sym (stands.ordered
        ∙ ap (followed (whole done)) (nothing_listed stands.rest stands.lists)
        ∙ followed_none (whole done))

    there : IsWholeFolder tells held old.path.items (whole done)
    there = record {
      seen = stands.seen;
      is = stands.is;
      ordered = whole_is;
    }

    entries_are : to.entries.items
        ≡ flat_map tree_entry_bytes (item_entries score_of old.bsize x)
    entries_are =
        first.entries
        ∙ ap (λ (l : List ℕ). l ++ flat_map tree_entry_bytes (item_entries score_of old.bsize x))
        no_entries

    metadata_is : to.metadata.items ≡ metadata x
    metadata_is =
        first.metadata
        ∙ (λ i. no_metadata i ++ all_spelled (records_of (length (no_entries i) / 40) x))

    blocks_are : streams_blocks score_of old.bsize to ≡ folder_blocks score_of old.bsize x
    blocks_are = λ i.
        (stream_of score_of (directory_shape old.bsize) (entries_are i)).blocks
        ++ (stream_of score_of (file_shape old.bsize) (metadata_is i)).blocks

    fits : unfit_at old.path.items (found done) ≡ None
    fits =
        ap (λ (o : Option Unfit). option_or o (unfit_inside (length old.path.items)
        (joined_path old.path.items) (found done)))
        (found_fits (joined_path old.path.items) done
        (subst (Climb None) all (listed_climb tells held old.path.items items listed))
        (ap (unfit_listing (joined_path old.path.items)) whole_is ∙ stands.fit))
        ∙ first.fit

    pub items_archived : (s' : S) (e : FolderEntries)
        → WritesStreams does score_of mid s' half.bsize to e
        → ArchivesItems does score_of s s' tells held failing f g old half e
    items_archived s' e wrote =
        let same = first.bsize in
        record {
          tried = done;
          is = there;
          fit = fits;
          times = first.times;
          entries = wrote.entries
              ∙ (λ i. entry_of_stream score_of (directory_shape (same i)) (entries_are i));
          metadata = wrote.metadata
              ∙ (λ i. entry_of_stream score_of (file_shape (same i)) (metadata_is i));
          qid = first.qid;
          left_out = first.left_out;
          failed = first.failed;
          path = first.path;
          bsize = first.bsize;
          put = tried_then does score_of old.bsize s mid s' done
              (blocks_of score_of old.bsize x) (folder_blocks score_of old.bsize x) first.put
              (subst (PutsBlocks does mid s') blocks_are
              (subst (λ (n : ℕ). PutsBlocks does mid s' (streams_blocks score_of n to)) same
              wrote.put));
          lacks = lacks;
          counted = counts;
        }

    pub streams_given_up : (s' : S) (err : VacErr) → IsOfStore err
        → GivesUpBlocks does mid s' (streams_blocks score_of half.bsize to) err
        → GivesUpItems does score_of s s' tells held failing f g old err
    streams_given_up s' err own gave = record {
      tried = done;
      is = there;
      cause = of_store_as err (unfit_at old.path.items (found done)) own;
      given_up = tried_last does score_of old.bsize s mid s' done
          (blocks_of score_of old.bsize x) (folder_blocks score_of old.bsize x) err first.put
          (subst (λ (bs : List Block). GivesUpBlocks does mid s' bs err) blocks_are
          (subst (λ (n : ℕ). GivesUpBlocks does mid s' (streams_blocks score_of n to) err)
          first.bsize gave));
      lacks = lacks;
      counted = counts;
    }
