-- One item of a folder that was archived, or given up.
use Rattle.std.proofs.Common.{◌≡◌, ℕ, ◌+◌, ◌-◌, ◌*◌, ◌/◌, ◌<◌, ◌≤◌, ◌^◌, Bool, false, cond, Option, Some, None, List, [], ◌∷◌, ◌++◌, length, map, take, refl, sym, ◌∙◌, ap, subst, arith, append_assoc, append-nil, length-append}
use Rattle.std.specs.Prelude.{⊤, IsTrue, nat_lt, nat_le}
use Rattle.std.specs.Option.{option_or}
use Rattle.std.proofs.lemmas.Bool.{le-leb, le-ltb, lt-leb, lt-ltb}
use Rattle.std.proofs.lemmas.List.{take_at}
use Rattle.vt_out.specs.declared.folder_item.Facts.{Facts}
use Rattle.vt_out.specs.declared.folder_item.Item.{Item}
use Rattle.vt_out.specs.declared.folder_item.ItemKind.{ItemKind}
use Rattle.vt_out.specs.declared.folder_item.ItemKind.TheVariants as kinds
use Rattle.vt_out.specs.FolderItems.{FailingPaths, Items, none, file, folder, other, listed_item, listing_of, HaveBytes}
use Rattle.vt_model.specs.History.{Block}
use Rattle.vt_tree.specs.declared.entry.Entry.{Entry}
use Rattle.vt_tree.specs.declared.error.TreeErr.TheVariants as trees
use Rattle.vt_tree.specs.Calls.{Call, asked_of}
use Rattle.vt_tree.specs.Entries.{IsTreeEntry, tree_entry_bytes}
use Rattle.vt_tree.specs.Making.{EndsBy}
use Rattle.vt_tree.specs.Maps.{Maps}
use Rattle.vt_tree.specs.Streams.{Shape, stream_of}
use Rattle.vt_tree.specs.Writing.{WritesStream}
use Rattle.vac_meta.specs.declared.record.RecordKind.TheVariants as records
use Rattle.vac_meta.specs.Records.{record_bytes}
use Rattle.vac_model.specs.declared.TheConstants.{MAX_FILE, MAX_NESTING}
use Rattle.vac_model.specs.Archives.{file_shape, blocks_of, item_entries, directory_entry, metadata_entry}
use Rattle.vac_model.specs.Kept.{in_order, count, path_to, left_out}
use Rattle.vac_model.specs.Limits.{Unfit, too_long, too_deep, unfit_listing, unfit_inside}
use Rattle.vac_model.proofs.Stands.{entry_len}
use Rattle.vac_write.specs.declared.archiving.Walk.{Walk}
use Rattle.vac_write.specs.declared.error.VacErr.{VacErr}
use Rattle.vac_write.specs.declared.error.VacErr.TheVariants.{FolderFault, Tree, BadName, TooDeep, NoMemory}
use Rattle.vac_write.specs.declared.streams.FolderEntries.{FolderEntries}
use Rattle.vac_write.specs.declared.streams.Streams.{Streams}
use Rattle.vac_write.specs.Archiving.{HasRisenBy, IsGivenUpAs, refusal_of}
use Rattle.vac_write.specs.Files.{IsUnread, IsWholeFile, IsStreamGivenUpFor, GivesUpTree}
use Rattle.vac_write.specs.Listing.{IsNotListed, IsSeenAt, IsUnfitAt, StandsAt, joined_path, joined_behind}
use Rattle.vac_write.specs.Puts.{PutsBlocks, GivesUpBlocks}
use Rattle.vac_write.specs.Sources.{bytes_at_path, file_is, or_none}
use Rattle.vac_write.specs.Tried.{Tried, whole, found, failed_at, LacksOnly, begun_in, AreBegun, AreFirst, AreWoven}
use Rattle.vac_write.specs.Tried as tries
use Rattle.vac_write.specs.Walking.{unfit_at, archived_from, all_blocks, record_for, IsWholeFolder, AreItemsAt, PutsTried, ArchivesItem, GivesUpItem, ArchivesItems, GivesUpItems}
use Rattle.vac_write.proofs.Failing.{read_fails}
use Rattle.vac_write.proofs.Filed.{Front, front_of, wrote_blocks}
use Rattle.vac_write.proofs.Puts.{puts_none, gives_none, gives_front}
use Rattle.vac_write.proofs.Tried.{as_read, whole_read, found_read, lacks_read, begun_read, are_begun_read, failures_read, woven_alone}
use Rattle.vac_write.proofs.TriedPuts.{untried}
use Rattle.vac_write.proofs.Wholes.{facts_of}
use Rattle.vac_write.proofs.Wholly.{any_seen, unlisted_own}

-- ---- paths

pub joined_one : (path : List ℕ) (names : List (List ℕ)) (name : List ℕ)
    → joined_behind path (names ++ name ∷ []) ≡ path_to (joined_behind path names) name
joined_one path [] name = refl
joined_one path (first ∷ names) name = joined_one (path_to path first) names name

one_longer : {A : Type 0} (xs : List A) (x : A) → length (xs ++ x ∷ []) ≡ length xs + 1
one_longer xs x = length-append xs (x ∷ [])

-- what a path was before a name was put behind it
pub popped : (whole path : List (List ℕ)) (name : List ℕ) (n : ℕ) (left : List (List ℕ))
    → whole ≡ path ++ name ∷ [] → n ≡ length whole → left ≡ take (n - 1) whole → left ≡ path
popped whole path name n left is len taken =
    taken ∙ ap (λ (l : List (List ℕ)). take (n - 1) l) is
    ∙ take_at path (name ∷ []) (n - 1) (omega (arith, ap length is, one_longer path name))

-- an item by what is known of it and its kind
listed_as : (item : Item) (k : ItemKind) → item.kind ≡ k
    → listed_item (facts_of item) k ∷ [] ≡ item ∷ []
listed_as item k is = λ i. (record item { kind = sym is i }) ∷ []

not_long : (n : ℕ) → n ≤ 2 ^ 40 → nat_lt MAX_FILE n ≡ false
not_long n few = le-ltb MAX_FILE n few

module _ {S : Type 0} (does : S → Call → S → Type 0) (score_of : List ℕ → List ℕ)
    (tells : Bool) (held : Items Facts) (failing : FailingPaths) where
  -- what was put, before something else was given up
  gives_done : (s s' : S) (blocks : List Block) (err : VacErr) → refusal_of err ≡ None
      → PutsBlocks does s s' blocks → GivesUpBlocks does s s' blocks err
  gives_done s s' blocks err own put = record {
    calls = put.calls;
    made = put.made;
    refused = subst (λ o. EndsBy o put.calls) (sym own) put.accepted;
    rest = [];
    puts = append-nil _ ∙ put.puts;
  }

  -- ---- neither a file nor a folder

  pub other_archived : (s : S) (f f' : ℕ) (old new : Walk) (streams : Streams) (item : Item)
      → item.kind ≡ kinds.Other → HasRisenBy 0 f f'
      → new.qid ≡ old.qid → new.path.items ≡ old.path.items → new.bsize ≡ old.bsize
      → new.failed.items ≡ old.failed.items
      → new.skipped.items
      ≡ old.skipped.items ++ path_to (joined_path old.path.items) item.name ∷ []
      → ArchivesItem does score_of s s tells held failing f f' old new streams streams item
  other_archived s f f' old new streams item kind counted qid path bsize failed skipped = record {
    part = tries.passed (facts_of item) tries.no_more;
    lists = listed_as item kinds.Other kind;
    are = tt;
    lacks = λ told. tt;
    archived = record {
      fit = refl;
      times = tt;
      entries = sym (append-nil streams.entries.items);
      places = none_more (length streams.entries.items);
      metadata = sym (append-nil streams.metadata.items);
      qid = omega (arith, qid);
      left_out = skipped;
      failed = failed ∙ sym (append-nil old.failed.items);
      path = path;
      bsize = bsize;
      put = record {
        all = [];
        begun = tt;
        woven = refl;
        put = puts_none does s;
      };
    };
    counted = counted;
  }
    where
      none_more : (n : ℕ) → n ≡ n + 40 * 0
      none_more n = omega arith

  -- ---- nothing was put

  -- an item of any kind, of which nothing is known but what is told
  any_item : HaveBytes held → (path : List (List ℕ)) (item : Item) (k : ItemKind)
      → item.kind ≡ k
      → (part : Items Facts) × (listing_of part ≡ item ∷ []) × AreItemsAt tells held path part
  any_item have path item kinds.File kind = (
    file (facts_of item) (bytes_at_path (path ++ item.name ∷ []) held) none,
    listed_as item kinds.File kind,
    (
      record {
        are = (file_is (path ++ item.name ∷ []) held have).are;
        is = λ telling whole found. sym (ap or_none found);
      },
      tt,
    ),
  )
  any_item have path item kinds.Folder kind =
      let seen = any_seen tells held (path ++ item.name ∷ []) in (
        folder (facts_of item) (in_order seen.0) none,
        listed_as item kinds.Folder kind,
        (
          record {
            seen = seen.0;
            is = seen.1;
            ordered = refl;
          },
          tt,
        ),
      )
  any_item have path item kinds.Other kind =
      (other (facts_of item) none, listed_as item kinds.Other kind, tt)

  pub item_not_begun : HaveBytes held → (s : S) (f f' : ℕ) (old : Walk) (item : Item)
      (err : VacErr) → HasRisenBy 0 f f' → ((o : Option Unfit) → IsGivenUpAs ⊤ err o)
      → refusal_of err ≡ None → GivesUpItem does score_of s s tells held failing f f' old item err
  item_not_begun have s f f' old item err counted free own =
      let one = any_item have old.path.items item item.kind refl in
      let same = whole_read one.0 in
      record {
        part = as_read one.0;
        lists = ap listing_of same ∙ one.1;
        are = subst (AreItemsAt tells held old.path.items) (sym same) one.2;
        lacks = λ told. lacks_read failing old.path.items one.0;
        part_is = record {
          cause = free (unfit_inside (length old.path.items) (joined_path old.path.items)
              (found (as_read one.0)));
          given_up = untried does score_of old.bsize s one.0
              (blocks_of score_of old.bsize (archived_from old.qid (as_read one.0))) err own;
        };
        counted = omega (arith, counted, failures_read one.0);
      }

  -- ---- a file

  module _ (holds : S → Maps → Type 0) (s s' : S) (f f' : ℕ) (old : Walk) (item : Item)
      (kind : item.kind ≡ kinds.File) where
    abbrev shape : Shape
    shape = file_shape old.bsize

    abbrev There : List ℕ → Type 0
    There = IsWholeFile tells held (old.path.items ++ item.name ∷ [])

    -- its tree was put, and memory is short for its record
    pub file_unrecorded : HasRisenBy 0 f f' → (e : Entry) (err : VacErr)
        → ((o : Option Unfit) → IsGivenUpAs ⊤ err o) → refusal_of err ≡ None
        → WritesStream does holds score_of s s' shape There e
        → GivesUpItem does score_of s s' tells held failing f f' old item err
    file_unrecorded counted e err free own w = record {
      part = tries.read (facts_of item) w.bytes tries.no_more;
      lists = listed_as item kinds.File kind;
      are = (w.is_taken, tt);
      lacks = λ told. tt;
      part_is = record {
        cause = free (unfit_inside (length old.path.items) (joined_path old.path.items)
            (file (facts_of item) w.bytes none));
        given_up = record {
          all = (stream_of score_of shape w.bytes).blocks ++ [];
          begun = tt;
          woven = refl;
          given_up = gives_front does s s' (stream_of score_of shape w.bytes).blocks [] err
              (gives_done s s' (stream_of score_of shape w.bytes).blocks err own
              (wrote_blocks does holds score_of s s' shape There e w));
        };
      };
      counted = counted;
    }

    pub file_not_written : HasRisenBy 0 f f' → (err : VacErr)
        → GivesUpTree does score_of s s' shape There (IsUnread tells held failing
        (old.path.items ++ item.name ∷ [])) err
        → GivesUpItem does score_of s s' tells held failing f f' old item err
    file_not_written counted err t = record {
      part = tries.read (facts_of item) t.bytes tries.no_more;
      lists = listed_as item kinds.File kind;
      are = (t.is, tt);
      lacks = λ told. tt;
      part_is = record {
        cause = of (IsUnread tells held failing (old.path.items ++ item.name ∷ [])) err
            (length t.bytes) t.cause;
        given_up = record {
          all = (stream_of score_of shape t.bytes).blocks ++ [];
          begun = tt;
          woven = refl;
          given_up = gives_front does s s' (stream_of score_of shape t.bytes).blocks [] err
              t.given_up;
        };
      };
      counted = counted;
    }
      where
        of : (P : Type 0) (err : VacErr) (n : ℕ) → IsStreamGivenUpFor P err n
            → IsGivenUpAs ⊤ err (cond (nat_lt MAX_FILE n) (Some too_long) None)
        of P FolderFault n cause = tt
        of P (Tree (trees.Block err)) n cause = tt
        of P (Tree trees.SourceFault) n cause = cause
        of P (Tree (trees.BadEntry bad)) n cause = cause
        of P (Tree (trees.BadBlock depth len)) n cause = cause
        of P (Tree trees.TooLong) n cause =
            ap (λ (t : Bool). cond t (Some too_long) None) (lt-ltb MAX_FILE n cause)
        of P (Tree trees.NoMemory) n cause = tt
        of P (BadName path) n cause = absurd cause
        of P (TooDeep path) n cause = absurd cause
        of P NoMemory n cause = tt

    pub file_archived : HasRisenBy 0 f f' → (new : Walk) (from to : Streams) (e : Entry)
        → WritesStream does holds score_of s s' shape There e
        → IsTreeEntry e → item.mtime < 2 ^ 32
        → new.qid ≡ old.qid + 1 → new.path.items ≡ old.path.items → new.bsize ≡ old.bsize
        → new.skipped.items ≡ old.skipped.items → new.failed.items ≡ old.failed.items
        → to.entries.items ≡ from.entries.items ++ tree_entry_bytes e
        → to.metadata.items ≡ from.metadata.items ++ record_bytes
        (record_for item records.File (length from.entries.items / 40) old.qid)
        → ArchivesItem does score_of s s' tells held failing f f' old new from to item
    file_archived counted new from to e w allowed time qid path bsize skipped failed entries
        metadata = record {
          part = tries.read (facts_of item) w.bytes tries.no_more;
          lists = listed_as item kinds.File kind;
          are = (w.is_taken, tt);
          lacks = λ told. tt;
          archived = record {
            fit = ap (λ (t : Bool). cond t (Some too_long) None) (not_long (length w.bytes) w.most);
            times = (time, tt);
            entries =
                entries
                ∙ ap (λ (l : List ℕ). from.entries.items ++ l)
                (sym (append-nil (tree_entry_bytes e))
                ∙ ap (λ (x : Entry). tree_entry_bytes x ++ []) w.entry_is);
            places = omega (
              arith,
              ap length entries,
              length-append from.entries.items (tree_entry_bytes e),
              entry_len e allowed,
            );
            metadata =
                metadata
                ∙ ap (λ (l : List ℕ). from.metadata.items ++ l) (sym (append-nil (record_bytes
                (record_for item records.File (length from.entries.items / 40) old.qid))));
            qid = omega (arith, qid);
            left_out = skipped ∙ sym (append-nil old.skipped.items);
            failed = failed ∙ sym (append-nil old.failed.items);
            path = path;
            bsize = bsize;
            put = record {
              all = (stream_of score_of shape w.bytes).blocks ++ [];
              begun = tt;
              woven = refl;
              put = subst (PutsBlocks does s s')
                  (sym (append-nil (stream_of score_of shape w.bytes).blocks))
                  (wrote_blocks does holds score_of s s' shape There e w);
            };
          };
          counted = counted;
        }

    -- ---- a file of which a read has failed

    module _ (t : GivesUpTree does score_of s s' shape There (IsUnread tells held failing
        (old.path.items ++ item.name ∷ [])) FolderFault)
        (stands : IsTrue tells → StandsAt held (old.path.items ++ item.name ∷ []) item.kind) where
      -- a read of it may fail, since it stands there
      may : IsTrue tells → IsTrue (failing.read (old.path.items ++ item.name ∷ []))
      may told = read_fails failing held (old.path.items ++ item.name ∷ []) (t.cause told)
          (subst (StandsAt held (old.path.items ++ item.name ∷ [])) kind (stands told))

      -- the blocks that were put are the first of its tree
      front : Front (map asked_of t.given_up.calls) t.given_up.rest
          (stream_of score_of shape t.bytes).blocks
      front = front_of (map asked_of t.given_up.calls) t.given_up.rest
          (stream_of score_of shape t.bytes).blocks t.given_up.puts

      abbrev lost : Tried
      lost = tries.unread (facts_of item) t.bytes front.put tries.no_more

      was_put : PutsBlocks does s s' front.put
      was_put = record {
        calls = t.given_up.calls;
        made = t.given_up.made;
        accepted = t.given_up.refused;
        puts = front.is;
      }

      first : AreFirst score_of old.bsize t.bytes front.put
      first = record { rest = front.behind; are = front.are }

      pub file_unread : HasRisenBy 1 f f' → (new : Walk) (streams : Streams)
          → new.qid ≡ old.qid → new.path.items ≡ old.path.items → new.bsize ≡ old.bsize
          → new.skipped.items ≡ old.skipped.items
          → new.failed.items
          ≡ old.failed.items ++ path_to (joined_path old.path.items) item.name ∷ []
          → ArchivesItem does score_of s s' tells held failing f f' old new streams streams item
      file_unread counted new streams qid path bsize skipped failed = record {
        part = lost;
        lists = listed_as item kinds.File kind;
        are = (t.is, tt);
        lacks = λ told. (may told, tt);
        archived = record {
          fit = refl;
          times = tt;
          entries = sym (append-nil streams.entries.items);
          places = none_more (length streams.entries.items);
          metadata = sym (append-nil streams.metadata.items);
          qid = omega (arith, qid);
          left_out = skipped ∙ sym (append-nil old.skipped.items);
          failed = failed;
          path = path;
          bsize = bsize;
          put = record {
            all = front.put;
            begun = (first, tt);
            woven = woven_alone front.put;
            put = was_put;
          };
        };
        counted = counted;
      }
        where
          none_more : (n : ℕ) → n ≡ n + 40 * 0
          none_more n = omega arith

      -- and memory is short for its path
      pub file_untold : HasRisenBy 1 f f' → (err : VacErr)
          → ((o : Option Unfit) → IsGivenUpAs ⊤ err o) → refusal_of err ≡ None
          → GivesUpItem does score_of s s' tells held failing f f' old item err
      file_untold counted err free own = record {
        part = lost;
        lists = listed_as item kinds.File kind;
        are = (t.is, tt);
        lacks = λ told. (may told, tt);
        part_is = record {
          cause = free (unfit_inside (length old.path.items) (joined_path old.path.items) none);
          given_up = record {
            all = front.put;
            begun = (first, tt);
            woven = woven_alone front.put;
            given_up = gives_done s s' front.put err own was_put;
          };
        };
        counted = counted;
      }

  -- ---- a folder

  module _ (s s' : S) (f f' : ℕ) (old half : Walk) (item : Item)
      (kind : item.kind ≡ kinds.Folder)
      (shallow : length old.path.items < MAX_NESTING)
      (deeper : half.path.items ≡ old.path.items ++ item.name ∷ [])
      (bsize_is : half.bsize ≡ old.bsize) where
    path_is : joined_path half.path.items ≡ path_to (joined_path old.path.items) item.name
    path_is = ap joined_path deeper ∙ joined_one [] old.path.items item.name

    depth_is : length half.path.items ≡ length old.path.items + 1
    depth_is = ap length deeper ∙ one_longer old.path.items item.name

    -- what makes the folder unfit is what makes its items unfit
    unfit_folder : (inside : Items Facts)
        → unfit_at half.path.items inside
        ≡ option_or (unfit_listing (path_to (joined_path old.path.items) item.name) inside)
        (unfit_inside (length old.path.items + 1)
        (path_to (joined_path old.path.items) item.name) inside)
    unfit_folder inside = λ i. option_or (unfit_listing (path_is i) inside)
        (unfit_inside (depth_is i) (path_is i) inside)

    is_here : (o : Option Unfit) → option_or (cond (nat_le MAX_NESTING (length old.path.items))
        (Some (too_deep (path_to (joined_path old.path.items) item.name))) o) None ≡ o
    is_here o =
        ap (λ (t : Bool). option_or (cond t
        (Some (too_deep (path_to (joined_path old.path.items) item.name))) o) None)
        (lt-leb MAX_NESTING (length old.path.items) shallow)
        ∙ or_none_behind o
      where
        or_none_behind : (o : Option Unfit) → option_or o None ≡ o
        or_none_behind None = refl
        or_none_behind (Some u) = refl

    unfit_is : (inside : Items Facts)
        → unfit_at half.path.items inside
        ≡ unfit_inside (length old.path.items) (joined_path old.path.items)
        (folder (facts_of item) inside none)
    unfit_is inside =
        unfit_folder inside
        ∙ sym (is_here (option_or
        (unfit_listing (path_to (joined_path old.path.items) item.name) inside)
        (unfit_inside (length old.path.items + 1)
        (path_to (joined_path old.path.items) item.name) inside)))

    -- an item with what was tried of it
    abbrev as_part : Tried → Tried
    as_part inside = tries.listed (facts_of item) inside tries.no_more

    whole_there : (inside : Items Facts) → IsWholeFolder tells held half.path.items inside
        → IsWholeFolder tells held (old.path.items ++ item.name ∷ []) inside
    whole_there inside is =
        subst (λ (p : List (List ℕ)). IsWholeFolder tells held p inside) deeper is

    lacks_there : (inside : Tried) → LacksOnly failing half.path.items inside
        → LacksOnly failing (old.path.items ++ item.name ∷ []) inside
    lacks_there inside lacks =
        subst (λ (p : List (List ℕ)). LacksOnly failing p inside) deeper lacks

    alone : (runs : List (List Block)) → runs ≡ runs ++ []
    alone runs = sym (append-nil runs)

    -- it wasn't listed
    pub folder_not_listed : HaveBytes held → HasRisenBy 0 f f' → (err : VacErr)
        → IsNotListed tells held failing half.path.items err
        → GivesUpItem does score_of s s tells held failing f f' old item err
    folder_not_listed have counted err cause =
        of err cause (unlisted_own tells held failing half.path.items err cause)
      where
        free : (err : VacErr) → ((o : Option Unfit) → IsGivenUpAs ⊤ err o) → refusal_of err ≡ None
            → GivesUpItem does score_of s s tells held failing f f' old item err
        free err any own = item_not_begun have s f f' old item err counted any own

        unfit : (err : VacErr) (why : Unfit)
            → ((o : Option Unfit) → o ≡ Some why → IsGivenUpAs ⊤ err o) → refusal_of err ≡ None
            → IsUnfitAt tells held half.path.items why
            → GivesUpItem does score_of s s tells held failing f f' old item err
        unfit err why tells_it own it =
            let inside : Items Facts = in_order it.seen in
            let same = whole_read inside in
            record {
              part = as_part (as_read inside);
              lists = listed_as item kinds.Folder kind;
              are = (
                whole_there (whole (as_read inside)) (record {
                  seen = it.seen;
                  is = λ telling there at.
                      let two : Some there ≡ Some it.seen = sym at ∙ it.is telling in cc;
                  ordered = same;
                }),
                tt,
              );
              lacks = λ told.
                  (lacks_read failing (old.path.items ++ item.name ∷ []) inside, tt);
              part_is = record {
                cause = tells_it (unfit_inside (length old.path.items) (joined_path old.path.items)
                    (folder (facts_of item) (found (as_read inside)) none))
                    (sym (unfit_is (found (as_read inside)))
                    ∙ ap (unfit_at half.path.items) (found_read inside)
                    ∙ ap (λ (o : Option Unfit). option_or o (unfit_inside
                    (length half.path.items) (joined_path half.path.items) inside)) it.unfit);
                given_up = record {
                  all = blocks_of score_of old.bsize
                      (archived_from old.qid (as_part (as_read inside)));
                  begun = (are_begun_read score_of old.bsize inside, tt);
                  woven = subst (λ (rs : List (List Block)). AreWoven rs
                      (blocks_of score_of old.bsize
                      (archived_from old.qid (as_part (as_read inside))))
                      (blocks_of score_of old.bsize
                      (archived_from old.qid (as_part (as_read inside)))))
                      (sym (begun_read inside) ∙ alone (begun_in (as_read inside))) refl;
                  given_up = gives_none does s (blocks_of score_of old.bsize
                      (archived_from old.qid (as_part (as_read inside)))) err own;
                };
              };
              counted = omega (arith, counted, failures_read inside);
            }

        of : (err : VacErr) → IsNotListed tells held failing half.path.items err → refusal_of err ≡ None
            → GivesUpItem does score_of s s tells held failing f f' old item err
        of FolderFault cause own = free FolderFault (λ o. tt) own
        of (Tree (trees.Block err)) cause own = absurd cause
        of (Tree trees.SourceFault) cause own = absurd cause
        of (Tree (trees.BadEntry bad)) cause own = absurd cause
        of (Tree (trees.BadBlock depth len)) cause own = absurd cause
        of (Tree trees.TooLong) cause own =
            unfit (Tree trees.TooLong) _ (λ o is. is) own cause
        of (Tree trees.NoMemory) cause own = absurd cause
        of (BadName name) cause own = unfit (BadName name) _ (λ o is. is) own cause
        of (TooDeep name) cause own = absurd cause
        of NoMemory cause own = free NoMemory (λ o. tt) own

    -- ..since a call of it has failed
    module _ (have : HaveBytes held) (counted : HasRisenBy 1 f f')
        (may : IsTrue tells → IsTrue (failing.list (old.path.items ++ item.name ∷ []))) where
      seen : (there : Items Facts) × IsSeenAt tells held (old.path.items ++ item.name ∷ []) there
      seen = any_seen tells held (old.path.items ++ item.name ∷ [])

      abbrev lost_folder : Tried
      lost_folder = tries.unlisted (facts_of item) (in_order seen.0) tries.no_more

      there : IsWholeFolder tells held (old.path.items ++ item.name ∷ []) (in_order seen.0)
      there = record {
        seen = seen.0;
        is = seen.1;
        ordered = refl;
      }

      pub folder_unlisted : (new : Walk) (streams : Streams)
          → new.qid ≡ old.qid → new.path.items ≡ old.path.items → new.bsize ≡ old.bsize
          → new.skipped.items ≡ old.skipped.items
          → new.failed.items
          ≡ old.failed.items ++ path_to (joined_path old.path.items) item.name ∷ []
          → ArchivesItem does score_of s s tells held failing f f' old new streams streams item
      folder_unlisted new streams qid path bsize skipped failed = record {
        part = lost_folder;
        lists = listed_as item kinds.Folder kind;
        are = (there, tt);
        lacks = λ told. (may told, tt);
        archived = record {
          fit = refl;
          times = tt;
          entries = sym (append-nil streams.entries.items);
          places = none_more (length streams.entries.items);
          metadata = sym (append-nil streams.metadata.items);
          qid = omega (arith, qid);
          left_out = skipped ∙ sym (append-nil old.skipped.items);
          failed = failed;
          path = path;
          bsize = bsize;
          put = record {
            all = [];
            begun = tt;
            woven = refl;
            put = puts_none does s;
          };
        };
        counted = counted;
      }
        where
          none_more : (n : ℕ) → n ≡ n + 40 * 0
          none_more n = omega arith

      pub folder_untold : (err : VacErr) → ((o : Option Unfit) → IsGivenUpAs ⊤ err o)
          → refusal_of err ≡ None → GivesUpItem does score_of s s tells held failing f f' old item err
      folder_untold err free own = record {
        part = lost_folder;
        lists = listed_as item kinds.Folder kind;
        are = (there, tt);
        lacks = λ told. (may told, tt);
        part_is = record {
          cause = free (unfit_inside (length old.path.items) (joined_path old.path.items) none);
          given_up = record {
            all = [];
            begun = tt;
            woven = refl;
            given_up = gives_none does s [] err own;
          };
        };
        counted = counted;
      }

    -- it was listed
    module _ (qid_is : half.qid ≡ old.qid + 1) where
      -- the blocks of the folder are those of what is in it, and its own
      blocks_are : (inside : Tried)
          → all_blocks score_of half.bsize (archived_from half.qid inside)
          ≡ blocks_of score_of old.bsize (archived_from old.qid (as_part inside))
      blocks_are inside =
          (λ i. all_blocks score_of (bsize_is i) (archived_from (qid_is i) inside))
          ∙ sym (append-nil (all_blocks score_of old.bsize (archived_from (old.qid + 1) inside)))

      put_as_part : (inside : Tried)
          → PutsTried does score_of s s' half.bsize inside
          (all_blocks score_of half.bsize (archived_from half.qid inside))
          → PutsTried does score_of s s' old.bsize (as_part inside)
          (blocks_of score_of old.bsize (archived_from old.qid (as_part inside)))
      put_as_part inside put = record {
        all = put.all;
        begun = (subst (λ (n : ℕ). AreBegun score_of n inside) bsize_is put.begun, tt);
        woven = subst (λ (rs : List (List Block)). AreWoven rs
            (blocks_of score_of old.bsize (archived_from old.qid (as_part inside))) put.all)
            (alone (begun_in inside))
            (subst (λ (bs : List Block). AreWoven (begun_in inside) bs put.all)
            (blocks_are inside) put.woven);
        put = put.put;
      }

      pub folder_given_up : (err : VacErr)
          → GivesUpItems does score_of s s' tells held failing f f' half err
          → GivesUpItem does score_of s s' tells held failing f f' old item err
      folder_given_up err gave = record {
        part = as_part gave.tried;
        lists = listed_as item kinds.Folder kind;
        are = (whole_there (whole gave.tried) gave.is, tt);
        lacks = λ told. (lacks_there gave.tried (gave.lacks told), tt);
        part_is = record {
          cause = subst (IsGivenUpAs ⊤ err) (unfit_is (found gave.tried)) gave.cause;
          given_up = record {
            all = gave.given_up.all;
            begun =
                (subst (λ (n : ℕ). AreBegun score_of n gave.tried) bsize_is gave.given_up.begun, tt);
            woven = subst (λ (rs : List (List Block)). AreWoven rs
                (blocks_of score_of old.bsize (archived_from old.qid (as_part gave.tried)))
                gave.given_up.all) (alone (begun_in gave.tried))
                (subst (λ (bs : List Block). AreWoven (begun_in gave.tried) bs gave.given_up.all)
                (blocks_are gave.tried) gave.given_up.woven);
            given_up = gave.given_up.given_up;
          };
        };
        counted = omega (arith, gave.counted);
      }

      module _ (inside : Walk) (e : FolderEntries)
          (a : ArchivesItems does score_of s s' tells held failing f f' half inside e) where
        entries_are : e.entries ≡ directory_entry score_of old.bsize
            (item_entries score_of old.bsize (archived_from (old.qid + 1) a.tried))
        entries_are = a.entries ∙ (λ i. directory_entry score_of (bsize_is i)
            (item_entries score_of (bsize_is i) (archived_from (qid_is i) a.tried)))

        metadata_is : e.metadata ≡ metadata_entry score_of old.bsize
            (archived_from (old.qid + 1) a.tried)
        metadata_is = a.metadata
            ∙ (λ i. metadata_entry score_of (bsize_is i) (archived_from (qid_is i) a.tried))

        -- all was put, and memory is short for its record
        pub folder_unrecorded : (err : VacErr) → ((o : Option Unfit) → IsGivenUpAs ⊤ err o)
            → refusal_of err ≡ None → GivesUpItem does score_of s s' tells held failing f f' old item err
        folder_unrecorded err free own =
            let put = put_as_part a.tried a.put in
            record {
              part = as_part a.tried;
              lists = listed_as item kinds.Folder kind;
              are = (whole_there (whole a.tried) a.is, tt);
              lacks = λ told. (lacks_there a.tried (a.lacks told), tt);
              part_is = record {
                cause = free (unfit_inside (length old.path.items) (joined_path old.path.items)
                    (folder (facts_of item) (found a.tried) none));
                given_up = record {
                  all = put.all;
                  begun = put.begun;
                  woven = put.woven;
                  given_up = gives_done s s' put.all err own put.put;
                };
              };
              counted = omega (arith, a.counted);
            }

        pub folder_archived : (new : Walk) (from to : Streams)
            → IsTreeEntry e.entries → IsTreeEntry e.metadata → item.mtime < 2 ^ 32
            → new.qid ≡ inside.qid → new.path.items ≡ old.path.items
            → new.bsize ≡ inside.bsize → new.skipped.items ≡ inside.skipped.items
            → new.failed.items ≡ inside.failed.items
            → half.skipped.items ≡ old.skipped.items → half.failed.items ≡ old.failed.items
            → to.entries.items ≡ (from.entries.items ++ tree_entry_bytes e.entries)
            ++ tree_entry_bytes e.metadata
            → to.metadata.items ≡ from.metadata.items ++ record_bytes
            (record_for item records.Folder (length from.entries.items / 40) old.qid)
            → ArchivesItem does score_of s s' tells held failing f f' old new from to item
        folder_archived new from to first second time qid path bsize skipped failed before
            before_failed entries metadata = record {
              part = as_part a.tried;
              lists = listed_as item kinds.Folder kind;
              are = (whole_there (whole a.tried) a.is, tt);
              lacks = λ told. (lacks_there a.tried (a.lacks told), tt);
              archived = record {
                fit = sym (unfit_is (found a.tried)) ∙ a.fit;
                times = (time, a.times, tt);
                entries =
                    entries
                    ∙ append_assoc from.entries.items (tree_entry_bytes e.entries)
                    (tree_entry_bytes e.metadata)
                    ∙ ap (λ (l : List ℕ). from.entries.items ++ l)
                    ((λ i. tree_entry_bytes (entries_are i) ++ tree_entry_bytes (metadata_is i))
                    ∙ ap (λ (l : List ℕ). tree_entry_bytes (directory_entry score_of old.bsize
                    (item_entries score_of old.bsize (archived_from (old.qid + 1) a.tried))) ++ l)
                    (sym (append-nil (tree_entry_bytes (metadata_entry score_of old.bsize
                    (archived_from (old.qid + 1) a.tried))))));
                places = omega (
                  arith,
                  ap length entries,
                  length-append (from.entries.items ++ tree_entry_bytes e.entries)
                      (tree_entry_bytes e.metadata),
                  length-append from.entries.items (tree_entry_bytes e.entries),
                  entry_len e.entries first,
                  entry_len e.metadata second,
                );
                metadata =
                    metadata
                    ∙ ap (λ (l : List ℕ). from.metadata.items ++ l) (sym (append-nil (record_bytes
                    (record_for item records.Folder (length from.entries.items / 40) old.qid))));
                qid = omega (
                  arith,
                  qid,
                  a.qid,
                  qid_is,
                  ap (λ (n : ℕ). count (archived_from n a.tried)) qid_is,
                );
                left_out =
                    skipped ∙ a.left_out
                    ∙ (λ i. before i ++ left_out (path_is i) (found a.tried))
                    ∙ ap (λ (l : List (List ℕ)). old.skipped.items ++ l)
                    (sym (append-nil (left_out (path_to (joined_path old.path.items) item.name)
                    (found a.tried))));
                failed =
                    failed ∙ a.failed
                    ∙ (λ i. before_failed i ++ failed_at (path_is i) a.tried)
                    ∙ ap (λ (l : List (List ℕ)). old.failed.items ++ l)
                    (sym (append-nil (failed_at (path_to (joined_path old.path.items) item.name)
                    a.tried)));
                path = path;
                bsize = bsize ∙ a.bsize ∙ bsize_is;
                put = put_as_part a.tried a.put;
              };
              counted = omega (arith, a.counted);
            }

  -- a folder that lies too deep
  pub folder_too_deep : HaveBytes held → (s : S) (f f' : ℕ) (old : Walk) (item : Item)
      (text : List ℕ) → HasRisenBy 0 f f'
      → item.kind ≡ kinds.Folder → MAX_NESTING ≤ length old.path.items
      → text ≡ path_to (joined_path old.path.items) item.name
      → GivesUpItem does score_of s s tells held failing f f' old item (TooDeep text)
  folder_too_deep have s f f' old item text counted kind deep is =
      let seen = any_seen tells held (old.path.items ++ item.name ∷ []) in
      let inside : Items Facts = in_order seen.0 in
      let part : Items Facts = folder (facts_of item) inside none in
      let below : List ℕ = path_to (joined_path old.path.items) item.name in
      let rest = option_or (unfit_listing below inside)
      (unfit_inside (length old.path.items + 1) below inside) in
      record {
        part = as_read part;
        lists = listed_as item kinds.Folder kind;
        are = (
          record {
            seen = seen.0;
            is = seen.1;
            ordered = whole_read inside;
          },
          tt,
        );
        lacks = λ told. lacks_read failing old.path.items part;
        part_is = record {
          cause =
              ap (unfit_inside (length old.path.items) (joined_path old.path.items))
              (found_read part)
              ∙ ap (λ (t : Bool). option_or (cond t (Some (too_deep below)) rest) None)
              (le-leb MAX_NESTING (length old.path.items) deep)
              ∙ ap (λ (p : List ℕ). Some (too_deep p)) (sym is);
          given_up = untried does score_of old.bsize s part
              (blocks_of score_of old.bsize (archived_from old.qid (as_read part))) (TooDeep text)
              refl;
        };
        counted = omega (arith, counted, failures_read part);
      }
