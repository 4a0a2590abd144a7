-- What archiving the items of one folder leaves.
use Rattle.std.specs.Prelude.{ℕ, ◌≡◌, ◌<◌, ◌^◌, ◌+◌, ◌-◌, ◌*◌, ◌/◌, ⊤, Bool, true, false, IsTrue, bit_and, Option, None, List, [], ◌∷◌, ◌++◌, length, take}
use Rattle.std.specs.List.{flat_map}
use Rattle.std.specs.Option.{option_or}
use Rattle.vt_out.specs.declared.folder_item.Facts.{Facts}
use Rattle.vt_out.specs.declared.folder_item.Item.{Item}
use Rattle.vt_out.specs.FolderItems.{FailingPaths, Items, none, file, folder, other, listing_of}
use Rattle.vt_model.specs.History.{Block}
use Rattle.vt_tree.specs.Calls.{Call}
use Rattle.vt_tree.specs.declared.entry.Entry.{Entry}
use Rattle.vt_tree.specs.Entries.{tree_entry_bytes}
use Rattle.vt_tree.specs.Roots.{root_bytes}
use Rattle.vt_tree.specs.Streams.{Shape, stream_of, entry_of_stream}
use Rattle.vac_meta.specs.declared.record.Record.{Record}
use Rattle.vac_meta.specs.declared.record.RecordKind.{RecordKind}
use Rattle.vac_meta.specs.declared.record.RecordKind.TheVariants.{File, Folder}
use Rattle.vac_meta.specs.Records.{all_spelled, record_bytes}
use Rattle.vac_model.specs.Archives.{file_shape, directory_shape, records_of, item_entries, directory_entry, metadata_entry, blocks_of, folder_blocks, root_of}
use Rattle.vac_model.specs.Kept.{Numbered, in_order, kept, numbered, count, left_out, path_to}
use Rattle.vac_model.specs.Limits.{Unfit, unfit_listing, unfit_inside, HaveTimes}
use Rattle.vac_write.specs.declared.archiving.Walk.{Walk}
use Rattle.vac_write.specs.declared.error.VacErr.{VacErr}
use Rattle.vac_write.specs.declared.error.VacErr.TheVariants.{FolderFault, Tree, BadName, TooDeep, NoMemory}
use Rattle.vac_write.specs.declared.streams.FolderEntries.{FolderEntries}
use Rattle.vac_write.specs.declared.streams.Streams.{Streams}
use Rattle.vac_write.specs.Archiving.{HasRisenBy, IsGivenUpAs}
use Rattle.vac_write.specs.Files.{IsWholeFile}
use Rattle.vac_write.specs.Listing.{IsSeenAt, joined_path}
use Rattle.vac_write.specs.Puts.{PutsBlocks, GivesUpBlocks}
use Rattle.vac_write.specs.Tried.{Tried, whole, found, failed_at, failures, LacksOnly, begun_in, AreBegun, AreWoven}

-- the first thing that makes the items of the folder at this path unfit, which lies as deep as the
-- path is long
abbrev pub unfit_at : (path : List (List ℕ)) → Items Facts → Option Unfit
unfit_at path items =
    option_or (unfit_listing (joined_path path) items)
    (unfit_inside (length path) (joined_path path) items)

-- what is archived of it, with numbers from n on
abbrev pub archived_from : (n : ℕ) → Tried → Items Numbered
archived_from n tried = numbered n (kept (found tried))

-- the blocks of a folder, and of all that is in it
abbrev pub all_blocks : (score_of : List ℕ → List ℕ) → (bsize : ℕ) → Items Numbered → List Block
all_blocks score_of bsize items =
    blocks_of score_of bsize items ++ folder_blocks score_of bsize items

-- ---- the items of a folder, one after another

-- items in order that stand in the folder at this path, if it tells it and there is one
pub record IsWholeFolder (tells : Bool) (held : Items Facts) (path : List (List ℕ))
    (inside : Items Facts) : Type 0 where
  pub seen : Items Facts
  pub is : IsSeenAt tells held path seen
  pub ordered : inside ≡ in_order seen

-- items of the folder at this path, each with what is in it
abbrev pub AreItemsAt : (tells : Bool) → (held : Items Facts) → (path : List (List ℕ)) → Items Facts
    → Type 0
AreItemsAt tells held path none = ⊤
AreItemsAt tells held path (file about bytes others) =
    IsWholeFile tells held (path ++ about.name ∷ []) bytes × AreItemsAt tells held path others
AreItemsAt tells held path (folder about inside others) =
    IsWholeFolder tells held (path ++ about.name ∷ []) inside × AreItemsAt tells held path others
AreItemsAt tells held path (other about others) = AreItemsAt tells held path others

-- the record that is written of an item
abbrev pub record_for : Item → RecordKind → (entry qid : ℕ) → Record
record_for item k entry qid = record {
  name = item.name;
  kind = k;
  entry = entry;
  mode = bit_and item.mode 511;
  mtime = item.mtime;
  qid = qid;
  uid = item.uid;
  gid = item.gid;
}

-- A file at the end of the path was left again, got the next number, and has its entry and its record
-- in the streams of its folder.
pub record AddsFile (old new : Walk) (from to : Streams) (item : Item) (e : Entry) : Type 0 where
  pub entries : to.entries.items ≡ from.entries.items ++ tree_entry_bytes e
  pub metadata : to.metadata.items ≡ from.metadata.items
      ++ record_bytes (record_for item File (length from.entries.items / 40) old.qid)
  pub time : item.mtime < 2 ^ 32
  pub qid : new.qid ≡ old.qid + 1
  pub path : new.path.items ≡ take (length old.path.items - 1) old.path.items
  pub bsize : new.bsize ≡ old.bsize
  pub skipped : new.skipped.items ≡ old.skipped.items
  pub failed : new.failed.items ≡ old.failed.items

-- A call of the file or folder at the end of the path has failed, which was left again, and its path
-- was noted.
pub record LeavesOut (old new : Walk) (item : Item) (err : VacErr) : Type 0 where
  pub fault : err ≡ FolderFault
  pub path : new.path.items ≡ take (length old.path.items - 1) old.path.items
  pub noted : new.failed.items
      ≡ old.failed.items ++ path_to (joined_path new.path.items) item.name ∷ []
  pub skipped : new.skipped.items ≡ old.skipped.items
  pub qid : new.qid ≡ old.qid
  pub bsize : new.bsize ≡ old.bsize

-- what is answered where an item isn't archived for this: a failed call is noted, if there is memory,
-- and all else is handed on
abbrev pub IsHandedOn : (err answer : VacErr) → Type 0
IsHandedOn FolderFault answer = answer ≡ NoMemory
IsHandedOn (Tree err) answer = answer ≡ Tree err
IsHandedOn (BadName path) answer = answer ≡ BadName path
IsHandedOn (TooDeep path) answer = answer ≡ TooDeep path
IsHandedOn NoMemory answer = answer ≡ NoMemory

-- A folder at the end of the path, which has this number, was left again, and has its two entries and
-- its record in the streams of the one above it.
pub record AddsFolder (old new : Walk) (from to : Streams) (item : Item) (n : ℕ)
    (e : FolderEntries) : Type 0 where
  pub entries : to.entries.items
      ≡ (from.entries.items ++ tree_entry_bytes e.entries) ++ tree_entry_bytes e.metadata
  pub metadata : to.metadata.items ≡ from.metadata.items
      ++ record_bytes (record_for item Folder (length from.entries.items / 40) n)
  pub time : item.mtime < 2 ^ 32
  pub qid : new.qid ≡ old.qid
  pub path : new.path.items ≡ take (length old.path.items - 1) old.path.items
  pub bsize : new.bsize ≡ old.bsize
  pub skipped : new.skipped.items ≡ old.skipped.items
  pub failed : new.failed.items ≡ old.failed.items

-- These blocks were put, and of files of which a read has failed the first, and nothing else was
-- asked for.
pub record PutsTried {S : Type 0} (does : S → Call → S → Type 0) (score_of : List ℕ → List ℕ)
    (s s' : S) (bsize : ℕ) (tried : Tried) (blocks : List Block) : Type 0 where
  pub all : List Block
  pub begun : AreBegun score_of bsize tried
  pub woven : AreWoven (begun_in tried) blocks all
  pub put : PutsBlocks does s s' all

-- That was given up: the first of them were put, and nothing else was asked for.
pub record GivesUpTried {S : Type 0} (does : S → Call → S → Type 0) (score_of : List ℕ → List ℕ)
    (s s' : S) (bsize : ℕ) (tried : Tried) (blocks : List Block) (err : VacErr) : Type 0 where
  pub all : List Block
  pub begun : AreBegun score_of bsize tried
  pub woven : AreWoven (begun_in tried) blocks all
  pub given_up : GivesUpBlocks does s s' all err

-- Items of the folder at the path were tried, in order, and what was found is archived: its blocks
-- were put, and those of all that is in it. Its entries and records stand behind the others, it has
-- the next numbers, and what was skipped, and of what a call has failed, was noted.
pub record ArchivesPart {S : Type 0} (does : S → Call → S → Type 0) (score_of : List ℕ → List ℕ)
    (s s' : S) (old new : Walk) (from to : Streams) (part : Tried) : Type 0 where
  pub fit : unfit_inside (length old.path.items) (joined_path old.path.items) (found part) ≡ None
  pub times : HaveTimes (found part)
  pub entries : to.entries.items ≡ from.entries.items
      ++ flat_map tree_entry_bytes (item_entries score_of old.bsize (archived_from old.qid part))
  pub places : length to.entries.items ≡ length from.entries.items
      + 40 * length (item_entries score_of old.bsize (archived_from old.qid part))
  pub metadata : to.metadata.items ≡ from.metadata.items
      ++ all_spelled (records_of (length from.entries.items / 40) (archived_from old.qid part))
  pub qid : new.qid ≡ old.qid + count (archived_from old.qid part)
  pub left_out : new.skipped.items
      ≡ old.skipped.items ++ left_out (joined_path old.path.items) (found part)
  pub failed : new.failed.items
      ≡ old.failed.items ++ failed_at (joined_path old.path.items) part
  pub path : new.path.items ≡ old.path.items
  pub bsize : new.bsize ≡ old.bsize
  pub put : PutsTried does score_of s s' old.bsize part
      (blocks_of score_of old.bsize (archived_from old.qid part))

-- The items were given up: of these blocks the first were put, and nothing else was asked for.
pub record GivesUpPart {S : Type 0} (does : S → Call → S → Type 0) (score_of : List ℕ → List ℕ)
    (s s' : S) (old : Walk) (part : Tried) (err : VacErr) : Type 0 where
  pub cause : IsGivenUpAs ⊤ err
      (unfit_inside (length old.path.items) (joined_path old.path.items) (found part))
  pub given_up : GivesUpTried does score_of s s' old.bsize part
      (blocks_of score_of old.bsize (archived_from old.qid part)) err

-- This item of the folder at the path was archived, or left out since a call of it has failed.
pub record ArchivesItem {S : Type 0} (does : S → Call → S → Type 0) (score_of : List ℕ → List ℕ)
    (s s' : S) (tells : Bool) (held : Items Facts) (failing : FailingPaths) (faults faults' : ℕ) (old new : Walk)
    (from to : Streams) (item : Item) : Type 0 where
  pub part : Tried
  pub lists : listing_of (whole part) ≡ item ∷ []
  pub are : AreItemsAt tells held old.path.items (whole part)
  pub archived : ArchivesPart does score_of s s' old new from to part
  pub lacks : IsTrue tells → LacksOnly failing old.path.items part
  pub counted : HasRisenBy (failures part) faults faults'

-- an item isn't archived for this reason; what was put for it is a beginning of what it calls for
pub record GivesUpItem {S : Type 0} (does : S → Call → S → Type 0) (score_of : List ℕ → List ℕ)
    (s s' : S) (tells : Bool) (held : Items Facts) (failing : FailingPaths) (faults faults' : ℕ) (old : Walk)
    (item : Item) (err : VacErr) : Type 0 where
  pub part : Tried
  pub lists : listing_of (whole part) ≡ item ∷ []
  pub are : AreItemsAt tells held old.path.items (whole part)
  pub part_is : GivesUpPart does score_of s s' old part err
  pub lacks : IsTrue tells → LacksOnly failing old.path.items part
  pub counted : HasRisenBy (failures part) faults faults'

-- ---- a folder's two streams

-- the tree that an item is written as
abbrev pub item_shape : (bsize : ℕ) → (is_dir : Bool) → Shape
item_shape bsize true = directory_shape bsize
item_shape bsize false = file_shape bsize

-- the blocks of a folder's two trees: that of entries, and that of metadata
abbrev pub streams_blocks : (score_of : List ℕ → List ℕ) → (bsize : ℕ) → Streams → List Block
streams_blocks score_of bsize streams =
    (stream_of score_of (directory_shape bsize) streams.entries.items).blocks
    ++ (stream_of score_of (file_shape bsize) streams.metadata.items).blocks

-- The blocks of a folder's two streams were put, and nothing else was asked for. The entries stand
-- for them.
pub record WritesStreams {S : Type 0} (does : S → Call → S → Type 0) (score_of : List ℕ → List ℕ)
    (s s' : S) (bsize : ℕ) (streams : Streams) (e : FolderEntries) : Type 0 where
  pub entries : e.entries ≡ entry_of_stream score_of (directory_shape bsize) streams.entries.items
  pub metadata : e.metadata ≡ entry_of_stream score_of (file_shape bsize) streams.metadata.items
  pub put : PutsBlocks does s s' (streams_blocks score_of bsize streams)

-- ---- the top folder

-- the bytes of the block of its two entries
abbrev pub top_of : FolderEntries → List ℕ
top_of e = tree_entry_bytes e.entries ++ tree_entry_bytes e.metadata

-- The block of the top folder's two entries, and the root that names it.
abbrev pub root_blocks : (score_of : List ℕ → List ℕ) → (bsize : ℕ) → (top : List ℕ) → List Block
root_blocks score_of bsize top =
    (record { kind = 2; bytes = top })
    ∷ ((record { kind = 1; bytes = root_bytes (root_of score_of bsize top) }) ∷ [])

-- ---- a whole folder

-- The folder at the path was tried, and what was found in it is archived: its blocks were put, and
-- those of all that is in it. Its two entries are these, its items have the next numbers, and what was
-- skipped, and of what a call has failed, was noted.
pub record ArchivesItems {S : Type 0} (does : S → Call → S → Type 0)
    (score_of : List ℕ → List ℕ) (s s' : S) (tells : Bool) (held : Items Facts)
    (failing : FailingPaths) (faults faults' : ℕ) (old new : Walk) (e : FolderEntries) : Type 0 where
  pub tried : Tried
  pub is : IsWholeFolder tells held old.path.items (whole tried)
  pub fit : unfit_at old.path.items (found tried) ≡ None
  pub times : HaveTimes (found tried)
  pub entries : e.entries ≡ directory_entry score_of old.bsize
      (item_entries score_of old.bsize (archived_from old.qid tried))
  pub metadata : e.metadata ≡ metadata_entry score_of old.bsize (archived_from old.qid tried)
  pub qid : new.qid ≡ old.qid + count (archived_from old.qid tried)
  pub left_out : new.skipped.items
      ≡ old.skipped.items ++ left_out (joined_path old.path.items) (found tried)
  pub failed : new.failed.items
      ≡ old.failed.items ++ failed_at (joined_path old.path.items) tried
  pub path : new.path.items ≡ old.path.items
  pub bsize : new.bsize ≡ old.bsize
  pub put : PutsTried does score_of s s' old.bsize tried
      (all_blocks score_of old.bsize (archived_from old.qid tried))
  pub lacks : IsTrue tells → LacksOnly failing old.path.items tried
  pub counted : HasRisenBy (failures tried) faults faults'

-- The folder was given up: of these blocks the first were put, and nothing else was asked for.
pub record GivesUpItems {S : Type 0} (does : S → Call → S → Type 0)
    (score_of : List ℕ → List ℕ) (s s' : S) (tells : Bool) (held : Items Facts)
    (failing : FailingPaths) (faults faults' : ℕ) (old : Walk) (err : VacErr) : Type 0 where
  pub tried : Tried
  pub is : IsWholeFolder tells held old.path.items (whole tried)
  pub cause : IsGivenUpAs ⊤ err (unfit_at old.path.items (found tried))
  pub given_up : GivesUpTried does score_of s s' old.bsize tried
      (all_blocks score_of old.bsize (archived_from old.qid tried)) err
  pub lacks : IsTrue tells → LacksOnly failing old.path.items tried
  pub counted : HasRisenBy (failures tried) faults faults'
