-- The blocks of a folder's archive, and its root (vac(1), venti(6)). A folder is two streams: one
-- of the entries of its items, and one of records that tell what the items are.
use Rattle.std.specs.Prelude.{ℕ, ◌+◌, ◌*◌, ◌/◌, true, false, List, [], ◌∷◌, ◌++◌, codes}
use Rattle.std.specs.List.{flat_map}
use Rattle.vt_base.specs.Filled.{filled}
use Rattle.vt_out.specs.declared.folder_item.Facts.{Facts}
use Rattle.vt_out.specs.FolderItems.{Items, none, file, folder, other}
use Rattle.vt_model.specs.History.{Block}
use Rattle.vt_tree.specs.declared.entry.Entry.{Entry}
use Rattle.vt_tree.specs.declared.root.Root.{Root}
use Rattle.vt_tree.specs.Entries.{tree_entry_bytes}
use Rattle.vt_tree.specs.Roots.{root_bytes}
use Rattle.vt_tree.specs.Streams.{Shape, stream_of, entry_of_stream}
use Rattle.vac_meta.specs.declared.record.Record.{Record}
use Rattle.vac_meta.specs.declared.record.RecordKind.{RecordKind}
use Rattle.vac_meta.specs.declared.record.RecordKind.TheVariants.{File, Folder}
use Rattle.vac_meta.specs.Records.{all_spelled}
use Rattle.vac_model.specs.Kept.{Numbered, archived}

-- What is made of a block size: pointer blocks of whole scores, leaves of files as they come, and
-- leaves of directories of whole entries.
abbrev pub file_shape : (bsize : ℕ) → Shape
file_shape bsize = record { psize = bsize / 20 * 20; dsize = bsize; is_dir = false }

-- the tree of a folder's entries: whole pointers of 20 bytes in a pointer block, whole entries of
-- 40 in a leaf
abbrev pub directory_shape : (bsize : ℕ) → Shape
directory_shape bsize =
    record { psize = bsize / 20 * 20; dsize = bsize / 40 * 40; is_dir = true }

-- ---- a folder's metadata

-- the record of an item of this kind, whose first entry has this number
abbrev pub item_record : Numbered → RecordKind → (entry : ℕ) → Record
item_record about kind entry = record {
  name = about.facts.name;
  kind = kind;
  entry = entry;
  mode = about.facts.mode;
  mtime = about.facts.mtime;
  qid = about.qid;
  uid = about.facts.uid;
  gid = about.facts.gid;
}

-- the records of items whose entries are numbered from n on: a file has one, a folder two
abbrev pub records_of : (n : ℕ) → Items Numbered → List Record
records_of n none = []
records_of n (file about bytes others) = item_record about File n ∷ records_of (n + 1) others
records_of n (folder about inside others) = item_record about Folder n ∷ records_of (n + 2) others
records_of n (other about others) = records_of n others

-- the bytes that keep names and facts of a folder's items
abbrev pub metadata : Items Numbered → List ℕ
metadata items = all_spelled (records_of 0 items)

-- ---- a folder's entries

module _ (score_of : List ℕ → List ℕ) (bsize : ℕ) where
  -- the entry of the metadata of a folder with these items
  abbrev pub metadata_entry : Items Numbered → Entry
  metadata_entry items = entry_of_stream score_of (file_shape bsize) (metadata items)

  -- the entry of a folder's directory, which has these entries
  abbrev pub directory_entry : List Entry → Entry
  directory_entry entries =
      entry_of_stream score_of (directory_shape bsize) (flat_map tree_entry_bytes entries)

  -- the entries of items: a folder's are those of its entries and of its metadata
  abbrev pub item_entries : Items Numbered → List Entry
  item_entries none = []
  item_entries (file about bytes others) =
      entry_of_stream score_of (file_shape bsize) bytes ∷ item_entries others
  item_entries (folder about inside others) =
      directory_entry (item_entries inside) ∷ (metadata_entry inside ∷ item_entries others)
  item_entries (other about others) = item_entries others

  -- ---- blocks

  -- the blocks of a folder's two streams
  abbrev pub folder_blocks : Items Numbered → List Block
  folder_blocks items =
      (stream_of score_of (directory_shape bsize)
      (flat_map tree_entry_bytes (item_entries items))).blocks
      ++ (stream_of score_of (file_shape bsize) (metadata items)).blocks

  -- the blocks of items and of all that is inside them, a folder's behind what is inside it
  abbrev pub blocks_of : Items Numbered → List Block
  blocks_of none = []
  blocks_of (file about bytes others) =
      (stream_of score_of (file_shape bsize) bytes).blocks ++ blocks_of others
  blocks_of (folder about inside others) =
      blocks_of inside ++ folder_blocks inside ++ blocks_of others
  blocks_of (other about others) = blocks_of others

  -- the block of the top folder's two entries
  abbrev pub top_bytes : Items Numbered → List ℕ
  top_bytes items =
      tree_entry_bytes (directory_entry (item_entries items))
      ++ tree_entry_bytes (metadata_entry items)

  -- the root of an archive, whose block of the top folder's two entries has these bytes
  abbrev pub root_of : (top : List ℕ) → Root
  root_of top = record {
    name = filled 128 (codes "vac");
    kind = filled 128 (codes "rvac");
    score = record { 0 = score_of top };
    block_size = bsize;
    prev = record { 0 = score_of [] };
  }

-- an archive: its blocks, each behind those that it names, and the score that it is found by
pub record Archive : Type 0 where
  pub blocks : List Block
  pub score : List ℕ

-- the archive of numbered items at a block size
abbrev pub archive_with : (score_of : List ℕ → List ℕ) → (bsize : ℕ) → Items Numbered → Archive
archive_with score_of bsize items =
    let top = top_bytes score_of bsize items in
    let root = root_bytes (root_of score_of bsize top) in
    record {
      blocks = blocks_of score_of bsize items ++ folder_blocks score_of bsize items
          ++ ((record { kind = 2; bytes = top }) ∷ ((record { kind = 1; bytes = root }) ∷ []));
      score = score_of root;
    }

-- the archive of a folder at a block size
abbrev pub archive_of : (score_of : List ℕ → List ℕ) → (bsize : ℕ) → Items Facts → Archive
archive_of score_of bsize items = archive_with score_of bsize (archived items)
