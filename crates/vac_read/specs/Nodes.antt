-- The items of an archive, as a reader hands them out (vacfs(4)).
use Rattle.std.specs.Prelude.{ℕ, ◌≡◌, ◌+◌, ◌<◌, ◌≤◌, ◌^◌, ⊤, true, false, Option, Some, None, List, [], ◌∷◌, find, codes, length}
use Rattle.std.specs.Str.{bytes_eq}
use Rattle.vt_out.specs.declared.folder_item.Item.{Item}
use Rattle.vt_out.specs.declared.folder_item.ItemKind.{ItemKind}
use Rattle.vt_out.specs.declared.folder_item.ItemKind.TheVariants as kinds
use Rattle.vt_out.specs.FolderItems.{listed_item}
use Rattle.vt_tree.specs.declared.entry.Entry.{Entry}
use Rattle.vt_tree.specs.Content.{size_of}
use Rattle.vt_tree.specs.Entries.{IsTreeEntry}
use Rattle.vt_tree.specs.Maps.{BlockMap}
use Rattle.vac_meta.specs.declared.TheConstants.{MAX_NAME}
use Rattle.vac_meta.specs.declared.record.Record.{Record}
use Rattle.vac_meta.specs.declared.record.RecordKind.{RecordKind}
use Rattle.vac_meta.specs.declared.record.RecordKind.TheVariants.{File, Folder}
use Rattle.vac_model.specs.Trees.{described, HasEntry, AreFolder, IsArchive, AreTopEntries}
use Rattle.vac_read.specs.declared.node.Node.{Node}
use Rattle.vac_read.specs.declared.node.Stored.{Stored}
use Rattle.vac_read.specs.declared.node.Stored.TheVariants as stored

-- ---- one item

-- the kind of an item, by its record
abbrev pub kind_of : RecordKind → ItemKind
kind_of File = kinds.File
kind_of Folder = kinds.Folder

-- what a record says of an item, with the low nine bits of its mode
abbrev pub item_of : Record → Item
item_of r = listed_item (described r).facts (kind_of r.kind)

-- what is told of an item: texts of at most 255 bytes, and nine bits of its mode
pub record FitsToldItem (item : Item) : Type 0 where
  pub name : length item.name ≤ MAX_NAME
  pub uid : length item.uid ≤ MAX_NAME
  pub gid : length item.gid ≤ MAX_NAME
  pub mode : item.mode < 2 ^ 9

-- The entry may stand in a directory, and is a directory's itself, or not.
abbrev pub IsDirectory : Entry → Type 0
IsDirectory e = IsTreeEntry e × (e.is_dir ≡ true)

-- the entry is of a tree, and one of a file
abbrev pub IsFileEntry : Entry → Type 0
IsFileEntry e = IsTreeEntry e × (e.is_dir ≡ false)

-- the entries that a node keeps are those of a file or of a folder
abbrev pub AreNodeEntries : Stored → Type 0
AreNodeEntries (stored.File e) = IsFileEntry e
AreNodeEntries (stored.Folder entries metadata) = IsDirectory entries × IsFileEntry metadata

-- the entries that a record of this kind names, from entry i on, are these
abbrev pub IsStoredNode : BlockMap → (stream : Entry) → RecordKind → (i : ℕ) → Stored → Type 0
IsStoredNode map stream kind i (stored.File e) =
    (kind ≡ File) × HasEntry map stream i e × (e.is_dir ≡ false)
IsStoredNode map stream kind i (stored.Folder entries metadata) =
    (kind ≡ Folder) × HasEntry map stream i entries × (entries.is_dir ≡ true)
    × HasEntry map stream (i + 1) metadata × (metadata.is_dir ≡ false)

-- how many bytes a file has; a folder has none
abbrev pub len_of : Stored → ℕ
len_of (stored.File e) = size_of e
len_of (stored.Folder entries metadata) = 0

-- a node is the item of a record, in a folder whose entries these are
pub record IsNode (map : BlockMap) (stream : Entry) (r : Record) (node : Node) : Type 0 where
  pub item : node.item ≡ item_of r
  pub qid : node.qid ≡ r.qid
  pub size : node.size ≡ len_of node.stored
  pub is_stored : IsStoredNode map stream r.kind r.entry node.stored

-- ---- the items of a folder

-- the items that records and the stream of entries tell of
abbrev pub AreNodes : BlockMap → (stream : Entry) → List Record → List Node → Type 0
AreNodes map stream [] [] = ⊤
AreNodes map stream (r ∷ records) (node ∷ nodes) =
    IsNode map stream r node × AreNodes map stream records nodes
AreNodes map stream records nodes = ⊥

-- a folder's two entries are those of a folder with these items
pub record HasNodes (map : BlockMap) (entries metadata : Entry) (nodes : List Node) : Type 0 where
  pub records : List Record
  pub are : AreFolder map entries metadata records
  pub stand : AreNodes map entries records nodes

-- the items of what is stored so; a file has none
abbrev pub Lists : BlockMap → Stored → List Node → Type 0
Lists map (stored.File e) nodes = nodes ≡ []
Lists map (stored.Folder entries metadata) nodes = HasNodes map entries metadata nodes

-- ---- names on a way

-- the first record of this name
abbrev pub named : (name : List ℕ) → List Record → Option Record
named name records = find (λ r. bytes_eq r.name name) records

-- the item of a folder that has this record, if there is one; the other items need not stand
abbrev pub IsFoundItem : BlockMap → (stream : Entry) → Option Record → Option Node → Type 0
IsFoundItem map stream (Some r) (Some node) = IsNode map stream r node
IsFoundItem map stream None None = ⊤
IsFoundItem map stream (Some r) None = ⊥
IsFoundItem map stream None (Some node) = ⊥

-- the item of this name in what is stored so: None where it is absent, and below a file
abbrev pub FindsNode : BlockMap → Stored → (name : List ℕ) → Option Node → Type 0
FindsNode map (stored.File e) name found = found ≡ None
FindsNode map (stored.Folder entries metadata) name found =
    (records : List Record) × AreFolder map entries metadata records
    × IsFoundItem map entries (named name records) found

-- where these names lead from a node, one after another
abbrev pub Leads : BlockMap → Option Node → (names : List (List ℕ)) → Option Node → Type 0
Leads map None names found = found ≡ None
Leads map (Some node) [] found = found ≡ Some node
Leads map (Some node) (name ∷ names) found =
    (next : Option Node) × FindsNode map node.stored name next × Leads map next names found

-- ---- the top folder

-- what is told of it (vacfs(4))
abbrev pub top_item : Item
top_item = record {
  name = codes "/";
  kind = kinds.Folder;
  mode = 365;
  mtime = 0;
  uid = codes "vac";
  gid = codes "vac";
}

-- the two entries of the block that a root names: a directory's, and its metadata's
abbrev pub AreTop : BlockMap → (score : List ℕ) → Stored → Type 0
AreTop map score (stored.File e) = ⊥
AreTop map score (stored.Folder entries metadata) =
    AreTopEntries map score entries metadata
    × (entries.is_dir ≡ true) × (metadata.is_dir ≡ false)

-- a node is the top folder of the archive of this score
pub record IsTop (map : BlockMap) (score : List ℕ) (node : Node) : Type 0 where
  pub item : node.item ≡ top_item
  pub qid : node.qid ≡ 0
  pub size : node.size ≡ 0
  pub top : List ℕ
  pub archive : IsArchive map score top
  pub is_stored : AreTop map top node.stored
