-- The folder that a root stands for (vacfs(4)).
use Rattle.std.specs.Prelude.{ℕ, ◌≡◌, ◌+◌, ◌*◌, ◌/◌, ◌%◌, ◌≤◌, max, bit_and, true, false, ⊤, Some, List, [], ◌∷◌, codes, take, drop, length}
use Rattle.vt_base.specs.Filled.{filled}
use Rattle.vt_out.specs.FolderItems.{Items, none, file, folder, other}
use Rattle.vt_tree.specs.declared.entry.Entry.{Entry}
use Rattle.vt_tree.specs.declared.root.Root.{Root}
use Rattle.vt_tree.specs.Content.{size_of, byte_of, AreGiven, IsFileContent}
use Rattle.vt_tree.specs.Entries.{IsTreeEntry, SpellsEntry}
use Rattle.vt_tree.specs.Maps.{BlockMap}
use Rattle.vt_tree.specs.Roots.{IsRoot, root_bytes}
use Rattle.vac_meta.specs.declared.record.Record.{Record}
use Rattle.vac_meta.specs.declared.record.RecordKind.TheVariants.{File, Folder}
use Rattle.vac_meta.specs.Records.{SpellsMetadata}
use Rattle.vac_model.specs.declared.TheConstants.{MAX_FILE, MAX_METADATA, MAX_NESTING, MIN_BLOCK_SIZE, MAX_BLOCK_SIZE}
use Rattle.vac_model.specs.Kept.{Numbered}

-- ---- entries

-- whole entries stand in each leaf of a directory: entry i stands here
abbrev pub entry_place : Entry → (i : ℕ) → ℕ
entry_place stream i =
    let each = stream.dsize / 40 in i / each * stream.dsize + 40 * (i % each)

-- entry i of a directory's stream is this one
pub record HasEntry (map : BlockMap) (stream : Entry) (i : ℕ) (e : Entry) : Type 0 where
  pub bytes : List ℕ
  pub within : entry_place stream i + 40 ≤ size_of stream
  pub forty : length bytes ≡ 40
  pub given : AreGiven (byte_of map stream) (entry_place stream i) bytes
  pub allowed : IsTreeEntry e
  pub spelled : SpellsEntry e bytes

-- Entry i of a directory's stream is that of a file with these bytes.
pub record HasFile (map : BlockMap) (stream : Entry) (i : ℕ) (bytes : List ℕ) : Type 0 where
  pub entry : Entry
  pub there : HasEntry map stream i entry
  pub plain : entry.is_dir ≡ false
  pub short : size_of entry ≤ MAX_FILE
  pub content : IsFileContent map entry bytes

-- two entries are those of a folder whose metadata has these records
pub record AreFolder (map : BlockMap) (entries metadata : Entry) (records : List Record)
    : Type 0 where
  pub directory : entries.is_dir ≡ true
  pub short_entries : size_of entries ≤ MAX_FILE
  pub plain : metadata.is_dir ≡ false
  pub bytes : List ℕ
  pub short : length bytes ≤ MAX_METADATA
  pub content : IsFileContent map metadata bytes
  pub spelled : SpellsMetadata records bytes

-- entry i and the one behind it are those of a folder with these records
pub record HasFolder (map : BlockMap) (stream : Entry) (i : ℕ) (entries : Entry)
    (records : List Record) : Type 0 where
  pub metadata : Entry
  pub first : HasEntry map stream i entries
  pub second : HasEntry map stream (i + 1) metadata
  pub are : AreFolder map entries metadata records

-- ---- items

-- a record says this of an item, with the low nine bits of its mode
abbrev pub described : Record → Numbered
described r = record {
  facts = record {
    name = r.name;
    mode = bit_and r.mode 511;
    mtime = r.mtime;
    uid = r.uid;
    gid = r.gid;
  };
  qid = r.qid;
}

-- these records, with the entries of this stream, stand for these items
abbrev pub StandFor : BlockMap → (stream : Entry) → List Record → Items Numbered → Type 0
StandFor map stream [] none = ⊤
StandFor map stream (r ∷ records) (file about bytes others) =
    (r.kind ≡ File) × (about ≡ described r) × HasFile map stream r.entry bytes
    × StandFor map stream records others
StandFor map stream (r ∷ records) (folder about inside others) =
    (r.kind ≡ Folder) × (about ≡ described r)
    × ((entries : Entry) × (below : List Record) × HasFolder map stream r.entry entries below
    × StandFor map entries below inside)
    × StandFor map stream records others
StandFor map stream records items = ⊥

-- how deep folders are nested; the top folder isn't counted
abbrev pub nesting : {A : Type 0} → Items A → ℕ
nesting none = 0
nesting (file about bytes others) = nesting others
nesting (folder about inside others) = max (1 + nesting inside) (nesting others)
nesting (other about others) = nesting others

-- ---- roots

-- the block of this score is an archive's root, which names the block of its top entries
pub record IsArchive (map : BlockMap) (score top : List ℕ) : Type 0 where
  pub root : Root
  pub allowed : IsRoot root
  pub block : map score 1 ≡ Some (root_bytes root)
  pub kind : root.kind ≡ filled 128 (codes "rvac")
  pub least : MIN_BLOCK_SIZE ≤ root.block_size
  pub most : root.block_size ≤ MAX_BLOCK_SIZE
  pub names : root.score.0 ≡ top

-- the block of this score begins with two entries
pub record AreTopEntries (map : BlockMap) (score : List ℕ) (entries metadata : Entry)
    : Type 0 where
  pub bytes : List ℕ
  pub block : map score 2 ≡ Some bytes
  pub long : 80 ≤ length bytes
  pub first_allowed : IsTreeEntry entries
  pub first : SpellsEntry entries (take 40 bytes)
  pub second_allowed : IsTreeEntry metadata
  pub second : SpellsEntry metadata (take 40 (drop 40 bytes))

-- the archive of this score is one of these items, in folders at most 256 deep
pub record IsTreeOf (map : BlockMap) (score : List ℕ) (items : Items Numbered) : Type 0 where
  pub top : List ℕ
  pub archive : IsArchive map score top
  pub entries : Entry
  pub metadata : Entry
  pub are_there : AreTopEntries map top entries metadata
  pub records : List Record
  pub are : AreFolder map entries metadata records
  pub stand : StandFor map entries records items
  pub deep : nesting items ≤ MAX_NESTING
