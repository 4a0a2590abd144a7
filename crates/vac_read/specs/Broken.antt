-- Why a part of an archive isn't told.
use Rattle.std.specs.Prelude.{ℕ, ◌≡◌, ◌≢◌, ◌+◌, ◌<◌, ◌≤◌, ◌⊎◌, not, nat_lt, if◌then◌else◌, Bool, true, false, Option, Some, None, Err, List, ◌∷◌, ◌++◌, codes, length, take, drop}
use Rattle.std.specs.Option.{option_or, option_map}
use Rattle.std.specs.Str.{bytes_eq}
use Rattle.byteorder.specs.Endian.{big_number}
use Rattle.vt_base.specs.Filled.{filled}
use Rattle.vt_tree.specs.declared.entry.Entry.{Entry}
use Rattle.vt_tree.specs.declared.entry.EntryError.{EntryError}
use Rattle.vt_tree.specs.declared.error.TreeErr.TheVariants as trees
use Rattle.vt_tree.specs.declared.root.RootError.{RootError}
use Rattle.vt_tree.specs.declared.root.RootError.TheVariants as fields
use Rattle.vt_tree.specs.Content.{size_of, byte_of, AreGiven, IsFileContent}
use Rattle.vt_tree.specs.Entries.{IsTreeEntry, SpellsEntry, entry_fault_in}
use Rattle.vt_tree.specs.Maps.{BlockMap}
use Rattle.vt_tree.specs.Reading.{GivesBytes, IsOfEntry, unfit}
use Rattle.vt_tree.specs.Roots.{root_fault}
use Rattle.vac_meta.specs.declared.error.RecordCause.{RecordCause}
use Rattle.vac_meta.specs.declared.error.MetaErr.TheVariants.{Bad}
use Rattle.vac_meta.specs.declared.record.Record.{Record}
use Rattle.vac_meta.specs.declared.record.RecordKind.{RecordKind}
use Rattle.vac_meta.specs.declared.record.RecordKind.TheVariants.{File, Folder}
use Rattle.vac_meta.specs.Flaws.{IsRefusedMetadata}
use Rattle.vac_meta.specs.Records.{all_spelled, string}
use Rattle.vac_model.specs.declared.TheConstants.{MAX_FILE, MAX_METADATA, MIN_BLOCK_SIZE, MAX_BLOCK_SIZE}
use Rattle.vac_model.specs.Trees.{entry_place, HasEntry, AreFolder}
use Rattle.vac_read.specs.declared.error.RootField.{RootField}
use Rattle.vac_read.specs.declared.error.RootField.TheVariants.{Length, Version, «Type» as Kind, BlockSize}
use Rattle.vac_read.specs.declared.error.VacBad.{VacBad}
use Rattle.vac_read.specs.declared.error.VacBad.TheVariants.{Tree, Root, Meta, NoMemory}
use Rattle.vac_read.specs.declared.node.Node.{Node}
use Rattle.vac_read.specs.declared.node.Stored.{Stored}
use Rattle.vac_read.specs.declared.node.Stored.TheVariants as stored
use Rattle.vac_read.specs.Nodes.{AreNodes, named}

-- so many bytes of a stream from a place on aren't given, for this reason; a failed call and want
-- of memory may come of any
abbrev pub IsUnread : BlockMap → Entry → (at len : ℕ) → VacBad → Type 0
IsUnread map e at len (Tree err) =
    GivesBytes (byte_of map e) at len (Err err) × (IsOfEntry err → unfit e ≡ Some err)
IsUnread map e at len (Root root_field) = ⊥
IsUnread map e at len (Meta place) = ⊥
IsUnread map e at len NoMemory = ⊥

-- ---- entries

-- forty bytes aren't the entry of a directory, or of no directory; `field` is the place of what
-- names the entry
abbrev pub IsNoEntry : (bytes : List ℕ) → (is_dir : Bool) → (field : ℕ) → VacBad → Type 0
IsNoEntry bytes is_dir field (Tree err) =
    (bad : EntryError) × (err ≡ trees.BadEntry bad) × (entry_fault_in bytes ≡ Some bad)
IsNoEntry bytes is_dir field (Meta at) =
    (at ≡ field) × (e : Entry) × IsTreeEntry e × SpellsEntry e bytes × (e.is_dir ≢ is_dir)
IsNoEntry bytes is_dir field (Root root_field) = ⊥
IsNoEntry bytes is_dir field NoMemory = ⊥

-- these forty bytes stand at entry i of a directory's stream
pub record HasEntryBytes (map : BlockMap) (stream : Entry) (i : ℕ) (bytes : List ℕ) : Type 0 where
  pub within : entry_place stream i + 40 ≤ size_of stream
  pub forty : length bytes ≡ 40
  pub given : AreGiven (byte_of map stream) (entry_place stream i) bytes

-- why entry i of a directory, a directory's itself or not, isn't told: it lies past the end, or its
-- bytes aren't given, or are no such entry
abbrev pub LacksDirectoryEntry : BlockMap → (stream : Entry) → (i : ℕ) → (is_dir : Bool)
    → (field : ℕ)
    → VacBad → Type 0
LacksDirectoryEntry map stream i is_dir field bad =
    ((bad ≡ Meta field) × (size_of stream < entry_place stream i + 40))
    ⊎ ((entry_place stream i + 40 ≤ size_of stream)
    × IsUnread map stream (entry_place stream i) 40 bad)
    ⊎ ((bytes : List ℕ) × HasEntryBytes map stream i bytes × IsNoEntry bytes is_dir field bad)

-- why the entries of a record aren't told: a file has one, a folder two
abbrev pub LacksEntries : BlockMap → (stream : Entry) → RecordKind → (i field : ℕ) → VacBad
    → Type 0
LacksEntries map stream File i field bad = LacksDirectoryEntry map stream i false field bad
LacksEntries map stream Folder i field bad =
    LacksDirectoryEntry map stream i true field bad
    ⊎ ((e : Entry) × HasEntry map stream i e × (e.is_dir ≡ true)
    × LacksDirectoryEntry map stream (i + 1) false field bad)

-- ---- folders

-- the streams of a folder are within the limits of archives
pub record AreShort (entries metadata : Entry) : Type 0 where
  pub short_entries : size_of entries ≤ MAX_FILE
  pub short_metadata : size_of metadata ≤ MAX_METADATA

-- why a folder's records aren't told: a stream of it is too long; or its metadata isn't given, or
-- has a flaw
abbrev pub LacksRecords : BlockMap → (entries metadata : Entry) → VacBad → Type 0
LacksRecords map entries metadata bad =
    ((bad ≡ Tree trees.TooLong) × (AreShort entries metadata → ⊥))
    ⊎ (AreShort entries metadata × (IsUnread map metadata 0 (size_of metadata) bad
    ⊎ ((bytes : List ℕ) × IsFileContent map metadata bytes
    × (at : ℕ) × (why : RecordCause) × (bad ≡ Meta at) × IsRefusedMetadata bytes (Bad at why))))

-- where the number of a record's entry stands, behind these records
abbrev pub entry_field : (before : List Record) → Record → ℕ
entry_field before r = length (all_spelled before) + length (string r.name) + 1

-- Of these records, with the entries of this stream, this is the first whose entries aren't told.
pub record LacksNode (map : BlockMap) (entries : Entry) (records : List Record) (bad : VacBad)
    : Type 0 where
  pub before : List Record
  pub nodes : List Node
  pub stand : AreNodes map entries before nodes
  pub r : Record
  pub rest : List Record
  pub among : records ≡ before ++ r ∷ rest
  pub lacks : LacksEntries map entries r.kind r.entry (entry_field before r) bad

-- why the items of what is stored so aren't told
abbrev pub IsBroken : BlockMap → Stored → VacBad → Type 0
IsBroken map (stored.File e) bad = ⊥
IsBroken map (stored.Folder entries metadata) bad =
    LacksRecords map entries metadata bad
    ⊎ ((records : List Record) × AreFolder map entries metadata records
    × LacksNode map entries records bad)

-- ---- names on a way

-- the item of a folder of this name is there, and its entries aren't told
pub record LacksNamed (map : BlockMap) (entries metadata : Entry) (name : List ℕ) (bad : VacBad)
    : Type 0 where
  pub records : List Record
  pub are : AreFolder map entries metadata records
  pub before : List Record
  pub r : Record
  pub rest : List Record
  pub among : records ≡ before ++ r ∷ rest
  pub is : named name records ≡ Some r
  pub lacks : LacksEntries map entries r.kind r.entry (entry_field before r) bad

-- why the item of this name isn't told
abbrev pub IsUnfound : BlockMap → Stored → (name : List ℕ) → VacBad → Type 0
IsUnfound map (stored.File e) name bad = ⊥
IsUnfound map (stored.Folder entries metadata) name bad =
    LacksRecords map entries metadata bad ⊎ LacksNamed map entries metadata name bad

-- ---- roots

-- the field of a root that is wrong, as it is told of an archive
abbrev pub field_of : RootError → RootField
field_of fields.Length = Length
field_of fields.Version = Version

-- the first thing that makes bytes no root of an archive
abbrev pub root_flaw : List ℕ → Option RootField
root_flaw bytes =
    option_or (option_map field_of (root_fault bytes))
    (if not (bytes_eq (take 128 (drop 130 bytes)) (filled 128 (codes "rvac"))) then Some Kind
    else if nat_lt (big_number 2 (drop 278 bytes)) MIN_BLOCK_SIZE then Some BlockSize
    else if nat_lt MAX_BLOCK_SIZE (big_number 2 (drop 278 bytes)) then Some BlockSize
    else None)

-- forty bytes are the entry of a directory, or of none
abbrev pub IsEntryOfKind : (bytes : List ℕ) → (is_dir : Bool) → Type 0
IsEntryOfKind bytes is_dir = (e : Entry) × IsTreeEntry e × SpellsEntry e bytes × (e.is_dir ≡ is_dir)

-- bytes don't begin with the two entries of a folder, of which the first is looked at first
abbrev pub AreNoEntries : (bytes : List ℕ) → VacBad → Type 0
AreNoEntries bytes bad =
    ((bad ≡ Meta 0) × (length bytes < 80))
    ⊎ ((80 ≤ length bytes) × (IsNoEntry (take 40 bytes) true 0 bad
    ⊎ (IsEntryOfKind (take 40 bytes) true × IsNoEntry (take 40 (drop 40 bytes)) false 0 bad)))
