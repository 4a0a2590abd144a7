-- What a reader tells of an archive that stands for a folder.
use Rattle.std.specs.Prelude.{ℕ, ◌≡◌, ◌-◌, ⊤, min, Ok, List, [], ◌∷◌, length, take, drop}
use Rattle.vt_out.specs.declared.folder_item.ItemKind.{ItemKind}
use Rattle.vt_out.specs.declared.folder_item.ItemKind.TheVariants as kinds
use Rattle.vt_out.specs.FolderItems.{Items, none, file, folder, listed_item}
use Rattle.vt_tree.specs.declared.entry.Entry.{Entry}
use Rattle.vt_tree.specs.declared.error.TreeErr.TheVariants as trees
use Rattle.vt_tree.specs.Calls.{IsBlockRefusal}
use Rattle.vt_tree.specs.Content.{size_of, byte_of, IsFileContent}
use Rattle.vt_tree.specs.Maps.{BlockMap}
use Rattle.vt_tree.specs.Reading.{GivesBytes}
use Rattle.vac_meta.specs.declared.record.Record.{Record}
use Rattle.vac_model.specs.Kept.{Numbered}
use Rattle.vac_model.specs.Trees.{AreFolder, StandFor, IsTreeOf}
use Rattle.vac_read.specs.declared.error.VacBad.{VacBad}
use Rattle.vac_read.specs.declared.error.VacBad.TheVariants.{Tree, Root, Meta, NoMemory}
use Rattle.vac_read.specs.declared.node.Node.{Node}
use Rattle.vac_read.specs.declared.node.Stored.{Stored}
use Rattle.vac_read.specs.declared.node.Stored.TheVariants as stored
use Rattle.vac_read.specs.Broken.{IsBroken, IsUnfound}
use Rattle.vac_read.specs.Nodes.{AreNodeEntries, Lists, IsTop}
use Rattle.vac_read.specs.Reading.{IsNoArchive}

-- ---- nodes and items

-- what is stored so is a folder of these items
abbrev pub StandsAs : BlockMap → Stored → Items Numbered → Type 0
StandsAs map (stored.File e) items = ⊥
StandsAs map (stored.Folder entries metadata) items =
    (records : List Record) × AreFolder map entries metadata records
    × StandFor map entries records items

-- what is stored so is a file with these bytes
abbrev pub HoldsBytes : BlockMap → Stored → (bytes : List ℕ) → Type 0
HoldsBytes map (stored.File e) bytes = IsFileContent map e bytes
HoldsBytes map (stored.Folder entries metadata) bytes = ⊥

-- a node tells what an archive keeps of an item
pub record IsItem (about : Numbered) (kind : ItemKind) (size : ℕ) (node : Node) : Type 0 where
  pub item : node.item ≡ listed_item about.facts kind
  pub qid : node.qid ≡ about.qid
  pub size_is : node.size ≡ size

-- nodes are these items, in their order
abbrev pub AreNodesOf : BlockMap → Items Numbered → List Node → Type 0
AreNodesOf map none [] = ⊤
AreNodesOf map (file about bytes others) (node ∷ nodes) =
    IsItem about kinds.File (length bytes) node × HoldsBytes map node.stored bytes
    × AreNodesOf map others nodes
AreNodesOf map (folder about inside others) (node ∷ nodes) =
    IsItem about kinds.Folder 0 node × StandsAs map node.stored inside
    × AreNodesOf map others nodes
AreNodesOf map items nodes = ⊥

-- ---- refusals

-- a call of the store has failed, or memory was short
abbrev pub IsOfStore : VacBad → Type 0
IsOfStore (Tree (trees.Block err)) = IsBlockRefusal err → ⊥
IsOfStore (Tree trees.SourceFault) = ⊥
IsOfStore (Tree (trees.BadEntry bad)) = ⊥
IsOfStore (Tree (trees.BadBlock depth len)) = ⊥
IsOfStore (Tree trees.TooLong) = ⊥
IsOfStore (Tree trees.NoMemory) = ⊤
IsOfStore (Root field) = ⊥
IsOfStore (Meta at) = ⊥
IsOfStore NoMemory = ⊤

-- ---- what holds of all archives

-- the top folder of an archive is the archive's folder
abbrev pub TopsStand : Type 0
TopsStand = (map : BlockMap) (score : List ℕ) (items : Items Numbered) (node : Node)
    → IsTreeOf map score items → IsTop map score node → StandsAs map node.stored items

-- a folder's nodes are its items
abbrev pub ListsAreItems : Type 0
ListsAreItems = (map : BlockMap) (s : Stored) (items : Items Numbered) (nodes : List Node)
    → StandsAs map s items → Lists map s nodes → AreNodesOf map items nodes

-- what is read of a file are its bytes
abbrev pub ReadsAreBytes : Type 0
ReadsAreBytes = (map : BlockMap) (e : Entry) (bytes got : List ℕ) (at n : ℕ)
    → IsFileContent map e bytes
    → GivesBytes (byte_of map e) at (min n (size_of e - at)) (Ok got)
    → got ≡ take n (drop at bytes)

-- an archive that stands for a folder is opened, and each folder in it is listed, and walked
-- through, unless a call fails or memory is short
abbrev pub NoneIsRefused : Type 0
NoneIsRefused = (map : BlockMap) (score : List ℕ) (items : Items Numbered) (bad : VacBad)
    → IsTreeOf map score items → IsNoArchive map score bad → IsOfStore bad

-- in the archive of items no folder is malformed: only the store can have failed
abbrev pub NoneIsBroken : Type 0
NoneIsBroken = (map : BlockMap) (s : Stored) (items : Items Numbered) (bad : VacBad)
    → AreNodeEntries s → StandsAs map s items → IsBroken map s bad → IsOfStore bad

-- in the archive of items each name can be looked for: only the store can have failed
abbrev pub NoneIsUnfound : Type 0
NoneIsUnfound = (map : BlockMap) (s : Stored) (items : Items Numbered) (name : List ℕ)
    (bad : VacBad) → AreNodeEntries s → StandsAs map s items → IsUnfound map s name bad
    → IsOfStore bad
