-- What is shown of the archive of a folder: the items of that folder, each at its path (vacfs(4)).
use Rattle.std.specs.Prelude.{ℕ, ◌≡◌, ⊤, min, if◌then◌else◌, IfSome, Option, Some, None, List, [], ◌∷◌, length, take, drop}
use Rattle.std.specs.List.{AllByRecursion}
use Rattle.std.specs.Option.{option_and_then}
use Rattle.std.specs.Str.{bytes_eq}
use Rattle.vt_out.specs.declared.folder_item.ItemKind.TheVariants as kinds
use Rattle.vt_out.specs.FolderItems.{Items, none, file, folder, other}
use Rattle.vt_tree.specs.Maps.{BlockMap}
use Rattle.vac_model.specs.Kept.{Numbered}
use Rattle.vac_model.specs.Trees.{IsTreeOf}
use Rattle.vac_read.specs.declared.node.Node.{Node}
use Rattle.vac_read.specs.Laws.{AreNodesOf, HoldsBytes, IsItem, StandsAs}
use Rattle.vac_read.specs.Nodes.{FindsNode, top_item}
use Rattle.nine_wire.specs.Messages.{r_read, t_read}
use Rattle.nine_view.specs.declared.fid.Fid.{Fid}
use Rattle.nine_view.specs.declared.fid.Reading.{Reading}
use Rattle.nine_view.specs.Answers.{iounit, request}
use Rattle.nine_view.specs.Known.{ViewState, fid_at}
use Rattle.nine_view.specs.Serving.{MessageTurn}
use Rattle.vac_view.specs.Viewing.{IsAnswered, ShowsArchive}

-- ---- what stands at a path

-- the folder that is archived, or a file or a folder in it, at any depth
pub data Kept : Type 0 where
  the_top : (items : Items Numbered) → Kept
  a_file : (about : Numbered) → (bytes : List ℕ) → Kept
  a_folder : (about : Numbered) → (inside : Items Numbered) → Kept

-- what is in it; in a file nothing
abbrev pub items_in : Kept → Items Numbered
items_in (the_top items) = items
items_in (a_file about bytes) = none
items_in (a_folder about inside) = inside

-- the first item of this name
abbrev pub item_named : (name : List ℕ) → Items Numbered → Option Kept
item_named name none = None
item_named name (file about bytes others) =
    if bytes_eq about.facts.name name then Some (a_file about bytes) else item_named name others
item_named name (folder about inside others) =
    if bytes_eq about.facts.name name then Some (a_folder about inside)
    else item_named name others
item_named name (other about others) = item_named name others

-- what stands at a path, of which the last name comes first
abbrev pub kept_at : Items Numbered → (names : List (List ℕ)) → Option Kept
kept_at items [] = Some (the_top items)
kept_at items (name ∷ names) =
    option_and_then (λ up. item_named name (items_in up)) (kept_at items names)

-- ---- what a node tells

-- the blocks of this map have it so, and a node tells of it
abbrev pub IsKept : BlockMap → Kept → Node → Type 0
IsKept map (the_top items) node =
    (node.item ≡ top_item) × (node.qid ≡ 0) × (node.size ≡ 0) × StandsAs map node.stored items
IsKept map (a_file about bytes) node =
    IsItem about kinds.File (length bytes) node × HoldsBytes map node.stored bytes
IsKept map (a_folder about inside) node =
    IsItem about kinds.Folder 0 node × StandsAs map node.stored inside

-- what was found tells of what is there, where something is
abbrev pub IsWhatIsThere : BlockMap → Option Kept → Option Node → Type 0
IsWhatIsThere map None None = ⊤
IsWhatIsThere map (Some kept) (Some node) = IsKept map kept node
IsWhatIsThere map None (Some node) = ⊥
IsWhatIsThere map (Some kept) None = ⊥

-- what is found under a name is the folder's first item of that name, if it has one; and in a file
-- nothing is
abbrev pub NamesAreItems : Type 0
NamesAreItems = (map : BlockMap) (kept : Kept) (node : Node) (name : List ℕ)
    (found : Option Node) → IsKept map kept node → FindsNode map node.stored name found
    → IsWhatIsThere map (item_named name (items_in kept)) found

-- ---- what a view knows

-- a fid stands for what is kept at a path; the files that are kept of it are what is in that
pub record StandsAt (map : BlockMap) (items : Items Numbered) (f : Fid) : Type 0 where
  pub names : List (List ℕ)
  pub kept : Kept
  pub at : kept_at items names ≡ Some kept
  pub node : IsKept map kept f.node
  pub files : IfSome f.files (AreNodesOf map (items_in kept))

-- each fid of the view stands for an item of the folder that was archived
abbrev pub AllStand : BlockMap → Items Numbered → ViewState → Type 0
AllStand map items known = AllByRecursion (λ e. StandsAt map items e.1) known.fids

-- where a folder is archived, each fid stands for something in it, from message to message
abbrev pub FidsAreItems : Type 0
FidsAreItems = (map : BlockMap) (score : List ℕ) (items : Items Numbered) (top : Node)
    (turns : List MessageTurn) → IsTreeOf map score items → ShowsArchive map score top turns
    → AllByRecursion (λ turn. AllStand map items turn.known) turns

-- a read of an open fid of a file with these bytes is replied by those from the place on, as many
-- as are asked for and have room
abbrev pub ReadsAreOfFiles : Type 0
ReadsAreOfFiles =
    (map : BlockMap) (known : ViewState) (turn : MessageTurn) (it : IsAnswered map known turn)
    (msize fid offset count : ℕ) (f : Fid) (reading : Reading) (bytes : List ℕ)
    → known.msize ≡ Some msize → it.asked ≡ request (t_read fid offset count)
    → fid_at fid known.fids ≡ Some f → f.reading ≡ Some reading
    → HoldsBytes map f.node.stored bytes → turn.failure ≡ None
    → it.reply ≡ r_read (take (min count (iounit msize)) (drop offset bytes))
