-- The items of a folder, as an archiver takes them: in order, and tested.
use Rattle.std.specs.Prelude.{ℕ, ◌≡◌, ◌≢◌, ◌≤◌, ◌+◌, ◌||◌, nat_lt, ⊤, IsTrue, Bool, false, Some, None, List, [], ◌∷◌, length}
use Rattle.vt_out.specs.declared.folder_item.Facts.{Facts}
use Rattle.vt_out.specs.declared.folder_item.Item.{Item}
use Rattle.vt_out.specs.declared.folder_item.ItemKind.{ItemKind}
use Rattle.vt_out.specs.declared.folder_item.ItemKind.TheVariants.{File, Folder, Other}
use Rattle.vt_out.specs.FolderItems.{FailingPaths, Items, ListMayFail, listing_of, folder_at, file_at}
use Rattle.vt_tree.specs.declared.error.TreeErr.TheVariants as trees
use Rattle.vac_meta.specs.declared.TheConstants.{MAX_NAME}
use Rattle.vac_meta.specs.Records.{IsItemName}
use Rattle.vac_model.specs.Archives.{metadata}
use Rattle.vac_model.specs.Kept.{in_order, kept, numbered, path_to}
use Rattle.vac_model.specs.Limits.{Unfit, bad_name, too_long, unfit_listing}
use Rattle.vac_write.specs.declared.error.VacErr.{VacErr}
use Rattle.vac_write.specs.declared.error.VacErr.TheVariants.{FolderFault, Tree, BadName, TooDeep, NoMemory}

-- names on a way, behind a path, with slashes between them
abbrev pub joined_behind : (path : List ℕ) → (names : List (List ℕ)) → List ℕ
joined_behind path [] = path
joined_behind path (name ∷ names) = joined_behind (path_to path name) names

-- the names with slashes between them
abbrev pub joined_path : (names : List (List ℕ)) → List ℕ
joined_path names = joined_behind [] names

-- how many bytes the metadata of these items has
abbrev pub metadata_len : Items Facts → ℕ
metadata_len items = length (metadata (numbered 1 (kept items)))

-- what is known of a folder is what stands at this path, if it tells it and there is one
abbrev pub IsSeenAt : (tells : Bool) → (held : Items Facts) → (path : List (List ℕ)) → Items Facts
    → Type 0
IsSeenAt tells held path seen =
    IsTrue tells → (whole : Items Facts) → folder_at path held ≡ Some whole → whole ≡ seen

-- These items were listed: those of the folder at this path, if it tells them, in the order of
-- their names.
pub record AreListed (tells : Bool) (held : Items Facts) (path : List (List ℕ))
    (items : List Item) : Type 0 where
  pub seen : Items Facts
  pub is : IsTrue tells → folder_at path held ≡ Some seen
  pub ordered : items ≡ listing_of (in_order seen)
  pub fit : unfit_listing (joined_path path) (in_order seen) ≡ None

-- a folder's items were listed that aren't fit for an archive
pub record IsUnfitAt (tells : Bool) (held : Items Facts) (path : List (List ℕ)) (why : Unfit)
    : Type 0 where
  pub seen : Items Facts
  pub is : IsTrue tells → folder_at path held ≡ Some seen
  pub unfit : unfit_listing (joined_path path) (in_order seen) ≡ Some why

-- what a folder lists stands at its path
abbrev pub StandsAt : (held : Items Facts) → (path : List (List ℕ)) → ItemKind → Type 0
StandsAt held path File = file_at path held ≢ None
StandsAt held path Folder = folder_at path held ≢ None
StandsAt held path Other = ⊤

-- why a folder's items aren't handed on
abbrev pub IsNotListed : (tells : Bool) → (held : Items Facts) → FailingPaths
    → (path : List (List ℕ)) → VacErr → Type 0
IsNotListed tells held failing path FolderFault = IsTrue tells → ListMayFail failing held path
IsNotListed tells held failing path (Tree (trees.Block err)) = ⊥
IsNotListed tells held failing path (Tree trees.SourceFault) = ⊥
IsNotListed tells held failing path (Tree (trees.BadEntry bad)) = ⊥
IsNotListed tells held failing path (Tree (trees.BadBlock depth len)) = ⊥
IsNotListed tells held failing path (Tree trees.TooLong) = IsUnfitAt tells held path too_long
IsNotListed tells held failing path (Tree trees.NoMemory) = ⊥
IsNotListed tells held failing path (BadName name) = IsUnfitAt tells held path (bad_name name)
IsNotListed tells held failing path (TooDeep name) = ⊥
IsNotListed tells held failing path NoMemory = ⊤

-- what the texts of an item may be that has a record
pub record FitsArchivedItem (item : Item) : Type 0 where
  pub name : IsItemName item.name
  pub uid : length item.uid ≤ MAX_NAME
  pub gid : length item.gid ≤ MAX_NAME

-- one of two values for what is archived, and the other for what isn't
abbrev pub if_kept : {A : Type 0} → ItemKind → A → A → A
if_kept File x y = x
if_kept Folder x y = x
if_kept Other x y = y

-- What holds of an item if it is a file or a folder; of others nothing is asked.
abbrev pub IfKept : ItemKind → Type 0 → Type 0
IfKept File p = p
IfKept Folder p = p
IfKept Other p = ⊤

-- whether a file or a folder has a uid or a gid that is too long
abbrev pub has_bad_owner : Item → Bool
has_bad_owner item = if_kept item.kind
    (nat_lt MAX_NAME (length item.uid) || nat_lt MAX_NAME (length item.gid)) false

-- how many bytes the record of an item has, none where it has no record
abbrev pub record_len : Item → ℕ
record_len item = if_kept item.kind
    (27 + length item.name + length item.uid + length item.gid) 0
