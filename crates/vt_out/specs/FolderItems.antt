-- Folders of files, as a host shows them (stat(5)): finite trees of items.
use Rattle.std.specs.Prelude.{ℕ, ◌≡◌, ◌⊎◌, ◌<◌, ◌^◌, ⊤, Bool, true, IsTrue, Option, Some, None, List, [], ◌∷◌, length, if◌then◌else◌}
use Rattle.std.specs.Option.{option_and_then}
use Rattle.std.specs.Str.{bytes_eq}
use Rattle.vt_base.specs.Bytes.{AreBytes}
use Rattle.vt_out.specs.declared.folder_item.Facts.{Facts}
use Rattle.vt_out.specs.declared.folder_item.Item.{Item}
use Rattle.vt_out.specs.declared.folder_item.ItemKind.{ItemKind}
use Rattle.vt_out.specs.declared.folder_item.ItemKind.TheVariants.{File, Folder, Other}

-- the items of a folder, in the order in which it lists them, each with what is known about it
pub data Items (A : Type 0) : Type 0 where
  none : Items A
  -- a file, with its bytes
  file : (about : A) (bytes : List ℕ) (others : Items A) → Items A
  -- a folder, with its items
  folder : (about : A) (inside others : Items A) → Items A
  -- neither, as a link or a device
  other : (about : A) (others : Items A) → Items A

-- what a file may hold: fewer bytes than a place of eight bytes reaches
pub record IsFile (bytes : List ℕ) : Type 0 where
  pub are : AreBytes bytes
  pub few : length bytes < 2 ^ 64

-- each file, at all depths, has bytes
abbrev pub HaveBytes : Items Facts → Type 0
HaveBytes none = ⊤
HaveBytes (file about bytes others) = IsFile bytes × HaveBytes others
HaveBytes (folder about inside others) = HaveBytes inside × HaveBytes others
HaveBytes (other about others) = HaveBytes others

-- ---- how a folder is listed

-- what a listing tells of an item with these facts
abbrev pub listed_item : Facts → ItemKind → Item
listed_item about kind = record {
  name = about.name;
  kind = kind;
  mode = about.mode;
  mtime = about.mtime;
  uid = about.uid;
  gid = about.gid;
}

-- what a listing tells of items, in order
abbrev pub listing_of : Items Facts → List Item
listing_of none = []
listing_of (file about bytes others) = listed_item about File ∷ listing_of others
listing_of (folder about inside others) = listed_item about Folder ∷ listing_of others
listing_of (other about others) = listed_item about Other ∷ listing_of others

-- ---- what stands at a path, a list of names from the top folder on

-- the items of the first folder of this name, and the bytes of the first file
abbrev pub inside_of : (name : List ℕ) → Items Facts → Option (Items Facts)
inside_of name none = None
inside_of name (file about bytes others) = inside_of name others
inside_of name (folder about inside others) =
    if bytes_eq about.name name then Some inside else inside_of name others
inside_of name (other about others) = inside_of name others

-- the bytes of the first file of this name, if there is one
abbrev pub bytes_of : (name : List ℕ) → Items Facts → Option (List ℕ)
bytes_of name none = None
bytes_of name (file about bytes others) =
    if bytes_eq about.name name then Some bytes else bytes_of name others
bytes_of name (folder about inside others) = bytes_of name others
bytes_of name (other about others) = bytes_of name others

-- what is in the folder at this path, if there is one
abbrev pub folder_at : (path : List (List ℕ)) → Items Facts → Option (Items Facts)
folder_at [] items = Some items
folder_at (name ∷ path) items = option_and_then (folder_at path) (inside_of name items)

-- the bytes of the file at this path, if there is one
abbrev pub file_at : (path : List (List ℕ)) → Items Facts → Option (List ℕ)
file_at [] items = None
file_at (name ∷ []) items = bytes_of name items
file_at (name ∷ next ∷ path) items =
    option_and_then (file_at (next ∷ path)) (inside_of name items)

-- ---- which calls fail

-- at which paths a call may fail where something stands: the listing of a folder, and a read of a file
pub record FailingPaths : Type 0 where
  pub list : (path : List (List ℕ)) → Bool
  pub read : (path : List (List ℕ)) → Bool

-- at all of them
abbrev pub all_paths : FailingPaths
all_paths = record {
  list = λ path. true;
  read = λ path. true;
}

-- a listing of this path may fail: it is one of those at which one may, or no folder stands there
abbrev pub ListMayFail : FailingPaths → Items Facts → (path : List (List ℕ)) → Type 0
ListMayFail failing items path = IsTrue (failing.list path) ⊎ (folder_at path items ≡ None)

-- a read at this path may fail: it is one of those at which one may, or no file stands there
abbrev pub ReadMayFail : FailingPaths → Items Facts → (path : List (List ℕ)) → Type 0
ReadMayFail failing items path = IsTrue (failing.read path) ⊎ (file_at path items ≡ None)
