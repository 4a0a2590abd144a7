-- The folder in memory: what it holds, and which of its calls fail.
use Rattle.std.specs.Prelude.{ℕ, ◌≡◌, ◌⊎◌, ◌||◌, Bool, IsTrue, min, max, nat_lt, Contains, None, List, [], ◌∷◌, length, map}
use Rattle.std.specs.List.{list_any}
use Rattle.std.specs.Str.{bytes_eq}
use lib.Pointwise.{pointwise}
use Rattle.vt_base.specs.Faults.{IsOneMore}
use Rattle.vt_out.specs.declared.mem_folder.MemContent.{MemContent}
use Rattle.vt_out.specs.declared.mem_folder.MemFolder.{MemFolder}
use Rattle.vt_out.specs.declared.mem_folder.MemItem.{MemItem}
use Rattle.vt_out.specs.declared.mem_folder.MemItem.TheFolds.{fold-MemItem}
use Rattle.vt_out.specs.declared.mem_folder.MemItem.TheOpen.{MemItem-F, File, Folder, Other}
use Rattle.vt_out.specs.declared.folder_item.Facts.{Facts}
use Rattle.vt_out.specs.FolderItems.{Items, FailingPaths, none, file, folder, other, folder_at, file_at}

-- the bytes of a file in memory
abbrev pub content_bytes : MemContent → List ℕ
content_bytes content = content.bytes.items

-- items, each of which is put before those behind it
abbrev pub put_all : List (Items Facts → Items Facts) → Items Facts
put_all [] = none
put_all (put ∷ puts) = put (put_all puts)

-- an item before others; in place of each item inside it, how that one is put
abbrev pub put_item : MemItem-F (Items Facts → Items Facts) → Items Facts → Items Facts
put_item (File about content) others = file about (content_bytes content) others
put_item (Folder about inside) others = folder about (put_all inside.items) others
put_item (Other about) others = other about others

-- the items that these in memory are
abbrev pub items_in_memory : List MemItem → Items Facts
items_in_memory items = put_all (map (fold-MemItem (Items Facts → Items Facts) put_item) items)

-- what it holds, the most bytes that a call reads, the numbers of the calls that fail, the paths at
-- which each call fails, the number of the next call, and how many have failed
pub record FolderMemory : Type 0 where
  pub items : Items Facts
  pub most : ℕ
  pub failing : List ℕ
  pub failing_at : List (List (List ℕ))
  pub calls : ℕ
  pub faults : ℕ

-- what contracts see of a folder in memory: its items, and the plan and the counts of its calls
abbrev pub state_of : MemFolder → FolderMemory
state_of m = record {
  items = items_in_memory m.items.items;
  most = m.most;
  failing = m.failing.items;
  failing_at = m.failing_at.items;
  calls = m.calls;
  faults = m.faults;
}

-- whether this path is one of these
abbrev pub is_path_of : (paths : List (List (List ℕ))) → (path : List (List ℕ)) → Bool
is_path_of paths path = list_any (λ (one : List (List ℕ)). pointwise bytes_eq one path) paths

-- the next call at this path fails by the plan: by its number, or by the path
abbrev pub IsToFail : FolderMemory → (path : List (List ℕ)) → Type 0
IsToFail m path = Contains m.failing m.calls ⊎ IsTrue (is_path_of m.failing_at path)

-- the next call fails that looks for a folder at this path, or for a file
abbrev pub FailsToList : FolderMemory → (path : List (List ℕ)) → Type 0
FailsToList m path = IsToFail m path ⊎ (folder_at path m.items ≡ None)

-- the next read of a file at this path fails: by the plan, or since there is none
abbrev pub FailsToRead : FolderMemory → (path : List (List ℕ)) → Type 0
FailsToRead m path = IsToFail m path ⊎ (file_at path m.items ≡ None)

-- a call may fail at these paths and, where calls fail by their numbers, at each
abbrev pub may_fail_by : (numbers : List ℕ) → (paths : List (List (List ℕ))) → FailingPaths
may_fail_by numbers paths = record {
  list = λ path. nat_lt 0 (length numbers) || is_path_of paths path;
  read = λ path. nat_lt 0 (length numbers) || is_path_of paths path;
}

-- at which paths a call of the folder in memory may fail
abbrev pub may_fail_in : FolderMemory → FailingPaths
may_fail_in m = may_fail_by m.failing m.failing_at

-- what a call leaves, beside the count of those that have failed
pub record Leaves (old new : FolderMemory) : Type 0 where
  pub items : new.items ≡ old.items
  pub most : new.most ≡ old.most
  pub failing : new.failing ≡ old.failing
  pub failing_at : new.failing_at ≡ old.failing_at
  pub calls : IsOneMore old.calls new.calls

-- how many bytes of a file a call reads, where so many are left of it
abbrev pub piece : FolderMemory → (left room : ℕ) → ℕ
piece m left room = min left (min (max m.most 1) room)
