-- What of a folder is archived (vac(1)): its files and folders, in the order of their names, with
-- the low nine bits of their modes. Each gets a number, its qid.
use Rattle.std.specs.Prelude.{ℕ, ◌+◌, List, [], ◌∷◌, ◌++◌, bit_and, if◌then◌else◌}
use Rattle.std.specs.Ordering.{nat_cmp, is_lt}
use Rattle.std.specs.Cmp.Lexicographic.{slice_cmp}
use Rattle.vt_out.specs.declared.folder_item.Facts.{Facts}
use Rattle.vt_out.specs.FolderItems.{Items, none, file, folder, other}

-- ---- in the order of names

-- these items with one of this name put among them, before the first whose name isn't below it
abbrev pub placed : (name : List ℕ) → (put : Items Facts → Items Facts) → Items Facts
    → Items Facts
placed name put none = put none
placed name put (file about bytes others) =
    if is_lt (slice_cmp nat_cmp about.name name) then file about bytes (placed name put others)
    else put (file about bytes others)
placed name put (folder about inside others) =
    if is_lt (slice_cmp nat_cmp about.name name) then folder about inside (placed name put others)
    else put (folder about inside others)
placed name put (other about others) =
    if is_lt (slice_cmp nat_cmp about.name name) then other about (placed name put others)
    else put (other about others)

-- the items of a folder, and those of all folders in it, in the order of their names' bytes; those
-- of one name as they were
abbrev pub in_order : Items Facts → Items Facts
in_order none = none
in_order (file about bytes others) = placed about.name (file about bytes) (in_order others)
in_order (folder about inside others) =
    placed about.name (folder about (in_order inside)) (in_order others)
in_order (other about others) = placed about.name (other about) (in_order others)

-- ---- what is kept

-- with the low nine bits of its mode
abbrev pub cut_mode : Facts → Facts
cut_mode about = record about { mode = bit_and about.mode 511 }

-- what an archive keeps of items: files and folders, and nothing else
abbrev pub kept : Items Facts → Items Facts
kept none = none
kept (file about bytes others) = file (cut_mode about) bytes (kept others)
kept (folder about inside others) = folder (cut_mode about) (kept inside) (kept others)
kept (other about others) = kept others

-- an item of an archive
pub record Numbered : Type 0 where
  pub facts : Facts
  pub qid : ℕ

-- how many files and folders there are, at all depths
abbrev pub count : {A : Type 0} → Items A → ℕ
count none = 0
count (file about bytes others) = 1 + count others
count (folder about inside others) = 1 + count inside + count others
count (other about others) = count others

-- with numbers from n on, a folder before what is inside it
abbrev pub numbered : (n : ℕ) → Items Facts → Items Numbered
numbered n none = none
numbered n (file about bytes others) =
    file (record { facts = about; qid = n }) bytes (numbered (n + 1) others)
numbered n (folder about inside others) =
    folder (record { facts = about; qid = n }) (numbered (n + 1) inside)
    (numbered (n + 1 + count inside) others)
numbered n (other about others) = numbered n others

-- what an archive of the folder holds
abbrev pub archived : Items Facts → Items Numbered
archived items = numbered 1 (kept (in_order items))

-- ---- what isn't

-- the path of an item, with slashes between the names, below a folder of this path; that of the top
-- folder is empty
abbrev pub path_to : (path name : List ℕ) → List ℕ
path_to [] name = name
path_to (b ∷ path) name = b ∷ path ++ 47 ∷ name

-- the paths of what is neither a file nor a folder, a folder's items before what follows it
abbrev pub left_out : (path : List ℕ) → Items Facts → List (List ℕ)
left_out path none = []
left_out path (file about bytes others) = left_out path others
left_out path (folder about inside others) =
    left_out (path_to path about.name) inside ++ left_out path others
left_out path (other about others) = path_to path about.name ∷ left_out path others

-- what an archive of the folder leaves out
abbrev pub skipped : Items Facts → List (List ℕ)
skipped items = left_out [] (in_order items)
