-- What is read of a file as a stream.
use Rattle.std.specs.Prelude.{ℕ, ◌+◌, ◌<◌, ◌^◌, ◌&&◌, ⊤, Bool, cond, true, false, not, is_some, Option, Some, None, List, [], ◌∷◌, drop}
use Rattle.std.proofs.Common.{arith}
use Rattle.std.proofs.lemmas.List.{get_or-drop}
use Rattle.std.specs.Option.{option_and_then}
use Rattle.std.specs.Str.{bytes_eq}
use Rattle.vt_base.specs.Bytes.{AreBytes, AreBytes-none}
use Rattle.vt_out.specs.declared.folder_item.Facts.{Facts}
use Rattle.vt_out.specs.FolderItems.{FailingPaths, Items, none, file, folder, other, IsFile, HaveBytes, inside_of, bytes_of, file_at}

-- the bytes, or none where there is no file
abbrev pub or_none : Option (List ℕ) → List ℕ
or_none None = []
or_none (Some bytes) = bytes

-- the bytes of the file at this path; none where there is no file
abbrev pub bytes_at_path : (path : List (List ℕ)) → Items Facts → List ℕ
bytes_at_path path items = or_none (file_at path items)

-- what a folder holds, and at which paths a call of it may fail, where it tells them
abbrev pub told_folder : (tells : Bool) → (held : Items Facts) → FailingPaths
    → Option (Items Facts × FailingPaths)
told_folder true held failing = Some (held, failing)
told_folder false held failing = None

-- whether no read of the file at this path fails: the folder tells that one stands there, and that none
-- may
abbrev pub is_sure : (tells : Bool) → (held : Items Facts) → FailingPaths
    → (path : List (List ℕ)) → Bool
is_sure false held failing path = false
is_sure true held failing path = is_some (file_at path held) && not (failing.read path)

-- how many calls of the folder have failed, where one of the file may
abbrev pub unsure_faults : (sure : Bool) → (faults : ℕ) → ℕ
unsure_faults true faults = 0
unsure_faults false faults = faults

-- ..and where none may
abbrev pub sure_faults : (sure : Bool) → (faults : ℕ) → ℕ
sure_faults true faults = faults
sure_faults false faults = 0

-- a count is below its type's end in either case
pub unsure_fit : (sure : Bool) (faults : ℕ) → faults < 2 ^ 64 → unsure_faults sure faults < 2 ^ 64
unsure_fit true faults fits = omega arith
unsure_fit false faults fits = fits

-- ---- it has bytes

-- what is found there, if anything, is as long as a file may be, and of bytes
abbrev IfFile : Option (List ℕ) → Type 0
IfFile None = ⊤
IfFile (Some bytes) = IsFile bytes

-- the items that are found, if any, have files of bytes
abbrev IfHave : Option (Items Facts) → Type 0
IfHave None = ⊤
IfHave (Some items) = HaveBytes items

-- a file among such items is of bytes
file_bytes : (name : List ℕ) (items : Items Facts) → HaveBytes items
    → IfFile (bytes_of name items)
file_bytes name none have = tt
file_bytes name (file about bytes others) have =
    elim (bytes_eq about.name name) as (λ t. IfFile (cond t (Some bytes) (bytes_of name others))) [
      | true ↦ have.0
      | false ↦ file_bytes name others have.1
    ]
file_bytes name (folder about inside others) have = file_bytes name others have.1
file_bytes name (other about others) have = file_bytes name others have

-- a folder among such items has files of bytes
folder_bytes : (name : List ℕ) (items : Items Facts) → HaveBytes items
    → IfHave (inside_of name items)
folder_bytes name none have = tt
folder_bytes name (file about bytes others) have = folder_bytes name others have.1
folder_bytes name (folder about inside others) have =
    elim (bytes_eq about.name name)
    as (λ t. IfHave (cond t (Some inside) (inside_of name others))) [
      | true ↦ have.0
      | false ↦ folder_bytes name others have.1
    ]
folder_bytes name (other about others) have = folder_bytes name others have

-- what is below a folder has bytes, if what is at each of its paths has
bytes_below : (at : Items Facts → Option (List ℕ))
    → ((items : Items Facts) → HaveBytes items → IfFile (at items))
    → (found : Option (Items Facts)) → IfHave found → IfFile (option_and_then at found)
bytes_below at each None have = tt
bytes_below at each (Some inside) have = each inside have

-- a file at a path in such items is of bytes
bytes_at : (path : List (List ℕ)) (items : Items Facts) → HaveBytes items
    → IfFile (file_at path items)
bytes_at [] items have = tt
bytes_at (name ∷ []) items have = file_bytes name items have
bytes_at (name ∷ (next ∷ path)) items have =
    bytes_below (file_at (next ∷ path)) (bytes_at (next ∷ path))
    (inside_of name items) (folder_bytes name items have)

-- what is read at a path is of bytes, also where there is no file
pub file_is : (path : List (List ℕ)) (items : Items Facts) → HaveBytes items
    → IsFile (bytes_at_path path items)
file_is path items have = of (file_at path items) (bytes_at path items have)
  where
    of : (found : Option (List ℕ)) → IfFile found → IsFile (or_none found)
    of None is = record {
      are = AreBytes-none;
      few = omega arith;
    }
    of (Some bytes) is = is

-- what is left of a file behind a place is of bytes, too
pub left_bytes : (path : List (List ℕ)) (items : Items Facts) → HaveBytes items
    → (at : ℕ) → AreBytes (drop at (bytes_at_path path items))
left_bytes path items have at i =
    let is = file_is path items have in
    omega (arith, get_or-drop at (bytes_at_path path items) i 0, is.are (at + i))
