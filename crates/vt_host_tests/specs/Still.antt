-- A folder `home` with two files, `f` of three bytes and `g` of four, which stays as it is.
use Rattle.std.specs.Prelude.{ℕ, pos, List, [], ◌∷◌, ◌++◌, Option, Some, None, bytes_eq, codes, if◌then◌else◌}
use Rattle.vt_host.specs.declared.paths.Look.{Look}
use Rattle.vt_out.specs.declared.folder_item.ItemKind.{ItemKind}
use Rattle.vt_out.specs.declared.folder_item.ItemKind.TheVariants.{File, Folder}

-- an item of this kind, without permissions, time and owners
abbrev pub still_item : ItemKind → Look
still_item kind = record { kind = kind; mode = 0; mtime = pos 0; uid = 0; gid = 0 }

-- what stands at a path
abbrev pub still_look : (path : List ℕ) → Option Look
still_look path = if bytes_eq path (codes "home/.") then Some (still_item Folder)
    else if bytes_eq path (codes "home/./f") then Some (still_item File)
    else if bytes_eq path (codes "home/./g") then Some (still_item File) else None

-- the names in the folder at a path, of which `z` is gone since
abbrev pub still_names : (path : List ℕ) → Option (List ℕ)
still_names path = if bytes_eq path (codes "home/.") then Some (102 ∷ 0 ∷ 122 ∷ 0 ∷ 103 ∷ 0 ∷ []) else None

-- the bytes of the file at a path
abbrev pub still_bytes : (path : List ℕ) → Option (List ℕ)
still_bytes path = if bytes_eq path (codes "home/./f") then Some (codes "abc")
    else if bytes_eq path (codes "home/./g") then Some (codes "wxyz") else None
