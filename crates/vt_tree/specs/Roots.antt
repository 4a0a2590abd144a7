-- The root of a tree (venti(6)), 300 bytes:
--   version[2] name[128] type[128] score[20] blocksize[2] prev[20]
-- The version is 2. Zero bytes fill up the name and the type.
use Rattle.std.specs.Prelude.{ℕ, ◌≡◌, ◌<◌, ◌^◌, ◌==◌, not, if◌then◌else◌, Option, Some, None, List, ◌++◌, length}
use Rattle.byteorder.specs.Endian.{big_bytes, big_number}
use Rattle.vt_tree.specs.declared.root.Root.{Root}
use Rattle.vt_tree.specs.declared.root.RootError.{RootError}
use Rattle.vt_tree.specs.declared.root.RootError.TheVariants.{Length, Version}

-- what the fields of a root have room for
pub record IsRoot (r : Root) : Type 0 where
  pub name : length r.name ≡ 128
  pub kind : length r.kind ≡ 128
  pub score : length r.score.0 ≡ 20
  pub block_size : r.block_size < 2 ^ 16
  pub prev : length r.prev.0 ≡ 20

-- a root's bytes
abbrev pub root_bytes : Root → List ℕ
root_bytes r =
    big_bytes 2 2
    ++ (r.name ++ (r.kind ++ (r.score.0 ++ (big_bytes 2 r.block_size ++ r.prev.0))))

-- the first thing that makes bytes no root
abbrev pub root_fault : List ℕ → Option RootError
root_fault bytes =
    if not (length bytes == 300) then Some Length
    else if not (big_number 2 bytes == 2) then Some Version
    else None
