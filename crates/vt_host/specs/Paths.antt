-- The calls that folders make of the system, by path.
use Rattle.std.specs.Prelude.{◌≡◌, ◌⊎◌, ℕ, ◌<◌, ◌≤◌, ◌++◌, Bool, true, length, take, drop, List, [], ◌∷◌, Option, Some, Result, Ok}
use Rattle.std.specs.List.{flat_map}
use Rattle.std.specs.declared.io.Error.{Error}
use Rattle.vt_out.specs.declared.folder_item.ItemKind.TheVariants.{File}
use Rattle.vt_host.specs.declared.paths.Look.{Look}

-- A call that looks what stands at a path, one that lists the names in it, or one that opens it.
pub data FolderCall : Type 0 where
  looked : (path : List ℕ) (found : Option Look) → FolderCall
  listed : (path : List ℕ) (ok : Bool) → FolderCall
  opened : (path : List ℕ) (ok : Bool) → FolderCall

-- a read of a file from this place on: how it left its buffer, and how many bytes it gave
pub record PieceCall : Type 0 where
  pub start : ℕ
  pub buf : List ℕ
  pub answer : Result ℕ Error

-- the path of what stands in a folder, by the names on the way
abbrev pub path_in : (folder : List ℕ) → (names : List (List ℕ)) → List ℕ
path_in folder names = folder ++ flat_map (λ (name : List ℕ). 47 ∷ name) names

-- the path of what has this name in the folder at a path
abbrev pub path_below : (folder name : List ℕ) → List ℕ
path_below folder name = folder ++ 47 ∷ name

-- A regular file was found at the path, and opened.
abbrev pub OpenedFile : (path : List ℕ) → (calls : List FolderCall) → Type 0
OpenedFile path calls = (look : Look) × (look.kind ≡ File)
    × (calls ≡ looked path (Some look) ∷ opened path true ∷ [])

-- A file is opened only right behind a look that found a regular file at its path.
abbrev pub OpensFile : (path : List ℕ) → (calls : List FolderCall) → Type 0
OpensFile path calls = (calls ≡ [])
    ⊎ ((found : Option Look) × (calls ≡ looked path found ∷ []))
    ⊎ ((look : Look) × (ok : Bool) × (look.kind ≡ File)
    × (calls ≡ looked path (Some look) ∷ opened path ok ∷ []))

-- such calls were added
abbrev pub AddsCalls : (Are : List FolderCall → Type 0) → (old new : List FolderCall) → Type 0
AddsCalls Are old new = (calls : List FolderCall) × (new ≡ old ++ calls) × Are calls

-- the only read of a file was this, with this answer
abbrev pub ReadsFirst : (start n : ℕ) (buf : List ℕ) (made : List PieceCall) → Type 0
ReadsFirst start n buf made = made ≡ record { start = start; buf = buf; answer = Ok n } ∷ []

-- the last one was this
abbrev pub ReadsLast : (start n : ℕ) (buf : List ℕ) (made : List PieceCall) → Type 0
ReadsLast start n buf made = (before : List PieceCall)
    × (made ≡ before ++ record { start = start; buf = buf; answer = Ok n } ∷ [])

-- From this place of the file that stands there on, n bytes were moved to the front of a buffer, none
-- only at the file's end or where the buffer has no room.
pub record MovesPiece (stood : Option (List ℕ)) (start n : ℕ) (buf filled : List ℕ) : Type 0 where
  pub bytes : List ℕ
  pub stands : stood ≡ Some bytes
  pub moved : take n filled ≡ take n (drop start bytes)
  pub ends : n ≡ 0 → 0 < length buf → length bytes ≤ start
  pub rest : drop n filled ≡ drop n buf
