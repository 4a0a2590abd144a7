-- What writing a file of a folder leaves.
use Rattle.std.specs.Prelude.{ℕ, ◌≡◌, ◌<◌, ◌^◌, ⊤, Bool, IsTrue, Some, List, length}
use Rattle.vt_base.specs.Bytes.{AreBytes}
use Rattle.vt_out.specs.declared.folder_item.Facts.{Facts}
use Rattle.vt_out.specs.FolderItems.{FailingPaths, Items, ReadMayFail, file_at}
use Rattle.vt_tree.specs.declared.error.TreeErr.TheVariants as trees
use Rattle.vt_tree.specs.Calls.{Call}
use Rattle.vt_tree.specs.Streams.{Shape, stream_of}
use Rattle.vac_write.specs.declared.error.VacErr.{VacErr}
use Rattle.vac_write.specs.declared.error.VacErr.TheVariants.{FolderFault, Tree, BadName, TooDeep, NoMemory}
use Rattle.vac_write.specs.Puts.{GivesUpBlocks}

-- bytes are the file at this path, if the folder tells it and there is one
pub record IsWholeFile (tells : Bool) (held : Items Facts) (path : List (List ℕ)) (bytes : List ℕ)
    : Type 0 where
  pub are : AreBytes bytes
  pub is : IsTrue tells → (whole : List ℕ) → file_at path held ≡ Some whole → whole ≡ bytes

-- a read of the file at this path may fail, if the folder tells so
abbrev pub IsUnread : (tells : Bool) → (held : Items Facts) → FailingPaths → (path : List (List ℕ))
    → Type 0
IsUnread tells held failing path = IsTrue tells → ReadMayFail failing held path

-- when a stream of so many bytes is given up, of which this holds where a read of it has failed
abbrev pub IsStreamGivenUpFor : (failed : Type 0) → VacErr → (len : ℕ) → Type 0
IsStreamGivenUpFor failed FolderFault len = failed
IsStreamGivenUpFor failed (Tree (trees.Block err)) len = ⊤
IsStreamGivenUpFor failed (Tree trees.SourceFault) len = ⊥
IsStreamGivenUpFor failed (Tree (trees.BadEntry bad)) len = ⊥
IsStreamGivenUpFor failed (Tree (trees.BadBlock depth bytes)) len = ⊥
IsStreamGivenUpFor failed (Tree trees.TooLong) len = 2 ^ 40 < len
IsStreamGivenUpFor failed (Tree trees.NoMemory) len = ⊤
IsStreamGivenUpFor failed (BadName path) len = ⊥
IsStreamGivenUpFor failed (TooDeep path) len = ⊥
IsStreamGivenUpFor failed NoMemory len = ⊤

-- A stream was given up: of its tree the first blocks were put, and nothing else was asked for.
pub record GivesUpTree {S : Type 0} (does : S → Call → S → Type 0)
    (score_of : List ℕ → List ℕ) (s s' : S) (shape : Shape) (stream : List ℕ → Type 0)
    (failed : Type 0) (err : VacErr) : Type 0 where
  pub bytes : List ℕ
  pub is : stream bytes
  pub cause : IsStreamGivenUpFor failed err (length bytes)
  pub given_up : GivesUpBlocks does s s' (stream_of score_of shape bytes).blocks err
