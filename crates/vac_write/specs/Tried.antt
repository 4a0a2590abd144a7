-- A folder as an archiver tried it: what it found there, and of what a call failed.
use Rattle.std.specs.Prelude.{ℕ, ◌≡◌, ◌+◌, ⊤, IsTrue, List, [], ◌∷◌, ◌++◌}
use Rattle.vt_out.specs.declared.folder_item.Facts.{Facts}
use Rattle.vt_out.specs.FolderItems.{FailingPaths, Items, none, file, folder, other}
use Rattle.vt_model.specs.History.{Block}
use Rattle.vt_tree.specs.Streams.{stream_of}
use Rattle.vac_model.specs.Archives.{file_shape}
use Rattle.vac_model.specs.Kept.{path_to}

-- the items of a folder, in the order in which they were tried
pub data Tried : Type 0 where
  no_more : Tried
  -- a file that was read to its end
  read : (about : Facts) (bytes : List ℕ) (others : Tried) → Tried
  -- a folder that was listed
  listed : (about : Facts) (inside others : Tried) → Tried
  -- neither, as a link or a device
  passed : (about : Facts) (others : Tried) → Tried
  -- a file of which a read has failed, behind which these blocks had been put of it
  unread : (about : Facts) (bytes : List ℕ) (begun : List Block) (others : Tried) → Tried
  -- a folder of which the listing has failed
  unlisted : (about : Facts) (inside : Items Facts) (others : Tried) → Tried

-- all that stands there
abbrev pub whole : Tried → Items Facts
whole no_more = none
whole (read about bytes others) = file about bytes (whole others)
whole (listed about inside others) = folder about (whole inside) (whole others)
whole (passed about others) = other about (whole others)
whole (unread about bytes begun others) = file about bytes (whole others)
whole (unlisted about inside others) = folder about inside (whole others)

-- what was found: all but the files and folders of which a call has failed
abbrev pub found : Tried → Items Facts
found no_more = none
found (read about bytes others) = file about bytes (found others)
found (listed about inside others) = folder about (found inside) (found others)
found (passed about others) = other about (found others)
found (unread about bytes begun others) = found others
found (unlisted about inside others) = found others

-- the paths of those, below a folder of this path
abbrev pub failed_at : (path : List ℕ) → Tried → List (List ℕ)
failed_at path no_more = []
failed_at path (read about bytes others) = failed_at path others
failed_at path (listed about inside others) =
    failed_at (path_to path about.name) inside ++ failed_at path others
failed_at path (passed about others) = failed_at path others
failed_at path (unread about bytes begun others) =
    path_to path about.name ∷ failed_at path others
failed_at path (unlisted about inside others) = path_to path about.name ∷ failed_at path others

-- how many they are
abbrev pub failures : Tried → ℕ
failures no_more = 0
failures (read about bytes others) = failures others
failures (listed about inside others) = failures inside + failures others
failures (passed about others) = failures others
failures (unread about bytes begun others) = 1 + failures others
failures (unlisted about inside others) = 1 + failures others

-- only such are lacking of which a call may fail: each file that wasn't read to its end is one of which
-- a read may, and each folder that wasn't listed one of which the listing may, below a folder at this
-- path
abbrev pub LacksOnly : FailingPaths → (path : List (List ℕ)) → Tried → Type 0
LacksOnly failing path no_more = ⊤
LacksOnly failing path (read about bytes others) = LacksOnly failing path others
LacksOnly failing path (listed about inside others) =
    LacksOnly failing (path ++ about.name ∷ []) inside × LacksOnly failing path others
LacksOnly failing path (passed about others) = LacksOnly failing path others
LacksOnly failing path (unread about bytes begun others) =
    IsTrue (failing.read (path ++ about.name ∷ [])) × LacksOnly failing path others
LacksOnly failing path (unlisted about inside others) =
    IsTrue (failing.list (path ++ about.name ∷ [])) × LacksOnly failing path others

-- ---- blocks of files that weren't read to their end

-- what was put of them, file by file
abbrev pub begun_in : Tried → List (List Block)
begun_in no_more = []
begun_in (read about bytes others) = begun_in others
begun_in (listed about inside others) = begun_in inside ++ begun_in others
begun_in (passed about others) = begun_in others
begun_in (unread about bytes begun others) = begun ∷ begun_in others
begun_in (unlisted about inside others) = begun_in others

-- these are the first blocks of the tree of a file with these bytes
pub record AreFirst (score_of : List ℕ → List ℕ) (bsize : ℕ) (bytes : List ℕ)
    (begun : List Block) : Type 0 where
  pub rest : List Block
  pub are : begun ++ rest ≡ (stream_of score_of (file_shape bsize) bytes).blocks

-- of each such file the first blocks were put, in their order, and no others
abbrev pub AreBegun : (score_of : List ℕ → List ℕ) → (bsize : ℕ) → Tried → Type 0
AreBegun score_of bsize no_more = ⊤
AreBegun score_of bsize (read about bytes others) = AreBegun score_of bsize others
AreBegun score_of bsize (listed about inside others) =
    AreBegun score_of bsize inside × AreBegun score_of bsize others
AreBegun score_of bsize (passed about others) = AreBegun score_of bsize others
AreBegun score_of bsize (unread about bytes begun others) =
    AreFirst score_of bsize bytes begun × AreBegun score_of bsize others
AreBegun score_of bsize (unlisted about inside others) = AreBegun score_of bsize others

-- all of these are blocks, in their order, with each of the runs somewhere between them, in their
-- order too
abbrev pub AreWoven : (runs : List (List Block)) → (blocks all : List Block) → Type 0
AreWoven [] blocks all = all ≡ blocks
AreWoven (run ∷ runs) blocks all =
    (front : List Block) × (behind : List Block) × (more : List Block)
    × (blocks ≡ front ++ behind) × (all ≡ front ++ (run ++ more))
    × AreWoven runs behind more
